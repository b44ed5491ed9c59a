-- What is said of an event and of its versions stays as the world grows.
use Rattle.std.proofs.Common.{◌≡◌, ℕ, refl, sym, ap, ◌∙◌, Bool, true, false, cond, not, Option, Some, None, List, [], ◌∷◌, length}
use Rattle.std.specs.Prelude.{option_and_then}
use Rattle.std.specs.List.{list_all, list_any}
use Rattle.std.proofs.lemmas.Bool.{true≢false}
use Rattle.lazy_rec.specs.declared.events.Op.{Op}
use Rattle.lazy_rec.specs.declared.events.Op.TheVariants as ops
use Rattle.lazy_rec.specs.declared.events.Event.{Event}
use Rattle.lazy_rec.specs.declared.events.Reply.{Reply}
use Rattle.lazy_rec.specs.Tests.{is_some_and}
use Rattle.lazy_rec.specs.Named.{is_pending}
use Rattle.lazy_rec.specs.Kinds.{bases, uses_base, uses_other, same_kind}
use Rattle.lazy_rec.specs.Due.{due, direct}
use Rattle.lazy_rec.specs.Plain.{effect}
use Rattle.lazy_rec.specs.History.{kind_made, kind_of, lists_made, plain}
use Rattle.lazy_rec.proofs.HistoryLaws.{base_passes, other_passes, effect_same, kind_same, made_same}
use Rattle.heap_store.specs.declared.versions.Version.{Version}
use Rattle.heap_store.specs.World.{World, recs}
use Rattle.heap_store.specs.Rows.{Row, NamedRows, Ending, is_ended, row_at, version_at, is_answered, is_given_up, events_of}
use Rattle.heap_store.specs.Growth.{Grows, begun_of}
use Rattle.heap_store.specs.Legal.{IsLegal, in_order}
use Rattle.heap_store.specs.Lawful.{IsLawful}
use Rattle.heap_store.specs.LookedAt.{has_looked, row_has_looked, size_of}
use Rattle.heap_store.specs.Budget.{due_at, direct_at}
use Rattle.heap_store.specs.Causes.{HasCause}
use Rattle.heap_store.specs.View.{View}
use Rattle.heap_store.proofs.GrowthLaws.{Up, and_up, or_up, same_up, at_true, holds_up, names_of}
use Rattle.heap_store.proofs.HistoryLaws.{begun_bases, given_up_up, version_same, answered_up, version_up, kind_at_same, plain_same, its_kind_up}
use Rattle.heap_store.proofs.MeaningLaws.{means_kept}
use Rattle.heap_store.proofs.RowLaws.{has_root_up, has_looked_up}
use Rattle.heap_store.proofs.RowBudget.{row_same}
use Rattle.heap_store.proofs.CauseLaws.{cause_kept}
use Rattle.version_book.specs.RowSteps.{IsNextEvent, MayBegin, Answers}

all_up : (f g : ℕ → Bool) (xs : List ℕ) → ((i : ℕ) → Up (f i) (g i)) → Up (list_all f xs) (list_all g xs)
all_up f g [] up = same_up
all_up f g (x ∷ xs) up = and_up (up x) (all_up f g xs up)

any_up : (f g : ℕ → Bool) (xs : List ℕ) → ((i : ℕ) → Up (f i) (g i)) → Up (list_any f xs) (list_any g xs)
any_up f g [] up = same_up
any_up f g (x ∷ xs) up = or_up (up x) (any_up f g xs up)

-- only an append looks at whether the other list is empty
pub looked_other : (w : World) (op : Op) (reply : Reply) (root s t : ℕ) → (uses_other op ≡ true → s ≡ t) → has_looked w op reply root s ≡ has_looked w op reply root t
looked_other w (ops.New _) reply root s t e = refl
looked_other w ops.Append reply root s t e = rw (e refl) refl
looked_other w _ reply root s t e = refl

-- an event without a base looks at nothing
pub looked_new : (w : World) (rows : NamedRows) (e : Event) (told : Reply) (o : Option Version) → uses_base e.op ≡ false → row_has_looked w rows e told o ≡ true
looked_new w rows e told None u = refl
looked_new w rows e told (Some v) u = by e.op u
  where
    by : (op : Op) → uses_base op ≡ false → has_looked w op told v.root.0 (size_of (version_at rows e.other)) ≡ true
    by (ops.New _) k = refl
    by _ k = absurd (true≢false k)

has_version : (rows : NamedRows) (n : ℕ) → is_answered rows n ≡ true → (v : Version) × (version_at rows n ≡ Some v)
has_version rows n h = by (version_at rows n) refl h
  where
    by : (o : Option Version) → version_at rows n ≡ o → is_some_and (λ _. true) o ≡ true → (v : Version) × (version_at rows n ≡ Some v)
    by None e k = absurd (true≢false (sym k))
    by (Some v) e k = (v, e)

-- what an event has looked at, at the versions that it uses, in worlds of which the second has all that was looked at
pub looked_stays : (a b : World) (rows rows' : NamedRows) (keeps : (i : ℕ) (r : Row) → rows i ≡ Some r → is_ended r.ending ≡ true → rows' i ≡ Some r)
    → ((op : Op) (reply : Reply) (root other : ℕ) → Up (has_looked a op reply root other) (has_looked b op reply root other))
    → (e : Event) (told : Reply) → list_all (is_answered rows) (bases e) ≡ true → Up (row_has_looked a rows e told (version_at rows e.base)) (row_has_looked b rows' e told (version_at rows' e.base))
looked_stays a b rows rows' keeps up e told known h = by (uses_base e.op) refl
  where
    by : (c : Bool) → uses_base e.op ≡ c → row_has_looked b rows' e told (version_at rows' e.base) ≡ true
    by false u = looked_new b rows' e told (version_at rows' e.base) u
    by true u =
        let base = has_version rows e.base (base_passes (is_answered rows) e known u) in
        let old : has_looked a e.op told base.0.root.0 (size_of (version_at rows e.other)) ≡ true = rw base.1 at h in
        let same : uses_other e.op ≡ true → size_of (version_at rows e.other) ≡ size_of (version_at rows' e.other) = λ k. ap size_of (version_same rows rows' keeps e.other (other_passes (is_answered rows) e known k)) in
        rw (version_up rows rows' keeps e.base base.0 base.1) (sym (looked_other b e.op told base.0.root.0 _ _ same) ∙ up e.op told base.0.root.0 _ old)

module _ {a b : World} (grows : Grows a b) where
  -- versions that are there stay, and so does what is given up
  pub known_stays : (e : Event) → list_all (is_answered (row_at a)) (bases e) ≡ true → list_all (is_answered (row_at b)) (bases e) ≡ true
  known_stays e = all_up (is_answered (row_at a)) (is_answered (row_at b)) (bases e) (answered_up (row_at a) (row_at b) grows.ended)

  pub lost_stays : (e : Event) → list_any (is_given_up (row_at a)) (bases e) ≡ true → list_any (is_given_up (row_at b)) (bases e) ≡ true
  lost_stays e = any_up (is_given_up (row_at a)) (is_given_up (row_at b)) (bases e) (given_up_up (row_at a) (row_at b) grows.ended)

  -- an event that has begun stays begun
  pub begun_stays : (i : ℕ) (r : Row) → row_at a i ≡ Some r → r.begun ≡ true → option_and_then begun_of (row_at a i) ≡ option_and_then begun_of (row_at b i)
  begun_stays i r here begun =
      let is : option_and_then begun_of (row_at a i) ≡ Some (r.caller, r.event) = ap (option_and_then begun_of) here ∙ ap {B = Option (ℕ × Event)} (λ c. cond c (Some (r.caller, r.event)) None) begun in
      is ∙ sym (grows.begun i (r.caller, r.event) is)

  -- and counts as much
  pub due_stays : IsLegal a → IsLegal b → (i : ℕ) (r : Row) → row_at a i ≡ Some r → r.begun ≡ true → due_at a i ≡ due_at b i
  due_stays legal legal' i r here begun = row_same a b legal legal' grows.ended due i (begun_stays i r here begun)

  pub direct_stays : IsLegal a → IsLegal b → (i : ℕ) (r : Row) → row_at a i ≡ Some r → r.begun ≡ true → direct_at a i ≡ direct_at b i
  direct_stays legal legal' i r here begun = row_same a b legal legal' grows.ended direct i (begun_stays i r here begun)

  pub cause_stays : IsLegal a → IsLegal b → (i : ℕ) (r : Row) → row_at a i ≡ Some r → r.begun ≡ true → (e : Ending) → HasCause a (direct_at a i) e → HasCause b (direct_at b i) e
  cause_stays legal legal' i r here begun e = cause_kept legal legal' grows i (begun_stays i r here begun) e

  -- the plain lists that an event makes of versions that are there, its reply and its kind
  module _ (legal : IsLegal a) (e : Event) (known : list_all (is_answered (row_at a)) (bases e) ≡ true) where
    plain_stays : (n : ℕ) → is_answered (row_at a) n ≡ true → plain (events_of (row_at a)) n ≡ plain (events_of (row_at b)) n
    plain_stays = plain_same (row_at a) (row_at b) grows.ended (recs a) legal

    pub effect_stays : effect e.op (plain (events_of (row_at a)) e.base) (plain (events_of (row_at a)) e.other) e.arg ≡ effect e.op (plain (events_of (row_at b)) e.base) (plain (events_of (row_at b)) e.other) e.arg
    effect_stays = effect_same e.op _ _ _ _ e.arg (λ u. plain_stays e.base (base_passes (is_answered (row_at a)) e known u)) (λ u. plain_stays e.other (other_passes (is_answered (row_at a)) e known u))

    pub lists_stay : lists_made (plain (events_of (row_at a))) (Some e) ≡ lists_made (plain (events_of (row_at b))) (Some e)
    lists_stay = made_same e (plain (events_of (row_at a))) (plain (events_of (row_at b))) (λ u. plain_stays e.base (base_passes (is_answered (row_at a)) e known u)) (λ u. plain_stays e.other (other_passes (is_answered (row_at a)) e known u))

    pub kind_stays : kind_made (kind_of (events_of (row_at a))) (Some e) ≡ kind_made (kind_of (events_of (row_at b))) (Some e)
    kind_stays = kind_same e.op _ _ (λ u. kind_at_same (row_at a) (row_at b) grows.ended (recs a) legal e.base (base_passes (is_answered (row_at a)) e known u))

  pub answers_stay : IsLawful a → IsLegal a → (e : Event) (reply : Reply) (v : Version) → list_all (is_answered (row_at a)) (bases e) ≡ true → Answers a e reply v → Answers b e reply v
  answers_stay law legal e reply v known h =
      let names = names_of a (λ p r z. (law.each p r z).names) in
      let lists : (lists_made (plain (events_of (row_at a))) (Some e)).0 ≡ (lists_made (plain (events_of (row_at b))) (Some e)).0 = ap (λ (p : List ℕ × List ℕ). p.0) (lists_stay legal e known) in
      let root = at_true (λ r. not (is_pending r)) (recs a v.root.0) h.value in
      record {
        unsplit = h.unsplit;
        in_range = h.in_range;
        kind = sym (ap (is_some_and (same_kind v.kind)) (kind_stays legal e known)) ∙ h.kind;
        size = h.size ∙ ap length lists;
        value = holds_up a b grows v.root.0 _ _ (λ r. same_up) h.value;
        reply_is = h.reply_is ∙ ap (λ (p : List ℕ × Reply). p.1) (effect_stays legal e known);
        meaning = ap (in_order v.kind) (sym (means_kept (recs a) (recs b) names grows.records v.root.0 (root.0, root.1))) ∙ (h.meaning ∙ lists);
        root = has_root_up a b names grows v.kind v.root.0 h.root;
        looked = looked_stays a b (row_at a) (row_at b) grows.ended (has_looked_up a b names grows) e reply known h.looked;
      }

-- the versions that a row's event uses are there once it is begun
pub row_known : (w : World) → IsLegal w → (i : ℕ) (r : Row) → row_at w i ≡ Some r → r.begun ≡ true → list_all (is_answered (row_at w)) (bases r.event) ≡ true
row_known w legal i r here begun = begun_bases (row_at w) r (legal.begun i r here) begun

pub next_stays : {v v' : View} {name : ℕ} {e : Event} → v'.about ≡ v.about → IsNextEvent v name e → IsNextEvent v' name e
next_stays about h = record { trim = h.trim; smaller = h.smaller; argument = h.argument; planned = rw about h.planned }

pub may_begin_stays : {v v' : View} → IsLegal v.seen → Grows v.seen v'.seen → v'.about ≡ v.about → (name : ℕ) (e : Event) → MayBegin v name e → MayBegin v' name e
may_begin_stays {v} {v'} legal grows about name e h = record {
  next = next_stays about h.next;
  answered = known_stays grows e h.answered;
  kinds = its_kind_up (row_at v.seen) (row_at v'.seen) grows.ended (recs v.seen) legal e h.answered h.kinds;
}
