-- A row that may be set in a world that was seen may be set in the world as it is.
use Rattle.std.proofs.Common.{◌≡◌, ◌≢◌, ℕ, refl, sym, ap, ◌∙◌, subst, Bool, true, false, not, ◌&&◌, ◌||◌, Option, Some, None, List, ⊎_elim}
use Rattle.std.specs.Prelude.{option_and_then, is_some}
use Rattle.std.specs.List.{list_all}
use Rattle.std.proofs.lemmas.Bool.{cases_eq, true≢false, and_parts}
use Rattle.lazy_rec.specs.declared.events.Event.{Event}
use Rattle.lazy_rec.specs.declared.events.Reply.{Reply}
use Rattle.lazy_rec.specs.Tests.{is_some_and}
use Rattle.lazy_rec.specs.Kinds.{bases, uses_base, uses_other, is_trim, is_split}
use Rattle.lazy_rec.specs.History.{plain, reply_to, has_smaller_bases, is_of_its_kind, event_name}
use Rattle.lazy_rec.specs.Named.{Records}
use Rattle.lazy_rec.specs.Meaning.{means}
use Rattle.heap_store.specs.declared.versions.Version.{Version}
use Rattle.heap_store.specs.World.{World, recs, holds, Keeps}
use Rattle.heap_store.specs.Rows.{Row, NamedRows, version_of, version_at, first_of, second_of, reply_of, is_ended, is_answered, events_of}
use Rattle.heap_store.specs.Legal.{IsHistory, is_begun_well, is_version_well, row_in_range, in_order}
use Rattle.heap_store.proofs.NameLaws.{NamesWell, IsPublished}
use Rattle.heap_store.proofs.GrowthLaws.{Up, and_up, same_up, at_up, at_true}
use Rattle.lazy_rec.proofs.HistoryLaws.{all_true, effect_same, of_base, of_other}
use Rattle.heap_store.proofs.MeaningLaws.{means_kept}
use Rattle.heap_store.proofs.HistoryLaws.{version_up, begun_up, its_kind_up, begun_bases, answered_bases, plain_same, kind_at_same}
use Rattle.lazy_rec.specs.declared.events.Op.{Op}
use Rattle.lazy_rec.specs.declared.events.Op.TheVariants as ops
use Rattle.heap_store.specs.Growth.{Grows}
use Rattle.heap_store.specs.Lawful.{is_root}
use Rattle.heap_store.specs.LookedAt.{RootsOf, has_looked, row_has_looked, size_of}
use Rattle.heap_store.proofs.GrowthLaws.{grows_refl}
use Rattle.heap_store.proofs.RowLaws.{has_root_up, has_looked_up}

-- what is said of one row and of one version lasts while rows end and places are published
module _ (rs rs' : Records) (names : NamesWell rs) (keeps_recs : Keeps rs rs') (rows rows' : NamedRows) (keeps : (i : ℕ) (r : Row) → rows i ≡ Some r → is_ended r.ending ≡ true → rows' i ≡ Some r) (legal : IsHistory rs rows) where
  kind_lasts : (i : ℕ) (t : Row) → rows i ≡ Some t → (z : Bool) → t.begun ≡ z → Up (not z || is_of_its_kind (events_of rows) t.event) (not z || is_of_its_kind (events_of rows') t.event)
  kind_lasts i t e false b = same_up
  kind_lasts i t e true b = its_kind_up rows rows' keeps rs legal t.event (begun_bases rows t (legal.begun i t e) b)

  pub kinds_last : (i : ℕ) (t : Row) → rows i ≡ Some t → (not t.begun || is_of_its_kind (events_of rows') t.event) ≡ true
  kinds_last i t e = kind_lasts i t e t.begun refl (legal.kinds i t e)

  pub reply_lasts : (i : ℕ) (t : Row) → rows i ≡ Some t → is_some (reply_of t.ending) ≡ true → reply_to (events_of rows) t.event ≡ reply_to (events_of rows') t.event
  reply_lasts i t e f =
      let known = answered_bases rows t (legal.begun i t e) f in
      ap (λ (p : List ℕ × Reply). p.1) (effect_same t.event.op _ _ _ _ t.event.arg
      (λ u. plain_same rows rows' keeps rs legal t.event.base (of_base t.event.op t.event.base t.event.other (λ j. is_answered rows j ≡ true) (all_true _ (bases t.event) known) u))
      (λ u. plain_same rows rows' keeps rs legal t.event.other (of_other t.event.op t.event.base t.event.other (λ j. is_answered rows j ≡ true) (all_true _ (bases t.event) known) u)))

  module _ (n : ℕ) (v : Version) (f : version_at rows n ≡ Some v) where
    is : is_answered rows n ≡ true
    is = ap (is_some_and (λ _. true)) f

    root_there : IsPublished rs v.root.0
    root_there = let k = and_parts _ _ (legal.versions n v f) in let r = at_true _ (rs v.root.0) k.1 in (r.0, r.1)

    pub version_lasts : is_version_well rs' rows' n v ≡ true
    version_lasts = rw (← kind_at_same rows rows' keeps rs legal n is, ← plain_same rows rows' keeps rs legal n is)
        (and_up same_up (at_up _ _ (rs v.root.0) (rs' v.root.0) (keeps_recs v.root.0) (λ r. same_up)) (legal.versions n v f))

    pub meaning_lasts : in_order v.kind (means rs' v.root.0) ≡ plain (events_of rows') n
    meaning_lasts = ap (in_order v.kind) (sym (means_kept rs rs' names keeps_recs v.root.0 root_there)) ∙ (legal.meanings n v f ∙ plain_same rows rows' keeps rs legal n is)

-- the row of a name is that of the rows that were seen, and all others are those of the rows as they are
module _ (rs rs' : Records) (names : NamesWell rs) (names' : NamesWell rs') (keeps_recs : Keeps rs rs') (seen now rows' : NamedRows) (name : ℕ)
    (keeps_seen : (i : ℕ) (r : Row) → seen i ≡ Some r → is_ended r.ending ≡ true → rows' i ≡ Some r) (keeps_now : (i : ℕ) (r : Row) → now i ≡ Some r → is_ended r.ending ≡ true → rows' i ≡ Some r)
    (here : rows' name ≡ seen name) (others : (i : ℕ) → i ≢ name → rows' i ≡ now i) (legal_seen : IsHistory rs seen) (legal_now : IsHistory rs' now) where
  -- the row of a name is that of one of them
  pub row_from : (P : ℕ → Row → Type 0) → ((t : Row) → seen name ≡ Some t → P name t) → ((i : ℕ) (t : Row) → now i ≡ Some t → P i t) → (i : ℕ) (t : Row) → rows' i ≡ Some t → P i t
  row_from P new old i t e = ⊎_elim
      (λ eq. subst (λ j. P j t) (sym eq) (new t (sym here ∙ (ap rows' (sym eq) ∙ e))))
      (λ ne. old i t (sym (others i ne) ∙ e)) (cases_eq i name)

  -- so is a version
  pub version_from : (P : ℕ → Version → Type 0) → ((n : ℕ) (v : Version) → version_at seen n ≡ Some v → P n v) → ((n : ℕ) (v : Version) → version_at now n ≡ Some v → P n v) → (n : ℕ) (v : Version) → version_at rows' n ≡ Some v → P n v
  version_from P new old n v e = ⊎_elim
      (λ eq. new n v (ap (option_and_then (λ (t : Row). version_of n t.ending)) (ap seen eq ∙ sym here ∙ ap rows' (sym eq)) ∙ e))
      (λ ne. old n v (sym (ap (option_and_then (λ (t : Row). version_of n t.ending)) (others (event_name n) ne)) ∙ e)) (cases_eq (event_name n) name)

  pub history_up : IsHistory rs' rows'
  history_up = record {
    ranges = row_from (λ i t. row_in_range t ≡ true) (legal_seen.ranges name) legal_now.ranges;
    trim = row_from (λ i t. is_trim t.event ≡ true) (legal_seen.trim name) legal_now.trim;
    bases = row_from (λ i t. has_smaller_bases i t.event ≡ true) (legal_seen.bases name) legal_now.bases;
    begun = row_from (λ i t. is_begun_well rows' t ≡ true) (λ t e. begun_up seen rows' keeps_seen t (legal_seen.begun name t e)) (λ i t e. begun_up now rows' keeps_now t (legal_now.begun i t e));
    kinds = row_from (λ i t. (not t.begun || is_of_its_kind (events_of rows') t.event) ≡ true)
        (λ t e. kinds_last rs rs' names keeps_recs seen rows' keeps_seen legal_seen name t e) (λ i t e. kinds_last rs' rs' names' (λ p r x. x) now rows' keeps_now legal_now i t e);
    seconds = row_from (λ i t. is_some (second_of t.ending) ≡ is_some (first_of t.ending) && is_split t.event.op) (legal_seen.seconds name) legal_now.seconds;
    versions = version_from (λ n v. is_version_well rs' rows' n v ≡ true)
        (version_lasts rs rs' names keeps_recs seen rows' keeps_seen legal_seen) (version_lasts rs' rs' names' (λ p r x. x) now rows' keeps_now legal_now);
    replies = row_from (λ i t. (told : Reply) → reply_of t.ending ≡ Some told → told ≡ reply_to (events_of rows') t.event)
        (λ t e told f. legal_seen.replies name t e told f ∙ reply_lasts rs rs' names keeps_recs seen rows' keeps_seen legal_seen name t e (ap is_some f))
        (λ i t e told f. legal_now.replies i t e told f ∙ reply_lasts rs' rs' names' (λ p r x. x) now rows' keeps_now legal_now i t e (ap is_some f));
    meanings = version_from (λ n v. in_order v.kind (means rs' v.root.0) ≡ plain (events_of rows') n)
        (meaning_lasts rs rs' names keeps_recs seen rows' keeps_seen legal_seen) (meaning_lasts rs' rs' names' (λ p r x. x) now rows' keeps_now legal_now);
  }

-- ---- what was looked at lasts

looked_other : (w : World) (op : Op) (reply : Reply) (root s t : ℕ) → (uses_other op ≡ true → s ≡ t) → has_looked w op reply root s ≡ has_looked w op reply root t
looked_other w (ops.New _) reply root s t e = refl
looked_other w ops.Append reply root s t e = rw (e refl) refl
looked_other w _ reply root s t e = refl

looked_new : (w : World) (rows : NamedRows) (e : Event) (told : Reply) (o : Option Version) → uses_base e.op ≡ false → row_has_looked w rows e told o ≡ true
looked_new w rows e told None u = refl
looked_new w rows e told (Some v) u = by e.op u
  where
    by : (op : Op) → uses_base op ≡ false → has_looked w op told v.root.0 (size_of (version_at rows e.other)) ≡ true
    by (ops.New _) k = refl
    by _ k = absurd (true≢false k)

has_version : (rows : NamedRows) (i : ℕ) → is_answered rows i ≡ true → (v : Version) × (version_at rows i ≡ Some v)
has_version rows i h = there (version_at rows i) refl h
  where
    there : (o : Option Version) → version_at rows i ≡ o → is_some_and (λ _. true) o ≡ true → (v : Version) × (version_at rows i ≡ Some v)
    there None e k = absurd (true≢false (sym k))
    there (Some v) e k = (v, e)

module _ (a b : World) (names : NamesWell (recs a)) (x : Grows a b) (rows rows' : NamedRows) (keeps : (i : ℕ) (r : Row) → rows i ≡ Some r → is_ended r.ending ≡ true → rows' i ≡ Some r) where
  pub looked_lasts : (t : Row) (told : Reply) → reply_of t.ending ≡ Some told → is_begun_well rows t ≡ true → row_has_looked a rows t.event told (version_at rows t.event.base) ≡ true → row_has_looked b rows' t.event told (version_at rows' t.event.base) ≡ true
  looked_lasts t told f well h = by (uses_base t.event.op) refl
    where
      known : list_all (is_answered rows) (bases t.event) ≡ true
      known = answered_bases rows t well (ap is_some f)

      by : (c : Bool) → uses_base t.event.op ≡ c → row_has_looked b rows' t.event told (version_at rows' t.event.base) ≡ true
      by false u = looked_new b rows' t.event told (version_at rows' t.event.base) u
      by true u =
          let base = has_version rows t.event.base (of_base t.event.op t.event.base t.event.other (λ j. is_answered rows j ≡ true) (all_true _ (bases t.event) known) u) in
          let old : has_looked a t.event.op told base.0.root.0 (size_of (version_at rows t.event.other)) ≡ true = rw base.1 at h in
          let same : uses_other t.event.op ≡ true → size_of (version_at rows t.event.other) ≡ size_of (version_at rows' t.event.other) = λ k.
          (let other = has_version rows t.event.other (of_other t.event.op t.event.base t.event.other (λ j. is_answered rows j ≡ true) (all_true _ (bases t.event) known) k) in
          ap size_of (other.1 ∙ sym (version_up rows rows' keeps t.event.other other.0 other.1))) in
          rw (version_up rows rows' keeps t.event.base base.0 base.1) (sym (looked_other b t.event.op told base.0.root.0 _ _ same) ∙ has_looked_up a b names x t.event.op told base.0.root.0 _ old)

-- the row of a name is that of the rows that were seen, and all others are those of the rows as they are
module _ (a b : World) (names : NamesWell (recs a)) (names' : NamesWell (recs b)) (x : Grows a b) (seen now rows' : NamedRows) (name : ℕ)
    (keeps_seen : (i : ℕ) (r : Row) → seen i ≡ Some r → is_ended r.ending ≡ true → rows' i ≡ Some r) (keeps_now : (i : ℕ) (r : Row) → now i ≡ Some r → is_ended r.ending ≡ true → rows' i ≡ Some r)
    (here : rows' name ≡ seen name) (others : (i : ℕ) → i ≢ name → rows' i ≡ now i) (legal_seen : IsHistory (recs a) seen) (legal_now : IsHistory (recs b) now) where
  pub roots_up : RootsOf a seen → RootsOf b now → RootsOf b rows'
  roots_up old cur = record {
    roots = version_from (recs a) (recs b) names names' x.records seen now rows' name keeps_seen keeps_now here others legal_seen legal_now (λ n v. holds (recs b) v.root.0 (is_root (recs b) v.kind v.root.0) ≡ true)
        (λ n v e. has_root_up a b names x v.kind v.root.0 (old.roots n v e)) cur.roots;
    looked = row_from (recs a) (recs b) names names' x.records seen now rows' name keeps_seen keeps_now here others legal_seen legal_now (λ i t. (told : Reply) → reply_of t.ending ≡ Some told → row_has_looked b rows' t.event told (version_at rows' t.event.base) ≡ true)
        (λ t e told f. looked_lasts a b names x seen rows' keeps_seen t told f (legal_seen.begun name t e) (old.looked name t e told f))
        (λ i t e told f. looked_lasts b b names' (grows_refl b) now rows' keeps_now t told f (legal_now.begun i t e) (cur.looked i t e told f));
  }
