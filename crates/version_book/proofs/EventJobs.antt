-- The job of a call: what it may begin, the job on the versions that it names, and what its event brought.
use Rattle.std.proofs.Common.{◌≡◌, ℕ, zero, suc, ◌^◌, ◌<◌, ◌≤◌, refl, sym, ap, ◌∙◌, subst, arith, ltb, eqb, Bool, true, false, cond, ◌||◌, Option, Some, None, List, [], ◌∷◌, length}
use Rattle.std.specs.Prelude.{option_and_then}
use Rattle.std.specs.List.{list_all, list_any}
use Rattle.std.proofs.lemmas.Bool.{and_from, or_left, eq-eqb, eqb-true, lt-ltb}
use Rattle.lazy_rec.specs.declared.events.Kind.{Kind}
use Rattle.lazy_rec.specs.declared.events.Kind.TheVariants as kinds
use Rattle.lazy_rec.specs.declared.events.Op.{Op}
use Rattle.lazy_rec.specs.declared.events.Event.{Event}
use Rattle.lazy_rec.specs.Tests.{is_some_and}
use Rattle.lazy_rec.specs.Kinds.{bases, uses_base, uses_other, uses_argument, belongs, kinds_with, kind_number, same_kind}
use Rattle.lazy_rec.specs.Due.{due, direct, new_places}
use Rattle.lazy_rec.specs.Meaning.{means}
use Rattle.lazy_rec.specs.History.{event_name, is_smaller, has_kind_of_base, kind_of}
use Rattle.lazy_rec.proofs.PlainLaws.{length-rising}
use Rattle.heap_store.specs.declared.versions.Version.{Version}
use Rattle.heap_store.specs.declared.jobs.EventJob.{EventJob}
use Rattle.heap_store.specs.declared.jobs.Stage.TheVariants.{Start}
use Rattle.heap_store.specs.World.{World, recs}
use Rattle.heap_store.specs.Rows.{Row, row_at, version_of, version_at, is_answered, events_of}
use Rattle.heap_store.specs.Growth.{Grows}
use Rattle.heap_store.specs.Legal.{IsLegal, in_order}
use Rattle.heap_store.specs.LookedAt.{HasRoots, size_of}
use Rattle.heap_store.specs.Budget.{of_row, due_at, direct_at}
use Rattle.heap_store.specs.Stages.{direct_of}
use Rattle.heap_store.specs.View.{View, IsLawfulView}
use Rattle.heap_store.specs.Jobs.{IsVersion, IsJob}
use Rattle.heap_store.proofs.HistoryLaws.{version_well, version_up}
use Rattle.heap_store.proofs.RowBudget.{version_kind, due_other, direct_other, based_row, new_row}
use Rattle.heap_store.proofs.StageLaws.{stages_sum, places_direct}
use Rattle.kind_table.proofs.OpLaws.{built_belongs}
use Rattle.version_book.specs.Works.{HasMeans}
use Rattle.version_book.specs.Pass.{Pass}
use Rattle.version_book.specs.RowSteps.{IsPlanned, IsNextEvent, MayBegin, Begun, begun_row}
use Rattle.version_book.proofs.Begins.{begun_credits, begun_allowance}
use Rattle.version_book.specs.Calls.{MayExtend, HasSeen, event_of_call, new_event}

-- ---- versions

pub length_in_order : (k : Kind) (xs : List ℕ) → length (in_order k xs) ≡ length xs
length_in_order kinds.Prio xs = length-rising xs
length_in_order _ xs = refl

-- a version of a row is one of the world
pub version_is : (w : World) → IsLegal w → HasRoots w → (n : ℕ) (v : Version) → version_at (row_at w) n ≡ Some v → IsVersion w v
version_is w legal roots n v h =
    let well = version_well (recs w) (row_at w) legal n v h in
    record {
      value = well.value;
      root = roots.roots n v h;
      size = well.size ∙ (ap length (sym (legal.meanings n v h)) ∙ length_in_order v.kind (means (recs w) v.root.0));
      most = omega (arith, well.range);
    }

pub version_later : {a b : World} → Grows a b → (n : ℕ) (v : Version) → version_at (row_at a) n ≡ Some v → version_at (row_at b) n ≡ Some v
version_later {a} {b} g n v h = version_up (row_at a) (row_at b) g.ended n v h

-- a version has a name
pub version_named : (w : World) (n : ℕ) (v : Version) → version_at (row_at w) n ≡ Some v → 0 < event_name n
version_named w n v h = by (event_name n) refl
  where
    by : (i : ℕ) → event_name n ≡ i → 0 < i
    by zero e = absurd (let z : None ≡ Some v = sym (ap (λ i. option_and_then (λ (r : Row). version_of n r.ending) (row_at w i)) e) ∙ h in cc)
    by (suc i) e = omega arith

-- ---- the event of a call

same_number : (k l : Kind) → same_kind k l ≡ true → kind_number k ≡ kind_number l
same_number k l h = eqb-true (kind_number k) (kind_number l) h

-- kinds of one number have the same operations
belongs_too : (k l : Kind) (op : Op) → kind_number k ≡ kind_number l → belongs k op ≡ true → belongs l op ≡ true
belongs_too k l op e h = subst (λ n. list_any (λ (m : Kind). eqb n (kind_number m)) (kinds_with op) ≡ true) e h

or_zero : (used : Bool) (x : ℕ) → used || eqb (cond used x 0) 0 ≡ true
or_zero true x = refl
or_zero false x = refl

or_none : (used : Bool) (x : ℕ) → (used ≡ false → x ≡ 0) → used || eqb x 0 ≡ true
or_none true x h = refl
or_none false x h = eq-eqb x 0 (h refl)

-- the other of the event, where the operation has one
pub used_other : (op : Op) (n : ℕ) → uses_other op ≡ true → cond (uses_other op) n 0 ≡ n
used_other op n u = ap (λ b. cond b n 0) u

module _ (p : Pass) (name : ℕ) (op : Op) (base other : Version) (arg : ℕ) (may : MayExtend p name op base other arg) where
  abbrev e : Event
  e = event_of_call op base other arg

  -- a fact of both versions is one of the versions that the event uses
  of_bases : (test : ℕ → Bool) → test base.name ≡ true → test other.name ≡ true → list_all test (bases e) ≡ true
  of_bases test b o = by (uses_base op) (uses_other op)
    where
      by : (u v : Bool) → list_all test (cond u (base.name ∷ cond v (cond v other.name 0 ∷ []) []) []) ≡ true
      by false v = refl
      by true false = and_from (test base.name) true b refl
      by true true = and_from (test base.name) _ b (and_from (test other.name) true o refl)

  belongs_here : belongs base.kind op ≡ true
  belongs_here = built_belongs base.kind op may.built may.based

  smaller : (v : Version) → HasSeen p v → event_name v.name < name → is_smaller name v.name ≡ true
  smaller v seen older = and_from _ _ (lt-ltb 0 (event_name v.name) (version_named p.view.seen v.name v seen)) (lt-ltb (event_name v.name) name older)

  pub next_event : ltb arg (2 ^ 64) ≡ true → IsNextEvent p.view name e
  next_event small = record {
    trim = and_from _ _ (and_from _ _ (or_left (uses_base op) _ may.based) (or_zero (uses_other op) other.name)) (or_none (uses_argument op) arg may.no_argument);
    smaller = of_bases (is_smaller name) (smaller base may.base_seen may.base_older) (smaller other may.other_seen may.other_older);
    argument = small;
    planned = may.planned;
  }

  pub may_begin : IsLegal p.view.seen → ltb arg (2 ^ 64) ≡ true → MayBegin p.view name e
  may_begin legal small =
      let rows = row_at p.view.seen in
      let base_kind : kind_of (events_of rows) (event_name base.name) ≡ Some base.kind = version_kind p.view.seen legal base.name base may.base_seen in
      let other_kind : kind_of (events_of rows) (event_name other.name) ≡ Some other.kind = version_kind p.view.seen legal other.name other may.other_seen in
      let same = same_number base.kind other.kind may.kinds in
      record {
        next = next_event small;
        answered = of_bases (is_answered rows) (ap (is_some_and (λ (_ : Version). true)) may.base_seen) (ap (is_some_and (λ (_ : Version). true)) may.other_seen);
        kinds = of_bases (has_kind_of_base (events_of rows) e)
            (rw (base_kind) (and_from (belongs base.kind op) _ belongs_here (eq-eqb _ _ refl)))
            (rw (other_kind, base_kind) (and_from (belongs other.kind op) _ (belongs_too base.kind other.kind op same belongs_here) (eq-eqb _ _ (sym same))));
      }

  abbrev pub job : EventJob
  job = record { op = op; base = base; other = other; arg = arg; stage = Start }

  module _ (v1 : View) (caller : ℕ) (b : Begun p.view v1 caller name e) (law : IsLawfulView v1) where
    pub base_later : version_at (row_at v1.seen) base.name ≡ Some base
    base_later = version_later b.on.grows base.name base may.base_seen

    pub other_later : version_at (row_at v1.seen) other.name ≡ Some other
    other_later = version_later b.on.grows other.name other may.other_seen

    pub job_begun : IsJob v1.seen job
    job_begun = record {
      op = belongs_here;
      kinds = may.kinds;
      base = version_is v1.seen law.legal law.roots base.name base base_later;
      other = version_is v1.seen law.legal law.roots other.name other other_later;
      has = refl;
      stage = tt;
    }

    at_sizes : (table : Kind → Op → ℕ → ℕ → ℕ) → of_row table v1.seen (row_at v1.seen name) ≡ table base.kind op base.size (size_of (version_at (row_at v1.seen) e.other))
    at_sizes table = based_row table v1.seen law.legal name (begun_row caller e) b.here refl may.based base base_later

    pub direct_begun : direct_at v1.seen name ≡ direct_of job
    direct_begun = at_sizes direct ∙ direct_other base.kind op base.size _ other.size

    due_begun : due_at v1.seen name ≡ due base.kind op base.size other.size
    due_begun = at_sizes due ∙ by (uses_other op) refl
      where
        by : (u : Bool) → uses_other op ≡ u → due base.kind op base.size (size_of (version_at (row_at v1.seen) e.other)) ≡ due base.kind op base.size other.size
        by false u = due_other base.kind op base.size _ other.size u
        by true u = ap (λ n. due base.kind op base.size (size_of (version_at (row_at v1.seen) n))) (used_other op other.name u) ∙ ap (λ (o : Option Version). due base.kind op base.size (size_of o)) other_later

    pub means_begun : HasMeans v1 job
    means_begun =
        record {
          credits = omega (arith, begun_credits b, due_begun, (stages_sum base.kind op base.size other.size).dues);
          places = omega (arith, begun_allowance b, direct_begun, places_direct job);
        }

-- ---- new structures

module _ (v0 v1 : View) (caller name : ℕ) (kind : Kind) (b : Begun v0 v1 caller name (new_event kind)) where
  pub new_direct : direct_at v1.seen name ≡ new_places kind
  new_direct = new_row direct v1.seen name (begun_row caller (new_event kind)) kind b.here refl refl

  pub new_allowed : new_places kind ≤ v1.hand.allowance
  new_allowed = omega (arith, begun_allowance b, new_direct)

pub may_begin_new : (v : View) (name : ℕ) (kind : Kind) → IsPlanned v.about.plan name (new_event kind) → MayBegin v name (new_event kind)
may_begin_new v name kind planned = record { next = record { trim = refl; smaller = refl; argument = refl; planned = planned }; answered = refl; kinds = refl }
