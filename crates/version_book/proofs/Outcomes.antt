-- What the work of a call makes, as the answer of its event.
use Rattle.std.proofs.Common.{◌≡◌, ℕ, ◌<◌, ◌≤◌, refl, sym, ap, ◌∙◌, subst, arith, Bool, true, false, not, Option, Some, List, [], length}
use Rattle.std.proofs.lemmas.Bool.{eq-eqb, lt-ltb}
use Rattle.lazy_rec.specs.declared.records.Rec.{Rec}
use Rattle.lazy_rec.specs.declared.events.Kind.{Kind}
use Rattle.lazy_rec.specs.declared.events.Kind.TheVariants as kinds
use Rattle.lazy_rec.specs.declared.events.Op.{Op}
use Rattle.lazy_rec.specs.declared.events.Event.{Event}
use Rattle.lazy_rec.specs.declared.events.Reply.{Reply}
use Rattle.lazy_rec.specs.Tests.{is_some_and}
use Rattle.lazy_rec.specs.Kinds.{uses_other, same_kind}
use Rattle.lazy_rec.specs.Named.{is_pending}
use Rattle.lazy_rec.specs.Meaning.{means}
use Rattle.lazy_rec.specs.Plain.{effect}
use Rattle.lazy_rec.specs.History.{event_name, kind_made, kind_of, plain}
use Rattle.lazy_rec.proofs.HistoryLaws.{effect_same, kind-if_base}
use Rattle.dues.proofs.SizeLaws.{effect_fits}
use Rattle.heap_store.specs.declared.versions.Version.{Version}
use Rattle.heap_store.specs.declared.jobs.EventJob.{EventJob}
use Rattle.heap_store.specs.World.{World, recs, holds}
use Rattle.heap_store.specs.Rows.{row_at, version_at, events_of}
use Rattle.heap_store.specs.Growth.{Grows}
use Rattle.heap_store.specs.Legal.{IsLegal, in_order}
use Rattle.heap_store.specs.Lawful.{IsLawful}
use Rattle.heap_store.specs.LookedAt.{HasRoots, row_has_looked, size_of}
use Rattle.heap_store.specs.View.{View}
use Rattle.heap_store.specs.Jobs.{IsVersion, IsEnd, list_at, outcome}
use Rattle.heap_store.proofs.GrowthLaws.{at_true}
use Rattle.heap_store.proofs.LawfulLaws.{lawful_names}
use Rattle.heap_store.proofs.MeaningLaws.{means_kept}
use Rattle.heap_store.proofs.RowBudget.{version_kind}
use Rattle.kind_table.proofs.OpLaws.{built_unsplit}
use Rattle.version_book.specs.declared.event_work.Outcome.{Outcome}
use Rattle.version_book.specs.Works.{MadeEmpty}
use Rattle.version_book.specs.Finish.{version_made}
use Rattle.version_book.specs.RowSteps.{Answers}
use Rattle.version_book.specs.Pass.{Pass}
use Rattle.version_book.specs.Calls.{MayExtend, event_of_call, new_event}
use Rattle.version_book.proofs.GrownRows.{looked_new, looked_other}
use Rattle.version_book.proofs.EventJobs.{length_in_order, version_is, used_other, job}

-- the list of a version stays as the world grows
pub list_stays : {a b : World} → IsLawful a → Grows a b → (v : Version) → IsVersion a v → list_at b v ≡ list_at a v
list_stays {a} {b} law g v is =
    let k = at_true _ (recs a v.root.0) is.root in
    ap (in_order v.kind) (sym (means_kept (recs a) (recs b) (lawful_names law) g.records v.root.0 (k.0, k.1)))

module _ (p : Pass) (name : ℕ) (op : Op) (base other : Version) (arg : ℕ) (may : MayExtend p name op base other arg) (w : World) (legal : IsLegal w) (roots : HasRoots w)
    (base_here : version_at (row_at w) base.name ≡ Some base) (other_here : version_at (row_at w) other.name ≡ Some other) where
  abbrev e : Event
  e = event_of_call op base other arg

  abbrev it : EventJob
  it = job p name op base other arg may

  -- the job does what its event does on plain lists
  same_outcome : outcome w it ≡ effect op (plain (events_of (row_at w)) e.base) (plain (events_of (row_at w)) e.other) arg
  same_outcome = effect_same op (list_at w base) _ (list_at w other) _ arg (λ u. legal.meanings base.name base base_here)
      (λ u. legal.meanings other.name other other_here ∙ ap (plain (events_of (row_at w))) (sym (used_other op other.name u)))

  fits : (v : Version) → version_at (row_at w) v.name ≡ Some v → length (list_at w v) ≤ 2147483647
  fits v here =
      let is = version_is w legal roots v.name v here in
      omega (arith, is.size, is.most, length_in_order v.kind (means (recs w) v.root.0))

  pub job_answers : (o : Outcome) → IsEnd w it o.root.0 o.size o.reply → Answers w e o.reply (version_made name base.kind o)
  job_answers o end =
      let ev = events_of (row_at w) in
      let few = (effect_fits op (list_at w base) (list_at w other) (length (list_at w base)) (length (list_at w other)) arg (omega arith, fits base base_here) (omega arith, fits other other_here)) in
      let low : o.size < 2147483648 = omega (arith, end.size_is, few.0, few.1) in
      let kind_is : kind_made (kind_of ev) (Some e) ≡ Some base.kind = kind-if_base op (kind_of ev (event_name base.name)) may.based ∙ version_kind w legal base.name base base_here in
      let K : Option Kind → Type 0 = λ k. is_some_and (same_kind base.kind) k ≡ true in
      let L : Option Version → Type 0 = λ b. row_has_looked w (row_at w) e o.reply b ≡ true in
      record {
        unsplit = built_unsplit base.kind op may.built;
        in_range = lt-ltb _ _ low;
        kind = subst K (sym kind_is) (eq-eqb _ _ refl);
        size = end.size_is ∙ ap (λ (x : List ℕ × Reply). length x.0) same_outcome;
        value = end.value;
        reply_is = end.reply_is ∙ ap (λ (x : List ℕ × Reply). x.1) same_outcome;
        meaning = end.means ∙ ap (λ (x : List ℕ × Reply). x.0) same_outcome;
        root = end.root_is;
        looked = subst L (sym base_here) (looked_other w op o.reply base.root.0 _ _ sizes ∙ end.looked);
      }
    where
      sizes : uses_other op ≡ true → size_of (version_at (row_at w) e.other) ≡ other.size
      sizes u = ap (λ n. size_of (version_at (row_at w) n)) (used_other op other.name u) ∙ ap size_of other_here

value_of : (w : World) (p : ℕ) (test : Rec → Bool) → holds (recs w) p test ≡ true → holds (recs w) p is_pending ≡ false → holds (recs w) p (λ r. not (is_pending r)) ≡ true
value_of w p test h none =
    let k = at_true test (recs w p) h in
    let pending : is_pending k.0 ≡ false = rw k.1 at none in
    rw (k.1, pending) refl

pub empty_answers : (a b : View) (name : ℕ) (kind : Kind) (o : Outcome) → MadeEmpty a b kind o → Answers b.seen (new_event kind) o.reply (version_made name kind o)
empty_answers a b name kind o m = record {
  unsplit = refl;
  in_range = rw m.size refl;
  kind = eq-eqb _ _ refl;
  size = m.size;
  value = value_of b.seen o.root.0 _ m.root m.value;
  reply_is = m.reply;
  meaning = ap (in_order kind) m.empty ∙ none kind;
  root = m.root;
  looked = looked_new b.seen (row_at b.seen) (new_event kind) o.reply (version_at (row_at b.seen) 0) refl;
}
  where
    none : (k : Kind) → in_order k [] ≡ []
    none kinds.Prio = refl
    none _ = refl
