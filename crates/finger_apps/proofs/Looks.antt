-- Looks at the ends of a sequence.
use Rattle.std.proofs.Common.{◌≡◌, ℕ, refl, sym, ap, ◌∙◌, true, Option, List}
use Rattle.std.proofs.lemmas.Bool.{true≢false}
use Rattle.lazy_rec.specs.declared.events.Op.{Op}
use Rattle.lazy_rec.specs.declared.events.Op.TheVariants as ops
use Rattle.lazy_rec.specs.Plain.{effect, told}
use Rattle.lazy_rec.specs.declared.events.Kind.TheVariants as kinds
use Rattle.lazy_rec.specs.declared.events.Reply.TheVariants as replies
use Rattle.lazy_rec.specs.Meaning.{means}
use Rattle.heap_store.specs.declared.jobs.EventJob.{EventJob}
use Rattle.heap_store.specs.declared.jobs.After.{After}
use Rattle.heap_store.specs.declared.jobs.After.TheVariants.{End}
use Rattle.heap_store.specs.Span.{Span}
use Rattle.heap_store.specs.World.{recs}
use Rattle.heap_store.specs.Lawful.{IsLawful}
use Rattle.heap_store.specs.View.{View, Quiet}
use Rattle.heap_store.specs.Jobs.{IsEventBuilt}
use Rattle.heap_store.proofs.GrowthLaws.{at_true}
use Rattle.heap_store.proofs.LawfulLaws.{lawful_names}
use Rattle.heap_store.proofs.MeaningLaws.{means_kept}
use Rattle.heap_store.proofs.Steps.{Quiet_refl}
use Rattle.finger_level.specs.Reads.{is_tree_value}
use Rattle.finger_apps.proofs.Bases.{Given, given_later, same_built, stays}
use Rattle.heap_store.specs.Completion.{Made}
use Rattle.finger_level.specs.declared.level.Side.{Side}
use Rattle.finger_level.specs.declared.level.Side.TheVariants as sides
use Rattle.finger_apps.specs.Sequence.{looks_at, places_for, end_of}

pub look_is_end : (op : Op) (side : Side) → looks_at op side ≡ true → stays op ≡ true
look_is_end ops.First sides.Left h = refl
look_is_end ops.Last sides.Right h = refl
look_is_end _ _ h = absurd (true≢false (sym h))

pub look_takes : (op : Op) (side : Side) → looks_at op side ≡ true → (size : ℕ) (m b : Made) → places_for op size m b ≡ 0
look_takes ops.First sides.Left h size m b = refl
look_takes ops.Last sides.Right h size m b = refl
look_takes _ _ h size m b = absurd (true≢false (sym h))

pub look_makes : (op : Op) (side : Side) → looks_at op side ≡ true → (v ws : List ℕ) (x : ℕ) (item : Option ℕ) → end_of side v ≡ item → effect op v ws x ≡ (v, told item)
look_makes ops.First sides.Left h v ws x item e = rw (← e) refl
look_makes ops.Last sides.Right h v ws x item e = rw (← e) refl
look_makes _ _ h v ws x item e = absurd (true≢false (sym h))

pub look_built : {a b : View} {job : EventJob} {run : Span} → IsLawful a.seen → IsLawful b.seen → Quiet a b → Given a job run → job.base.kind ≡ kinds.Seq → (side : Side) → looks_at job.op side ≡ true → (item : Option ℕ) → end_of side (means (recs a.seen) job.base.root.0) ≡ item → (result : After) → result ≡ End job.base.root job.base.size (told item) → IsEventBuilt a b job run run result
look_built {a} {b} {job} law law2 q k kind side op item e result is =
    let t = at_true is_tree_value (recs a.seen job.base.root.0) k.base.value in
    let same = means_kept (recs a.seen) (recs b.seen) (lawful_names law) q.grows.records job.base.root.0 (t.0, t.1) in
    same_built q law2 kind (look_is_end job.op side op) (given_later q law k) (look_takes job.op side op job.base.size) (told item) (look_makes job.op side op _ _ job.arg item (ap (end_of side) (sym same) ∙ e)) result is

pub size_built : {v : View} {job : EventJob} {run : Span} → IsLawful v.seen → Given v job run → job.base.kind ≡ kinds.Seq → job.op ≡ ops.Size → (result : After) → result ≡ End job.base.root job.base.size (replies.Number job.base.size) → IsEventBuilt v v job run run result
size_built {v} {job} law k kind op result is =
    same_built (Quiet_refl v) law kind (ap stays op) k (λ m b. ap (λ o. places_for o job.base.size m b) op) (replies.Number job.base.size) (rw (op, k.base.size) refl) result is
