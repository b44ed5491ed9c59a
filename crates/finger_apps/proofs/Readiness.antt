-- What an event at an end of a sequence is told to take.
use Rattle.std.proofs.Common.{◌≡◌, ℕ, ◌≤◌, refl, sym, ◌∙◌, arith, true, Some}
use Rattle.std.proofs.lemmas.Bool.{true≢false}
use Rattle.lazy_rec.specs.declared.events.Kind.TheVariants as kinds
use Rattle.lazy_rec.specs.declared.events.Op.{Op}
use Rattle.lazy_rec.specs.declared.events.Op.TheVariants as ops
use Rattle.heap_store.specs.declared.jobs.EventJob.{EventJob}
use Rattle.heap_store.specs.declared.jobs.Stage.TheVariants.{Start}
use Rattle.heap_store.specs.World.{World, recs}
use Rattle.heap_store.specs.Completion as top
use Rattle.heap_store.specs.Completion.{Made}
use Rattle.heap_store.specs.Lawful.{IsLawful}
use Rattle.heap_store.specs.Stages.{places_now}
use Rattle.heap_store.proofs.GrowthLaws.{at_true}
use Rattle.finger_level.specs.declared.level.Side.{Side}
use Rattle.finger_level.specs.declared.level.Side.TheVariants as sides
use Rattle.finger_level.specs.Reads.{is_tree_value}
use Rattle.finger_apps.specs.Sequence.{pushes_at, is_end_op, push_places, places_for, drawn_for, shown_at, IsReadyEvent}
use Rattle.finger_level.proofs.PopNeeds.{level_shown}
use Rattle.finger_apps.proofs.Bases.{BaseRoot, stays}
use Rattle.finger_apps.proofs.PushEnds.{op_places, job_may}

-- they draw up no middle
push_draws : (op : Op) (side : Side) (shown : Made) (m : ℕ) → pushes_at op side ≡ true → drawn_for op shown ≡ Some m → ⊥
push_draws ops.Pushl sides.Left shown m h k = cc
push_draws ops.Pushr sides.Right shown m h k = cc
push_draws _ _ shown m h k = true≢false (sym h)

stay_draws : (op : Op) (shown : Made) (m : ℕ) → stays op ≡ true → drawn_for op shown ≡ Some m → ⊥
stay_draws ops.Size shown m h k = cc
stay_draws ops.Pushl shown m h k = cc
stay_draws ops.Pushr shown m h k = cc
stay_draws ops.First shown m h k = cc
stay_draws ops.Last shown m h k = cc
stay_draws _ shown m h k = true≢false (sym h)

pub push_ready : {w : World} → IsLawful w → (job : EventJob) (side : Side) → job.base.kind ≡ kinds.Seq → pushes_at job.op side ≡ true → job.stage ≡ Start → BaseRoot w job.base → (nodes : ℕ) → ((shown : Made) → shown_at w job.base.root.0 ≡ Some shown → nodes ≡ push_places side job.base.size shown) → nodes ≤ 5 → IsReadyEvent w job nodes × (nodes ≤ places_now job)
push_ready {w} law job side kind op stage b nodes places few =
    let t = at_true is_tree_value (recs w job.base.root.0) b.value in
    let m = level_shown law job.base.root.0 t.0 t.1 t.2 in
    let may = (job_may job side kind op stage).0 in
    (record { shown = m.0; here = m.1; from = 0; below = top.empty; drawn = λ p h. absurd (push_draws job.op side m.0 p op h); places = places m.0 m.1 ∙ sym (op_places job.op side job.base.size m.0 top.empty op) }, omega (arith, few, may))

pub none_ready : {w : World} → IsLawful w → (job : EventJob) → BaseRoot w job.base → stays job.op ≡ true → ((m b : Made) → places_for job.op job.base.size m b ≡ 0) → IsReadyEvent w job 0 × (0 ≤ places_now job)
none_ready {w} law job b op none =
    let t = at_true is_tree_value (recs w job.base.root.0) b.value in
    let m = level_shown law job.base.root.0 t.0 t.1 t.2 in
    (record { shown = m.0; here = m.1; from = 0; below = top.empty; drawn = λ p h. absurd (stay_draws job.op m.0 p op h); places = sym (none m.0 top.empty) }, omega arith)

-- the operations that are left, where no push and no pop is
pub others : (op : Op) → is_end_op op ≡ true → (op ≡ ops.Popl → ⊥) → (op ≡ ops.Popr → ⊥) → (op ≡ ops.Pushl → ⊥) → (op ≡ ops.Pushr → ⊥) → (stays op ≡ true) × ((size : ℕ) (m b : Made) → places_for op size m b ≡ 0)
others ops.Popl h a b l r = absurd (a refl)
others ops.Popr h a b l r = absurd (b refl)
others ops.Pushl h a b l r = absurd (l refl)
others ops.Pushr h a b l r = absurd (r refl)
others ops.Size h a b l r = (refl, λ size m k. refl)
others ops.First h a b l r = (refl, λ size m k. refl)
others ops.Last h a b l r = (refl, λ size m k. refl)
others _ h a b l r = absurd (true≢false (sym h))

pub only_size : (op : Op) → is_end_op op ≡ true → (op ≡ ops.Popl → ⊥) → (op ≡ ops.Popr → ⊥) → (op ≡ ops.Pushl → ⊥) → (op ≡ ops.Pushr → ⊥) → (op ≡ ops.First → ⊥) → (op ≡ ops.Last → ⊥) → op ≡ ops.Size
only_size ops.Popl h a b l r f e = absurd (a refl)
only_size ops.Popr h a b l r f e = absurd (b refl)
only_size ops.Pushl h a b l r f e = absurd (l refl)
only_size ops.Pushr h a b l r f e = absurd (r refl)
only_size ops.First h a b l r f e = absurd (f refl)
only_size ops.Last h a b l r f e = absurd (e refl)
only_size ops.Size h a b l r f e = refl
only_size _ h a b l r f e = absurd (true≢false (sym h))
