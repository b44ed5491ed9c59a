use Rattle.std.proofs.Common.{◌≡◌, true}
use Rattle.heap_store.specs.Budget.{is_funded_at}
use Rattle.heap_store.specs.Jobs.{IsWork}
use Rattle.force_engine.proofs.Growing.{IsWork-grows}
use Rattle.store_runs.specs.Tries.{LeavesHand, IsShare}
use Rattle.store_runs.proofs.Turns.{funded_grows, leaves_trans, asked}
use Rattle.store_runs.proofs.Shares.{share_turn}
use Rattle.store_runs.proofs.tries.force_in_turns.Goals as goal
use Rattle.store_runs.proofs.tries.force_in_turns.Goals.{After-take_turn, in-Need, in-Done+else-eq, in-Busy}

pub returns-then-eq-clause-leaves : goal.returns-then-eq-clause-leaves
returns-then-eq-clause-leaves g c = leaves_trans c.loop.invariant.leaves c.take_turn.ensures.leaves

pub returns-in-Full-clause-leaves : goal.returns-in-Full-clause-leaves
returns-in-Full-clause-leaves g c = leaves_trans c.loop.invariant.leaves c.take_turn.ensures.leaves

-- the turns so far
so_far : (g : _) (c : After-take_turn g) → LeavesHand (g.C.Heap.view c.args.heap.now) (g.C.Heap.view c.take_turn.new.heap)
so_far g c = leaves_trans c.loop.invariant.leaves c.take_turn.ensures.leaves

-- the suspension itself can be asked again
again : (g : _) (c : After-take_turn g) → IsWork (g.J.Jobs.does c.args.jobs.now) (g.C.Heap.view c.take_turn.new.heap).seen c.args.s.0 × (is_funded_at (g.C.Heap.view c.take_turn.new.heap).seen c.args.s.0 ≡ true)
again g c =
    let grown = (so_far g c).grows in
    (IsWork-grows grown (g.J.Jobs.does c.args.jobs.now) c.args.s.0 c.requires.work, funded_grows (g.met.C.Heap.lawful c.args.heap.now).world grown c.args.s.0 c.requires.funded)

-- what the turns so far have completed
counted : (g : _) (c : After-take_turn g) → IsShare (g.C.Heap.view c.args.heap.now).seen (g.C.Heap.view c.take_turn.new.heap).seen c.args.share.now c.take_turn.new.share
counted g c = share_turn c.loop.invariant.leaves.grows c.take_turn.ensures.leaves.grows c.loop.at.0 c.loop.invariant.share c.take_turn.ensures.share

pub returns-then-eq-clause-share : goal.returns-then-eq-clause-share
returns-then-eq-clause-share g c = counted g (goal.at.returns-then-eq-clause-share g c).After-take_turn

pub returns-in-Full-clause-share : goal.returns-in-Full-clause-share
returns-in-Full-clause-share g c = counted g (goal.at.returns-in-Full-clause-share g c).After-take_turn

pub loop-preserved : goal.loop-preserved
loop-preserved g c =
    let k = (goal.at.loop-preserved g c).After-take_turn in
    let does = g.J.Jobs.does c.args.jobs.now in
    let w' = (g.C.Heap.view c.take_turn.new.heap).seen in
    let next : IsWork does w' c.match-take_turn.at.0 × (is_funded_at w' c.match-take_turn.at.0 ≡ true) = elim c.match-take_turn.branch [
      | in-Need w ↦ asked does w' c.match-take_turn.at w.in-Need.need w.at-is w.in-Need.ensures.told
      | in-Done+else-eq w ↦ asked does w' c.match-take_turn.at c.args.s w.at-is (again g k)
      | in-Busy w ↦ asked does w' c.match-take_turn.at c.args.s w.at-is (again g k)
    ] in
    record { leaves = so_far g k; share = counted g k; work = next.0; funded = next.1 }
