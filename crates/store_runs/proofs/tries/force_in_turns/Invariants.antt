use Rattle.std.proofs.Common.{◌≡◌, true}
use Rattle.heap_store.specs.Budget.{is_funded_at}
use Rattle.heap_store.specs.Jobs.{IsWork}
use Rattle.store_runs.specs.Tries.{LeavesHand, IsShare}
use Rattle.store_runs.proofs.tries.force_in_turns.Given as goal

-- the suspension that is asked is work that is paid for
abbrev pub invariant-loop : goal.invariant-loop
invariant-loop g l = record {
  leaves : LeavesHand (g.C.Heap.view l.fn.heap) (g.C.Heap.view l.heap);
  share : IsShare (g.C.Heap.view l.fn.heap).seen (g.C.Heap.view l.heap).seen l.fn.share l.share;
  work : IsWork (g.J.Jobs.does l.fn.jobs) (g.C.Heap.view l.heap).seen l.at.0;
  funded : is_funded_at (g.C.Heap.view l.heap).seen l.at.0 ≡ true;
}
