use Rattle.std.proofs.Common.{◌≡◌, ◌≤◌, ◌++◌, ◌-◌, length, replicate, vec_capacity}
use Rattle.heap_store.specs.declared.slots.TheConstants.{FREE}
use Rattle.heap_store.proofs.slots.fill_to.Given as goal

abbrev pub invariant-loop : goal.invariant-loop
invariant-loop l = record {
  items : l.slots.items ≡ l.fn.slots.items ++ replicate (l.counter - length l.fn.slots.items) FREE;
  still : l.fn.len ≤ length l.fn.slots.items → l.counter ≤ length l.fn.slots.items;
  room : vec_capacity l.slots ≡ vec_capacity l.fn.slots;
}
