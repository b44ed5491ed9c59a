use Rattle.std.proofs.Common.{arith, refl, ap}
use Rattle.heap_store.specs.Plain.{IsPlain}
use Rattle.heap_store.specs.Slots.{PlacesView}
use Rattle.heap_store.proofs.PlainCounts.{opened_counted}
use Rattle.heap_store.proofs.PlainOpen.{opened_plain}
use Rattle.heap_store.proofs.PlainWorlds.{plain_lawful}
use Rattle.heap_store.proofs.plain.PlainHeap.open.Goals as goal
use Rattle.heap_store.proofs.plain.PlainHeap.open.Goals.{After-new}

now_plain : (c : After-new) → IsPlain c.args.nodes c.args.rows c.with_fixed_records.result.shown c.new.result.claims c.in-Ok-with_capacity.row_room.items
now_plain c = rw (c.with_fixed_records.ensures, c.new.ensures, c.in-Ok-with_capacity.ensures.items) (opened_plain c.args.nodes c.args.rows c.requires.nodes c.requires.rows)

pub with_fixed_records-requires : goal.with_fixed_records-requires
with_fixed_records-requires c = record {
  empty = ap (λ (v : PlacesView). v.shown) c.in-Ok.ensures;
  room = omega (arith, ap (λ (v : PlacesView). v.room) c.in-Ok.ensures);
}

pub invariant_of-result-clause-node_room : goal.invariant_of-result-clause-node_room
invariant_of-result-clause-node_room c = omega (arith, ap (λ (v : PlacesView). v.room) c.with_fixed_records.ensures, ap (λ (v : PlacesView). v.room) c.in-Ok.ensures)

pub invariant_of-result-clause-plain : goal.invariant_of-result-clause-plain
invariant_of-result-clause-plain c = now_plain c

pub invariant_of-result-clause-counted : goal.invariant_of-result-clause-counted
invariant_of-result-clause-counted c = rw c.with_fixed_records.ensures opened_counted

pub invariant_of-result-clause-law : goal.invariant_of-result-clause-law
invariant_of-result-clause-law c = plain_lawful c.args.nodes c.args.rows _ _ _ (now_plain c) _ _ _ (rw c.new.ensures refl) (λ some. absurd (omega (arith, some)))

pub returns : goal.returns
returns c = rw (c.with_fixed_records.ensures, c.new.ensures, c.in-Ok-with_capacity.ensures.items) refl
