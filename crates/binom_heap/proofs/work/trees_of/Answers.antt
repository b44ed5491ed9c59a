use Rattle.std.proofs.Common.{true}
use Rattle.heap_store.specs.World.{recs}
use Rattle.heap_store.proofs.GrowthLaws.{is_value_up}
use Rattle.heap_store.proofs.ReadLaws.{place_there, holds_kept}
use Rattle.binom_heap.proofs.ListValues.{not_waiting}
use Rattle.binom_heap.proofs.work.trees_of.Goals as goal

pub unreachable-requires : goal.unreachable-requires
unreachable-requires g c =
    let x = c.value_place.ensures.quiet.grows in
    not_waiting (g.met.H.Heap.lawful c.value_place.new.h).world c.args.list.0 (place_there (recs (g.H.Heap.view c.value_place.new.h).seen) c.args.list.0 (λ _. true) (holds_kept x.records c.args.list.0 (λ _. true) c.requires.there)) (is_value_up _ _ x c.args.list.0 c.requires.known) c.in-None.ensures.place
