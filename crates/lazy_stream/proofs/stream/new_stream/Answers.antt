use Rattle.std.proofs.Common.{◌∙◌, ap, arith}
use Rattle.lazy_rec.specs.declared.records.Rec.TheVariants.{Nil}
use Rattle.heap_store.specs.World.{recs}
use Rattle.heap_store.specs.Values.{items_in}
use Rattle.heap_store.proofs.LawfulLaws.{lawful_names}
use Rattle.heap_store.proofs.MeaningLaws.{cells_is}
use Rattle.heap_store.proofs.FixedPlaces.{fixed_records, above_fixed}
use Rattle.lazy_stream.proofs.Tops.{empty_stream}
use Rattle.lazy_stream.proofs.stream.new_stream.Goals as goal

pub put_top-requires-clause-stream : goal.put_top-requires-clause-stream
put_top-requires-clause-stream g c =
    let law = g.met.H.Heap.lawful c.args.h.now in
    let five = above_fixed law c.args.run.now.next (c.requires.held.each c.args.run.now.next (omega arith) (omega (arith, c.requires.size))) in
    empty_stream law.world c.args.run.now.next (omega (arith, five))

pub returns-clause-empty : goal.returns-clause-empty
returns-clause-empty g c =
    let law = (g.met.H.Heap.lawful c.args.h.now).world in
    c.put_top.ensures.items ∙ ap items_in (cells_is (recs (g.H.Heap.view c.args.h.now).seen) (lawful_names law) 0 Nil (fixed_records law).nil)
