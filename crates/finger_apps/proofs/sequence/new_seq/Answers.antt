use Rattle.std.proofs.Common.{refl, subst}
use Rattle.heap_store.specs.World.{recs}
use Rattle.heap_store.specs.Jobs.{Filled}
use Rattle.heap_store.proofs.FixedPlaces.{fixed_records}
use Rattle.heap_store.proofs.LawfulLaws.{lawful_names}
use Rattle.heap_store.proofs.MeaningLaws.{means_is}
use Rattle.heap_store.proofs.Steps.{Filled-none}
use Rattle.finger_apps.proofs.SequenceEnds.{empty_root}
use Rattle.finger_apps.proofs.sequence.new_seq.Goals as goal

pub returns-clause-filled : goal.returns-clause-filled
returns-clause-filled g c = subst (λ n. Filled (g.H.Heap.view c.args.h.now) (g.H.Heap.view c.args.h.now) c.args.run.now.next n) c.requires.size (Filled-none (g.H.Heap.view c.args.h.now) c.args.run.now.next)

pub returns-clause-root : goal.returns-clause-root
returns-clause-root g c = empty_root (g.met.H.Heap.lawful c.args.h.now).world

pub returns-clause-value : goal.returns-clause-value
returns-clause-value g c = rw (fixed_records (g.met.H.Heap.lawful c.args.h.now).world).empty_tree refl

pub returns-clause-empty : goal.returns-clause-empty
returns-clause-empty g c =
    let law = (g.met.H.Heap.lawful c.args.h.now).world in
    means_is (recs (g.H.Heap.view c.args.h.now).seen) (lawful_names law) 4 _ (fixed_records law).empty_tree
