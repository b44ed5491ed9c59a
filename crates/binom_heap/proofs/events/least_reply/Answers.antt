use Rattle.std.proofs.Common.{◌≡◌, refl, ap, ◌∙◌, option_map}
use Rattle.std.specs.Prelude.{slice_get}
use Rattle.lazy_rec.specs.Meaning.{means}
use Rattle.heap_store.specs.World.{recs}
use Rattle.heap_store.proofs.LawfulLaws.{lawful_names}
use Rattle.heap_store.proofs.MeaningLaws.{means_kept}
use Rattle.binom_heap.specs.declared.removal.LeastTree.{LeastTree}
use Rattle.binom_heap.proofs.TreeLaws.{trees_there}
use Rattle.binom_heap.proofs.Linking.{only_up}
use Rattle.binom_heap.proofs.Least.{least_item}
use Rattle.binom_heap.proofs.events.least_reply.Goals as goal
use Rattle.binom_heap.proofs.events.least_reply.Goals.{After-least_tree}

-- the first item is what was found
first : (g : _) (c : After-least_tree g) → slice_get (means (recs (g.H.Heap.view c.args.h.now).seen) c.args.trees.0) 0 ≡ option_map (λ (t : LeastTree). t.item.0) c.least_tree.result
first g c =
    let law = (g.met.H.Heap.lawful c.args.h.now).world in
    let x = c.least_tree.ensures.quiet.grows in
    let kept = means_kept (recs (g.H.Heap.view c.args.h.now).seen) (recs (g.H.Heap.view c.least_tree.new.h).seen) (lawful_names law) x.records c.args.trees.0 (trees_there (recs (g.H.Heap.view c.args.h.now).seen) c.args.trees.0 c.requires.trees) in
    ap (λ xs. slice_get xs 0) kept ∙ least_item (g.met.H.Heap.lawful c.least_tree.new.h).world c.args.trees.0 (only_up law x c.args.trees.0 c.requires.trees) c.least_tree.result c.least_tree.ensures.least

pub returns-in-Some-clause-least : goal.returns-in-Some-clause-least
returns-in-Some-clause-least g c =
    let f = first g (goal.at.returns-in-Some-clause-least g c).After-least_tree in
    let is = c.in-Some.is in
    let found = rw is at f in
    rw found refl

pub returns-in-None-clause-least : goal.returns-in-None-clause-least
returns-in-None-clause-least g c =
    let f = first g (goal.at.returns-in-None-clause-least g c).After-least_tree in
    let is = c.in-None.is in
    let found = rw is at f in
    rw found refl
