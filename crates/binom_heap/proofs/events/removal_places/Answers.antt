use Rattle.std.proofs.Common.{◌≡◌, ◌-◌, arith, refl, sym, ap, ◌∙◌, Some, None}
use Rattle.heap_store.specs.World.{recs}
use Rattle.heap_store.specs.Forest.{forest}
use Rattle.heap_store.proofs.Steps.{Quiet_trans}
use Rattle.binom_heap.specs.Removal.{least_of}
use Rattle.binom_heap.proofs.Linking.{forest_up, only_up}
use Rattle.binom_heap.proofs.Removed.{LeastFacts, found_trees, found_some, found_facts, found_points, none_points, removal_is, two_most, none_is}
use Rattle.binom_heap.proofs.events.removal_places.Goals as goal
use Rattle.binom_heap.proofs.events.removal_places.Goals.{In_default, In-Some-first_tree}

-- a list without trees
none : (g : _) (c : In_default g) → least_of (forest (recs (g.H.Heap.view c.least_tree.new.h).seen) c.args.trees.0) ≡ None
none g c = none_is _ _ _ c.in_default.ensures.least

pub returns-in_default-clause-places : goal.returns-in_default-clause-places
returns-in_default-clause-places g c =
    let same = forest_up (g.met.H.Heap.lawful c.args.h.now).world c.least_tree.ensures.quiet.grows c.args.trees.0 c.requires.trees in
    let is : least_of (forest (recs (g.H.Heap.view c.args.h.now).seen) c.args.trees.0) ≡ None = ap least_of (sym same) ∙ none g (goal.at.returns-in_default-clause-places g c).In_default in
    rw is refl

pub returns-in_default-clause-least : goal.returns-in_default-clause-least
returns-in_default-clause-least g c = none_points (g.H.Heap.view c.least_tree.new.h).seen (forest (recs (g.H.Heap.view c.least_tree.new.h).seen) c.args.trees.0) c.args.cursor.now (none g (goal.at.returns-in_default-clause-least g c).In_default)

-- ---- the least tree was found

pub first_tree-requires : goal.first_tree-requires
first_tree-requires g c = found_trees (g.H.Heap.view c.least_tree.new.h).seen c.args.trees.0 c.in-Some.least c.in-Some.ensures.least

pub unreachable-requires : goal.unreachable-requires
unreachable-requires g c = found_some (g.H.Heap.view c.least_tree.new.h).seen c.args.trees.0 c.in-Some.least c.in-Some.ensures.least (c.in_default-first_tree.ensures.none refl)

facts : (g : _) (c : In-Some-first_tree g) → LeastFacts (g.H.Heap.view c.least_tree.new.h).seen c.args.trees.0 c.args.size c.in-Some.least.before c.in-Some-first_tree.first
facts g c = found_facts (g.met.H.Heap.lawful c.args.h.now).world (g.met.H.Heap.lawful c.least_tree.new.h).world c.least_tree.ensures.quiet.grows c.args.trees.0 c.args.size c.requires.trees c.requires.rise c.requires.size (omega (arith, c.requires.most)) c.in-Some.least c.in-Some.ensures.least c.in-Some-first_tree.first c.in-Some-first_tree.ensures.some

pub tree_size-full-requires : goal.tree_size-full-requires
tree_size-full-requires g c = (facts g (goal.at.tree_size-full-requires g c).In-Some-first_tree).full.rank

pub overflow_sub-size : goal.overflow_sub-size
overflow_sub-size g c = omega (arith, c.tree_size-full.ensures, (facts g (goal.at.overflow_sub-size g c).In-Some-first_tree).parts.most)

pub meld_places-top-requires-clause-other : goal.meld_places-top-requires-clause-other
meld_places-top-requires-clause-other g c = omega (arith, c.tree_size-full.ensures, (facts g (goal.at.meld_places-top-requires-clause-other g c).In-Some-first_tree).parts.most, c.requires.most)

pub overflow_add-result : goal.overflow_add-result
overflow_add-result g c =
    let f = facts g (goal.at.overflow_add-result g c).In-Some-first_tree in
    omega (arith, f.before_is, f.early, f.rank, f.full.rank, c.from.ensures)

pub overflow_add-result-2 : goal.overflow_add-result-2
overflow_add-result-2 g c =
    let f = facts g (goal.at.overflow_add-result-2 g c).In-Some-first_tree in
    omega (arith, f.before_is, f.early, f.rank, f.full.rank, c.from.ensures, c.meld_places-top.ensures, two_most (c.args.size - c.tree_size-full.result) (c.tree_size-full.result - 1))

pub returns-clause-quiet : goal.returns-clause-quiet
returns-clause-quiet g c = Quiet_trans c.least_tree.ensures.quiet c.first_tree.ensures.quiet

pub returns-clause-places : goal.returns-clause-places
returns-clause-places g c =
    let f = facts g (goal.at.returns-clause-places g c).In-Some-first_tree in
    let same = forest_up (g.met.H.Heap.lawful c.args.h.now).world c.least_tree.ensures.quiet.grows c.args.trees.0 c.requires.trees in
    let found : least_of (forest (recs (g.H.Heap.view c.args.h.now).seen) c.args.trees.0) ≡ Some f.l = ap least_of (sym same) ∙ f.is in
    let rank = c.from.ensures in
    rw (found, rank) (removal_is f c.tree_size-full.result c.tree_size-full.ensures c.meld_places-top.result c.meld_places-top.ensures)

pub returns-clause-least : goal.returns-clause-least
returns-clause-least g c = found_points (g.met.H.Heap.lawful c.least_tree.new.h).world c.first_tree.ensures.quiet.grows c.args.trees.0 (only_up (g.met.H.Heap.lawful c.args.h.now).world c.least_tree.ensures.quiet.grows c.args.trees.0 c.requires.trees) c.in-Some.least c.in-Some.ensures.least
