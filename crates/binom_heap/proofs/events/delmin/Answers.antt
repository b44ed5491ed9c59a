use Rattle.std.proofs.Common.{◌≡◌, ◌+◌, ◌-◌, ◌<◌, ◌∙◌, refl, sym, ap, arith, true, Some, length}
use Rattle.lazy_rec.specs.declared.places.Ref.{Ref}
use Rattle.lazy_rec.specs.Meaning.{means}
use Rattle.heap_store.specs.World.{recs, is_value}
use Rattle.heap_store.specs.Forest.{forest, ranks_rise}
use Rattle.heap_store.specs.Lawful.{IsLawful}
use Rattle.heap_store.specs.Hand.{Hand}
use Rattle.heap_store.specs.View.{Quiet}
use Rattle.heap_store.proofs.GrowthLaws.{is_value_up}
use Rattle.heap_store.specs.Values.{value_place}
use Rattle.heap_store.proofs.MadeLaws.{forest_kept}
use Rattle.heap_store.proofs.ShowLaws.{one_value}
use Rattle.heap_store.proofs.MeaningLaws.{means_kept}
use Rattle.heap_store.proofs.LawfulLaws.{lawful_names}
use Rattle.heap_store.proofs.ReadLaws.{is_there}
use Rattle.heap_store.proofs.Steps.{Quiet_refl, Quiet_trans, quiet_Filled}
use Rattle.binom_heap.specs.Heap.{top_record, removal_places}
use Rattle.binom_heap.specs.Trees.{weight}
use Rattle.binom_heap.specs.Removal.{Least, least_of, StandsAt}
use Rattle.binom_heap.proofs.TreeLaws.{forest_is, trees_there}
use Rattle.binom_heap.proofs.ShapeLaws.{list_weight}
use Rattle.binom_heap.proofs.Linking.{forest_up, only_up}
use Rattle.binom_heap.proofs.ListValues.{DoneList, list_there, value_trees, known_place, value_place_up}
use Rattle.binom_heap.proofs.Tops.{old_top}
use Rattle.binom_heap.proofs.FirstTrees.{first_is, first_up}
use Rattle.binom_heap.proofs.Lesser.{stands_up}
use Rattle.binom_heap.proofs.EventTops.{other_kind, built_same, plain_build}
use Rattle.binom_heap.proofs.EventPaid.{PaidBase, PaidTop, IsTold, paid_base, told_least, read_list, read_size}
use Rattle.binom_heap.proofs.Melds.{means_up}
use Rattle.binom_heap.proofs.Removed.{Removal, least_facts, stands_some, some_least, empty_room, removal_due, again_asks, turn_asks, meld_asks, base_items, joined_items, removal_filled, removal_credits, delmin_end, delmin_none}
use Rattle.binom_heap.proofs.events.delmin.Goals as goal
use Rattle.binom_heap.proofs.events.delmin.Goals.{Start as Begun, After-read_top-paid, After-trees_of-trees, In-Some}

base : (g : _) (c : Begun g) → PaidBase (g.H.Heap.view c.args.h.now) c.args.job.now c.args.run.now c.args.top
base g c = paid_base (plain_build c.requires.build) c.requires.kind c.args.top c.requires.stage

pub returns-then-job-eq0 : goal.returns-then-job-eq0
returns-then-job-eq0 g c =
    let b = base g (goal.at.returns-then-job-eq0 g c).Start in
    let job = c.args.job.now in
    let law = (g.met.H.Heap.lawful c.args.h.now).world in
    record { built = built_same (Quiet_refl (g.H.Heap.view c.args.h.now)) (empty_room law b c.requires.op c.if-job-eq0.true) c.args.top job.base.size _ (delmin_none law job c.requires.kind (other_kind job c.requires.build.base_job c.requires.kind) c.requires.op c.args.top b.paid b.size c.if-job-eq0.true) _ refl }

pub read_top-paid-requires : goal.read_top-paid-requires
read_top-paid-requires g c = let k = (base g (goal.at.read_top-paid-requires g c).Start).paid.here in rw k refl

-- the top that was read owes nothing, and its list is done
base_of : (g : _) (c : After-read_top-paid g) → PaidBase (g.H.Heap.view c.args.h.now) c.args.job.now c.args.run.now c.args.top
base_of g c = paid_base (plain_build c.requires.build) c.requires.kind c.args.top c.requires.stage

same_list : (g : _) (c : After-read_top-paid g) → c.read_top-paid.result.list ≡ (base_of g c).paid.list
same_list g c = read_list (g.H.Heap.view c.args.h.now).seen c.args.top.0 c.read_top-paid.result (base_of g c).paid.list (base_of g c).paid.base.size c.read_top-paid.ensures.top (base_of g c).paid.here

same_size : (g : _) (c : After-read_top-paid g) → c.read_top-paid.result.size ≡ c.args.job.now.base.size
same_size g c = read_size (g.H.Heap.view c.args.h.now).seen c.args.top.0 c.read_top-paid.result (base_of g c).paid.list (base_of g c).paid.base.size c.read_top-paid.ensures.top (base_of g c).paid.here ∙ sym (base_of g c).size

known : (g : _) (c : After-read_top-paid g) → is_value (g.H.Heap.view c.read_top-paid.new.h).seen c.read_top-paid.result.list.0 ≡ true
known g c = is_value_up _ _ c.read_top-paid.ensures.quiet.grows c.read_top-paid.result.list.0 (let s = same_list g c in rw s (base_of g c).known)

pub trees_of-trees-requires : goal.trees_of-trees-requires
trees_of-trees-requires g c =
    let d = (goal.at.trees_of-trees-requires g c).After-read_top-paid in
    let o = old_top (g.met.H.Heap.lawful c.read_top-paid.new.h).world c.args.top.0 c.read_top-paid.result (c.read_top-paid.ensures.quiet.grows.records _ _ c.read_top-paid.ensures.top) in
    record { there = is_there (recs (g.H.Heap.view c.read_top-paid.new.h).seen) c.read_top-paid.result.list.0 (list_there o.list); known = known g d }

-- ---- after the trees were found

quiet : (g : _) (c : After-trees_of-trees g) → Quiet (g.H.Heap.view c.args.h.now) (g.H.Heap.view c.trees_of-trees.new.h)
quiet g c = Quiet_trans c.read_top-paid.ensures.quiet c.trees_of-trees.ensures.quiet

done : (g : _) (c : After-trees_of-trees g) → DoneList (g.H.Heap.view c.trees_of-trees.new.h).seen c.read_top-paid.result.list.0 c.trees_of-trees.result.0 c.read_top-paid.result.size
done g c =
    let law = (g.met.H.Heap.lawful c.trees_of-trees.new.h).world in
    let o = old_top law c.args.top.0 c.read_top-paid.result ((quiet g c).grows.records _ _ c.read_top-paid.ensures.top) in
    value_trees law c.args.top.0 c.read_top-paid.result.list.0 c.read_top-paid.result.size c.trees_of-trees.result.0 o.list c.trees_of-trees.ensures.place

-- ---- the least tree

top_trees : (g : _) (c : After-trees_of-trees g) → forest (recs (g.H.Heap.view c.args.h.now).seen) c.args.top.0 ≡ forest (recs (g.H.Heap.view c.trees_of-trees.new.h).seen) c.trees_of-trees.result.0
top_trees g c =
    let law0 = (g.met.H.Heap.lawful c.args.h.now).world in
    let law2 = (g.met.H.Heap.lawful c.trees_of-trees.new.h).world in
    let x = (quiet g c).grows in
    let e = c.read_top-paid.ensures.top in
    forest_kept (recs (g.H.Heap.view c.args.h.now).seen) (recs (g.H.Heap.view c.trees_of-trees.new.h).seen) (lawful_names law0) x.records c.args.top.0 (top_record c.read_top-paid.result, e)
    ∙ (forest_is (recs (g.H.Heap.view c.trees_of-trees.new.h).seen) (lawful_names law2) c.args.top.0 _ (x.records _ _ e) ∙ sym (done g c).same)

places : (g : _) (c : After-read_top-paid g) → c.args.run.now.next + removal_places c.args.job.now.base.size (least_of (forest (recs (g.H.Heap.view c.args.h.now).seen) c.args.top.0)) ≡ c.args.run.now.end
places g c = let op = c.requires.op in rw op at (base_of g c).room

trees_low : (g : _) (c : After-trees_of-trees g) (b : PaidBase (g.H.Heap.view c.args.h.now) c.args.job.now c.args.run.now c.args.top) → c.read_top-paid.result.list ≡ b.paid.list → c.trees_of-trees.result.0 < c.args.run.now.next
trees_low g c b same =
    let law0 = (g.met.H.Heap.lawful c.args.h.now).world in
    let v2 = (g.H.Heap.view c.trees_of-trees.new.h).seen in
    let p = b.paid in
    let o = old_top law0 c.args.top.0 (record { list = p.list; size = p.base.size; owed = 0 }) p.here in
    let q = known_place law0 p.list.0 (list_there o.list) b.known in
    let up = value_place_up (quiet g c).grows p.list.0 q.0 (list_there o.list) q.1 in
    let at : value_place v2 p.list.0 ≡ Some c.trees_of-trees.result.0 = ap (λ (l : Ref). value_place v2 l.0) (sym same) ∙ c.trees_of-trees.ensures.place in
    let one : q.0 ≡ c.trees_of-trees.result.0 = one_value q.0 c.trees_of-trees.result.0 (sym up ∙ at) in
    omega (arith, one, b.low q.0 q.1)

-- the heap isn't empty, so it has a least tree, and the cursor points at it
least : (g : _) (c : After-trees_of-trees g) → (l : Least) × (least_of (forest (recs (g.H.Heap.view c.args.h.now).seen) c.args.top.0) ≡ Some l)
least g c =
    let e = top_trees g c in
    some_least (forest (recs (g.H.Heap.view c.args.h.now).seen) c.args.top.0) (λ none. (
    let z : weight (forest (recs (g.H.Heap.view c.trees_of-trees.new.h).seen) c.trees_of-trees.result.0) ≡ 0 = ap weight (sym e) ∙ none in
    c.if-job-eq0.false (omega (arith, z, (done g c).weight_is, same_size g c.before.before.before))))

told : (g : _) (c : After-trees_of-trees g) → IsTold (g.H.Heap.view c.args.h.now) c.args.run.now (forest (recs (g.H.Heap.view c.args.h.now).seen) c.args.top.0) (least g c).0 c.args.cursor.now
told g c = told_least c.requires.build c.requires.op c.args.top c.requires.stage (least g c).0 (least g c).1

stands : (g : _) (c : After-trees_of-trees g) → StandsAt (g.H.Heap.view c.trees_of-trees.new.h).seen (forest (recs (g.H.Heap.view c.trees_of-trees.new.h).seen) c.trees_of-trees.result.0) (least g c).0 c.args.cursor.now.place.0 c.args.cursor.now.passed
stands g c = stands_up (g.met.H.Heap.lawful c.args.h.now).world (quiet g c).grows (top_trees g c) (told g c).stands

pub first_tree-requires : goal.first_tree-requires
first_tree-requires g c = (stands g (goal.at.first_tree-requires g c).After-trees_of-trees).trees

pub unreachable-requires : goal.unreachable-requires
unreachable-requires g c = stands_some (stands g (goal.at.unreachable-requires g c).After-trees_of-trees) (c.in_default.ensures.none refl)

-- ---- after the least tree was read

module _ (g : _) (c : In-Some g) where
  abbrev pub found2 : After-trees_of-trees g
  found2 = c.before.before.before.before

  q3 : Quiet (g.H.Heap.view c.args.h.now) (g.H.Heap.view c.first_tree.new.h)
  q3 = Quiet_trans (quiet g found2) c.first_tree.ensures.quiet

  law2 : IsLawful (g.H.Heap.view c.trees_of-trees.new.h).seen
  law2 = (g.met.H.Heap.lawful c.trees_of-trees.new.h).world

  same3 : forest (recs (g.H.Heap.view c.first_tree.new.h).seen) c.trees_of-trees.result.0 ≡ forest (recs (g.H.Heap.view c.trees_of-trees.new.h).seen) c.trees_of-trees.result.0
  same3 = forest_up law2 c.first_tree.ensures.quiet.grows c.trees_of-trees.result.0 (done g found2).trees

  items_of : (g.H.Heap.view c.args.h.now).hand.credits ≡ (g.H.Heap.view c.first_tree.new.h).hand.credits
  items_of = sym (ap (λ (h : Hand). h.credits) q3.hand)

  pub removal : Removal (g.H.Heap.view c.first_tree.new.h) c.args.run.now c.trees_of-trees.result.0 c.args.job.now.base.size c.args.cursor.now.passed c.in-Some.least
  removal =
      let x = c.first_tree.ensures.quiet.grows in
      let k = done g found2 in
      let few = c.requires.build.base_job.base.most in
      let z = q3.hand in
      let s = same3 in
      let all = top_trees g found2 ∙ sym same3 in
      let rise : ranks_rise 0 (forest (recs (g.H.Heap.view c.first_tree.new.h).seen) c.trees_of-trees.result.0) ≡ true = rw s k.rise in
      let w : weight (forest (recs (g.H.Heap.view c.first_tree.new.h).seen) c.trees_of-trees.result.0) ≡ c.args.job.now.base.size = rw s (k.weight_is ∙ same_size g found2.before.before.before) in
      let l = least g found2 in
      let here = stands_up (g.met.H.Heap.lawful c.args.h.now).world q3.grows all (told g found2).stands in
      let i = first_up x c.in-Some.ensures.some in
      let facts = least_facts (g.met.H.Heap.lawful c.first_tree.new.h).world c.trees_of-trees.result.0 c.args.job.now.base.size rise w (omega (arith, few)) l.0 (ap least_of (sym all) ∙ l.1) c.args.cursor.now.place.0 c.args.cursor.now.passed here c.in-Some.least i in
      let first = first_is (g.met.H.Heap.lawful c.first_tree.new.h).world c.args.cursor.now.place.0 c.in-Some.least here.trees i in
      let nodes = ap least_of all ∙ facts.is in
      record {
        held = rw z c.requires.build.held;
        list = record { trees = only_up law2 x c.trees_of-trees.result.0 k.trees; low = trees_low g found2 (base_of g found2.before.before.before) (same_list g found2.before.before.before) };
        rise = rise;
        weight_is = w;
        few = omega (arith, few);
        facts = facts;
        tree_low = omega (arith, first.tree_low, (told g found2).low);
        rest_low = omega (arith, first.rest_low, (told g found2).low);
        room = rw nodes at (places g found2.before.before.before);
        credits = omega (arith, items_of, removal_due c.args.job.now c.requires.kind c.args.top c.requires.stage c.requires.op, c.requires.build.credits);
      }

pub tree_size-full-requires : goal.tree_size-full-requires
tree_size-full-requires g c = (removal g (goal.at.tree_size-full-requires g c).In-Some).facts.full.rank

pub put_again-rest-requires : goal.put_again-rest-requires
put_again-rest-requires g c =
    let k = removal g (goal.at.put_again-rest-requires g c).In-Some in
    again_asks (g.met.H.Heap.lawful c.first_tree.new.h) c.args.run.now c.trees_of-trees.result.0 c.args.job.now.base.size c.args.cursor.now.passed c.in-Some.least k c.tree_size-full.result c.tree_size-full.ensures

pub turn-kids-requires : goal.turn-kids-requires
turn-kids-requires g c =
    let k = removal g (goal.at.turn-kids-requires g c).In-Some in
    turn_asks (g.met.H.Heap.lawful c.first_tree.new.h) c.args.run.now c.trees_of-trees.result.0 c.args.job.now.base.size c.args.cursor.now.passed c.in-Some.least k c.tree_size-full.result c.tree_size-full.ensures (g.met.H.Heap.lawful c.put_again-rest.new.h) c.put_again-rest.new.run c.put_again-rest.result c.put_again-rest.ensures

pub overflow_sub-first : goal.overflow_sub-first
overflow_sub-first g c = omega (arith, c.tree_size-full.ensures, (removal g (goal.at.overflow_sub-first g c).In-Some).facts.parts.most)

pub overflow_sub-result : goal.overflow_sub-result
overflow_sub-result g c = let p = (removal g (goal.at.overflow_sub-result g c).In-Some).facts.parts in omega (arith, p.most, p.pos)

pub put_meld-root-requires : goal.put_meld-root-requires
put_meld-root-requires g c =
    let k = removal g (goal.at.put_meld-root-requires g c).In-Some in
    meld_asks (g.met.H.Heap.lawful c.first_tree.new.h) c.args.run.now c.trees_of-trees.result.0 c.args.job.now.base.size c.args.cursor.now.passed c.in-Some.least k c.tree_size-full.result c.tree_size-full.ensures (g.met.H.Heap.lawful c.put_again-rest.new.h) c.put_again-rest.new.run c.put_again-rest.result c.put_again-rest.ensures (g.met.H.Heap.lawful c.turn-kids.new.h) c.turn-kids.new.run c.turn-kids.result c.turn-kids.ensures

pub returns : goal.returns
returns g c =
    let i = (goal.at.returns g c).In-Some in
    let k = removal g i in
    let job = c.args.job.now in
    let f2 = found2 g i in
    let law3 = g.met.H.Heap.lawful c.first_tree.new.h in
    let law4 = g.met.H.Heap.lawful c.put_meld-root.new.h in
    let j = c.put_meld-root.ensures in
    let n = job.base.size in
    let full = c.tree_size-full.result in
    let trees = c.trees_of-trees.result.0 in
    let b = base_of g f2.before.before.before in
    let p = b.paid in
    let v3 = (g.H.Heap.view c.first_tree.new.h).seen in
    let filled = removal_filled law3 c.args.run.now trees n c.args.cursor.now.passed c.in-Some.least k full c.tree_size-full.ensures (g.met.H.Heap.lawful c.put_again-rest.new.h) c.put_again-rest.new.run c.put_again-rest.result c.put_again-rest.ensures (g.met.H.Heap.lawful c.turn-kids.new.h) c.turn-kids.new.run c.turn-kids.result c.turn-kids.ensures j.filled in
    let all = quiet_Filled (q3 g i) filled in
    let x = all.grows in
    let now : PaidTop (g.H.Heap.view c.put_meld-root.new.h).seen job.base.root.0 c.args.top.0 = record { base = p.base; base_here = x.records _ _ p.base_here; list = p.list; same = p.same; here = x.records _ _ p.here } in
    let items3 = base_items law3 c.args.run.now trees n c.args.cursor.now.passed c.in-Some.least k full c.tree_size-full.ensures (g.met.H.Heap.lawful c.put_again-rest.new.h) c.put_again-rest.new.run c.put_again-rest.result c.put_again-rest.ensures (g.met.H.Heap.lawful c.turn-kids.new.h) c.turn-kids.new.run c.turn-kids.result c.turn-kids.ensures in
    let joined = joined_items law3 c.args.run.now trees n c.args.cursor.now.passed c.in-Some.least k full c.tree_size-full.ensures (g.met.H.Heap.lawful c.put_again-rest.new.h) c.put_again-rest.new.run c.put_again-rest.result c.put_again-rest.ensures (g.met.H.Heap.lawful c.turn-kids.new.h) c.turn-kids.new.run c.turn-kids.result c.turn-kids.ensures in
    let spent = removal_credits law3 c.args.run.now trees n c.args.cursor.now.passed c.in-Some.least k full c.tree_size-full.ensures (g.met.H.Heap.lawful c.put_again-rest.new.h) c.put_again-rest.new.run c.put_again-rest.result c.put_again-rest.ensures (g.met.H.Heap.lawful c.turn-kids.new.h) c.turn-kids.new.run c.turn-kids.result c.turn-kids.ensures (g.H.Heap.view c.put_meld-root.new.h).hand.credits j.credits in
    let kept = means_kept (recs (g.H.Heap.view c.trees_of-trees.new.h).seen) (recs v3) (lawful_names (law2 g i)) c.first_tree.ensures.quiet.grows.records trees (trees_there (recs (g.H.Heap.view c.trees_of-trees.new.h).seen) trees (done g f2).trees) in
    let o2 = old_top (law2 g i) c.args.top.0 (record { list = p.list; size = p.base.size; owed = 0 }) ((quiet g f2).grows.records _ _ p.here) in
    let o0 = old_top (g.met.H.Heap.lawful c.args.h.now).world c.args.top.0 (record { list = p.list; size = p.base.size; owed = 0 }) p.here in
    let up4 = means_up (g.met.H.Heap.lawful c.args.h.now).world x o0.list in
    let up2 = means_up (g.met.H.Heap.lawful c.args.h.now).world (quiet g f2).grows o0.list in
    let there = (done g f2).means_are ∙ ap (λ (l : Ref). means (recs (g.H.Heap.view c.trees_of-trees.new.h).seen) l.0) (same_list g f2.before.before.before) in
    let length_is = list_weight law3.world trees k.list.trees in
    let longer = ap length items3 in
    record {
      built = record {
        filled = all;
        spent = j.spent;
        made = delmin_end law4.world job c.requires.kind (other_kind job c.requires.build.base_job c.requires.kind) c.requires.op c.args.top.0 now (is_value_up _ _ x p.list.0 b.known) c.put_meld-root.result j.root _ _ (up4 ∙ (sym up2 ∙ (sym there ∙ (kept ∙ items3)))) (j.items ∙ joined) (job.base.size - 1) (omega (arith, length_is, longer, k.weight_is));
        credits = omega (arith, spent, items_of g i, removal_due job c.requires.kind c.args.top c.requires.stage c.requires.op);
      };
    }
