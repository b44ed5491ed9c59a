use Rattle.std.proofs.Common.{◌∙◌, ap}
use Rattle.heap_store.specs.Completion.{push_one_left, push_one_right}
use Rattle.finger_level.specs.declared.level.Side.TheVariants as sides
use Rattle.finger_level.specs.declared.level.Pushed.TheVariants as pushes
use Rattle.finger_level.specs.Level.{kept_left, kept_right}
use Rattle.finger_level.proofs.Rests.{rest_kept, pushed_from}
use Rattle.finger_level.proofs.pushes.pushed_level.Goals as goal

pub returns-in-One-clause-pushed : goal.returns-in-One-clause-pushed
returns-in-One-clause-pushed g c =
    let p = c.push_left.ensures in
    let r = c.read_level-level.ensures.read in
    rw (c.in-Left.is, c.in-One.is) (pushed_from sides.Left (pushes.One c.in-One.e) c.args.q.0 c.read_level-level.result c.push_left.result (kept_right c.read_level-level.result) r p.made (rest_kept c.read_level-level.result r.rests).1 p.places p.most (p.stands _) p.under (λ j ks l. p.keys j (g.H.Heap.view c.read_level-level.new.h).seen ks.0 l))

pub returns-in-Two-clause-pushed : goal.returns-in-Two-clause-pushed
returns-in-Two-clause-pushed g c =
    let p = c.push_left-in-Two.ensures in
    let n = c.push_left-in-Two-2.ensures in
    let r = c.read_level-level.ensures.read in
    rw (c.in-Left.is, c.in-Two.is) (pushed_from sides.Left (pushes.Two c.in-Two.e c.in-Two.f) c.args.q.0 c.read_level-level.result c.push_left-in-Two-2.result (kept_right c.push_left-in-Two.result) r (n.made ∙ ap (push_one_left c.in-Two.e.0) p.made) (p.kept ∙ (rest_kept c.read_level-level.result r.rests).1) n.places n.most (λ k. n.stands _ (p.stands _ k)) (λ m k. n.under m (p.under m k)) (λ j ks l. n.keys j (g.H.Heap.view c.read_level-level.new.h).seen ks.0 (p.keys j (g.H.Heap.view c.read_level-level.new.h).seen ks.1.0 l)))

pub returns-in-One-es-clause-pushed : goal.returns-in-One-es-clause-pushed
returns-in-One-es-clause-pushed g c =
    let p = c.push_right.ensures in
    let r = c.read_level-level.ensures.read in
    rw (c.in-Right.is, c.in-One-es.is) (pushed_from sides.Right (pushes.One c.in-One-es.e) c.args.q.0 c.read_level-level.result c.push_right.result (kept_left c.read_level-level.result) r p.made (rest_kept c.read_level-level.result r.rests).0 p.places p.most (p.stands _) p.under (λ j ks l. p.keys j (g.H.Heap.view c.read_level-level.new.h).seen ks.0 l))

pub returns-in-Two-es-clause-pushed : goal.returns-in-Two-es-clause-pushed
returns-in-Two-es-clause-pushed g c =
    let p = c.push_right-in-Two-es.ensures in
    let n = c.push_right-in-Two-es-2.ensures in
    let r = c.read_level-level.ensures.read in
    rw (c.in-Right.is, c.in-Two-es.is) (pushed_from sides.Right (pushes.Two c.in-Two-es.e c.in-Two-es.f) c.args.q.0 c.read_level-level.result c.push_right-in-Two-es-2.result (kept_left c.push_right-in-Two-es.result) r (n.made ∙ ap (λ t. push_one_right t c.in-Two-es.f.0) p.made) (p.kept ∙ (rest_kept c.read_level-level.result r.rests).0) n.places n.most (λ k. n.stands _ (p.stands _ k)) (λ m k. n.under m (p.under m k)) (λ j ks l. n.keys j (g.H.Heap.view c.read_level-level.new.h).seen ks.1.0 (p.keys j (g.H.Heap.view c.read_level-level.new.h).seen ks.0 l)))
