use Rattle.std.proofs.Common.{◌∙◌, arith}
use Rattle.heap_store.specs.World.{recs}
use Rattle.finger_level.specs.Reads.{is_tree_rec}
use Rattle.heap_store.proofs.ReadLaws.{holds_at}
use Rattle.finger_level.proofs.Families.{tree_size}
use Rattle.finger_level.proofs.Keying.{kind_key}
use Rattle.finger_level.proofs.puts.weigh_tree.Goals as goal

pub returns-clause-size : goal.returns-clause-size
returns-clause-size g c =
    let law = (g.met.H.Heap.lawful c.args.h.now).world in
    let k = tree_size law c.args.t.0 c.read-rec.result c.read-rec.ensures.rec (holds_at (recs (g.H.Heap.view c.args.h.now).seen) c.args.t.0 is_tree_rec _ c.requires c.read-rec.ensures.rec) in
    c.cached.ensures.size ∙ k.counts

pub returns-clause-small : goal.returns-clause-small
returns-clause-small g c =
    let law = (g.met.H.Heap.lawful c.args.h.now).world in
    let k = tree_size law c.args.t.0 c.read-rec.result c.read-rec.ensures.rec (holds_at (recs (g.H.Heap.view c.args.h.now).seen) c.args.t.0 is_tree_rec _ c.requires c.read-rec.ensures.rec) in
    omega (arith, c.cached.ensures.size, k.small)

pub returns-clause-key : goal.returns-clause-key
returns-clause-key g c =
    let law = (g.met.H.Heap.lawful c.args.h.now).world in
    λ kind h. c.cached.ensures.key ∙ kind_key law kind c.args.t.0 c.read-rec.result c.read-rec.ensures.rec (holds_at (recs (g.H.Heap.view c.args.h.now).seen) c.args.t.0 is_tree_rec _ c.requires c.read-rec.ensures.rec) h
