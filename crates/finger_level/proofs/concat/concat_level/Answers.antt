use Rattle.heap_store.proofs.GrowthLaws.{grows_trans}
use Rattle.heap_store.proofs.Steps.{Quiet_trans}
use Rattle.finger_level.specs.Reads.{is_digit_rec, is_tree_value}
use Rattle.finger_level.proofs.Found.{digit_grows}
use Rattle.finger_level.proofs.Concats.{is_read_whole, read_later, concat_of}
use Rattle.finger_level.proofs.Betweens.{there_later}
use Rattle.finger_level.proofs.concat.concat_level.Goals as goal

pub read_digit-es-requires : goal.read_digit-es-requires
read_digit-es-requires g c = there_later c.read_level-left.ensures.quiet.grows is_digit_rec c.args.d.0 c.requires.digit

pub read_level-right-requires : goal.read_level-right-requires
read_level-right-requires g c = there_later (grows_trans c.read_level-left.ensures.quiet.grows c.read_digit-es.ensures.quiet.grows) is_tree_value c.args.q.0 c.requires.right

pub joined-requires-clause-left : goal.joined-requires-clause-left
joined-requires-clause-left g c = is_read_whole c.args.p.0 c.read_level-left.result (there_later c.read_level-left.ensures.quiet.grows is_tree_value c.args.p.0 c.requires.left) c.read_level-left.ensures.read

pub joined-requires-clause-right : goal.joined-requires-clause-right
joined-requires-clause-right g c = is_read_whole c.args.q.0 c.read_level-right.result (there_later (grows_trans (grows_trans c.read_level-left.ensures.quiet.grows c.read_digit-es.ensures.quiet.grows) c.read_level-right.ensures.quiet.grows) is_tree_value c.args.q.0 c.requires.right) c.read_level-right.ensures.read

pub returns-clause-quiet : goal.returns-clause-quiet
returns-clause-quiet g c = Quiet_trans (Quiet_trans c.read_level-left.ensures.quiet c.read_digit-es.ensures.quiet) c.read_level-right.ensures.quiet

pub returns-clause-concat : goal.returns-clause-concat
returns-clause-concat g c =
    let law = (g.met.H.Heap.lawful c.read_level-left.new.h).world in
    let law1 = (g.met.H.Heap.lawful c.read_digit-es.new.h).world in
    let law2 = (g.met.H.Heap.lawful c.read_level-right.new.h).world in
    let g1 = c.read_digit-es.ensures.quiet.grows in
    let g2 = c.read_level-right.ensures.quiet.grows in
    concat_of law2 c.args.p.0 c.args.d.0 c.args.q.0 c.read_level-left.result c.read_level-right.result c.joined.result c.read_digit-es.result
    (read_later law law2 (grows_trans g1 g2) c.args.p.0 c.read_level-left.result (there_later c.read_level-left.ensures.quiet.grows is_tree_value c.args.p.0 c.requires.left) c.read_level-left.ensures.read)
    c.read_level-right.ensures.read
    (digit_grows (grows_trans g1 g2) c.args.d.0 c.read_digit-es.result c.read_digit-es.ensures.shown)
    c.joined.ensures
