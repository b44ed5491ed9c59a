use Rattle.std.proofs.Common.{ap, ◌∙◌, sym, length}
use Rattle.finger_level.specs.Few.{few_list}
use Rattle.finger_level.specs.Puts.{PartAsk}
use Rattle.finger_level.proofs.Builds.{items_up}
use Rattle.finger_level.proofs.Weighing.{sorts_of_elements}
use Rattle.finger_level.proofs.Laying.{old_put, part_later, put_after}
use Rattle.finger_level.proofs.Keying.{all_keyed_up, keyed_items}
use Rattle.finger_level.specs.Keyed.{AreKeyed, key_in}
use Rattle.finger_level.proofs.puts.put_digit.Goals as goal
use Rattle.finger_level.proofs.puts.put_digit.Goals.{In-New}

-- what the new digit asks
asked : (g : _) (c : In-New g) → PartAsk (g.H.Heap.view c.args.h.now) c.args.run.now 1 (few_list c.in-New.few)
asked g c = rw c.in-New.is at c.requires.part

pub weigh_few-weight-requires : goal.weigh_few-weight-requires
weigh_few-weight-requires g c =
    let n = asked g (goal.at.weigh_few-weight-requires g c).In-New in
    record { elements = sorts_of_elements (g.met.H.Heap.lawful c.args.h.now).world n.depth c.args.run.now.next _ n.elements.each; small = n.elements.small }

pub put_few-requires : goal.put_few-requires
put_few-requires g c =
    let n = asked g (goal.at.put_few-requires g c).In-New in
    let law = (g.met.H.Heap.lawful c.args.h.now).world in
    let q = c.weigh_few-weight.ensures.quiet in
    record { part = part_later law q (few_list c.in-New.few) n; counts = c.weigh_few-weight.ensures.size ∙ ap length (items_up law q.grows n.depth c.args.run.now.next (few_list c.in-New.few) n.elements.each) }

pub returns-in-Old-clause-put : goal.returns-in-Old-clause-put
returns-in-Old-clause-put g c = old_put c.args.part c.in-Old.place c.in-Old.few c.in-Old.is c.requires.part.held c.requires.there c.requires.under

pub returns-in-New-clause-put : goal.returns-in-New-clause-put
returns-in-New-clause-put g c = put_after c.args.part c.in-New.few c.in-New.is c.requires.part.held c.weigh_few-weight.ensures.quiet c.put_few.ensures.put

pub returns-in-New-clause-keys : goal.returns-in-New-clause-keys
returns-in-New-clause-keys g c =
    let law = (g.met.H.Heap.lawful c.args.h.now).world in
    let up = c.weigh_few-weight.ensures.quiet.grows in
    λ h. (let k : AreKeyed c.args.keyed (g.H.Heap.view c.args.h.now).seen (few_list c.in-New.few) = rw c.in-New.is at h in
    c.put_few.ensures.keys c.args.keyed (all_keyed_up law up c.args.keyed (few_list c.in-New.few) k) (c.weigh_few-weight.ensures.key k ∙ ap (key_in c.args.keyed) (sym (keyed_items law up c.args.keyed (few_list c.in-New.few) k))))
