use Rattle.std.proofs.Common.{arith, ◌≡◌, ◌<◌, true, length, refl, sym, ◌∙◌, None}
use Rattle.heap_store.specs.Hand.{contains, mark_newest, is_later}
use Rattle.heap_store.specs.Plain.{IsPlain, free_places, fresh_node}
use Rattle.heap_store.specs.Slots.{at_place}
use Rattle.heap_store.proofs.PlainReads.{node_shown}
use Rattle.heap_store.proofs.PlainWorlds.{free_unpublished, plain_lawful}
use Rattle.heap_store.proofs.PlainCounts.{put_counted}
use Rattle.heap_store.proofs.PlainSteps.{put_plain_at, put_view_at}
use Rattle.heap_store.proofs.plain.PlainHeapHeap.put.Goals as goal
use Rattle.heap_store.proofs.plain.PlainHeapHeap.put.Goals.{After-step-place, After-with-self}

held : (c : After-step-place) → contains (free_places 0 c.args.self.now.nodes.shown) c.args.run.now.next ≡ true
held c = c.requires.held.each c.args.run.now.next (omega arith) c.requires.left

within : (c : After-step-place) → c.args.run.now.next < length c.args.self.now.nodes.shown
within c = let h = c.args.self.now in (free_unpublished h.capacity h.row_capacity h.nodes.shown h.notes.claims h.rows.items h.plain c.args.run.now.next (held c)).0

empty : (c : After-step-place) → at_place c.args.self.now.nodes.shown c.args.run.now.next ≡ None
empty c =
    let h = c.args.self.now in
    sym (node_shown h.capacity h.row_capacity h.nodes.shown h.rows.items c.args.run.now.next) ∙ (free_unpublished h.capacity h.row_capacity h.nodes.shown h.notes.claims h.rows.items h.plain c.args.run.now.next (held c)).1

now_plain : (c : After-with-self) → IsPlain c.args.self.now.capacity c.args.self.now.row_capacity c.publish.new.self.shown (mark_newest (is_later 0 c.args.rec) c.args.self.now.notes.claims) c.args.self.now.rows.items
now_plain c =
    let h = c.args.self.now in
    rw c.publish.ensures (put_plain_at h.capacity h.row_capacity h.nodes.shown h.notes.claims h.rows.items h.plain h.notes.open_rows h.refused h.last c.args.run.now.next c.step-place.result.0 c.args.rec (fresh_node c.args.rec)
    c.step-place.ensures.place refl (held (goal.at.invariant_of-self-clause-plain c).After-step-place) c.requires.fits)

pub publish-requires : goal.publish-requires
publish-requires c = omega (arith, within (goal.at.publish-requires c).After-step-place, c.step-place.ensures.place)

pub invariant_of-self-clause-node_room : goal.invariant_of-self-clause-node_room
invariant_of-self-clause-node_room c = rw c.publish.ensures c.args.self.now.node_room

pub invariant_of-self-clause-row_room : goal.invariant_of-self-clause-row_room
invariant_of-self-clause-row_room c = c.args.self.now.row_room

pub invariant_of-self-clause-plain : goal.invariant_of-self-clause-plain
invariant_of-self-clause-plain c = rw c.with-self.ensures (now_plain c)

pub invariant_of-self-clause-counted : goal.invariant_of-self-clause-counted
invariant_of-self-clause-counted c =
    let h = c.args.self.now in
    let i = (goal.at.invariant_of-self-clause-counted c).After-step-place in
    rw (c.publish.ensures, c.step-place.ensures.place) (put_counted h.nodes.shown h.work c.args.run.now.next (within i) h.counted c.args.rec (empty i))

pub invariant_of-self-clause-law : goal.invariant_of-self-clause-law
invariant_of-self-clause-law c = let h = c.args.self.now in rw c.with-self.ensures (plain_lawful h.capacity h.row_capacity _ _ h.rows.items (now_plain c) h.notes.open_rows h.refused h.last h.law.open_in h.law.refused)

pub returns-clause-put : goal.returns-clause-put
returns-clause-put c =
    let h = c.args.self.now in
    rw (c.publish.ensures, c.with-self.ensures) (put_view_at h.capacity h.row_capacity h.nodes.shown h.notes.claims h.rows.items h.plain h.notes.open_rows h.refused h.last c.args.run.now.next c.step-place.result.0 c.args.rec (fresh_node c.args.rec)
    c.step-place.ensures.place refl (held (goal.at.returns-clause-put c).After-step-place) c.requires.fits)
