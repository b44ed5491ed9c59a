use Rattle.std.proofs.Common.{arith, ◌≡◌, Option, Some, ap, ◌∙◌}
use Rattle.lazy_rec.specs.declared.records.Rec.{Rec}
use Rattle.lazy_rec.specs.declared.states.SuspState.{SuspState}
use Rattle.lazy_rec.specs.declared.states.SuspState.TheVariants.{Unforced, Claimed}
use Rattle.heap_store.specs.World.{node_at}
use Rattle.heap_store.specs.Hand.{without_claim}
use Rattle.heap_store.specs.Plain.{IsPlain, plain_world}
use Rattle.heap_store.specs.Slots.{at_place}
use Rattle.heap_store.proofs.PlainReads.{with_state, claimed_is, held_claimed, held_is, held_shown, unbuilt_held}
use Rattle.heap_store.proofs.PlainWorlds.{drawn_there, plain_lawful}
use Rattle.heap_store.proofs.PlainCounts.{released_counted, counts_small}
use Rattle.heap_store.proofs.PlainSteps.{given_up_plain, given_up_view}
use Rattle.heap_store.proofs.plain.PlainHeapClaims.give_up.Goals as goal
use Rattle.heap_store.proofs.plain.PlainHeapClaims.give_up.Goals.{In-Claimed, After-with-self}

-- the node whose state was read
node : (c : In-Claimed) → (r : Rec) × (at_place c.args.self.now.nodes.shown c.args.s.0 ≡ Some (record { rec = r; state = Claimed c.in-Claimed.given_up })) × (node_at (plain_world c.args.self.now.capacity c.args.self.now.row_capacity c.args.self.now.nodes.shown c.args.self.now.rows.items) c.args.s.0 ≡ Some (record { rec = r; state = Claimed c.in-Claimed.given_up }))
node c = let h = c.args.self.now in held_is h.capacity h.row_capacity h.nodes.shown h.notes.claims h.rows.items h.plain c.args.s.0 (unbuilt_held c.args.self.now.notes.claims c.args.s.0 c.requires.unbuilt) (Claimed c.in-Claimed.given_up) (c.state.ensures ∙ ap {B = Option SuspState} (λ t. Some t) c.in-Claimed.is)

now_plain : (c : After-with-self) → IsPlain c.args.self.now.capacity c.args.self.now.row_capacity c.set_state.new.self.shown (without_claim c.args.s.0 c.args.self.now.notes.claims) c.args.self.now.rows.items
now_plain c =
    let h = c.args.self.now in
    let i = (goal.at.invariant_of-self-clause-plain c).In-Claimed in
    let set : c.set_state.new.self ≡ with_state h.nodes c.args.s.0 (node i).0 (Unforced c.saturating_add-raised.result) = c.set_state.ensures (record { rec = (node i).0; state = Claimed c.in-Claimed.given_up }) (node i).1 in
    rw (set, c.saturating_add-raised.ensures) (given_up_plain h.capacity h.row_capacity h.nodes.shown h.notes.claims h.rows.items h.plain h.notes.open_rows h.refused h.last c.args.s.0 (node i).0 c.in-Claimed.given_up (node i).2 (record { unbuilt = c.requires.unbuilt; places = c.requires.places }))

pub state-requires : goal.state-requires
state-requires c = let h = c.args.self.now in held_shown h.capacity h.row_capacity h.nodes.shown h.notes.claims h.rows.items h.plain c.args.s.0 (unbuilt_held c.args.self.now.notes.claims c.args.s.0 c.requires.unbuilt)

pub unreachable-requires : goal.unreachable-requires
unreachable-requires c = let h = c.args.self.now in claimed_is c.state.result (held_claimed h.capacity h.row_capacity h.nodes.shown h.notes.claims h.rows.items h.plain c.args.s.0 (unbuilt_held c.args.self.now.notes.claims c.args.s.0 c.requires.unbuilt) c.state.result c.state.ensures) c.in_default.not-Claimed

pub set_state-requires-clause-there : goal.set_state-requires-clause-there
set_state-requires-clause-there c = let h = c.args.self.now in held_shown h.capacity h.row_capacity h.nodes.shown h.notes.claims h.rows.items h.plain c.args.s.0 (unbuilt_held c.args.self.now.notes.claims c.args.s.0 c.requires.unbuilt)

pub invariant_of-self-clause-node_room : goal.invariant_of-self-clause-node_room
invariant_of-self-clause-node_room c =
    let h = c.args.self.now in
    let i = (goal.at.invariant_of-self-clause-node_room c).In-Claimed in
    let set : c.set_state.new.self ≡ with_state h.nodes c.args.s.0 (node i).0 (Unforced c.saturating_add-raised.result) = c.set_state.ensures (record { rec = (node i).0; state = Claimed c.in-Claimed.given_up }) (node i).1 in
    rw set h.node_room

pub invariant_of-self-clause-plain : goal.invariant_of-self-clause-plain
invariant_of-self-clause-plain c = rw c.with-self.ensures (now_plain c)

pub invariant_of-self-clause-counted : goal.invariant_of-self-clause-counted
invariant_of-self-clause-counted c =
    let h = c.args.self.now in
    let i = (goal.at.invariant_of-self-clause-counted c).In-Claimed in
    let set : c.set_state.new.self ≡ with_state h.nodes c.args.s.0 (node i).0 (Unforced c.saturating_add-raised.result) = c.set_state.ensures (record { rec = (node i).0; state = Claimed c.in-Claimed.given_up }) (node i).1 in
    let within = drawn_there h.capacity h.row_capacity h.nodes.shown h.rows.items c.args.s.0 _ (node i).2 in
    rw set (released_counted h.nodes.shown h.work c.args.s.0 within h.counted (node i).0 c.in-Claimed.given_up c.saturating_add-raised.result c.from.result (omega (arith, c.from.ensures, c.saturating_add-raised.ensures)) (node i).1)

pub overflow_add-self : goal.overflow_add-self
overflow_add-self c = let h = c.args.self.now in omega (arith, c.from.ensures, (counts_small h.capacity h.row_capacity h.nodes.shown h.notes.claims h.rows.items h.work h.plain h.counted).given_up)

pub invariant_of-self-clause-law : goal.invariant_of-self-clause-law
invariant_of-self-clause-law c = let h = c.args.self.now in rw c.with-self.ensures (plain_lawful h.capacity h.row_capacity _ _ h.rows.items (now_plain c) h.notes.open_rows h.refused h.last h.law.open_in h.law.refused)

pub returns : goal.returns
returns c =
    let h = c.args.self.now in
    let i = (goal.at.returns c).In-Claimed in
    let set : c.set_state.new.self ≡ with_state h.nodes c.args.s.0 (node i).0 (Unforced c.saturating_add-raised.result) = c.set_state.ensures (record { rec = (node i).0; state = Claimed c.in-Claimed.given_up }) (node i).1 in
    rw (c.with-self.ensures, set, c.saturating_add-raised.ensures) (given_up_view h.capacity h.row_capacity h.nodes.shown h.notes.claims h.rows.items h.plain h.notes.open_rows h.refused h.last c.args.s.0 (node i).0 c.in-Claimed.given_up (node i).2 (record { unbuilt = c.requires.unbuilt; places = c.requires.places }))
