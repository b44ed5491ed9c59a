use Rattle.std.proofs.Common.{arith, ◌≡◌, Option, Some, sym, ap, ◌∙◌}
use Rattle.std.specs.Prelude.{option_map}
use Rattle.std.proofs.Math.Nat.{min-eq_left}
use Rattle.lazy_rec.specs.Units.{steps}
use Rattle.heap_store.specs.declared.nodes.Node.{Node}
use Rattle.heap_store.proofs.ShowLaws.{one_value}
use Rattle.lazy_rec.specs.declared.records.Rec.{Rec}
use Rattle.lazy_rec.specs.declared.states.SuspState.{SuspState}
use Rattle.lazy_rec.specs.declared.states.SuspState.TheVariants.{Claimed, Done}
use Rattle.heap_store.specs.World.{node_at}
use Rattle.heap_store.specs.Hand.{without_claim}
use Rattle.heap_store.specs.Plain.{IsPlain, plain_world}
use Rattle.heap_store.specs.Slots.{at_place}
use Rattle.heap_store.proofs.PlainReads.{with_state, claimed_is, held_claimed, held_is, held_shown}
use Rattle.heap_store.proofs.PlainWorlds.{drawn_there, plain_lawful}
use Rattle.heap_store.proofs.PlainCounts.{completed_counted, counts_small}
use Rattle.heap_store.proofs.PlainSteps.{completed_plain, completed_view}
use Rattle.heap_store.proofs.plain.PlainHeapClaims.complete.Goals as goal
use Rattle.heap_store.proofs.plain.PlainHeapClaims.complete.Goals.{In-Claimed, After-with-self}

-- the node whose state was read
node : (c : In-Claimed) → (r : Rec) × (at_place c.args.self.now.nodes.shown c.args.s.0 ≡ Some (record { rec = r; state = Claimed c.in-Claimed.given_up })) × (node_at (plain_world c.args.self.now.capacity c.args.self.now.row_capacity c.args.self.now.nodes.shown c.args.self.now.rows.items) c.args.s.0 ≡ Some (record { rec = r; state = Claimed c.in-Claimed.given_up }))
node c = let h = c.args.self.now in held_is h.capacity h.row_capacity h.nodes.shown h.notes.claims h.rows.items h.plain c.args.s.0 c.requires.held (Claimed c.in-Claimed.given_up) (c.state.ensures ∙ ap {B = Option SuspState} (λ t. Some t) c.in-Claimed.is)

now_plain : (c : After-with-self) → IsPlain c.args.self.now.capacity c.args.self.now.row_capacity c.set_state.new.self.shown (without_claim c.args.s.0 c.args.self.now.notes.claims) c.args.self.now.rows.items
now_plain c =
    let h = c.args.self.now in
    let i = (goal.at.invariant_of-self-clause-plain c).In-Claimed in
    let set : c.set_state.new.self ≡ with_state h.nodes c.args.s.0 (node i).0 (Done c.args.place c.args.steps c.in-Claimed.given_up) = c.set_state.ensures (record { rec = (node i).0; state = Claimed c.in-Claimed.given_up }) (node i).1 in
    rw set (completed_plain h.capacity h.row_capacity h.nodes.shown h.notes.claims h.rows.items h.plain h.notes.open_rows h.refused h.last c.args.s.0 (node i).0 c.in-Claimed.given_up (node i).2 c.args.place c.args.steps c.requires.value c.requires.small)

pub state-requires : goal.state-requires
state-requires c = let h = c.args.self.now in held_shown h.capacity h.row_capacity h.nodes.shown h.notes.claims h.rows.items h.plain c.args.s.0 c.requires.held

pub unreachable-requires : goal.unreachable-requires
unreachable-requires c = let h = c.args.self.now in claimed_is c.state.result (held_claimed h.capacity h.row_capacity h.nodes.shown h.notes.claims h.rows.items h.plain c.args.s.0 c.requires.held c.state.result c.state.ensures) c.in_default.not-Claimed

pub set_state-requires-clause-there : goal.set_state-requires-clause-there
set_state-requires-clause-there c = let h = c.args.self.now in held_shown h.capacity h.row_capacity h.nodes.shown h.notes.claims h.rows.items h.plain c.args.s.0 c.requires.held

pub set_state-requires-clause-steps : goal.set_state-requires-clause-steps
set_state-requires-clause-steps c n here =
    let i = (goal.at.set_state-requires-clause-steps c).In-Claimed in
    let same : n.rec ≡ (node i).0 = ap (λ (m : Node). m.rec) (one_value _ _ (sym here ∙ (node i).1)) in
    let taken : c.args.steps ≡ steps (node i).0 = (c.requires.value (node i).0 (ap (option_map (λ (m : Node). m.rec)) (node i).2)).steps in
    rw (same, sym taken) (sym (min-eq_left (omega (arith, c.requires.small))))

pub invariant_of-self-clause-node_room : goal.invariant_of-self-clause-node_room
invariant_of-self-clause-node_room c =
    let h = c.args.self.now in
    let i = (goal.at.invariant_of-self-clause-node_room c).In-Claimed in
    let set : c.set_state.new.self ≡ with_state h.nodes c.args.s.0 (node i).0 (Done c.args.place c.args.steps c.in-Claimed.given_up) = c.set_state.ensures (record { rec = (node i).0; state = Claimed c.in-Claimed.given_up }) (node i).1 in
    rw set h.node_room

pub invariant_of-self-clause-plain : goal.invariant_of-self-clause-plain
invariant_of-self-clause-plain c = rw c.with-self.ensures (now_plain c)

pub invariant_of-self-clause-counted : goal.invariant_of-self-clause-counted
invariant_of-self-clause-counted c =
    let h = c.args.self.now in
    let i = (goal.at.invariant_of-self-clause-counted c).In-Claimed in
    let set : c.set_state.new.self ≡ with_state h.nodes c.args.s.0 (node i).0 (Done c.args.place c.args.steps c.in-Claimed.given_up) = c.set_state.ensures (record { rec = (node i).0; state = Claimed c.in-Claimed.given_up }) (node i).1 in
    let within = drawn_there h.capacity h.row_capacity h.nodes.shown h.rows.items c.args.s.0 _ (node i).2 in
    rw (set, c.from.ensures) (completed_counted h.nodes.shown h.work c.args.s.0 within h.counted (node i).0 c.in-Claimed.given_up c.args.place c.args.steps (node i).1)

pub overflow_add-self : goal.overflow_add-self
overflow_add-self c = let h = c.args.self.now in omega (arith, (counts_small h.capacity h.row_capacity h.nodes.shown h.notes.claims h.rows.items h.work h.plain h.counted).forced)

pub overflow_add-self-2 : goal.overflow_add-self-2
overflow_add-self-2 c = let h = c.args.self.now in omega (arith, c.requires.small, c.from.ensures, (counts_small h.capacity h.row_capacity h.nodes.shown h.notes.claims h.rows.items h.work h.plain h.counted).steps)

pub invariant_of-self-clause-law : goal.invariant_of-self-clause-law
invariant_of-self-clause-law c = let h = c.args.self.now in rw c.with-self.ensures (plain_lawful h.capacity h.row_capacity _ _ h.rows.items (now_plain c) h.notes.open_rows h.refused h.last h.law.open_in h.law.refused)

pub returns : goal.returns
returns c =
    let h = c.args.self.now in
    let i = (goal.at.returns c).In-Claimed in
    let set : c.set_state.new.self ≡ with_state h.nodes c.args.s.0 (node i).0 (Done c.args.place c.args.steps c.in-Claimed.given_up) = c.set_state.ensures (record { rec = (node i).0; state = Claimed c.in-Claimed.given_up }) (node i).1 in
    rw (c.with-self.ensures, set) (completed_view h.capacity h.row_capacity h.nodes.shown h.notes.claims h.rows.items h.plain h.notes.open_rows h.refused h.last c.args.s.0 (node i).0 c.in-Claimed.given_up (node i).2 c.args.place c.args.steps)
