use Rattle.std.proofs.Common.{◌≡◌, ◌∷◌, Option, Some, ap, ◌∙◌, true}
use Rattle.std.specs.Prelude.{option_and_then}
use Rattle.lazy_rec.specs.declared.records.Rec.{Rec}
use Rattle.lazy_rec.specs.declared.states.SuspState.{SuspState}
use Rattle.lazy_rec.specs.declared.states.SuspState.TheVariants.{Unforced, Claimed, Done}
use Rattle.lazy_rec.specs.Named.{is_pending}
use Rattle.lazy_rec.specs.States.{kept}
use Rattle.heap_store.specs.declared.nodes.Node.{Node}
use Rattle.heap_store.specs.World.{node_at}
use Rattle.heap_store.specs.Hand.{fresh_claim}
use Rattle.heap_store.specs.Budget.{is_funded}
use Rattle.heap_store.specs.Plain.{IsPlain, plain_world, is_claimed_node}
use Rattle.heap_store.proofs.Steps.{Quiet_refl}
use Rattle.heap_store.specs.Slots.{at_place}
use Rattle.heap_store.proofs.PlainReads.{with_state, there, within_read, shown_read, state_node, passed_at}
use Rattle.heap_store.proofs.PlainWorlds.{plain_lawful}
use Rattle.heap_store.proofs.PlainCounts.{won_counted}
use Rattle.heap_store.proofs.PlainSteps.{won_plain, won_view}
use Rattle.heap_store.proofs.plain.PlainHeapClaims.claim.Goals as goal
use Rattle.heap_store.proofs.plain.PlainHeapClaims.claim.Goals.{In-Unforced, After-with-self}

-- the node whose state was read
node : (c : In-Unforced) → (r : Rec) × (at_place c.args.self.now.nodes.shown c.args.s.0 ≡ Some (record { rec = r; state = Unforced c.in-Unforced.given_up }))
node c = state_node (at_place c.args.self.now.nodes.shown c.args.s.0) (Unforced c.in-Unforced.given_up) (c.state.ensures ∙ ap {B = Option SuspState} (λ t. Some t) c.in-Unforced.is)

here : (c : In-Unforced) → node_at (plain_world c.args.self.now.capacity c.args.self.now.row_capacity c.args.self.now.nodes.shown c.args.self.now.rows.items) c.args.s.0 ≡ Some (record { rec = (node c).0; state = Unforced c.in-Unforced.given_up })
here c = let h = c.args.self.now in there h.capacity h.row_capacity h.nodes.shown h.rows.items c.args.s.0 is_pending c.requires.pending ∙ (node c).1

pending : (c : In-Unforced) → is_pending (node c).0 ≡ true
pending c = let h = c.args.self.now in passed_at (plain_world h.capacity h.row_capacity h.nodes.shown h.rows.items) c.args.s.0 is_pending (record { rec = (node c).0; state = Unforced c.in-Unforced.given_up }) (here c) c.requires.pending

paid : (c : In-Unforced) → is_funded (plain_world c.args.self.now.capacity c.args.self.now.row_capacity c.args.self.now.nodes.shown c.args.self.now.rows.items) c.args.s.0 (node c).0 ≡ true
paid c =
    let h = c.args.self.now in
    let w = plain_world h.capacity h.row_capacity h.nodes.shown h.rows.items in
    passed_at w c.args.s.0 (is_funded w c.args.s.0) (record { rec = (node c).0; state = Unforced c.in-Unforced.given_up }) (here c) c.requires.funded

now_plain : (c : After-with-self) → IsPlain c.args.self.now.capacity c.args.self.now.row_capacity c.set_state.new.self.shown (fresh_claim c.args.s ∷ c.args.self.now.notes.claims) c.args.self.now.rows.items
now_plain c =
    let h = c.args.self.now in
    let i = (goal.at.invariant_of-self-clause-plain c).In-Unforced in
    let set : c.set_state.new.self ≡ with_state h.nodes c.args.s.0 (node i).0 (Claimed c.in-Unforced.given_up) = c.set_state.ensures (record { rec = (node i).0; state = Unforced c.in-Unforced.given_up }) (node i).1 in
    rw set (won_plain h.capacity h.row_capacity h.nodes.shown h.notes.claims h.rows.items h.plain h.notes.open_rows h.refused h.last c.args.s (node i).0 c.in-Unforced.given_up (here i) (pending i) (paid i))

pub state-requires : goal.state-requires
state-requires c = let h = c.args.self.now in shown_read h.capacity h.row_capacity h.nodes.shown h.rows.items c.args.s.0 is_pending c.requires.pending

pub set_state-requires-clause-there : goal.set_state-requires-clause-there
set_state-requires-clause-there c = let h = c.args.self.now in shown_read h.capacity h.row_capacity h.nodes.shown h.rows.items c.args.s.0 is_pending c.requires.pending

pub invariant_of-self-clause-node_room : goal.invariant_of-self-clause-node_room
invariant_of-self-clause-node_room c =
    let h = c.args.self.now in
    let i = (goal.at.invariant_of-self-clause-node_room c).In-Unforced in
    let set : c.set_state.new.self ≡ with_state h.nodes c.args.s.0 (node i).0 (Claimed c.in-Unforced.given_up) = c.set_state.ensures (record { rec = (node i).0; state = Unforced c.in-Unforced.given_up }) (node i).1 in
    rw set h.node_room

pub invariant_of-self-clause-plain : goal.invariant_of-self-clause-plain
invariant_of-self-clause-plain c = rw c.with-self.ensures (now_plain c)

pub invariant_of-self-clause-counted : goal.invariant_of-self-clause-counted
invariant_of-self-clause-counted c =
    let h = c.args.self.now in
    let i = (goal.at.invariant_of-self-clause-counted c).In-Unforced in
    let set : c.set_state.new.self ≡ with_state h.nodes c.args.s.0 (node i).0 (Claimed c.in-Unforced.given_up) = c.set_state.ensures (record { rec = (node i).0; state = Unforced c.in-Unforced.given_up }) (node i).1 in
    let within = within_read h.capacity h.row_capacity h.nodes.shown h.rows.items c.args.s.0 is_pending c.requires.pending in
    rw set (won_counted h.nodes.shown h.work c.args.s.0 within h.counted (node i).0 c.in-Unforced.given_up (node i).1)

pub invariant_of-self-clause-law : goal.invariant_of-self-clause-law
invariant_of-self-clause-law c = let h = c.args.self.now in rw c.with-self.ensures (plain_lawful h.capacity h.row_capacity _ _ h.rows.items (now_plain c) h.notes.open_rows h.refused h.last h.law.open_in h.law.refused)

pub returns-in-Unforced : goal.returns-in-Unforced
returns-in-Unforced c =
    let h = c.args.self.now in
    let i = (goal.at.returns-in-Unforced c).In-Unforced in
    let set : c.set_state.new.self ≡ with_state h.nodes c.args.s.0 (node i).0 (Claimed c.in-Unforced.given_up) = c.set_state.ensures (record { rec = (node i).0; state = Unforced c.in-Unforced.given_up }) (node i).1 in
    rw (c.with-self.ensures, set) (won_view h.capacity h.row_capacity h.nodes.shown h.notes.claims h.rows.items h.plain h.notes.open_rows h.refused h.last c.args.s (node i).0 c.in-Unforced.given_up (here i) (pending i) (paid i))

pub returns-in-Claimed : goal.returns-in-Claimed
returns-in-Claimed c =
    let h = c.args.self.now in
    let n = state_node (at_place h.nodes.shown c.args.s.0) (Claimed c.in-Claimed.given_up) (c.state.ensures ∙ ap {B = Option SuspState} (λ t. Some t) c.in-Claimed.is) in
    record {
      quiet = Quiet_refl _;
      claimed = ap is_claimed_node (there h.capacity h.row_capacity h.nodes.shown h.rows.items c.args.s.0 is_pending c.requires.pending ∙ n.1);
    }

pub returns-in-Done : goal.returns-in-Done
returns-in-Done c =
    let h = c.args.self.now in
    let n = state_node (at_place h.nodes.shown c.args.s.0) (Done c.in-Done.place c.in-Done.steps c.in-Done.given_up) (c.state.ensures ∙ ap {B = Option SuspState} (λ t. Some t) c.in-Done.is) in
    record {
      quiet = Quiet_refl _;
      steps = c.in-Done.steps;
      done = ap (option_and_then (λ (n : Node). kept n.state)) (there h.capacity h.row_capacity h.nodes.shown h.rows.items c.args.s.0 is_pending c.requires.pending ∙ n.1);
    }
