use Rattle.std.proofs.Common.{refl, sym, ◌∙◌}
use Rattle.version_book.specs.Solo.{HasTicket, Ran}
use Rattle.version_book.proofs.Charges.{charged_call}
use Rattle.version_book.proofs.InOrder.{solo_still, uses_ended, bases_still, may_extend, event_same, ran_call}
use Rattle.version_book.proofs.solo.run_on.Goals as goal
use Rattle.version_book.proofs.solo.run_on.Goals.{After-next_ticket-ticket}

pub other_version-requires : goal.other_version-requires
other_version-requires g c = record { solo = c.requires.solo; uses = uses_ended c.args.pass.now c.args.event.now c.requires.next c.requires.based; base = c.requires.base }

pub run_lost-requires : goal.run_lost-requires
run_lost-requires g c =
    let same = c.other_version.ensures.same in
    record { solo = rw same c.requires.solo; next = rw same c.requires.next; lost = rw same c.in_default.ensures.lost }

pub returns-in_default : goal.returns-in_default
returns-in_default g c = rw c.other_version.ensures.same at c.run_lost.ensures

pub next_ticket-ticket-requires : goal.next_ticket-ticket-requires
next_ticket-ticket-requires g c =
    let same = c.other_version.ensures.same in
    record { solo = rw same c.requires.solo; room = rw same c.requires.next.room }

-- the name is drawn from the pass as it came in
has_ticket : (g : _) (c : After-next_ticket-ticket g) → HasTicket c.args.pass.now c.next_ticket-ticket.new.pass c.next_ticket-ticket.result.name
has_ticket g c = rw c.other_version.ensures.same at c.next_ticket-ticket.ensures.drawn

pub call_as-requires : goal.call_as-requires
call_as-requires g c =
    let p = c.args.pass.now in
    let q = c.next_ticket-ticket.new.pass in
    let e = c.args.event.now in
    let name = c.next_ticket-ticket.result.name in
    let t = has_ticket g (goal.at.call_as-requires g c).After-next_ticket-ticket in
    let legal = c.next_ticket-ticket.ensures.lawful.legal in
    record {
      event = sym (event_same p q name e c.requires.solo c.requires.next t legal c.requires.based c.args.base c.in-Some.other c.in-Some.ensures.bases);
      may = may_extend p q name e c.requires.solo c.requires.next t legal c.requires.based c.args.base c.in-Some.other c.in-Some.ensures.bases;
      kind = c.requires.kind;
      alone = (solo_still p q name e c.requires.solo c.requires.next t).alone;
    }

pub returns : goal.returns
returns g c =
    let p = c.args.pass.now in
    let q = c.next_ticket-ticket.new.pass in
    let r = c.call_as.new.self in
    let e = c.args.event.now in
    let name = c.next_ticket-ticket.result.name in
    let t = has_ticket g (goal.at.returns g c).After-next_ticket-ticket in
    let legal = c.next_ticket-ticket.ensures.lawful.legal in
    let ended = c.call_as.ensures.ended in
    let ran : Ran p r e = ran_call p q r name e _ c.call_as.result c.requires.solo c.requires.next t refl ended in
    record {
      ran = ran;
      lawful = c.call_as.ensures.lawful;
      charged = c.charge.ensures.value ∙ (rw c.requires.kind at (charged_call q r name e c.call_as.ensures.lawful.legal (ran.named ∙ sym t.next) c.call_as.result ended c.args.base c.in-Some.other c.requires.based (bases_still p q name e c.requires.solo c.requires.next t legal c.requires.based c.args.base c.in-Some.other c.in-Some.ensures.bases)));
      small = c.charge.ensures.small;
    }
