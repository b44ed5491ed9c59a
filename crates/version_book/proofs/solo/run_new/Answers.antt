use Rattle.std.proofs.Common.{sym, ◌∙◌, subst, arith}
use Rattle.dues.proofs.RoomLaws.{due_fits}
use Rattle.version_book.specs.Calls.{Ended}
use Rattle.version_book.specs.Solo.{Ran}
use Rattle.version_book.proofs.Charges.{charged_new}
use Rattle.version_book.proofs.InOrder.{no_plan, built_new, new_is, ran_call}
use Rattle.version_book.proofs.solo.run_new.Goals as goal

pub next_ticket-ticket-requires : goal.next_ticket-ticket-requires
next_ticket-ticket-requires g c = record { solo = c.requires.solo; room = c.requires.next.room }

pub begin_new-requires : goal.begin_new-requires
begin_new-requires g c =
    let p = c.args.pass.now in
    let q = c.next_ticket-ticket.new.pass in
    let name = c.next_ticket-ticket.result.name in
    let t = c.next_ticket-ticket.ensures.drawn in
    record {
      drawn = t.drawn;
      built = built_new p q name c.args.event.now c.requires.solo c.requires.next t c.args.kind c.requires.new;
      planned = λ events h. no_plan p q name c.args.event.now c.requires.solo c.requires.next t events h;
    }

pub returns : goal.returns
returns g c =
    let p = c.args.pass.now in
    let q = c.next_ticket-ticket.new.pass in
    let r = c.begin_new.new.self in
    let e = c.args.event.now in
    let name = c.next_ticket-ticket.result.name in
    let t = c.next_ticket-ticket.ensures.drawn in
    let same = sym (new_is p q name e c.requires.solo c.requires.next t c.args.kind c.requires.new) in
    let ran : Ran p r e = ran_call p q r name e _ c.begin_new.result c.requires.solo c.requires.next t same c.begin_new.ensures.ended in
    record {
      ran = ran;
      lawful = c.begin_new.ensures.lawful;
      charged = c.due.ensures ∙ charged_new q r name e c.begin_new.ensures.lawful.legal (ran.named ∙ sym t.next) c.begin_new.result (subst (λ x. Ended q r name x c.begin_new.result) same c.begin_new.ensures.ended) c.args.kind c.requires.new;
      small = omega (arith, due_fits c.args.kind e.op 0 0, c.due.ensures);
    }
