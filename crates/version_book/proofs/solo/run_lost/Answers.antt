use Rattle.std.proofs.Common.{sym, ◌∙◌, arith}
use Rattle.version_book.specs.Solo.{Ran}
use Rattle.version_book.proofs.Charges.{charged_skip}
use Rattle.version_book.proofs.InOrder.{next_event, ran_skip}
use Rattle.version_book.proofs.solo.run_lost.Goals as goal

pub next_ticket-ticket-requires : goal.next_ticket-ticket-requires
next_ticket-ticket-requires g c = record { solo = c.requires.solo; room = c.requires.next.room }

pub skip-requires : goal.skip-requires
skip-requires g c =
    let t = c.next_ticket-ticket.ensures.drawn in
    record {
      drawn = t.drawn;
      event = next_event c.args.pass.now c.next_ticket-ticket.new.pass c.next_ticket-ticket.result.name c.args.event.now c.requires.solo c.requires.next t;
      lost = rw t.seen c.requires.lost;
    }

pub returns : goal.returns
returns g c =
    let p = c.args.pass.now in
    let q = c.next_ticket-ticket.new.pass in
    let r = c.skip.new.self in
    let e = c.args.event.now in
    let name = c.next_ticket-ticket.result.name in
    let t = c.next_ticket-ticket.ensures.drawn in
    let ran : Ran p r e = ran_skip p q r name e c.requires.solo c.requires.next t c.skip.ensures.skipped in
    record {
      ran = ran;
      lawful = c.skip.ensures.lawful;
      charged = charged_skip q r name e c.skip.ensures.lawful.legal (ran.named ∙ sym t.next) c.skip.ensures.skipped;
      small = omega arith;
    }
