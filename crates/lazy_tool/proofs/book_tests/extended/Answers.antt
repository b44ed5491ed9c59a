use Rattle.version_book.proofs.Extending.{may_extend_one}
use Rattle.lazy_tool.proofs.book_tests.extended.Goals as goal

pub call-requires-clause-may : goal.call-requires-clause-may
call-requires-clause-may c =
    may_extend_one c.args.pass.now c.draw.new.self c.in_ok-ticket.ticket.name c.args.op c.args.base c.args.arg c.requires.solo c.requires.lawful
    c.in_ok-ticket.ensures.ok c.draw.ensures.same c.requires.seen (rw c.requires.kind c.requires.built) c.requires.based c.requires.alone c.requires.argument
