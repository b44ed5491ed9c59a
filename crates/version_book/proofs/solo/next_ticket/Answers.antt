use Rattle.version_book.proofs.InOrder.{ticket, out_of_names}
use Rattle.version_book.proofs.solo.next_ticket.Goals as goal

pub unreachable-requires : goal.unreachable-requires
unreachable-requires g c = out_of_names c.args.pass.now c.draw.new.self.view c.in-Err.field-0 c.requires.solo c.requires.room c.in-Err.ensures.err

pub returns : goal.returns
returns g c = record { drawn = ticket c.requires.solo c.in-Ok.ensures.ok c.draw.ensures.same; lawful = c.draw.ensures.lawful }
