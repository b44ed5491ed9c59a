use Rattle.std.proofs.Common.{◌≡◌, sym, ◌∙◌, Some, None}
use Rattle.version_book.proofs.InOrder.{ticket}
use Rattle.lazy_tool.proofs.book_tests.three_items.Goals as goal

pub begin_new-requires-clause-drawn : goal.begin_new-requires-clause-drawn
begin_new-requires-clause-drawn c = (ticket c.requires.solo c.in_ok-ticket.ensures.ok c.draw.ensures.same).drawn

pub begin_new-requires-clause-planned : goal.begin_new-requires-clause-planned
begin_new-requires-clause-planned c events planned =
    let t = ticket c.requires.solo c.in_ok-ticket.ensures.ok c.draw.ensures.same in
    let none : None ≡ Some events = sym (rw t.about c.requires.solo.plan) ∙ planned in
    cc
