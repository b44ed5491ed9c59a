use Rattle.version_book.proofs.finish.finish.Goals as goal

pub returns-in-Err-clause-ended : goal.returns-in-Err-clause-ended
returns-in-Err-clause-ended g c r e = rw c.in-Err.is (c.end_stopped.ensures r e)

pub returns-clause-ended : goal.returns-clause-ended
returns-clause-ended g c r e = rw c.in-Ok.is (c.end_with_reply.ensures r e)
