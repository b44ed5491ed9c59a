use Rattle.version_book.proofs.finish.end_stopped.Goals as goal

pub returns-in-Full : goal.returns-in-Full
returns-in-Full g c r e = rw c.in-Full.is (c.end_full.ensures r e)

pub returns-in-NoMemory : goal.returns-in-NoMemory
returns-in-NoMemory g c r e = rw c.in-NoMemory.is (c.end_for_memory.ensures r e)
