use Rattle.std.proofs.Common.{◌≡◌, ℕ, true}
use Rattle.lazy_rec.specs.Named.{is_pending}
use Rattle.heap_store.specs.World.{World, recs, holds}
use Rattle.heap_store.specs.Growth.{Grows}
use Rattle.heap_store.specs.Budget.{is_funded_at}
use Rattle.heap_store.specs.Lawful.{IsLawful}
use Rattle.heap_store.specs.Jobs.{IsWork}
use Rattle.heap_store.proofs.GrowthLaws.{grows_trans}
use Rattle.kind_table.specs.Kinds.{is_any_work}
use Rattle.force_engine.proofs.Growing.{IsWork-pending}
use Rattle.store_runs.proofs.Turns.{still_work, won_room}
use Rattle.store_runs.proofs.tests.suspension.suspension_shows.Goals as goal

-- what a suspension may be asked still, in a world that shows more
may : {a b : World} → IsLawful a → (s : ℕ) → IsWork is_any_work a s → is_funded_at a s ≡ true → Grows a b → (holds (recs b) s is_pending ≡ true) × (is_funded_at b s ≡ true) × IsWork is_any_work b s
may {a} {b} law s work funded g = let k = still_work is_any_work law g s work funded in (IsWork-pending is_any_work b s k.0, k.1, k.0)

pub claim-requires-clause-pending : goal.claim-requires-clause-pending
claim-requires-clause-pending g c = (may (g.met.R.Heap.lawful c.args.heap.now).world c.args.s.0 c.requires.work c.requires.funded c.state-unforced.ensures.quiet.grows).0

pub claim-requires-clause-funded : goal.claim-requires-clause-funded
claim-requires-clause-funded g c = (may (g.met.R.Heap.lawful c.args.heap.now).world c.args.s.0 c.requires.work c.requires.funded c.state-unforced.ensures.quiet.grows).1

pub claim-requires-2-clause-pending : goal.claim-requires-2-clause-pending
claim-requires-2-clause-pending g c = (may (g.met.R.Heap.lawful c.args.heap.now).world c.args.s.0 c.requires.work c.requires.funded (grows_trans c.state-unforced.ensures.quiet.grows c.in-Won.ensures.grows)).0

pub claim-requires-2-clause-funded : goal.claim-requires-2-clause-funded
claim-requires-2-clause-funded g c = (may (g.met.R.Heap.lawful c.args.heap.now).world c.args.s.0 c.requires.work c.requires.funded (grows_trans c.state-unforced.ensures.quiet.grows c.in-Won.ensures.grows)).1

pub give_up-requires-clause-places : goal.give_up-requires-clause-places
give_up-requires-clause-places g c =
    won_room is_any_work c.args.s (may (g.met.R.Heap.lawful c.args.heap.now).world c.args.s.0 c.requires.work c.requires.funded c.state-unforced.ensures.quiet.grows).2 c.in-Won.ensures c.in-Busy.ensures.quiet

pub state-given_back-requires : goal.state-given_back-requires
state-given_back-requires g c =
    (may (g.met.R.Heap.lawful c.args.heap.now).world c.args.s.0 c.requires.work c.requires.funded (grows_trans c.state-unforced.ensures.quiet.grows (grows_trans c.in-Won.ensures.grows (grows_trans c.in-Busy.ensures.quiet.grows c.give_up.ensures.grows)))).0

pub take_turn-completed-requires-clause-work : goal.take_turn-completed-requires-clause-work
take_turn-completed-requires-clause-work g c =
    (may (g.met.R.Heap.lawful c.args.heap.now).world c.args.s.0 c.requires.work c.requires.funded
    (grows_trans c.state-unforced.ensures.quiet.grows (grows_trans c.in-Won.ensures.grows (grows_trans c.in-Busy.ensures.quiet.grows (grows_trans c.give_up.ensures.grows c.state-given_back.ensures.quiet.grows))))).2

pub take_turn-completed-requires-clause-funded : goal.take_turn-completed-requires-clause-funded
take_turn-completed-requires-clause-funded g c =
    (may (g.met.R.Heap.lawful c.args.heap.now).world c.args.s.0 c.requires.work c.requires.funded
    (grows_trans c.state-unforced.ensures.quiet.grows (grows_trans c.in-Won.ensures.grows (grows_trans c.in-Busy.ensures.quiet.grows (grows_trans c.give_up.ensures.grows c.state-given_back.ensures.quiet.grows))))).1

pub claim-third-requires-clause-pending : goal.claim-third-requires-clause-pending
claim-third-requires-clause-pending g c =
    (may (g.met.R.Heap.lawful c.args.heap.now).world c.args.s.0 c.requires.work c.requires.funded
    (grows_trans c.state-unforced.ensures.quiet.grows (grows_trans c.in-Won.ensures.grows (grows_trans c.in-Busy.ensures.quiet.grows (grows_trans c.give_up.ensures.grows (grows_trans c.state-given_back.ensures.quiet.grows c.take_turn-completed.ensures.leaves.grows)))))).0

pub claim-third-requires-clause-funded : goal.claim-third-requires-clause-funded
claim-third-requires-clause-funded g c =
    (may (g.met.R.Heap.lawful c.args.heap.now).world c.args.s.0 c.requires.work c.requires.funded
    (grows_trans c.state-unforced.ensures.quiet.grows (grows_trans c.in-Won.ensures.grows (grows_trans c.in-Busy.ensures.quiet.grows (grows_trans c.give_up.ensures.grows (grows_trans c.state-given_back.ensures.quiet.grows c.take_turn-completed.ensures.leaves.grows)))))).1
