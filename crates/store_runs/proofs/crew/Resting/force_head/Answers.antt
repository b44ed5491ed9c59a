use Rattle.store_runs.proofs.Turns.{leaves_quiet, leaves_trans}
use Rattle.store_runs.proofs.Shares.{share_after}
use Rattle.store_runs.proofs.crew.Resting.force_head.Goals as goal

pub returns-clause-leaves : goal.returns-clause-leaves
returns-clause-leaves g c = leaves_trans (leaves_quiet c.args.self.now.claims c.need_of_head.ensures.quiet) c.force_in_turns.ensures.leaves

pub returns-clause-share : goal.returns-clause-share
returns-clause-share g c = share_after c.need_of_head.ensures.quiet.grows c.force_in_turns.ensures.share
