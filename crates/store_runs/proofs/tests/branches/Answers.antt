use Rattle.std.proofs.Common.{◌∙◌}
use Rattle.version_book.proofs.Extending.{seen_later}
use Rattle.store_runs.proofs.tests.branches.Goals as goal

pub loop-preserved : goal.loop-preserved
loop-preserved g c = let i = c.loop.invariant in record {
  about = c.longer.ensures.about ∙ i.about;
  caller = c.longer.ensures.caller ∙ i.caller;
  seen = seen_later c.loop.pass c.longer.new.pass c.args.base c.longer.ensures.grows i.seen;
}
