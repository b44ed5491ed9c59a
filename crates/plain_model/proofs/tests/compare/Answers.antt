use Rattle.std.proofs.Common.{◌∙◌, sym, subst}
use Rattle.lazy_rec.specs.History.{IsScript}
use Rattle.plain_model.proofs.tests.compare.Goals as goal

pub plain_run-requires : goal.plain_run-requires
plain_run-requires g c = subst IsScript (sym (c.as_slice.ensures.value ∙ c.in_ok-events.ensures)) c.requires
