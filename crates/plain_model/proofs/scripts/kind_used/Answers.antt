use Rattle.std.proofs.Common.{ℕ, ◌<◌, ◌-◌, ◌∙◌, ap, sym, arith}
use Rattle.std.specs.Prelude.{slice_get}
use Rattle.lazy_rec.specs.History.{event_name}
use Rattle.plain_model.proofs.Standing.{used-at}
use Rattle.plain_model.proofs.scripts.kind_used.Goals as goal

pub returns : goal.returns
returns c =
    let name = c.event_name-name.ensures in
    let pos : 0 < event_name c.args.version = omega arith in
    c.kind_at.ensures
    ∙ ap (λ (n : ℕ). slice_get c.args.kinds.now (n - 1)) name
    ∙ used-at c.args.events.now c.args.kinds.now c.args.version c.requires pos (sym c.if-not-is_named_well.ensures)
