use Rattle.std.proofs.Common.{suc, ◌∙◌, sym, arith, length}
use Rattle.lazy_rec.specs.History.{event_of}
use Rattle.plain_model.proofs.Standing.{no_base, not_of_kind, no_other, two_kinds, on_one, on_two, kinds_differ, kinds_agree}
use Rattle.plain_model.proofs.scripts.kind_next.Goals as goal

pub returns-in_err-kind : goal.returns-in_err-kind
returns-in_err-kind c =
    c.from_residual.ensures
    ∙ no_base (event_of c.args.events.now) (suc (length c.args.kinds.now)) c.args.event c.in_default.not-New (sym c.kind_used.ensures ∙ c.in_err-kind.was)

pub returns-then-not-has : goal.returns-then-not-has
returns-then-not-has c =
    not_of_kind (event_of c.args.events.now) (suc (length c.args.kinds.now)) c.args.event c.in_default.not-New c.in_ok-kind.kind (sym c.kind_used.ensures ∙ c.in_ok-kind.was) (sym c.if-not-has.ensures)

pub returns-in_err-other : goal.returns-in_err-other
returns-in_err-other c =
    c.from_residual-in_err-other.ensures
    ∙ no_other (event_of c.args.events.now) (suc (length c.args.kinds.now)) c.args.event c.in_default.not-New c.in_ok-kind.kind (sym c.kind_used.ensures ∙ c.in_ok-kind.was)
    (sym c.if-uses_other.ensures) (sym c.kind_used-then-uses_other.ensures ∙ c.in_err-other.was)

pub returns-then-ne : goal.returns-then-ne
returns-then-ne c =
    two_kinds (event_of c.args.events.now) (suc (length c.args.kinds.now)) c.args.event c.in_default.not-New c.in_ok-kind.kind (sym c.kind_used.ensures ∙ c.in_ok-kind.was)
    (sym c.if-uses_other.ensures) c.in_ok-other.other (sym c.kind_used-then-uses_other.ensures ∙ c.in_ok-other.was) (kinds_differ c.in_ok-other.other c.in_ok-kind.kind c.if-ne.ensures)

pub returns-else-ne : goal.returns-else-ne
returns-else-ne c =
    on_two (event_of c.args.events.now) (suc (length c.args.kinds.now)) c.args.event c.in_default.not-New c.in_ok-kind.kind (sym c.kind_used.ensures ∙ c.in_ok-kind.was)
    (omega arith) (sym c.if-not-is_trim.ensures) (sym c.if-not-has.ensures) (sym c.if-uses_other.ensures)
    c.in_ok-other.other (sym c.kind_used-then-uses_other.ensures ∙ c.in_ok-other.was) (kinds_agree c.in_ok-other.other c.in_ok-kind.kind c.if-ne.ensures)

pub returns-else-uses_other : goal.returns-else-uses_other
returns-else-uses_other c =
    on_one (event_of c.args.events.now) (suc (length c.args.kinds.now)) c.args.event c.in_default.not-New c.in_ok-kind.kind (sym c.kind_used.ensures ∙ c.in_ok-kind.was)
    (omega arith) (sym c.if-not-is_trim.ensures) (sym c.if-not-has.ensures) (sym c.if-uses_other.ensures)
