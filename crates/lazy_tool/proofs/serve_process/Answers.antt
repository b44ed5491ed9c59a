use Rattle.std.proofs.Common.{◌≡◌, refl}
use Rattle.lazy_tool.specs.Outcome.{status_of}
use Rattle.lazy_tool.proofs.serve_process.Goals.{in-Ok, in-Err}
use Rattle.lazy_tool.proofs.serve_process.Goals as goal

pub returns : goal.returns
returns c =
    let status : c.match-words_of.outcome.status ≡ status_of c.match-words_of.outcome.why c.match-words_of.outcome.closed =
    elim c.match-words_of.branch [ in-Ok w ↦ rw w.outcome-is w.run_solo-outcome.ensures.status | in-Err w ↦ rw (w.outcome-is, w.without_book-outcome.ensures) refl ] in
    record { cause = c.match-words_of.outcome.why; closed = c.match-words_of.outcome.closed; status_is = status; says = c.fault_text.ensures }
