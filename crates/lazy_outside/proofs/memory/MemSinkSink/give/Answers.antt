use Rattle.std.proofs.Common.{arith, ◌≡◌, ◌++◌, take, ap, ◌∙◌}
use Rattle.std.proofs.lemmas.Grind.{common_steps}
use Rattle.lazy_outside.proofs.Moves.{take-filled}
use Rattle.lazy_outside.proofs.memory.MemSinkSink.give.Goals as goal

pub returns-clause-bytes : goal.returns-clause-bytes
returns-clause-bytes c =
    let used = c.self.inside.used in
    let count = c.min-count.result in
    let old = c.deref_mut.result.now in
    let new = c.copy_from_slice.new.self in
    let held : take used old ≡ c.args.self.now.held = ap (take used) c.deref_mut.ensures.value ∙ ap (λ s. s.held) c.self.view_is in
    let copied : take count new ≡ take count c.args.piece.now = grind (arith, common_steps, c.copy_from_slice.ensures.after) in
    let front = take-filled used count c.self.inside.room.len old new in
    (omega arith, omega arith, rw (front _ _ (omega arith) (omega arith) (omega arith), held) (ap (λ ys. c.args.self.now.held ++ ys) copied))
