use Rattle.std.proofs.Common.{◌≡◌, ◌++◌, length, take, ap, ◌∙◌, arith}
use Rattle.report_text.proofs.Filled.{take-filled}
use Rattle.report_text.proofs.text.Text.put.Goals as goal

pub returns-clause-text : goal.returns-clause-text
returns-clause-text c =
    let len = c.self.inside.len in
    let count = c.args.count in
    let old = c.deref_mut.result.now in
    let new = c.copy_from_slice.new.self in
    let written : take len old ≡ c.args.self.now.text = ap (take len) c.deref_mut.ensures.value ∙ ap (λ t. t.text) c.self.view_is in
    let copied : new ≡ c.args.piece.now = c.copy_from_slice.ensures.after in
    let room = ap (λ t. t.room) c.self.view_is in
    let front = take-filled len count c.self.inside.bytes.len old new in
    rw (front _ _ (omega (arith, c.deref_mut.ensures.len, c.self.invariant)) (omega (arith, ap length copied, c.requires.within)) (omega (arith, room, c.requires.within, c.requires.room, c.self.invariant)), written)
    (ap (λ ys. c.args.self.now.text ++ take count ys) copied)
