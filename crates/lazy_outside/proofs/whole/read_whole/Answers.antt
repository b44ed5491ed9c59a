use Rattle.std.proofs.Common.{arith, ◌≡◌, ◌+◌, ◌≤◌, vec_len, take, ap, ◌∙◌}
use Rattle.std.proofs.lemmas.Grind.{common_steps}
use Rattle.lazy_outside.proofs.Moves.{Consumes-append, take-filled}
use Rattle.lazy_outside.proofs.whole.read_whole.Goals as goal

pub loop-filled-preserved : goal.loop-filled-preserved
loop-filled-preserved g c =
    let filled = c.loop-filled.filled in
    let old = c.deref_mut.result.now in
    let taken = c.in-Bytes.ensures.bytes in
    let buffer = c.take.auto.buf in
    let fits : filled + c.in-Bytes.count ≤ vec_len c.make_room.new.bytes = grind (arith, common_steps, taken.1, buffer) in
    let kept : take filled old ≡ take filled c.loop-filled.bytes.items = ap (take filled) c.deref_mut.ensures.value ∙ c.make_room.ensures.kept in
    let front = take-filled filled c.in-Bytes.count (vec_len c.make_room.new.bytes) old c.take.new.buf in
    record {
      filled = fits;
      within = c.make_room.ensures.within;
      front = rw (front _ _ (omega arith) taken.1 fits, kept) (Consumes-append _ _ _ _ _ c.loop-filled.invariant.front taken.2);
      never_falls = omega (arith, c.loop-filled.invariant.never_falls, c.take.ensures.never_falls);
      still = c.take.ensures.still (λ e. (let f = c.in-Bytes.is in cc)) ∙ c.loop-filled.invariant.still;
    }
