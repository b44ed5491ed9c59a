use Rattle.std.proofs.Common.{ℕ, ap, ap₂, arith}
use Rattle.word_store.specs.Passes.{view_of}
use Rattle.word_store.proofs.PassViews.{looked_quiet, none_reserved, drawn_reserved, quiet_reserved, quiet_refused, vain_refused, never_vain}
use Rattle.word_store.proofs.heap.PassHeap.reserve.Goals as goal

pub returns-then-k-eq0-clause-ok : goal.returns-then-k-eq0-clause-ok
returns-then-k-eq0-clause-ok c = none_reserved c.args.self.now c.args.k c.new.result c.if-k-eq0.true c.new.ensures.next c.new.ensures.end

pub overflow_add-drawn : goal.overflow_add-drawn
overflow_add-drawn c = let q = c.look-drawn.new.self in omega (arith, q.sound.low, c.look-drawn.ensures.play.found, c.ranges.k)

pub returns-clause-ok : goal.returns-clause-ok
returns-clause-ok c =
    let p = c.args.self.now in let q = c.look-drawn.new.self in let r = c.draw-found.new.self in
    quiet_reserved (view_of p) (view_of q) (view_of r) c.args.k c.new-2.result (looked_quiet p q _ c.look-drawn.result c.look-drawn.ensures.play c.look-drawn.ensures.stays)
    (drawn_reserved q r c.args.k c.draw-found.result c.new-2.result c.draw-found.ensures.play c.draw-found.ensures.stays (omega (arith, c.if-found-k.false, ap (λ l. l.nodes) c.draw-found.ensures.stays.layout)) (omega (arith, c.new-2.ensures.next)) (omega (arith, c.new-2.ensures.end)))

pub refuse-requires-clause-now : goal.refuse-requires-clause-now
refuse-requires-clause-now c = λ e. c.look-drawn.ensures.play.found

pub refuse-requires-then-found-k-clause-now : goal.refuse-requires-then-found-k-clause-now
refuse-requires-then-found-k-clause-now c = λ e. absurd (never_vain c.look-drawn.new.self c.draw-found.new.self c.args.k c.draw-found.result c.draw-found.ensures.play (ap (λ l. l.nodes) c.draw-found.ensures.stays.layout) (omega (arith, c.if-found-k.true)) (omega (arith, c.if-drawn-k.false, c.look-drawn.ensures.play.found, ap (λ l. l.nodes) c.look-drawn.ensures.stays.layout)) e)

pub returns-then-drawn-k-clause-err : goal.returns-then-drawn-k-clause-err
returns-then-drawn-k-clause-err c = let p = c.args.self.now in let q = c.look-drawn.new.self in
    quiet_refused (view_of p) (view_of q) (view_of c.refuse.new.self) c.args.k c.refuse.result (looked_quiet p q _ c.look-drawn.result c.look-drawn.ensures.play c.look-drawn.ensures.stays) c.refuse.ensures.refused

pub returns-then-found-k-clause-err : goal.returns-then-found-k-clause-err
returns-then-found-k-clause-err c =
    let p = c.args.self.now in let q = c.look-drawn.new.self in let r = c.draw-found.new.self in let t = c.refuse-then-found-k.new.self in
    quiet_refused (view_of p) (view_of q) (view_of t) c.args.k c.refuse-then-found-k.result (looked_quiet p q _ c.look-drawn.result c.look-drawn.ensures.play c.look-drawn.ensures.stays)
    (vain_refused q r (view_of t) c.args.k c.draw-found.result c.refuse-then-found-k.result c.draw-found.ensures.play c.draw-found.ensures.stays
    (omega (arith, c.if-found-k.true, ap (λ l. l.nodes) c.draw-found.ensures.stays.layout)) (omega (arith, c.if-drawn-k.false, c.look-drawn.ensures.play.found))
    (ap₂ (λ (n w : ℕ). record { drawn = n; wanted = w }) c.refuse-then-found-k.ensures.drawn c.refuse-then-found-k.ensures.wanted) c.refuse-then-found-k.ensures.refused)
