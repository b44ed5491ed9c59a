use Rattle.std.proofs.Common.{◌≡◌, ℕ, ◌+◌, ◌*◌, ◌<◌, ◌≤◌, refl, sym, ap, ◌∙◌, arith, subst, true}
use Rattle.std.specs.Prelude.{slice_index}
use Rattle.word_store.specs.Passes.{view_of}
use Rattle.word_store.specs.Views.{view_with}
use Rattle.word_store.proofs.PassViews.{looked_quiet, counts_quiet}
use Rattle.word_store.proofs.PassRows.{drawn_named, none_named, quiet_named, quiet_unnamed, none_seen, number_found, name_told}
use Rattle.word_store.proofs.rows.PassRows.draw_name.Goals as goal

pub returns-then-drawn-self-clause-err : goal.returns-then-drawn-self-clause-err
returns-then-drawn-self-clause-err c =
    let p = c.args.self.now in let q = c.look-drawn.new.self in let x = c.look-drawn.result in
    none_seen p q (view_with q.seat.me.0 q.caller q.refused q.last q.drawn x) x c.look-drawn.ensures.play (counts_quiet p q q.drawn x (looked_quiet p q _ x c.look-drawn.ensures.play c.look-drawn.ensures.stays))
    (omega (arith, number_found q.seat.me.0 1 x c.look-drawn.ensures.play.found)) (omega (arith, c.if-drawn-self.true, ap (λ l. l.rows) c.look-drawn.ensures.stays.layout)) x refl

pub returns-then-found-self-clause-err : goal.returns-then-found-self-clause-err
returns-then-found-self-clause-err c =
    let p = c.args.self.now in let q = c.look-drawn.new.self in let r = c.draw_next-found.new.self in let x = c.draw_next-found.result in
    let left : slice_index q.seat.me.0.words 1 < q.layout.rows = omega (arith, c.if-drawn-self.false, c.look-drawn.ensures.play.found) in
    let w = view_with r.seat.me.0 r.caller r.refused r.last r.drawn x in
    quiet_unnamed (view_of p) (view_of q) w _ (looked_quiet p q _ c.look-drawn.result c.look-drawn.ensures.play c.look-drawn.ensures.stays)
    (none_named q r x c.draw_next-found.ensures.play c.draw_next-found.ensures.stays left w refl (name_told q r x c.draw_next-found.ensures.play) (omega (arith, c.if-found-self.true, ap (λ l. l.rows) c.draw_next-found.ensures.stays.layout)) x refl)

pub returns-clause-ok : goal.returns-clause-ok
returns-clause-ok c =
    let p = c.args.self.now in let q = c.look-drawn.new.self in let r = c.draw_next-found.new.self in let x = c.draw_next-found.result in
    let quiet = looked_quiet p q _ c.look-drawn.result c.look-drawn.ensures.play c.look-drawn.ensures.stays in
    let left : slice_index q.seat.me.0.words 1 < q.layout.rows = omega (arith, c.if-drawn-self.false, c.look-drawn.ensures.play.found) in
    let is : x + 1 ≡ Rattle.std.proofs.Common.suc x = omega arith in
    quiet_named p q (view_of r) x (x + 1) quiet (omega (arith, c.look-drawn.ensures.play.goes.names_up, c.draw_next-found.ensures.play.least)) is
    (drawn_named q r x c.draw_next-found.ensures.play c.draw_next-found.ensures.stays left (x + 1) is (omega (arith, c.if-found-self.false, ap (λ l. l.rows) c.draw_next-found.ensures.stays.layout)))
