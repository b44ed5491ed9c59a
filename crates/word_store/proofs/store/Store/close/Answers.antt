use Rattle.std.proofs.Common.{◌≡◌, List, length, map, sym, ap, ◌∙◌, arith, subst}
use Rattle.word_store.specs.declared.sight.Sight.{Sight}
use Rattle.word_store.specs.declared.pass.Pass.{Pass}
use Rattle.word_store.specs.Passes.{sight_of}
use Rattle.word_store.specs.Joined.{gathered}
use Rattle.word_store.specs.Closing.{IsClosing}
use Rattle.word_store.proofs.LastWorld.{numbers, seat_is_last, closing, map_length}
use Rattle.word_store.proofs.store.Store.close.Goals as goal

pub look_last-requires : goal.look_last-requires
look_last-requires g c = let s = c.args.self in let ps : List Pass = map (λ q. q.pass) c.args.passes.items in
    let many : length ps ≡ s.next = omega (arith, map_length (λ q. q.pass) c.args.passes.items, c.args.passes.ok.0, c.requires.all) in
    let is = c.take_in_all.ensures.gathered ∙ ap (λ v. gathered v (map sight_of ps)) s.seen in
    record { some = omega (arith, ap (λ (v : Sight). length v.numbers) is, numbers s.layout.nodes s.layout.rows s.callers s.next s.small.2 s.small.4 ps many c.requires.closable, s.small.2) }

pub copy-requires-clause-last : goal.copy-requires-clause-last
copy-requires-clause-last g c = let s = c.args.self in let ps : List Pass = map (λ q. q.pass) c.args.passes.items in
    let many : length ps ≡ s.next = omega (arith, map_length (λ q. q.pass) c.args.passes.items, c.args.passes.ok.0, c.requires.all) in
    let is = c.take_in_all.ensures.gathered ∙ ap (λ v. gathered v (map sight_of ps)) s.seen in
    seat_is_last s.layout.nodes s.layout.rows s.callers s.next s.small.2 s.small.4 ps many c.requires.closable c.take_in_all.new.self.seat.me c.look_last.new.self.seat.me c.look_last.ensures.play is

pub returns-clause-ok : goal.returns-clause-ok
returns-clause-ok g c = let s = c.args.self in let ps : List Pass = map (λ q. q.pass) c.args.passes.items in
    let many : length ps ≡ s.next = omega (arith, map_length (λ q. q.pass) c.args.passes.items, c.args.passes.ok.0, c.requires.all) in
    let is = c.take_in_all.ensures.gathered ∙ ap (λ v. gathered v (map sight_of ps)) s.seen in
    subst (IsClosing s.layout.nodes s.layout.rows s.callers ps) (sym c.of.ensures)
    (closing s.layout.nodes s.layout.rows s.callers s.next s.small.2 s.small.4 ps many c.requires.closable c.take_in_all.new.self.seat.me c.look_last.new.self.seat.me c.look_last.ensures.play is c.copy.new.words.items c.copy.ensures)
