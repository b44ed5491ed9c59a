use Rattle.std.proofs.Common.{◌≡◌, sym, ◌∙◌, arith, subst, true}
use mathlib.Core.Option.{none}
use Rattle.atomic_table.specs.Table.{step}
use Rattle.lazy_rec.specs.States.{state_word, state_in_range}
use Rattle.word_world.specs.Words.{state_of_word}
use Rattle.word_store.specs.Plays.{Looked}
use Rattle.word_store.specs.Passes.{sight_of, slots_of}
use Rattle.word_store.proofs.PassReads.{held_within}
use Rattle.word_store.proofs.PassViews.{looked_quiet}
use Rattle.word_store.proofs.PassClaims.{found, found_word, found_before, found_now}
use Rattle.word_store.proofs.pass.Pass.count_given_up.Goals as goal

pub look-requires : goal.look-requires
look-requires c = let p = c.args.self.now in omega (arith, held_within (sight_of p) p.sound c.args.s.0 c.requires.held, p.sized.0, c.state_word.ensures)

pub state_of-requires-clause-range : goal.state_of-requires-clause-range
state_of-requires-clause-range c = let p = c.args.self.now in let q = c.look.new.self in
    let k = subst (λ i. Looked (step (slots_of p) i 0 0 none) p.seat.me c.look.result q.seat.me) c.state_word.ensures c.look.ensures.play in
    let f = found p q c.args.s.0 c.look.result k c.requires.held in
    subst (λ n. state_in_range (state_of_word n) ≡ true) (sym k.found) (q.sound.well.ranges c.args.s.0 f.inside)

pub state_of-requires-clause-word : goal.state_of-requires-clause-word
state_of-requires-clause-word c = let p = c.args.self.now in let q = c.look.new.self in
    let k = subst (λ i. Looked (step (slots_of p) i 0 0 none) p.seat.me c.look.result q.seat.me) c.state_word.ensures c.look.ensures.play in
    let f = found p q c.args.s.0 c.look.result k c.requires.held in
    subst (λ n. state_word (state_of_word n) ≡ n) (sym k.found) (q.sound.well.states c.args.s.0 f.inside)

pub unreachable-requires : goal.unreachable-requires
unreachable-requires c = let p = c.args.self.now in let q = c.look.new.self in
    let k = subst (λ i. Looked (step (slots_of p) i 0 0 none) p.seat.me c.look.result q.seat.me) c.state_word.ensures c.look.ensures.play in
    c.in_default.not-Claimed _ (c.state_of.ensures ∙ found_word p q c.args.s.0 c.look.result k c.requires.held)

pub returns-clause-quiet : goal.returns-clause-quiet
returns-clause-quiet c = looked_quiet c.args.self.now c.look.new.self _ c.look.result c.look.ensures.play c.look.ensures.stays

pub returns-clause-before : goal.returns-clause-before
returns-clause-before c = let p = c.args.self.now in let q = c.look.new.self in
    let k = subst (λ i. Looked (step (slots_of p) i 0 0 none) p.seat.me c.look.result q.seat.me) c.state_word.ensures c.look.ensures.play in
    found_before p q c.args.s.0 c.look.result k c.requires.held c.in-Claimed.given_up (sym c.state_of.ensures ∙ c.in-Claimed.is)

pub returns-clause-now : goal.returns-clause-now
returns-clause-now c = let p = c.args.self.now in let q = c.look.new.self in
    let k = subst (λ i. Looked (step (slots_of p) i 0 0 none) p.seat.me c.look.result q.seat.me) c.state_word.ensures c.look.ensures.play in
    found_now p q c.args.s.0 c.look.result k c.requires.held c.in-Claimed.given_up (sym c.state_of.ensures ∙ c.in-Claimed.is)
