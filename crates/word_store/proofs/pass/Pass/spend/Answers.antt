use Rattle.std.proofs.Common.{sym, ap, ◌∙◌, arith, subst}
use mathlib.Core.Option.{none}
use Rattle.atomic_table.specs.Table.{step}
use Rattle.word_world.specs.Words.{state_word_at}
use Rattle.word_store.specs.Plays.{Spent}
use Rattle.word_store.specs.Passes.{sight_of, slots_of}
use Rattle.word_store.proofs.Allowed.{spend_allowed}
use Rattle.word_store.proofs.PassSteps.{rights_of, same_sizes, same_number, same_law}
use Rattle.word_store.proofs.PassReads.{held_within}
use Rattle.std.specs.Prelude.{slice_set}
use Rattle.word_store.proofs.pass.Pass.spend.Goals as goal

pub store-requires : goal.store-requires
store-requires c = let p = c.args.self.now in let e = p.tied ∙ ap (λ t. t.shared.table_id) (sym c.deref.ensures) in
    (e, omega (arith, p.long, ap (λ t. t.words) e, held_within (sight_of p) p.sound c.args.s.0 c.requires.held, p.sized.0, c.state_word.ensures), spend_allowed c.deref.result.now.shared.key c.deref.result.now.shared.table_id.slots p.seat.id p.seat.me c.state_word.result c.args.s.0 c.to_word-word.result c.args.state c.state_word.ensures c.to_word-word.ensures (rights_of p) p.sound.told p.sound c.requires.held c.requires.may)

pub invariant_of-self : goal.invariant_of-self
invariant_of-self c = let p = c.args.self.now in let t = c.store.ensures in let after = slice_set p.seat.me.0.words c.state_word.result c.to_word-word.result in let g = t.2.goes in
    record {
      tied = t.0 ∙ p.tied;
      sized = same_sizes p after c.store.new.seat.me g;
      long = ap (λ z. z.words) t.0 ∙ p.long;
      number = same_number p after c.store.new.seat.me g;
      bare = g.slots ∙ p.bare;
      sound = g.sound;
      law = same_law p after c.store.new.seat.me g;
    }

pub returns-clause-play : goal.returns-clause-play
returns-clause-play c = let p = c.args.self.now in
    subst (λ x. Spent (step (slots_of p) (state_word_at c.args.s.0) x 0 none) p.seat.me x c.store.new.seat.me) c.to_word-word.ensures
    (subst (λ z. Spent (step (slots_of p) z c.to_word-word.result 0 none) p.seat.me c.to_word-word.result c.store.new.seat.me) c.state_word.ensures
    (subst (λ m. Spent (step m c.state_word.result c.to_word-word.result 0 none) p.seat.me c.to_word-word.result c.store.new.seat.me) (ap (λ t. t.shared.table_id.slots) c.deref.ensures) c.store.ensures.2))
