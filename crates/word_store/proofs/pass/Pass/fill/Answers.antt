use Rattle.std.proofs.Common.{◌≡◌, ◌+◌, sym, ap, ◌∙◌, arith, subst}
use mathlib.Core.Option.{none}
use Rattle.atomic_table.specs.Table.{step}
use Rattle.word_world.specs.Words.{record_word_at}
use Rattle.word_store.specs.Plays.{Filled}
use Rattle.word_store.specs.Passes.{slots_of}
use Rattle.word_store.proofs.Allowed.{fill_allowed}
use Rattle.word_store.proofs.PassSteps.{rights_of, filled_law}
use Rattle.word_store.proofs.PassSteps.{filled_sound}
use Rattle.word_store.proofs.pass.Pass.fill.Goals as goal

pub store-requires : goal.store-requires
store-requires c = let p = c.args.self.now in let e = p.tied ∙ ap (λ t. t.shared.table_id) (sym c.deref.ensures) in
    (e, omega (arith, p.long, ap (λ t. t.words) e, (p.sound.reserved_low c.args.place.0 c.requires.held).1, p.sized.0, c.record_word.ensures, c.requires.word.1), fill_allowed c.deref.result.now.shared.key c.deref.result.now.shared.table_id.slots p.seat.id p.seat.me (c.record_word.result + c.args.j) c.args.place.0 c.args.j c.args.x (omega (arith, c.record_word.ensures)) (rights_of p) p.sound.told c.requires.held c.requires.word.0 c.requires.word.1)

pub invariant_of-self : goal.invariant_of-self
invariant_of-self c = let p = c.args.self.now in let t = c.store.ensures in let w = c.record_word.result + c.args.j in let is : c.record_word.result + c.args.j ≡ record_word_at c.args.place.0 c.args.j = omega (arith, c.record_word.ensures) in
    record {
      tied = t.0 ∙ p.tied;
      sized = (ap (λ v. v.nodes) t.2.is ∙ p.sized.0, ap (λ v. v.rows) t.2.is ∙ p.sized.1);
      long = ap (λ z. z.words) t.0 ∙ p.long;
      number = ap (λ v. v.numbers) t.2.is ∙ p.number;
      bare = t.2.slots ∙ p.bare;
      sound = filled_sound p c.args.place.0 c.args.j w c.args.x c.requires.held c.requires.word.0 c.requires.word.1 is c.store.new.seat.me.0 t.2.is;
      law = filled_law p c.args.place.0 c.args.j w c.args.x c.requires.held c.requires.word.0 c.requires.word.1 is c.store.new.seat.me.0 t.2.is;
    }

pub returns-clause-play : goal.returns-clause-play
returns-clause-play c = let p = c.args.self.now in
    let is : c.record_word.result + c.args.j ≡ record_word_at c.args.place.0 c.args.j = omega (arith, c.record_word.ensures) in
    subst (λ i. Filled (step (slots_of p) i c.args.x 0 none) p.seat.me c.args.x c.store.new.seat.me) is
    (subst (λ m. Filled (step m (c.record_word.result + c.args.j) c.args.x 0 none) p.seat.me c.args.x c.store.new.seat.me) (ap (λ t. t.shared.table_id.slots) c.deref.ensures) c.store.ensures.2)
