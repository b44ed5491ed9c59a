use Rattle.std.proofs.Common.{sym, ap, ◌∙◌, arith, subst}
use mathlib.Core.Option.{none}
use Rattle.atomic_table.specs.Table.{step}
use Rattle.word_store.specs.Plays.{Published}
use Rattle.word_store.specs.Passes.{slots_of}
use Rattle.word_store.proofs.Allowed.{publish_allowed}
use Rattle.word_store.proofs.PassSteps.{rights_of, same_sizes, same_number, same_law}
use Rattle.std.specs.Prelude.{slice_set}
use Rattle.word_store.proofs.pass.Pass.publish.Goals as goal

pub store-requires : goal.store-requires
store-requires c = let p = c.args.self.now in let e = p.tied ∙ ap (λ t. t.shared.table_id) (sym c.deref.ensures) in
    (e, omega (arith, p.long, ap (λ t. t.words) e, (p.sound.reserved_low c.args.place.0 c.requires.held).1, p.sized.0, c.record_word.ensures), publish_allowed c.deref.result.now.shared.key c.deref.result.now.shared.table_id.slots p.seat.id p.seat.me c.record_word.result c.args.place.0 c.args.x c.args._rec p.caller p.refused p.last p.drawn p.named c.record_word.ensures (rights_of p) p.sound.told p.sound c.requires.held c.requires.words c.requires.fits)

pub invariant_of-self : goal.invariant_of-self
invariant_of-self c = let p = c.args.self.now in let t = c.store.ensures in let after = slice_set p.seat.me.0.words c.record_word.result c.args.x in let g = t.2.goes in
    record {
      tied = t.0 ∙ p.tied;
      sized = same_sizes p after c.store.new.seat.me g;
      long = ap (λ z. z.words) t.0 ∙ p.long;
      number = same_number p after c.store.new.seat.me g;
      bare = g.slots ∙ p.bare;
      sound = g.sound;
      law = same_law p after c.store.new.seat.me g;
    }

pub returns-clause-play : goal.returns-clause-play
returns-clause-play c = let p = c.args.self.now in
    subst (λ z. Published (step (slots_of p) z c.args.x 0 none) p.seat.me c.args.x c.store.new.seat.me) c.record_word.ensures
    (subst (λ m. Published (step m c.record_word.result c.args.x 0 none) p.seat.me c.args.x c.store.new.seat.me) (ap (λ t. t.shared.table_id.slots) c.deref.ensures) c.store.ensures.2)
