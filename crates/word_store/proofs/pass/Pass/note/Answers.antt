use Rattle.std.proofs.Common.{sym, ap, ◌∙◌, arith}
use Rattle.word_store.proofs.Allowed.{note_allowed}
use Rattle.word_store.proofs.PassSteps.{rights_of, same_sizes, same_number, same_law}
use Rattle.word_store.proofs.pass.Pass.note.Goals as goal

pub load-requires : goal.load-requires
load-requires c = let p = c.args.self.now in let e = p.tied ∙ ap (λ t. t.shared.table_id) (sym c.deref.ensures) in
    (e, omega (arith, p.long, ap (λ t. t.words) e), note_allowed c.deref.result.now.shared.key c.deref.result.now.shared.table_id.slots p.seat.id p.seat.me 0 (rights_of p) p.sound.told)

pub invariant_of-self : goal.invariant_of-self
invariant_of-self c = let p = c.args.self.now in let t = c.load.ensures in let after = p.seat.me.0.words in let g = t.2.goes in
    record {
      tied = t.0 ∙ p.tied;
      sized = same_sizes p after c.load.new.seat.me g;
      long = ap (λ z. z.words) t.0 ∙ p.long;
      number = same_number p after c.load.new.seat.me g;
      bare = g.slots ∙ p.bare;
      sound = g.sound;
      law = same_law p after c.load.new.seat.me g;
    }
