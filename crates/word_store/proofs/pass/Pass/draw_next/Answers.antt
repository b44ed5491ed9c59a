use Rattle.std.proofs.Common.{◌+◌, sym, ap, ◌∙◌, arith}
use Rattle.word_store.proofs.Allowed.{name_allowed}
use Rattle.word_store.proofs.PassSteps.{one_of, same_sizes, same_number, same_law}
use Rattle.std.specs.Prelude.{slice_set}
use Rattle.word_store.proofs.pass.Pass.draw_next.Goals as goal

pub fetch_add-requires : goal.fetch_add-requires
fetch_add-requires c = let p = c.args.self.now in let e = p.tied ∙ ap (λ t. t.shared.table_id) (sym c.deref.ensures) in
    (e, omega (arith, p.long, ap (λ t. t.words) e), name_allowed c.deref.result.now.shared.key c.deref.result.now.shared.table_id.slots p.seat.id p.seat.me (one_of p) p.sound.told p.sound (omega (arith, c.requires, p.sized.1)))

pub invariant_of-self : goal.invariant_of-self
invariant_of-self c = let p = c.args.self.now in let t = c.fetch_add.ensures in let after = slice_set p.seat.me.0.words 1 (c.fetch_add.result + 1) in let g = t.2.goes in
    record {
      tied = t.0 ∙ p.tied;
      sized = same_sizes p after c.fetch_add.new.seat.me g;
      long = ap (λ z. z.words) t.0 ∙ p.long;
      number = same_number p after c.fetch_add.new.seat.me g;
      bare = g.slots ∙ p.bare;
      sound = g.sound;
      law = same_law p after c.fetch_add.new.seat.me g;
    }
