use Rattle.std.proofs.Common.{◌≡◌, ℕ, zero, suc, ◌+◌, ◌*◌, ◌<◌, ◌≤◌, refl, sym, ap, ◌∙◌, arith, subst, Some, None, true, false}
use mathlib.Core.Option.{none}
use Rattle.atomic_table.specs.Table.{step}
use Rattle.word_store.specs.Plays.{Tried}
use Rattle.word_store.specs.Passes.{sight_of, slots_of}
use Rattle.word_store.proofs.Allowed.{try_allowed}
use Rattle.word_store.proofs.PassSteps.{rights_of, same_sizes, same_number, same_law}
use Rattle.lazy_rec.specs.Named.{is_pending}
use Rattle.word_store.proofs.PassReads.{test_within}
use Rattle.std.specs.Prelude.{slice_set}
use Rattle.word_store.proofs.pass.Pass.attempt.Goals as goal

pub fetch_or-requires : goal.fetch_or-requires
fetch_or-requires c = let p = c.args.self.now in let e = p.tied ∙ ap (λ t. t.shared.table_id) (sym c.deref.ensures) in
    (e, omega (arith, p.long, ap (λ t. t.words) e, test_within (sight_of p) c.args.s.0 is_pending c.requires.pending, p.sized.0, c.state_word.ensures), try_allowed c.deref.result.now.shared.key c.deref.result.now.shared.table_id.slots p.seat.id p.seat.me c.state_word.result c.args.s c.state_word.ensures (rights_of p) p.sound.told p.sound c.requires.pending c.requires.funded)

pub invariant_of-self : goal.invariant_of-self
invariant_of-self c = let p = c.args.self.now in let t = c.fetch_or.ensures in let after = slice_set p.seat.me.0.words c.state_word.result (Rattle.std.proofs.Common.bit_or c.fetch_or.result 1) in let g = t.2.goes in
    record {
      tied = t.0 ∙ p.tied;
      sized = same_sizes p after c.fetch_or.new.seat.me g;
      long = ap (λ z. z.words) t.0 ∙ p.long;
      number = same_number p after c.fetch_or.new.seat.me g;
      bare = g.slots ∙ p.bare;
      sound = g.sound;
      law = same_law p after c.fetch_or.new.seat.me g;
    }

pub returns-clause-play : goal.returns-clause-play
returns-clause-play c = let p = c.args.self.now in
    subst (λ z. Tried (step (slots_of p) z 1 0 none) p.seat.me c.fetch_or.result c.fetch_or.new.seat.me) c.state_word.ensures
    (subst (λ m. Tried (step m c.state_word.result 1 0 none) p.seat.me c.fetch_or.result c.fetch_or.new.seat.me) (ap (λ t. t.shared.table_id.slots) c.deref.ensures) c.fetch_or.ensures.2)
