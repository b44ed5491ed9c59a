use Rattle.std.proofs.Common.{sym, ap, ◌∙◌, arith, subst}
use mathlib.Core.Option.{none}
use Rattle.atomic_table.specs.Table.{step}
use Rattle.word_store.specs.Plays.{StoredWord}
use Rattle.word_store.specs.Passes.{sight_of, slots_of}
use Rattle.word_store.proofs.Allowed.{store_allowed}
use Rattle.word_store.proofs.PassSteps.{name_row, same_sizes, same_number, same_law}
use Rattle.std.specs.Prelude.{slice_set}
use Rattle.word_store.proofs.pass.Pass.store.Goals as goal

pub store-requires : goal.store-requires
store-requires c = let p = c.args.self.now in let e = p.tied ∙ ap (λ t. t.shared.table_id) (sym c.deref.ensures) in let r = name_row c.args.name c.requires.low in (
  e,
  omega (arith, p.long, ap (λ t. t.words) e, c.row_word-at.ensures.inside),
  store_allowed c.deref.result.now.shared.key c.deref.result.now.shared.table_id.slots p.seat.id p.seat.me c.row_word-at.result r.0 c.args.word c.args.value p.caller p.refused p.last p.drawn p.named
      (c.row_word-at.ensures.at r.0 (omega (arith, r.1)) ∙ ap (λ n. Rattle.word_world.specs.Words.row_word_at n r.0 c.args.word) {x = p.layout.nodes} {y = p.seat.me.0.nodes} (sym p.sized.0)) p.number p.sound.told p.sound
      (subst (λ n. Rattle.heap_store.specs.RowCalls.MayStore (Rattle.word_store.specs.Passes.view_of p) n c.args.word c.args.value) r.1 c.requires.may),
)

pub invariant_of-self : goal.invariant_of-self
invariant_of-self c = let p = c.args.self.now in let t = c.store.ensures in let after = slice_set p.seat.me.0.words c.row_word-at.result c.args.value in let g = t.2.goes in
    record {
      tied = t.0 ∙ p.tied;
      sized = same_sizes p after c.store.new.seat.me g;
      long = ap (λ z. z.words) t.0 ∙ p.long;
      number = same_number p after c.store.new.seat.me g;
      bare = g.slots ∙ p.bare;
      sound = g.sound;
      law = same_law p after c.store.new.seat.me g;
    }

pub returns-clause-play : goal.returns-clause-play
returns-clause-play c = λ i e. (let p = c.args.self.now in
    subst (λ at. StoredWord (step (slots_of p) at c.args.value 0 none) p.seat.me c.args.value c.store.new.seat.me) (c.row_word-at.ensures.at i e)
    (subst (λ m. StoredWord (step m c.row_word-at.result c.args.value 0 none) p.seat.me c.args.value c.store.new.seat.me) (ap (λ t. t.shared.table_id.slots) c.deref.ensures) c.store.ensures.2))
