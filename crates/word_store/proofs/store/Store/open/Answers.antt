use Rattle.std.proofs.Common.{ℕ, List, [], sym, ◌∙◌, subst}
use Rattle.atomic_table.specs.Table.{opening}
use Rattle.word_store.specs.declared.sight.Size.{Size}
use Rattle.word_store.specs.Rule.{IsKept, first_sight}
use Rattle.word_store.proofs.Opening.{opens}
use Rattle.word_store.proofs.store.Store.open.Goals as goal

pub of_words-requires : goal.of_words-requires
of_words-requires c =
    let k : Size = record { nodes = c.args.nodes; rows = c.args.rows; callers = c.args.callers } in
    subst (λ (ws : List ℕ). IsKept k (opening ws [] (first_sight k))) (sym (c.as_slice.ensures.value ∙ c.in-Ok.ensures)) (opens k (c.requires.nodes, c.requires.rows, c.requires.some, c.requires.few))
