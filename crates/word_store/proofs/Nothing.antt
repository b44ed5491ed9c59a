-- Words that are none show an empty world, which every world extends.
use Rattle.std.proofs.Common.{◌≡◌, ℕ, zero, suc, ◌+◌, ◌-◌, List, [], ◌∷◌, refl, sym, ap, ◌∙◌, arith, Option, Some, None, replicate}
use Rattle.std.specs.Prelude.{option_map, option_and_then}
use Rattle.std.proofs.lemmas.Bool.{cases_lt}
use mathlib.Core.Logic.{⊎_elim}
use Rattle.heap_store.specs.declared.nodes.Node.{Node}
use Rattle.heap_store.specs.World.{World, node_at}
use Rattle.heap_store.specs.Rows.{Row, row_at}
use Rattle.heap_store.specs.Growth.{Grows, begun_of}
use Rattle.lazy_rec.specs.declared.events.Event.{Event}
use Rattle.heap_store.specs.Plain.{no_words}
use Rattle.heap_store.proofs.PlainOpen.{rowless}
use Rattle.word_world.specs.Words.{world_of, tabulate, node_of_words, row_words, places_of}
use Rattle.word_world.proofs.Tables.{tabulate-at, tabulate-past}
use Rattle.word_world.proofs.Worlds.{none_from, node_words}

none_some : {X : Type 0} (x : X) → None ≡ Some x → ⊥
none_some x e = let z : None ≡ Some x = e in cc

module _ (nodes rows : ℕ) where
  no_node : (p : ℕ) → node_at (world_of nodes rows []) p ≡ None
  no_node p = ⊎_elim (λ inside. tabulate-at (node_of_words []) 0 (places_of nodes) p None inside ∙ (node_words [] (0 + p) ∙ none_from 0 0 0 0 0 refl)) (λ past. tabulate-past (node_of_words []) 0 (places_of nodes) p None past) (cases_lt p (places_of nodes))

  blank : (p n : ℕ) → tabulate (row_words nodes []) p n ≡ replicate n no_words
  blank p zero = refl
  blank p (suc n) = ap (λ (rs : List (List ℕ)). no_words ∷ rs) (blank (suc p) n)

  no_row : (i : ℕ) (r : Row) → row_at (world_of nodes rows []) i ≡ Some r → ⊥
  no_row zero r e = rowless nodes rows zero r e
  no_row (suc i) r e = rowless nodes rows (suc i) r (ap (λ rs. row_at (record { nodes = (world_of nodes rows []).nodes; rows = rs }) (suc i)) (sym (blank 0 rows ∙ ap (λ n. replicate n no_words) {x = rows} {y = rows - 0} (omega arith))) ∙ e)

  unbegun : (i : ℕ) (e : ℕ × Event) → option_and_then begun_of (row_at (world_of nodes rows []) i) ≡ Some e → ⊥
  unbegun i e = by (row_at (world_of nodes rows []) i) (no_row i)
    where
      by : (o : Option Row) → ((r : Row) → o ≡ Some r → ⊥) → option_and_then begun_of o ≡ Some e → ⊥
      by None none z = none_some e z
      by (Some r) none z = none r refl

  pub nothing_grows : (w : World) → Grows (world_of nodes rows []) w
  nothing_grows w = record {
    records = λ p r e. absurd (none_some r (sym (ap (option_map (λ (n : Node). n.rec)) (no_node p)) ∙ e));
    done = λ p s e. absurd (none_some s (sym (ap (option_map (λ (n : Node). n.state)) (no_node p)) ∙ e));
    given_up = λ p s t e. absurd (none_some s (sym (ap (option_map (λ (n : Node). n.state)) (no_node p)) ∙ e));
    begun = λ i e z. absurd (unbegun i e z);
    ended = λ i r e. absurd (no_row i r e);
  }
