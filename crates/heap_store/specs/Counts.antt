-- What the work on a store comes to, as the store counts it.
use Rattle.std.specs.Prelude.{◌≡◌, ℕ, Option, List, length, sum_by}
use Rattle.heap_store.specs.declared.nodes.Node.{Node}
use Rattle.heap_store.specs.declared.counts.Counts.{Counts}
use Rattle.heap_store.specs.declared.plain.Work.{Work}
use Rattle.heap_store.specs.World.{World}
use Rattle.heap_store.specs.Budget.{done_of, given_up_of, total_forced, total_steps, total_given_up, total_nodes}

-- the Done states; the steps that they keep; the attempts given back, over all states; and the published places beside the
-- five fixed ones
abbrev pub counts_of : World → Counts
counts_of w = record { forced = total_forced w; steps = total_steps w; given_up = total_given_up w; nodes = total_nodes w }

-- the work that the states of places tell of
pub record AreCounted (places : List (Option Node)) (work : Work) : Type 0 where
  pub forced : work.forced ≡ sum_by (λ n. length (done_of n)) places
  pub steps : work.steps ≡ sum_by (λ n. sum_by (λ (d : ℕ × ℕ). d.1) (done_of n)) places
  pub given_up : work.given_up ≡ sum_by given_up_of places
