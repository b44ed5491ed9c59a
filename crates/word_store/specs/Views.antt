-- What a pass tells as a heap.
use Rattle.std.specs.Prelude.{ℕ, eqb, cond, Some, slice_index}
use Rattle.heap_store.specs.declared.claims.Full.{Full}
use Rattle.heap_store.specs.View.{View}
use Rattle.word_store.specs.declared.sight.Sight.{Sight}
use Rattle.word_store.specs.Rule.{seen_by}

-- what a seat has seen, with the caller's number, the count and the numbers of refusals, and the numbers of drawn places and names
-- as they were read last. Where there is no other caller they are those of the words
abbrev pub view_with : Sight → ℕ → ℕ → Full → ℕ → ℕ → View
view_with v caller refused last drawn named = record {
  seen = seen_by v;
  hand = v.hand;
  refusals = record { count = refused; last = last };
  drawn = cond (eqb v.callers 1) (slice_index v.words 0) drawn;
  named = cond (eqb v.callers 1) (slice_index v.words 1) named;
  about = record { capacity = v.nodes; rows = v.rows; alone = eqb v.callers 1; plan = v.plan; caller = Some caller };
}
