-- What spending a claim asks of what was seen.
use Rattle.std.specs.Prelude.{◌≡◌, ℕ, ◌≤◌, true, false, Some, None, slice_index}
use Rattle.lazy_rec.specs.declared.records.Rec.{Rec}
use Rattle.lazy_rec.specs.declared.states.SuspState.{SuspState}
use Rattle.lazy_rec.specs.States.{state_in_range, is_claimed, given_up, kept}
use Rattle.heap_store.specs.World.{recs}
use Rattle.heap_store.specs.Hand.{is_unbuilt, places_of_steps}
use Rattle.heap_store.specs.View.{MayComplete}
use Rattle.word_world.specs.Words.{state_of_word, state_word_at}
use Rattle.word_store.specs.declared.sight.Sight.{Sight}
use Rattle.word_store.specs.Rule.{seen_by}

-- the claim becomes a state that is done or unforced, and has no fewer attempts given back. Where it is done, the place is a value
-- that the attempt makes; else nothing was built, and the places of its steps are still in hand
pub record MaySpend (v : Sight) (s : ℕ) (new : SuspState) : Type 0 where
  pub range : state_in_range new ≡ true
  pub free : is_claimed new ≡ false
  pub rec : Rec
  pub here : recs (seen_by v) s ≡ Some rec
  pub more : given_up (state_of_word (slice_index v.words (state_word_at s))) ≤ given_up new
  pub done : (d : ℕ × ℕ) → kept new ≡ Some d → MayComplete (seen_by v) s d.0 d.1
  pub unbuilt : kept new ≡ None → is_unbuilt v.hand s ≡ true
  pub places : kept new ≡ None → places_of_steps (recs (seen_by v)) s ≤ v.hand.allowance
