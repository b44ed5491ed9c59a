-- Words that show a lawful world.
use Rattle.std.specs.Prelude.{◌≡◌, ℕ, suc, ◌<◌, ◌≤◌, true, false, List, Option, Some, slice_index}
use Rattle.lazy_rec.specs.declared.records.Rec.{Rec}
use Rattle.lazy_rec.specs.declared.events.Event.{Event}
use Rattle.lazy_rec.specs.Packed.{words_of}
use Rattle.lazy_rec.specs.States.{state_word, state_in_range}
use Rattle.heap_store.specs.World.{recs, is_published}
use Rattle.heap_store.specs.Rows.{row_at, word_at, is_ended_at}
use Rattle.heap_store.specs.Legal.{IsLegal, FollowsPlan}
use Rattle.heap_store.specs.Lawful.{IsLawful}
use Rattle.heap_store.specs.LookedAt.{HasRoots}
use Rattle.heap_store.specs.Budget.{IsFunded}
use Rattle.word_world.specs.Words.{world_of, state_word_at, record_words, state_of_word, places_of}

pub record IsLawfulWords (nodes rows : ℕ) (plan : Option (List Event)) (ws : List ℕ) : Type 0 where
  -- the world is lawful, its rows are a legal history and follow the plan, and what is claimed or done is paid for
  pub world : IsLawful (world_of nodes rows ws)
  pub legal : IsLegal (world_of nodes rows ws)
  pub roots : HasRoots (world_of nodes rows ws)
  pub funded : IsFunded (world_of nodes rows ws)
  pub plan_kept : FollowsPlan plan (row_at (world_of nodes rows ws))
  -- a published place has the words of its record
  pub packed : (p : ℕ) (r : Rec) → recs (world_of nodes rows ws) p ≡ Some r → record_words ws p ≡ words_of r
  -- a state word is that of the state that it shows, and 0 where nothing is published
  pub states : (p : ℕ) → p < places_of nodes → state_word (state_of_word (slice_index ws (state_word_at p))) ≡ slice_index ws (state_word_at p)
  pub ranges : (p : ℕ) → p < places_of nodes → state_in_range (state_of_word (slice_index ws (state_word_at p))) ≡ true
  pub untouched : (p : ℕ) → p < places_of nodes → is_published (recs (world_of nodes rows ws)) p ≡ false → slice_index ws (state_word_at p) ≡ 0
  -- nothing is stored of a name that isn't drawn, and word 5 is 0 until its row is ended
  pub undrawn : (i j : ℕ) → slice_index ws 1 ≤ i → word_at (world_of nodes rows ws) (suc i) j ≡ 0
  pub unended : (i : ℕ) → is_ended_at (row_at (world_of nodes rows ws)) (suc i) ≡ false → word_at (world_of nodes rows ws) (suc i) 5 ≡ 0
