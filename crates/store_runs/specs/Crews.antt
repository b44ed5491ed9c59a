-- The callers of a store.
use Rattle.std.specs.Prelude.{◌≡◌, ℕ, ◌+◌, ◌⊎◌, true, List, Some, length, slice_get}
use Rattle.lazy_rec.specs.declared.events.Kind.TheVariants.{Bankq}
use Rattle.heap_store.specs.World.{World}
use Rattle.heap_store.specs.Growth.{Grows}
use Rattle.heap_store.specs.Hand.{contains}
use Rattle.heap_store.specs.Rows.{Row, row_at, is_ended}
use Rattle.heap_store.specs.View.{View}
use Rattle.word_store.specs.Opened.{opened_view}
use Rattle.version_book.specs.Pass.{Pass, pass_of}
use Rattle.version_book.specs.Calls.{new_event}

-- these passes are as they were opened, with the numbers of callers from one on
abbrev pub AreFresh : ℕ → ℕ → ℕ → ℕ → List Pass → Type 0
AreFresh nodes rows callers first ps = (j : ℕ) (p : Pass) → slice_get ps j ≡ Some p → p ≡ pass_of (opened_view nodes rows callers (first + j)) (first + j)

-- what the first list has, the second one has
abbrev pub HasAll : {X : Type 0} → List X → List X → Type 0
HasAll {X} xs ys = (j : ℕ) (x : X) → slice_get xs j ≡ Some x → (k : ℕ) × (slice_get ys k ≡ Some x)

-- the row of a name has ended, of an event that makes an empty queue
pub record IsQueueRow (w : World) (i : ℕ) : Type 0 where
  pub row : Row
  pub here : row_at w i ≡ Some row
  pub event : row.event ≡ new_event Bankq
  pub ended : is_ended row.ending ≡ true

-- so many rows more are the caller's, each of an empty queue, and all that was seen stands
pub record HasBegun (old new : View) (count : ℕ) : Type 0 where
  pub grows : Grows old.seen new.seen
  pub about : new.about ≡ old.about
  pub count_is : length new.hand.mine ≡ length old.hand.mine + count
  pub rows : (i : ℕ) → contains new.hand.mine i ≡ true → (contains old.hand.mine i ≡ true) ⊎ IsQueueRow new.seen i
