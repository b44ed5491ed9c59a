-- What a closed store tells whose only caller ran a script.
use Rattle.std.specs.Prelude.{◌≡◌, ℕ, ◌+◌, List, length}
use Rattle.lazy_rec.specs.declared.events.Event.{Event}
use Rattle.heap_store.specs.World.{fixed_places}
use Rattle.version_book.specs.Closed.{IsBook}
use Rattle.version_book.specs.Totals.{totals_of}
use Rattle.word_store.specs.Closing.{Last}

-- Its world is the book of the events, with all that a book says of its totals. Their names are drawn and no other, and each drawn place
-- is published: so the totals have as many
pub record IsRunAlone (nodes : ℕ) (events : List Event) (l : Last) : Type 0 where
  pub book : IsBook l.world nodes events
  pub names : l.names ≡ length events
  pub places : l.places ≡ (totals_of l.world).nodes
  pub all_places : length l.world.nodes ≡ fixed_places + nodes
