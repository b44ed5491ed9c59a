-- The totals of a closed book.
use Rattle.heap_store.specs.World.{World}
use Rattle.heap_store.specs.Budget.{dues, total_forced, total_steps, total_given_up, total_nodes}
use Rattle.version_book.specs.declared.totals.Totals.{Totals}

-- the Done states; the steps that they keep; the attempts given back, over all states; the dues of the begun rows; and the
-- published places beside the five fixed ones
abbrev pub totals_of : World → Totals
totals_of w = record { forced = total_forced w; steps = total_steps w; given_up = total_given_up w; dues = dues w; nodes = total_nodes w }
