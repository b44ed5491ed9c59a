-- The view of a store of one thread, and of one that was just opened.
use Rattle.std.specs.Prelude.{ℕ, []}
use Rattle.heap_store.specs.declared.plain.PlainHeap.{PlainHeap}
use Rattle.heap_store.specs.View.{View}
use Rattle.heap_store.specs.Plain.{plain_view, five_records, no_refusal}

abbrev pub view_of : PlainHeap → View
view_of h = plain_view h.nodes.shown h.notes.claims h.rows.items h.notes.open_rows h.capacity h.row_capacity h.refused h.last

-- so many places and rows; the five fixed records stand, and nothing is drawn or in hand
abbrev pub opened_view : ℕ → ℕ → View
opened_view places rows = plain_view five_records [] [] [] places rows 0 no_refusal
