-- A store, as its callers see it.
use Rattle.std.specs.Prelude.{◌≡◌, ℕ}
use Rattle.atomic_table.specs.Seated.{TableId}
use Rattle.word_store.specs.declared.store.Store.{Store}

-- which store it is
abbrev pub store_id : Store → TableId
store_id s = s.seat.table_id

-- the number of the caller that takes the next pass, and how many there are
abbrev pub next_caller : Store → ℕ
next_caller s = s.next

abbrev pub caller_count : Store → ℕ
caller_count s = s.callers

abbrev pub place_count : Store → ℕ
place_count s = s.layout.nodes

abbrev pub row_count : Store → ℕ
row_count s = s.layout.rows

pub record IsOpened (s : Store) (nodes rows callers : ℕ) : Type 0 where
  pub nodes_are : place_count s ≡ nodes
  pub rows_are : row_count s ≡ rows
  pub callers_are : caller_count s ≡ callers
  pub first : next_caller s ≡ 0

pub record SameStore (s t : Store) : Type 0 where
  pub nodes : place_count t ≡ place_count s
  pub rows : row_count t ≡ row_count s
  pub callers : caller_count t ≡ caller_count s
  pub id : store_id t ≡ store_id s
