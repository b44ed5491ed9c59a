-- A pass as a view, and what its steps leave as it is.
use Rattle.std.specs.Prelude.{◌≡◌, ℕ}
use Rattle.std.specs.Arc.{arc_value}
use Rattle.atomic_table.specs.Seated.{TableId}
use Rattle.heap_store.specs.View.{View}
use Rattle.word_store.specs.declared.sight.Sight.{Sight}
use Rattle.word_store.specs.declared.pass.Pass.{Pass}
use Rattle.word_store.specs.Views.{view_with}

abbrev pub sight_of : Pass → Sight
sight_of p = p.seat.me.0

abbrev pub view_of : Pass → View
view_of p = view_with p.seat.me.0 p.caller p.refused p.last p.drawn p.named

-- which store the pass is of
abbrev pub store_of : Pass → TableId
store_of p = p.seat.table_id

-- how many slots the table has: no step uses one
abbrev pub slots_of : Pass → ℕ
slots_of p = (arc_value p.table).shared.table_id.slots

-- a step with the seat alone: the pass is of the same store, and its own fields are as before
pub record Stays (p q : Pass) : Type 0 where
  pub store : q.seat.table_id ≡ p.seat.table_id
  pub layout : q.layout ≡ p.layout
  pub caller : q.caller ≡ p.caller
  pub drawn : q.drawn ≡ p.drawn
  pub named : q.named ≡ p.named
  pub refused : q.refused ≡ p.refused
  pub last : q.last ≡ p.last
