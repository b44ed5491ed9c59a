-- What the records of a tree cache of its items, for measures.
use Rattle.std.specs.Prelude.{◌≡◌, ℕ, ◌+◌, eqb, cond, true, Option, Some, None, List, map}
use Rattle.lazy_rec.specs.declared.places.Item.{Item}
use Rattle.lazy_rec.specs.declared.events.Kind.{Kind}
use Rattle.lazy_rec.specs.Named.{Records}
use Rattle.heap_store.specs.Lawful.{has_keys, key_for}

-- numbers, as items
abbrev pub as_items : List ℕ → List Item
as_items xs = map (λ n. record { 0 = n }) xs

-- a place, and all that it reaches, has the keys of a kind, where a kind is named
abbrev pub HasKeysFor : Option Kind → Records → ℕ → Type 0
HasKeysFor None rs p = Unit {0}
HasKeysFor (Some k) rs p = has_keys k rs p ≡ true

-- the key of a list, where a kind is named
abbrev pub IsKeyFor : Option Kind → ℕ → List ℕ → Type 0
IsKeyFor None key xs = Unit {0}
IsKeyFor (Some k) key xs = key ≡ key_for k xs

-- one more than the key of so many items, or 0 where there is none
abbrev pub key_or_none : ℕ → ℕ → ℕ
key_or_none size key = cond (eqb size 0) 0 (key + 1)
