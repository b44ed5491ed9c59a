-- The cells of streams and lists, and a stream with its appends and reversals (Okasaki, 4.2).
use Rattle.std.specs.Prelude.{ℕ, zero, suc, ◌-◌, eqb, Bool, true, false, not, ◌&&◌, Option, Some, None, option_and_then}
use Rattle.std.specs.List.{list_all}
use Rattle.lazy_rec.specs.declared.records.Rec.{Rec}
use Rattle.lazy_rec.specs.declared.records.Rec.TheVariants.{Nil, Cons, Append, Reverse, LNil, LCons}
use Rattle.lazy_rec.specs.Named.{Records, at_record}
use Rattle.lazy_rec.specs.Meaning.{Entry, an_item, a_child, by_record, cells}
use Rattle.heap_store.specs.World.{World, recs, holds, value_at, same_place}

-- ---- cells

abbrev pub same_bool : Bool → Bool → Bool
same_bool true b = b
same_bool false b = not b

-- a test of the child bit, the value and the rest of a cell, of a stream or of a list
abbrev pub on_cell : (Bool → ℕ → ℕ → Bool) → Rec → Bool
on_cell test (Cons c v rest) = test c v rest.0
on_cell _ _ = false

abbrev pub on_list_cell : (Bool → ℕ → ℕ → Bool) → Rec → Bool
on_list_cell test (LCons c v rest) = test c v rest.0
on_list_cell _ _ = false

-- a cell with an entry, whose rest passes a test
abbrev pub is_cell : Bool → ℕ → (ℕ → Bool) → Rec → Bool
is_cell c v test = on_cell (λ c' v' rest. same_bool c c' && eqb v v' && test rest)

-- the first cell of a place whose value is known
abbrev pub first_cell : World → ℕ → (Bool → ℕ → ℕ → Bool) → Bool
first_cell w p test = at_record false (on_cell test) (value_at w p)

-- a cell with the first entry of xs, whose rest passes a test
abbrev pub is_first_of : World → ℕ → ℕ → (ℕ → ℕ → Bool) → Bool
is_first_of w xs place test = first_cell w xs (λ c v rest. holds (recs w) place (is_cell c v (test rest)))

abbrev pub is_nil : Rec → Bool
is_nil Nil = true
is_nil _ = false

abbrev pub is_list_nil : Rec → Bool
is_list_nil LNil = true
is_list_nil _ = false

-- Cons and Nil alone, all the way
abbrev pub plain_of : (ℕ → Bool) → Rec → Bool
plain_of lower Nil = true
plain_of lower (Cons _ _ rest) = lower rest.0
plain_of lower _ = false

unfoldable pub is_plain : Records → ℕ → Bool
is_plain = by_record false plain_of

-- the place so many cells on, through values and Done places alone
abbrev pub rest_of : Rec → Option ℕ
rest_of (Cons _ _ rest) = Some rest.0
rest_of _ = None

abbrev pub walk : World → ℕ → ℕ → Option ℕ
walk w zero p = Some p
walk w (suc n) p = option_and_then (λ q. option_and_then rest_of (value_at w q)) (walk w n p)

abbrev pub is_item : Entry → Bool
is_item (an_item _) = true
is_item (a_child _) = false

abbrev pub has_items : Records → ℕ → Bool
has_items rs p = list_all is_item (cells rs p)

-- ---- streams

-- the cells and suspensions that a stream is made of
abbrev pub stream_of : (ℕ → Bool) → Rec → Bool
stream_of lower Nil = true
stream_of lower (Cons _ _ rest) = lower rest.0
stream_of lower (Append xs ys _ _ _) = lower xs.0 && lower ys.0
stream_of lower (Reverse xs _) = lower xs.0
stream_of lower _ = false

unfoldable pub is_stream : Records → ℕ → Bool
is_stream = by_record false stream_of

-- the suspension with these arguments
abbrev pub is_append : World → ℕ → ℕ → ℕ → ℕ → ℕ → Rec → Bool
is_append w xs ys left origin off (Append xs' ys' left' origin' off') = same_place w xs xs'.0 && same_place w ys ys'.0 && eqb left left' && eqb origin origin'.0 && eqb off off'
is_append w _ _ _ _ _ _ = false

-- the next suspension over the rest of xs
abbrev pub next_append : World → ℕ → ℕ → ℕ → ℕ → ℕ → Rec → Bool
next_append w rest ys left origin off = is_append w rest ys (left - 1) origin (suc off)
