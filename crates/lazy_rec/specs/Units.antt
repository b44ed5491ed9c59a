-- Steps, families and units of suspensions, and what a published record shows as discharged. A unit is one of Okasaki's
-- debits: each step of a suspension is one.
use Rattle.std.specs.Prelude.{ℕ, zero, suc, ◌+◌, ◌-◌, ◌*◌, eqb, min, Bool, cond, ◌&&◌, Option, Some, None, List, [], ◌∷◌, ◌++◌, take, length}
use Rattle.lazy_rec.specs.declared.records.Rec.{Rec}
use Rattle.lazy_rec.specs.declared.records.Rec.TheVariants.{BankTop, RtTop, HeapTop, Append, Reverse, BankRot, RtRot, HeapInsert, HeapMerge, LinkAll, PushL, PushR, DeepL, DeepR, Concat}
use Rattle.lazy_rec.specs.Named.{Records}
use Rattle.lazy_rec.specs.ByPlace.{by_place}
use Rattle.lazy_rec.specs.Numbers.{bits, ones, trailing_ones}

-- ---- steps and places of a completion

-- what the state word keeps of the work when it is done; a value has none
abbrev pub steps : Rec → ℕ
steps (Append _ _ _ _ _) = 1
steps (Reverse _ left) = left
steps (BankRot _ _ left _ off) = cond (eqb left 0) (off + 1) 1
steps (RtRot _ _ _ _ _ _) = 1
steps (HeapInsert _ _ size) = trailing_ones size + 1
steps (HeapMerge _ _ n1 n2) = 1 + ones n1 + ones n2
steps (LinkAll _ _ _ _ _) = 1
steps (PushL _ _ _ _ _ _ _ _) = 1
steps (PushR _ _ _ _ _ _ _ _) = 1
steps (DeepL _ _ _ _ _ _) = 1
steps (DeepR _ _ _ _ _ _) = 1
steps (Concat _ _ _ _ _ _ _) = 1
steps _ = 0

-- the credits that a completion brings beside its steps: a link puts an entry on one queue and takes one off another
abbrev pub credits : Rec → ℕ
credits (LinkAll _ _ _ _ _) = 2
credits _ = 0

-- the units of a suspension
abbrev pub cost : Rec → ℕ
cost r = steps r + credits r

-- ---- families and units

-- the origin and the offset of the record at a place; a record without these fields is its own origin
abbrev pub family_of : ℕ → Rec → ℕ × ℕ
family_of p (Append _ _ _ origin off) = (origin.0, off)
family_of p (BankRot _ _ _ origin off) = (origin.0, off)
family_of p (RtRot _ _ _ _ origin off) = (origin.0, off)
family_of p (LinkAll _ _ _ origin off) = (origin.0, off)
family_of p (PushL _ off _ _ _ origin _ _) = (origin.0, off)
family_of p (PushR _ off _ _ _ origin _ _) = (origin.0, off)
family_of p (DeepL _ _ _ origin off _) = (origin.0, off)
family_of p (DeepR _ _ _ origin off _) = (origin.0, off)
family_of p (Concat off _ _ _ origin _ _) = (origin.0, off)
family_of p _ = (p, 0)

-- a unit is an origin and an index from 0
abbrev pub WorkUnit : Type 0
WorkUnit = ℕ × ℕ

abbrev pub same_unit : WorkUnit → WorkUnit → Bool
same_unit u v = eqb u.0 v.0 && eqb u.1 v.1

-- so many units of an origin, from an index on
abbrev pub units_from : ℕ → ℕ → ℕ → List WorkUnit
units_from origin first zero = []
units_from origin first (suc k) = (origin, first) ∷ units_from origin (suc first) k

abbrev pub units_below : ℕ → ℕ → List WorkUnit
units_below origin k = units_from origin 0 k

-- the index of a suspension's first unit in its family, at its offset
abbrev pub first_unit : Rec → ℕ → ℕ
first_unit (LinkAll _ _ _ _ _) off = 3 * off
first_unit _ off = off

-- the units of the suspension at a place
abbrev pub units : ℕ → Rec → List WorkUnit
units p r = let f = family_of p r in units_from f.0 (first_unit r f.1) (cost r)

-- ---- what a record shows as discharged

-- the units of the pending records that make a list of trees, the inserts with which it begins last, the newest last of all
abbrev pub list_units_of : (ℕ → List WorkUnit) → ℕ → Rec → List WorkUnit
list_units_of lower p (HeapInsert item list size) = lower list.0 ++ units_below p (steps (HeapInsert item list size))
list_units_of lower p (HeapMerge list1 list2 n1 n2) = lower list1.0 ++ lower list2.0 ++ units_below p (steps (HeapMerge list1 list2 n1 n2))
list_units_of lower p _ = []

abbrev pub list_units_at : (ℕ → List WorkUnit) → ℕ → Option Rec → List WorkUnit
list_units_at lower p None = []
list_units_at lower p (Some r) = list_units_of lower p r

unfoldable pub list_units : Records → ℕ → List WorkUnit
list_units recs = by_place [] (λ lower p. list_units_at lower p (recs p))

-- the units of a pending schedule's family up to its offset
abbrev pub schedule_units : Option Rec → List WorkUnit
schedule_units (Some (RtRot _ _ _ _ origin off)) = units_below origin.0 (off + 1)
schedule_units _ = []

-- the units, where the offset is that of the family's first suspension
abbrev pub if_first : ℕ → List WorkUnit → List WorkUnit
if_first off us = cond (eqb off 0) us []

-- what the record at a place shows as discharged; what has no line shows nothing
abbrev pub paid : Records → ℕ → Rec → List WorkUnit
paid recs p (BankTop rotated _ _ _ lenr origin n tails) = cond rotated (units_below origin.0 (min (2 * n + 1) (1 + lenr + 2 * tails))) []
paid recs p (RtTop _ _ _ _ sched) = schedule_units (recs sched.0)
paid recs p (HeapTop list _ owed) = take (length (list_units recs list.0) - owed) (list_units recs list.0)
paid recs p (Append _ _ left origin off) = if_first off (units_below origin.0 left)
paid recs p (Reverse _ left) = units_below p left
paid recs p (LinkAll _ len _ origin off) = if_first off (units_below origin.0 (3 * len))
paid recs p (PushL _ off _ _ _ origin size _) = if_first off (units_below origin.0 (bits size))
paid recs p (PushR _ off _ _ _ origin size _) = if_first off (units_below origin.0 (bits size))
paid recs p (DeepL _ _ size origin off _) = if_first off (units_below origin.0 (bits size))
paid recs p (DeepR _ _ size origin off _) = if_first off (units_below origin.0 (bits size))
paid recs p (Concat off _ _ _ origin size _) = if_first off (units_below origin.0 (bits size))
paid recs p _ = []
