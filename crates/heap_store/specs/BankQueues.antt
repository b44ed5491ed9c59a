-- The banker's queue: its front, what is left of its latest rotation, and what a rotation makes (Okasaki, 6.3.2).
use Rattle.std.specs.Prelude.{ℕ, suc, ◌+◌, ◌-◌, ◌*◌, eqb, leb, ltb, Bool, true, false, cond, ◌&&◌, ◌||◌, List, [], ◌∷◌, length, drop}
use Rattle.lazy_rec.specs.declared.records.Rec.{Rec}
use Rattle.lazy_rec.specs.declared.records.Rec.TheVariants.{Nil, Cons, BankTop, BankRot}
use Rattle.lazy_rec.specs.Named.{Records}
use Rattle.lazy_rec.specs.Meaning.{Entry, an_item, a_child, by_record, cells}
use Rattle.heap_store.specs.World.{World, holds, same_place}
use Rattle.heap_store.specs.Streams.{is_plain}

-- ---- what a rotation makes

-- the suspension with these arguments
abbrev pub is_bank_rotation : World → ℕ → ℕ → ℕ → ℕ → ℕ → Rec → Bool
is_bank_rotation w xs rear left origin off (BankRot xs' rear' left' origin' off') = same_place w xs xs'.0 && same_place w rear rear'.0 && eqb left left' && eqb origin origin'.0 && eqb off off'
is_bank_rotation w _ _ _ _ _ _ = false

-- the next suspension over the rest of xs
abbrev pub next_bank_rotation : World → ℕ → ℕ → ℕ → ℕ → ℕ → Rec → Bool
next_bank_rotation w rest rear left origin off = is_bank_rotation w rest rear (left - 1) origin (suc off)

-- ---- the queue

-- the cells and suspensions that a front is made of
abbrev pub bank_front_of : (ℕ → Bool) → Rec → Bool
bank_front_of lower Nil = true
bank_front_of lower (Cons _ _ rest) = lower rest.0
bank_front_of lower (BankRot xs _ _ _ _) = lower xs.0
bank_front_of lower _ = false

unfoldable pub is_bank_front : Records → ℕ → Bool
is_bank_front = by_record false bank_front_of

abbrev pub is_bank_rotation_of : ℕ → ℕ → Rec → Bool
is_bank_rotation_of origin off (BankRot _ _ _ origin' off') = eqb origin'.0 origin && eqb off' off
is_bank_rotation_of origin off _ = false

abbrev pub is_bank_origin : ℕ → Rec → Bool
is_bank_origin n (BankRot _ _ left _ off) = eqb left n && eqb off 0
is_bank_origin n _ = false

abbrev pub is_any_bank_rotation : Rec → Bool
is_any_bank_rotation (BankRot _ _ _ _ _) = true
is_any_bank_rotation _ = false

abbrev pub same_entry : Entry → Entry → Bool
same_entry (an_item x) (an_item y) = eqb x y
same_entry (a_child x) (a_child y) = eqb x y
same_entry _ _ = false

abbrev pub same_entries : List Entry → List Entry → Bool
same_entries [] [] = true
same_entries (x ∷ xs) (y ∷ ys) = same_entry x y && same_entries xs ys
same_entries _ _ = false

-- the front is what is left of its rotation after so many tails
abbrev pub is_rotated : Records → ℕ → ℕ → ℕ → ℕ → ℕ → Bool
is_rotated rs front lenf origin n tails = holds rs origin (is_bank_origin n) && eqb (lenf + tails) (2 * n + 1)
    && same_entries (cells rs front) (drop tails (cells rs origin))
    && cond (leb tails n) (holds rs front (is_bank_rotation_of origin tails)) (is_plain rs front)

-- a banker's queue is no longer behind than in front, and its front is what is left of its latest rotation (Okasaki, 6.3.2)
abbrev pub is_bank_queue : Records → ℕ → Rec → Bool
is_bank_queue rs p (BankTop rotated front lenf rear lenr origin n tails) = leb lenr lenf && cond rotated (ltb origin.0 p && is_rotated rs front.0 lenf origin.0 n tails) (eqb lenf 0 && eqb lenr 0)
is_bank_queue rs p (BankRot xs rear left _ off) = eqb (length (cells rs rear.0)) (off + left + 1) && (holds rs xs.0 is_any_bank_rotation || is_plain rs xs.0)
is_bank_queue rs p _ = true
