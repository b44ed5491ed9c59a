-- Full rows that tell of adds in vain.
use Rattle.std.proofs.Common.{◌≡◌, ℕ, ◌+◌, List, [], ◌∷◌, eqb, refl, sym, ap, ◌∙◌, arith, Bool, true, false, cond, not, Option, Some, None}
use Rattle.std.specs.Prelude.{sum_by, is_some, option_and_then}
use Rattle.std.proofs.lemmas.Bool.{true≢false, and_parts, and_from, or_cases, or_left, or_right, eq-eqb, eqb-true}
use Rattle.std.proofs.lemmas.List.Sums.{sum_by-cons}
use mathlib.Core.Logic.{⊎_elim}
use Rattle.lazy_rec.specs.Tests.{is_some_and}
use Rattle.heap_store.specs.declared.claims.Full.{Full}
use Rattle.heap_store.specs.World.{World}
use Rattle.heap_store.specs.Rows.{Row, Ending, not_ended, answered, full, memory, no_base, row_at, is_ended, is_ended_at}
use Rattle.heap_store.specs.RowCalls.{has_numbers, vain_after}
use Rattle.heap_store.specs.Growth.{Grows}
use Rattle.heap_store.specs.Hand.{contains, all_distinct}
use Rattle.heap_store.specs.Shared.{added, refusal_at, refusal_of}
use Rattle.word_store.specs.Rule.{AreTold}
use Rattle.word_store.proofs.Moves.{Tells}

-- ---- a full row stays

row_ended : (o : Option Row) → is_some (option_and_then (λ (r : Row). refusal_of r.ending) o) ≡ true → (r : Row) × (o ≡ Some r) × (is_ended r.ending ≡ true)
row_ended None e = absurd (true≢false (sym e))
row_ended (Some r) e = (r, refl, by r.ending e)
  where
    by : (t : Ending) → is_some (refusal_of t) ≡ true → is_ended t ≡ true
    by not_ended h = h
    by (full drawn wanted) h = refl
    by (answered _ _ _) h = refl
    by memory h = refl
    by no_base h = refl

refusal_stays : {a b : World} → Grows a b → (i : ℕ) → is_some (refusal_at a i) ≡ true → refusal_at b i ≡ refusal_at a i
refusal_stays {a} {b} g i e = let t = row_ended (row_at a i) e in
    ap (option_and_then (λ (r : Row). refusal_of r.ending)) (g.ended i t.0 t.1 t.2 ∙ sym t.1)

full_ended : (w : World) (i : ℕ) → is_some (refusal_at w i) ≡ true → is_ended_at (row_at w) i ≡ true
full_ended w i e = let t = row_ended (row_at w i) e in ap (is_some_and (λ (r : Row). is_ended r.ending)) t.1 ∙ t.2

sum_stays : {a b : World} → Grows a b → (rows : List ℕ) → ((i : ℕ) → contains rows i ≡ true → is_some (refusal_at a i) ≡ true) → sum_by (λ i. added (refusal_at b i)) rows ≡ sum_by (λ i. added (refusal_at a i)) rows
sum_stays g [] each = refl
sum_stays {a} {b} g (x ∷ xs) each = omega (
  arith,
  sum_by-cons (λ i. added (refusal_at a i)) x xs,
  sum_by-cons (λ i. added (refusal_at b i)) x xs,
  ap added (refusal_stays g x (each x (or_left _ _ (eq-eqb x x refl)))),
  sum_stays g xs (λ i had. each i (or_right _ _ had)),
)

-- ---- the same rows tell

pub tells_same : {w w' : World} → Grows w w' → {vain held : ℕ} {rows : List ℕ} → AreTold w vain held rows → (m n : ℕ) (a b : Option Full) → n + added a ≡ m + added b → Tells w w' rows rows m n a b
tells_same g {vain} {held} {rows} t m n a b e = record {
  once = t.once;
  full = λ i had. ap is_some (refusal_stays g i (t.full i had)) ∙ t.full i had;
  sum = omega (arith, e, sum_stays g rows t.full);
}

-- what nobody added isn't told
pub none_added : (o : Option Full) → (is_some o ≡ true → ⊥) → added o ≡ 0
none_added None none = refl
none_added (Some f) none = absurd (none refl)

-- ---- one row more tells

module _ {w w' : World} (g : Grows w w') {vain held : ℕ} {rows : List ℕ} (t : AreTold w vain held rows) (name : ℕ) (open_yet : is_ended_at (row_at w) name ≡ false) (m : ℕ) (f : Full) where
  tells_more : (k : Full) → refusal_at w' name ≡ Some k → k.wanted ≡ f.wanted → Tells w w' rows (name ∷ rows) m m (Some f) None
  tells_more k here same = record {
    once = and_from (not (contains rows name)) (all_distinct rows) (new (contains rows name) refl) t.once;
    full = λ i had. ⊎_elim
        (λ eq. ap (λ j. is_some (refusal_at w' j)) (sym (eqb-true name i eq)) ∙ ap is_some here)
        (λ old. ap is_some (refusal_stays g i (t.full i old)) ∙ t.full i old)
        (or_cases (eqb name i) (contains rows i) had);
    sum = omega (arith, sum_by-cons (λ i. added (refusal_at w' i)) name rows, ap added here, same, sum_stays g rows t.full);
  }
    where
      new : (b : Bool) → contains rows name ≡ b → not b ≡ true
      new true e = absurd (true≢false (sym (full_ended w name (t.full name e)) ∙ open_yet))
      new false e = refl

-- a row's numbers are those of the add
numbers_same : (f : Full) (t : Ending) → has_numbers f t ≡ true → (k : Full) × (refusal_of t ≡ Some k) × (k.wanted ≡ f.wanted)
numbers_same f (full drawn wanted) e = (record { drawn = drawn; wanted = wanted }, refl, sym (eqb-true f.wanted wanted (and_parts _ _ e).1))
numbers_same f not_ended e = absurd (true≢false (sym e))
numbers_same f (answered _ _ _) e = absurd (true≢false (sym e))
numbers_same f memory e = absurd (true≢false (sym e))
numbers_same f no_base e = absurd (true≢false (sym e))

-- a word of a row was stored: with the last one the row may tell of the add that was in hand
pub tells_row : {w w' : World} → Grows w w' → {vain held : ℕ} {rows : List ℕ} → AreTold w vain held rows → (name : ℕ) → is_ended_at (row_at w) name ≡ false → (m : ℕ) (ended : Bool) (row : Option Row) (a : Option Full) → row_at w' name ≡ row
    → (new : List ℕ) × Tells w w' rows new m m a (vain_after ended row a)
tells_row g {vain} {held} {rows} t name open_yet m ended row None here = (rows, tells_same g t m m None None refl)
tells_row {w} {w'} g {vain} {held} {rows} t name open_yet m ended row (Some f) here = by ended row here
  where
    by : (ended : Bool) (row : Option Row) → row_at w' name ≡ row → (new : List ℕ) × Tells w w' rows new m m (Some f) (vain_after ended row (Some f))
    by false row e = (rows, tells_same g t m m (Some f) (Some f) refl)
    by true None e = (rows, tells_same g t m m (Some f) (Some f) refl)
    by true (Some r) e = numbers (has_numbers f r.ending) refl
      where
        numbers : (b : Bool) → has_numbers f r.ending ≡ b → (new : List ℕ) × Tells w w' rows new m m (Some f) (cond b None (Some f))
        numbers false z = (rows, tells_same g t m m (Some f) (Some f) refl)
        numbers true z = let k = numbers_same f r.ending z in (name ∷ rows, tells_more g t name open_yet m f k.0 (ap (option_and_then (λ (x : Row). refusal_of x.ending)) e ∙ k.1) k.2)
