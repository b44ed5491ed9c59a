-- Numbers made of fields.
use Rattle.std.proofs.Common.{◌≡◌, true, ℕ, ◌<◌, ◌+◌, ◌*◌, ◌%◌, ◌^◌, arith, sym, subst, List, [], ◌∷◌, bit_or}
use Rattle.std.specs.List.{AllByRecursion, list_all}
use Rattle.std.proofs.lemmas.Bool.{ltb-true, and_parts}
use Rattle.std.proofs.lemmas.Nat.{shl_whole, or_shifted, or_comm, pow-add, mul-add-lt}
use Rattle.std.proofs.Math.Nat.{mul_comm}
use Rattle.lazy_rec.specs.Packed.{Field, number, fits_field, fields, in_range, has_unused_zero}
use Rattle.lazy_rec.specs.declared.records.Rec.{Rec}

abbrev pub FitsField : Field → Type 0
FitsField f = f.1 < 2 ^ f.0

abbrev pub total_width : List Field → ℕ
total_width [] = 0
total_width (f ∷ fs) = f.0 + total_width fs

-- a number of fields that fit is below the power of their widths
pub number-below : (fs : List Field) → AllByRecursion FitsField fs → number fs < 2 ^ total_width fs
number-below [] h = omega arith
number-below (f ∷ fs) h =
    let rest = number-below fs h.1 in
    let lt : f.1 < 2 ^ f.0 = h.0 in
    rw pow-add (omega (arith, mul-add-lt (number fs) (2 ^ f.0) f.1 (2 ^ total_width fs) rest lt, mul_comm (number fs) (2 ^ f.0)))

-- a field is put below others by a shift and an or
pub or-shifted_number : (f : Field) (fs : List Field) (n : ℕ) → f.1 < 2 ^ f.0 → AllByRecursion FitsField fs → f.0 + total_width fs < 64 → n ≡ number fs → bit_or f.1 (n * 2 ^ f.0 % 2 ^ 64) ≡ number (f ∷ fs)
or-shifted_number f fs n lt h room e =
    let below : n < 2 ^ total_width fs = subst (λ k. k < 2 ^ total_width fs) (sym e) (number-below fs h) in
    rw (shl_whole n (total_width fs) f.0 64 below (omega arith), or_comm f.1 (n * 2 ^ f.0), or_shifted n f.0 f.1 lt, e) (omega (arith, mul_comm (number fs) (2 ^ f.0)))

each_fits : (fs : List Field) → list_all fits_field fs ≡ true → AllByRecursion FitsField fs
each_fits [] h = tt
each_fits (f ∷ fs) h = let parts = and_parts (fits_field f) (list_all fits_field fs) h in (ltb-true f.1 (2 ^ f.0) parts.0, each_fits fs parts.1)

pub fields-fit : (r : Rec) → in_range r ≡ true → AllByRecursion FitsField (fields r)
fields-fit r h = each_fits (fields r) (and_parts (list_all fits_field (fields r)) (has_unused_zero r) h).0
