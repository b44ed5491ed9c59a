-- Three multiplications join eight digits to the number that they write.
use Rattle.std.proofs.Common.{◌≡◌, ℕ, ◌+◌, ◌*◌, ◌/◌, ◌%◌, ◌^◌, ◌<◌, List, [], ◌∷◌, refl, ap, ◌∙◌, arith}
use lib.Bits.{bit_and, and_block, and_mask}
use lib.Lanes.{number_l}
use Rattle.std.specs.Int.Digits.{number_from_digits}
use Rattle.script_text.specs.FrontDigits.{AreEightDigits}

-- ---- masks

two_bytes : (x : ℕ) → bit_and x 0x00ff_00ff ≡ x / 2 ^ 16 % 256 * 2 ^ 16 + x % 2 ^ 16 % 256
two_bytes x =
    let e : x ≡ x / 2 ^ 16 * 2 ^ 16 + x % 2 ^ 16 = omega arith in
    ap (λ y. bit_and y 0x00ff_00ff) e ∙ and_block 16 (x / 2 ^ 16) 255 (x % 2 ^ 16) 255 (omega arith) (omega arith)
    ∙ (λ i. and_mask (x / 2 ^ 16) 8 i * 2 ^ 16 + and_mask (x % 2 ^ 16) 8 i)

four_bytes : (x : ℕ) → bit_and x 0x00ff_00ff_00ff_00ff ≡ (x / 2 ^ 32 / 2 ^ 16 % 256 * 2 ^ 16 + x / 2 ^ 32 % 2 ^ 16 % 256) * 2 ^ 32 + (x % 2 ^ 32 / 2 ^ 16 % 256 * 2 ^ 16 + x % 2 ^ 32 % 2 ^ 16 % 256)
four_bytes x =
    let e : x ≡ x / 2 ^ 32 * 2 ^ 32 + x % 2 ^ 32 = omega arith in
    ap (λ y. bit_and y 0x00ff_00ff_00ff_00ff) e ∙ and_block 32 (x / 2 ^ 32) 0x00ff_00ff (x % 2 ^ 32) 0x00ff_00ff (omega arith) (omega arith)
    ∙ (λ i. two_bytes (x / 2 ^ 32) i * 2 ^ 32 + two_bytes (x % 2 ^ 32) i)

two_halves : (x : ℕ) → bit_and x 0x0000_ffff_0000_ffff ≡ x / 2 ^ 32 % 65536 * 2 ^ 32 + x % 2 ^ 32 % 65536
two_halves x =
    let e : x ≡ x / 2 ^ 32 * 2 ^ 32 + x % 2 ^ 32 = omega arith in
    ap (λ y. bit_and y 0x0000_ffff_0000_ffff) e ∙ and_block 32 (x / 2 ^ 32) 65535 (x % 2 ^ 32) 65535 (omega arith) (omega arith)
    ∙ (λ i. and_mask (x / 2 ^ 32) 16 i * 2 ^ 32 + and_mask (x % 2 ^ 32) 16 i)

-- ---- steps

-- p, q, r and s are pairs of digits, and x, y and z those between them
pairs_kept : (p x q y r z s n : ℕ) → p < 100 → x < 100 → q < 100 → y < 100 → r < 100 → z < 100 → s < 100
    → n ≡ p + 2 ^ 8 * x + 2 ^ 16 * q + 2 ^ 24 * y + 2 ^ 32 * r + 2 ^ 40 * z + 2 ^ 48 * s
    → bit_and n 0x00ff_00ff_00ff_00ff ≡ (s * 2 ^ 16 + r) * 2 ^ 32 + (q * 2 ^ 16 + p)
pairs_kept p x q y r z s n P X Q Y R Z S e =
    let high : n / 2 ^ 32 ≡ (z + 2 ^ 8 * s) * 256 + r = omega arith in
    let low : n % 2 ^ 32 ≡ (x + 2 ^ 8 * q + 2 ^ 16 * y) * 256 + p = omega arith in
    let a : n / 2 ^ 32 / 2 ^ 16 % 256 ≡ s = omega arith in
    let b : n / 2 ^ 32 % 2 ^ 16 % 256 ≡ r = omega arith in
    let c : n % 2 ^ 32 / 2 ^ 16 % 256 ≡ q = omega arith in
    let d : n % 2 ^ 32 % 2 ^ 16 % 256 ≡ p = omega arith in
    four_bytes n ∙ (rw (a, b, c, d) refl)

fours_kept : (f g h n : ℕ) → f < 10000 → g < 10000 → h < 10000 → n ≡ f + 2 ^ 16 * g + 2 ^ 32 * h → bit_and n 0x0000_ffff_0000_ffff ≡ h * 2 ^ 32 + f
fours_kept f g h n F G H e =
    let a : n / 2 ^ 32 % 65536 ≡ h = omega arith in
    let b : n % 2 ^ 32 % 65536 ≡ f = omega arith in
    two_halves n ∙ (rw (a, b) refl)

fours_made : (p q r s : ℕ) → p < 100 → q < 100 → r < 100 → s < 100
    → ((s * 2 ^ 16 + r) * 2 ^ 32 + (q * 2 ^ 16 + p)) * 6553601 % 2 ^ 64 / 65536 ≡ 100 * p + q + 2 ^ 16 * (100 * q + r) + 2 ^ 32 * (100 * r + s)
fours_made p q r s P Q R S = omega arith

eight_made : (f h : ℕ) → f < 10000 → h < 10000 → (h * 2 ^ 32 + f) * 42949672960001 % 2 ^ 64 / 2 ^ 32 ≡ 10000 * f + h
eight_made f h F H = omega arith

pairs_made : (a b c d e f g h n : ℕ) → a < 10 → b < 10 → c < 10 → d < 10 → e < 10 → f < 10 → g < 10 → h < 10
    → n ≡ a + 2 ^ 8 * b + 2 ^ 16 * c + 2 ^ 24 * d + 2 ^ 32 * e + 2 ^ 40 * f + 2 ^ 48 * g + 2 ^ 56 * h
    → n * 2561 % 2 ^ 64 / 256 ≡ 10 * a + b + 2 ^ 8 * (10 * b + c) + 2 ^ 16 * (10 * c + d) + 2 ^ 24 * (10 * d + e) + 2 ^ 32 * (10 * e + f) + 2 ^ 40 * (10 * f + g) + 2 ^ 48 * (10 * g + h)
pairs_made a b c d e f g h n A B C D E F G H is = omega arith

-- ---- all of them

abbrev joined : ℕ → ℕ
joined n =
    let pairs = bit_and (n * 2561 % 2 ^ 64 / 256) 0x00ff_00ff_00ff_00ff in
    let fours = bit_and (pairs * 6553601 % 2 ^ 64 / 65536) 0x0000_ffff_0000_ffff in
    fours * 42949672960001 % 2 ^ 64 / 2 ^ 32

pub eight_is : (ds : List ℕ) (n : ℕ) → AreEightDigits ds → n ≡ number_l 256 ds → joined n ≡ number_from_digits 10 ds
eight_is [] n all is = absurd (omega arith)
eight_is (a ∷ []) n all is = absurd (omega arith)
eight_is (a ∷ b ∷ []) n all is = absurd (omega arith)
eight_is (a ∷ b ∷ c ∷ []) n all is = absurd (omega arith)
eight_is (a ∷ b ∷ c ∷ d ∷ []) n all is = absurd (omega arith)
eight_is (a ∷ b ∷ c ∷ d ∷ e ∷ []) n all is = absurd (omega arith)
eight_is (a ∷ b ∷ c ∷ d ∷ e ∷ f ∷ []) n all is = absurd (omega arith)
eight_is (a ∷ b ∷ c ∷ d ∷ e ∷ f ∷ g ∷ []) n all is = absurd (omega arith)
eight_is (a ∷ b ∷ c ∷ d ∷ e ∷ f ∷ g ∷ h ∷ i ∷ ds) n all is = absurd (omega arith)
eight_is (a ∷ b ∷ c ∷ d ∷ e ∷ f ∷ g ∷ h ∷ []) n all is =
    let pairs = pairs_made a b c d e f g h n (omega arith) (omega arith) (omega arith) (omega arith) (omega arith) (omega arith) (omega arith) (omega arith) (omega arith) in
    let kept = pairs_kept (10 * a + b) (10 * b + c) (10 * c + d) (10 * d + e) (10 * e + f) (10 * f + g) (10 * g + h) (n * 2561 % 2 ^ 64 / 256) (omega arith) (omega arith) (omega arith) (omega arith) (omega arith) (omega arith) (omega arith) pairs in
    let fours = fours_made (10 * a + b) (10 * c + d) (10 * e + f) (10 * g + h) (omega arith) (omega arith) (omega arith) (omega arith) in
    let halves = fours_kept (100 * (10 * a + b) + (10 * c + d)) (100 * (10 * c + d) + (10 * e + f)) (100 * (10 * e + f) + (10 * g + h)) _ (omega arith) (omega arith) (omega arith) fours in
    let made : joined n ≡ 10000 * (100 * (10 * a + b) + (10 * c + d)) + (100 * (10 * e + f) + (10 * g + h)) = rw (kept, halves) (eight_made (100 * (10 * a + b) + (10 * c + d)) (100 * (10 * e + f) + (10 * g + h)) (omega arith) (omega arith)) in
    made ∙ omega arith
