-- Numbers that are counted up as text.
use Rattle.std.proofs.Common.{◌≡◌, ℕ, zero, suc, ◌+◌, ◌/◌, ◌%◌, ◌<◌, ◌≤◌, ◌≢◌, List, [], ◌∷◌, ◌++◌, length, take, drop, refl, ap, sym, subst, ◌∙◌, decimal, codes, slice_set, slice_index_or, inl, inr, lit<, append_assoc, arith}
use Rattle.std.proofs.lemmas.Fmt.{decimal_digit, decimal_step, length-decimal-le}
use Rattle.std.proofs.lemmas.Bool.{cases_lt}
use Rattle.std.proofs.Math.Seq.{drop-nil, take-append-add}
use Rattle.std.proofs.lemmas.List.{length-append, take-take}
use Rattle.report_text.specs.Written.{counted}

pub record Last (n : ℕ) : Type 0 where
  pub ds : List ℕ
  pub is : decimal n ≡ ds ++ (48 + n % 10) ∷ []
  pub next : n % 10 < 9 → decimal (n + 1) ≡ ds ++ (48 + n % 10 + 1) ∷ []

-- the last digit, and what one more is
pub last : (n : ℕ) → n < 4294967296 → Last n
last n small =
    elim (cases_lt n 10) [
      | inl lt ↦ record {
        ds = [];
        is = decimal_digit n lt ∙ ap (λ d. d ∷ []) (omega arith);
        next = λ h. decimal_digit (n + 1) (omega arith) ∙ ap (λ d. d ∷ []) (omega arith);
      }
      | inr ge ↦
          let same : (n + 1) % 10 ≢ 0 → (n + 1) / 10 ≡ n / 10 = λ h. omega arith in
          record {
            ds = decimal (n / 10);
            is = decimal_step n ge (omega arith);
            next = λ h. decimal_step (n + 1) (omega arith) (omega arith) ∙ (ap (λ q. decimal q ++ (48 + (n + 1) % 10) ∷ []) (same (omega arith)) ∙ ap (λ d. decimal (n / 10) ++ d ∷ []) (omega arith));
          }
    ]

-- the last two digits of a number that ends in 9, and what one more is
pub record LastTwo (n : ℕ) : Type 0 where
  pub ds : List ℕ
  pub is : decimal n ≡ ds ++ (48 + n / 10 % 10) ∷ 57 ∷ []
  pub next : n / 10 % 10 < 9 → decimal (n + 1) ≡ ds ++ (48 + n / 10 % 10 + 1) ∷ 48 ∷ []

pub last_two : (n : ℕ) → n < 4294967296 → 10 ≤ n → n % 10 ≡ 9 → LastTwo n
last_two n small ge nine =
    let l = last (n / 10) (omega arith) in
    let tens : (n + 1) / 10 ≡ n / 10 + 1 = omega arith in
    let ones : 48 + (n + 1) % 10 ≡ 48 = omega arith in
    record {
      ds = l.ds;
      is = decimal_step n ge (omega arith) ∙ (ap (λ d. decimal (n / 10) ++ (48 + d) ∷ []) nine ∙ (ap (λ ys. ys ++ 57 ∷ []) l.is ∙ append_assoc l.ds ((48 + n / 10 % 10) ∷ []) (57 ∷ [])));
      next = λ h. decimal_step (n + 1) (omega arith) (omega arith) ∙ (ap (λ q. decimal q ++ (48 + (n + 1) % 10) ∷ []) tens ∙ (ap (λ d. decimal (n / 10 + 1) ++ d ∷ []) ones ∙ (ap (λ ys. ys ++ 48 ∷ []) (l.next h) ∙ append_assoc l.ds ((48 + n / 10 % 10 + 1) ∷ []) (48 ∷ []))));
    }

pub record IsSet (bs ds rest : List ℕ) (d x s i : ℕ) : Type 0 where
  pub here : slice_index_or bs i 0 ≡ d
  pub new : drop s (slice_set bs i x) ≡ ds ++ x ∷ rest

set_at : (ds rest : List ℕ) (d x : ℕ) → IsSet (ds ++ d ∷ rest) ds rest d x 0 (length ds)
set_at [] rest d x = record { here = refl; new = refl }
set_at (c ∷ cs) rest d x = let ih = set_at cs rest d x in record { here = ih.here; new = ap (λ ys. c ∷ ys) ih.new }

-- one element of what stands from s on is set
pub set_in : (s i : ℕ) (bs ds rest : List ℕ) (d x : ℕ) → drop s bs ≡ ds ++ d ∷ rest → i ≡ s + length ds → IsSet bs ds rest d x s i
set_in zero i bs ds rest d x e at = let same : i ≡ length ds = omega (arith, at) in subst (λ j. IsSet bs ds rest d x 0 j) (sym same) (subst (λ ys. IsSet ys ds rest d x 0 (length ds)) (sym e) (set_at ds rest d x))
set_in (suc s) i [] ds rest d x e at = absurd (omega (arith, ap length e, length-append ds (d ∷ rest)))
set_in (suc s) zero (b ∷ bs) ds rest d x e at = absurd (omega arith)
set_in (suc s) (suc i) (b ∷ bs) ds rest d x e at = let ih = set_in s i bs ds rest d x e (omega arith) in record { here = ih.here; new = ih.new }

pub drop_more : {X : Type 0} (s k : ℕ) (l : List X) → drop k (drop s l) ≡ drop (s + k) l
drop_more zero k l = ap (λ j. drop j l) (omega arith)
drop_more (suc s) k [] = drop-nil k ∙ sym (drop-nil (suc s + k))
drop_more (suc s) k (x ∷ xs) = let same : suc (s + k) ≡ suc s + k = omega arith in drop_more s k xs ∙ ap (λ j. drop j (x ∷ xs)) same

-- how many digits of a name a counter shows
pub name_digits : (n d : ℕ) (shown : List ℕ) → shown ≡ counted n → n < 4294967296 → d + 20 ≡ length shown → (d ≡ length (decimal n)) × (d ≤ 10)
name_digits n d shown is small many =
    let short : length (decimal n) ≤ 10 = length-decimal-le 10 n (lit< tt) (omega (arith, small)) (omega (arith, small)) in
    let long = ap length is ∙ length-append (decimal n) (codes " ok\n                ") in (omega (arith, many, long), omega (arith, many, long, short))

-- the digits of a name and so many bytes behind them, among the first that a counter shows
pub name_front : (n d k : ℕ) (shown front : List ℕ) → shown ≡ counted n → d ≡ length (decimal n) → d + k ≤ 16 → front ≡ take 16 shown → take (d + k) front ≡ decimal n ++ take k (codes " ok\n                ")
name_front n d k shown front is many few here =
    ap (take (d + k)) (here ∙ ap (take 16) is)
    ∙ (take-take (d + k) 16 (counted n) few
    ∙ (ap (λ l. take (l + k) (counted n)) many
    ∙ take-append-add (decimal n) (codes " ok\n                ") k))

pub line_joined : (out name ended : List ℕ) → ((out ++ (name ++ 32 ∷ [])) ++ ended) ++ codes "\n" ≡ out ++ (name ++ codes " " ++ ended ++ codes "\n")
line_joined out name ended = simp append_assoc
