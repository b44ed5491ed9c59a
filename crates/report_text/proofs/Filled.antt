-- A buffer that is written over behind its front.
use Rattle.std.proofs.Common.{◌≡◌, ◌≤◌, ℕ, ◌+◌, List, ◌++◌, length, take, subst, ap, ◌∙◌, append_assoc}
use Rattle.std.proofs.lemmas.List.{take-take, take-append-le, length-take-le}
use Rattle.std.proofs.Math.Seq.{take-append-add}

-- the first f bytes, and what the buffer begins with
pub take-filled : (f n len : ℕ) (xs buf post rest : List ℕ) → f ≤ length xs → n ≤ length buf → f + n ≤ len → take (f + n) (take len (take f xs ++ (buf ++ post) ++ rest)) ≡ take f xs ++ take n buf
take-filled f n len xs buf post rest hf hn hl =
    let behind : take (f + n) (take f xs ++ (buf ++ (post ++ rest))) ≡ take f xs ++ take n (buf ++ (post ++ rest)) =
    subst (λ k. take (k + n) (take f xs ++ (buf ++ (post ++ rest))) ≡ take f xs ++ take n (buf ++ (post ++ rest))) (length-take-le f xs hf) (take-append-add (take f xs) (buf ++ (post ++ rest)) n) in
    take-take (f + n) len (take f xs ++ (buf ++ post) ++ rest) hl ∙ (ap (take (f + n)) (simp append_assoc) ∙ (behind ∙ ap (λ ys. take f xs ++ ys) (take-append-le n buf (post ++ rest) hn)))
