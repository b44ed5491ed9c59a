-- Takes and gives, one after another.
use Rattle.std.proofs.Common.{◌≡◌, ◌≤◌, ℕ, ◌+◌, ◌-◌, List, ◌++◌, Option, Some, None, length, take, drop, subst, sym, ap, ◌∙◌, append_assoc}
use Rattle.std.proofs.lemmas.List.{take_rest, take-take, take-append-le, take-append-drop, length-take-le, drop-drop}
use Rattle.std.proofs.Math.Seq.{take-add, take-append-add}
use Rattle.std.specs.Io.KnownBytes.{Appends, Consumes}

pub Consumes-append : (a b c : Option (List ℕ)) (xs ys : List ℕ) → Consumes a b xs → Consumes b c ys → Consumes a c (xs ++ ys)
Consumes-append None b c xs ys h k = tt
Consumes-append (Some us) None c xs ys h k = absurd h
Consumes-append (Some us) (Some ws) None xs ys h k = absurd k
Consumes-append (Some us) (Some ws) (Some cs) xs ys h k = h ∙ (ap (λ zs. xs ++ zs) k ∙ sym (append_assoc xs ys cs))

pub Appends-append : (a b c : Option (List ℕ)) (xs ys : List ℕ) → Appends a b xs → Appends b c ys → Appends a c (xs ++ ys)
Appends-append None b c xs ys h k = tt
Appends-append (Some us) None c xs ys h k = absurd h
Appends-append (Some us) (Some ws) None xs ys h k = absurd k
Appends-append (Some us) (Some ws) (Some cs) xs ys h k = k ∙ (ap (λ zs. zs ++ ys) h ∙ append_assoc us xs ys)

-- the first i bytes of a text were given, and then n bytes of its rest
pub Appends_front : (a b c : Option (List ℕ)) (i n : ℕ) (xs : List ℕ) → Appends a b (take i xs) → Appends b c (take n (take (length xs - i) (drop i xs))) → Appends a c (take (i + n) xs)
Appends_front a b c i n xs h k = subst (Appends a c) (sym (take-add i n xs)) (Appends-append a b c (take i xs) (take n (drop i xs)) h (rw take_rest at k))

-- a buffer behind the first f bytes was written over: those bytes, and what the buffer begins with
pub take-filled : (f n len : ℕ) (xs buf post rest : List ℕ) → f ≤ length xs → n ≤ length buf → f + n ≤ len → take (f + n) (take len (take f xs ++ (buf ++ post) ++ rest)) ≡ take f xs ++ take n buf
take-filled f n len xs buf post rest hf hn hl =
    let behind : take (f + n) (take f xs ++ (buf ++ (post ++ rest))) ≡ take f xs ++ take n (buf ++ (post ++ rest)) =
    subst (λ k. take (k + n) (take f xs ++ (buf ++ (post ++ rest))) ≡ take f xs ++ take n (buf ++ (post ++ rest))) (length-take-le f xs hf) (take-append-add (take f xs) (buf ++ (post ++ rest)) n) in
    take-take (f + n) len (take f xs ++ (buf ++ post) ++ rest) hl ∙ (ap (take (f + n)) (simp append_assoc) ∙ (behind ∙ ap (λ ys. take f xs ++ ys) (take-append-le n buf (post ++ rest) hn)))

-- what is left behind i bytes begins with those of its bytes that were copied
pub drop-front : (i n : ℕ) (xs buf : List ℕ) → take n buf ≡ take n (take (length xs - i) (drop i xs)) → drop i xs ≡ take n buf ++ drop (i + n) xs
drop-front i n xs buf e = sym (ap (λ ys. ys ++ drop (i + n) xs) (rw take_rest at e) ∙ (ap (λ ys. take n (drop i xs) ++ ys) (sym (drop-drop n i xs)) ∙ take-append-drop n (drop i xs)))
