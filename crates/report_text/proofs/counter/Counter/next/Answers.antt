use Rattle.std.proofs.Common.{◌≡◌, ◌+◌, ◌/◌, ◌%◌, ◌≤◌, ◌<◌, ◌++◌, ◌∷◌, [], length, drop, decimal, codes, ap, sym, subst, ◌∙◌, ⊎_elim, lit<, arith, slice_index_or, slice_set, append_assoc, length-append}
use Rattle.std.proofs.lemmas.Bool.{cases_lt}
use Rattle.std.proofs.lemmas.Fmt.{decimal_digit, length-decimal-le}
use Rattle.std.proofs.lemmas.List.{length-drop}
use Rattle.std.proofs.Math.Seq.{drop-append_seam}
use Rattle.report_text.proofs.Digits.{last, last_two, set_in, drop_more}
use Rattle.report_text.proofs.counter.Counter.next.Goals as goal

pub write_digits-self-inside-requires : goal.write_digits-self-inside-requires
write_digits-self-inside-requires c =
    let d : length (decimal (c.args.n + 1)) ≤ 20 = length-decimal-le 20 (c.args.n + 1) (lit< tt) (omega (arith, c.requires.small)) (omega (arith, c.requires.small)) in (d, omega arith)

pub invariant_of-self-else-self-lt19 : goal.invariant_of-self-else-self-lt19
invariant_of-self-else-self-lt19 c =
    let w = c.write_digits-self-inside in
    let more = drop_more w.result (length (decimal (c.args.n + 1))) w.new.buf in
    let here : drop (w.result + length (decimal (c.args.n + 1))) w.new.buf ≡ codes " ok\n                " = sym more ∙ (ap (λ l. drop (length (decimal (c.args.n + 1))) l) w.ensures.written ∙ (drop-append_seam (decimal (c.args.n + 1)) (drop 20 c.self.inside.bytes) ∙ c.self.invariant.1)) in
    (omega (arith, w.ensures.start), subst (λ k. drop k w.new.buf ≡ codes " ok\n                ") w.ensures.start here)

pub returns-then-self-lt57 : goal.returns-then-self-lt57
returns-then-self-lt57 c =
    let n = c.args.n in
    let bs = c.self.inside.bytes in
    let s = c.self.inside.start in
    let l = last n c.requires.small in
    let d = 48 + n % 10 in
    let x = slice_index_or bs 19 0 + 1 in
    let shown : drop s bs ≡ l.ds ++ d ∷ codes " ok\n                " = c.self.view_is ∙ (c.requires.at ∙ (ap (λ ys. ys ++ codes " ok\n                ") l.is ∙ append_assoc l.ds (d ∷ []) (codes " ok\n                "))) in
    let long = ap length shown ∙ length-append l.ds (d ∷ codes " ok\n                ") in
    let at : 19 ≡ s + length l.ds = omega (arith, long, length-drop s bs) in
    let set = set_in s 19 bs l.ds (codes " ok\n                ") d x shown at in
    let low : n % 10 < 9 = omega (arith, set.here, c.if-self-lt57.true) in
    set.new ∙ (ap (λ y. l.ds ++ (y + 1) ∷ codes " ok\n                ") set.here ∙ (sym (append_assoc l.ds ((d + 1) ∷ []) (codes " ok\n                ")) ∙ ap (λ ys. ys ++ codes " ok\n                ") (sym (l.next low))))

pub returns-then-self-lt57-2 : goal.returns-then-self-lt57-2
returns-then-self-lt57-2 c =
    let n = c.args.n in
    let bs = c.self.inside.bytes in
    let s = c.self.inside.start in
    let rest = codes " ok\n                " in
    let shown : drop s bs ≡ decimal n ++ rest = c.self.view_is ∙ c.requires.at in
    let long = ap length shown ∙ length-append (decimal n) rest in
    let ge : 10 ≤ n = ⊎_elim (λ lt. absurd (omega (arith, long, length-drop s bs, ap length (decimal_digit n lt), c.if-self-lt19.true, c.self.told))) (λ le. le) (cases_lt n 10) in
    let l = last n c.requires.small in
    let ones : drop s bs ≡ l.ds ++ (48 + n % 10) ∷ rest = shown ∙ (ap (λ ys. ys ++ rest) l.is ∙ append_assoc l.ds ((48 + n % 10) ∷ []) rest) in
    let last_at : 19 ≡ s + length l.ds = omega (arith, ap length ones, length-append l.ds ((48 + n % 10) ∷ rest), length-drop s bs, c.self.told, c.if-self-lt19.true) in
    let nine : n % 10 ≡ 9 = omega (arith, (set_in s 19 bs l.ds rest (48 + n % 10) 0 ones last_at).here, c.if-self-lt57.false) in
    let t = last_two n c.requires.small ge nine in
    let d = 48 + n / 10 % 10 in
    let x = slice_index_or bs 18 0 + 1 in
    let both : drop s bs ≡ t.ds ++ d ∷ 57 ∷ rest = shown ∙ (ap (λ ys. ys ++ rest) t.is ∙ append_assoc t.ds (d ∷ 57 ∷ []) rest) in
    let tens_at : 18 ≡ s + length t.ds = omega (arith, ap length both, length-append t.ds (d ∷ 57 ∷ rest), length-drop s bs, c.self.told, c.if-self-lt19.true) in
    let tens = set_in s 18 bs t.ds (57 ∷ rest) d x both tens_at in
    let low : n / 10 % 10 < 9 = omega (arith, tens.here, c.if-self-lt57-2.true) in
    let ones_at : 19 ≡ s + length (t.ds ++ x ∷ []) = omega (arith, tens_at, length-append t.ds (x ∷ [])) in
    let set = set_in s 19 (slice_set bs 18 x) (t.ds ++ x ∷ []) rest 57 48 (tens.new ∙ sym (append_assoc t.ds (x ∷ []) (57 ∷ rest))) ones_at in
    set.new ∙ (append_assoc t.ds (x ∷ []) (48 ∷ rest) ∙ (ap (λ y. t.ds ++ (y + 1) ∷ 48 ∷ rest) tens.here ∙ (sym (append_assoc t.ds ((d + 1) ∷ 48 ∷ []) rest) ∙ ap (λ ys. ys ++ rest) (sym (t.next low)))))
