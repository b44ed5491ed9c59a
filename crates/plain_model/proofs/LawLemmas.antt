-- The laws of the effects.
use Rattle.std.proofs.Common.{◌≡◌, ℕ, zero, suc, ◌+◌, ◌≤◌, ◌<◌, eqb, leb, ltb, Bool, true, false, cond, ◌↔◌, List, [], ◌∷◌, ◌++◌, length, take, drop, filter, refl, ap, sym, ◌∙◌, arith, ⊎_elim, Contains, get_or, Some, slice_get, length-append, take-append-drop}
use Rattle.std.specs.List.{list_all}
use Rattle.std.specs.List.Sorted.{IsNonDecreasing}
use Rattle.std.proofs.lemmas.Bool.{cases_Bool, leb-true, leb-false, le-leb, le-ltb, lt-ltb, lt-leb, and_parts, eqb-true, eq-eqb, false≢true, or_right}
use Rattle.std.proofs.lemmas.List.Sorted.{IsPermutation-append_comm}
use Rattle.lazy_rec.specs.Plain.{effect, most_items, grown, rising, insert_rising, contains, told}
use Rattle.lazy_rec.specs.declared.events.Op.TheVariants as ops
use Rattle.lazy_rec.specs.declared.events.Reply.{Reply}
use Rattle.lazy_rec.specs.declared.events.Reply.TheVariants as replies
use Rattle.plain_model.specs.Laws.{list_after, reply_of, after_snocs}
use Rattle.plain_model.proofs.Growth.{grown-allowed}
use Rattle.plain_model.proofs.RisingLists.{is_rising, is_rising-IsNonDecreasing, rising-same, times-IsPermutation}
use Rattle.lazy_rec.proofs.PlainLaws.{length-rising}

-- what begins with y goes on to begin with y
begins : (b : Bool) (y : ℕ) (v longer : List ℕ) (xs : List ℕ) → ((w : List ℕ) → slice_get (after_snocs (y ∷ w) xs) 0 ≡ Some y) → slice_get (after_snocs (cond {A = List ℕ × Reply} b (y ∷ longer, replies.Ok) (y ∷ v, replies.TooLong)).0 xs) 0 ≡ Some y
begins true y v longer xs h = h longer
begins false y v longer xs h = h v

first-after_snocs : (y : ℕ) (v xs : List ℕ) → slice_get (after_snocs (y ∷ v) xs) 0 ≡ Some y
first-after_snocs y v [] = refl
first-after_snocs y v (x ∷ xs) = begins (leb (length (y ∷ v ++ x ∷ [])) most_items) y v (v ++ x ∷ []) xs (λ w. first-after_snocs y w xs)

pub head-after_snocs : (y : ℕ) (xs : List ℕ) → reply_of ops.Head (after_snocs [] (y ∷ xs)) [] 0 ≡ replies.Number y
head-after_snocs y xs = ap told (first-after_snocs y [] xs)

-- an item that is at most each of a list goes before them
pub insert_rising-least : (x : ℕ) (v : List ℕ) → list_all (leb x) v ≡ true → insert_rising x v ≡ x ∷ v
insert_rising-least x [] h = refl
insert_rising-least x (y ∷ ys) h =
    let p = and_parts (leb x y) (list_all (leb x) ys) h in
    let le = leb-true x y p.0 in
    ⊎_elim
    (λ t. let ge = leb-true y x t in
    let same : x ≡ y = omega arith in
    rw (t, insert_rising-least x ys p.1, same))
    (λ f. rw f)
    (cases_Bool (leb y x))

pub least-put_back : (v : List ℕ) (x : ℕ) → IsNonDecreasing v → length v ≤ most_items → reply_of ops.Min v [] 0 ≡ replies.Number x → list_after ops.Insert (list_after ops.Delmin v [] 0) [] x ≡ v
least-put_back [] x h few t = absurd (cc)
least-put_back (y ∷ ys) x h few t =
    let p = and_parts (list_all (leb y) ys) (is_rising ys) (is_rising-IsNonDecreasing (y ∷ ys) h) in
    let same : y ≡ x = cc in
    let e : insert_rising x ys ≡ y ∷ ys = ap (λ (z : ℕ). insert_rising z ys) (sym same) ∙ insert_rising-least y ys p.0 in
    ap (λ (r : List ℕ × Reply). r.0) (grown-allowed ys (insert_rising x ys) (length (y ∷ ys)) true (ap length e) (sym (le-leb (length (y ∷ ys)) most_items few)) refl) ∙ e

pub parts-whole : (n : ℕ) (v : List ℕ) → length v ≤ most_items → (grown (take n v) (take n v ++ drop n v)).0 ≡ v
parts-whole n v few =
    let e = take-append-drop n v in
    ap (λ (r : List ℕ × Reply). r.0) (grown-allowed (take n v) (take n v ++ drop n v) (length v) true (ap length e) (sym (le-leb (length v) most_items few)) refl) ∙ e

none-above : (x b : ℕ) (v : List ℕ) → b < x → list_all (leb x) v ≡ true → filter (λ y. leb y b) v ≡ []
none-above x b [] h a = refl
none-above x b (y ∷ ys) h a =
    let p = and_parts (leb x y) (list_all (leb x) ys) a in
    let le = leb-true x y p.0 in
    let no : leb y b ≡ false = lt-leb y b (omega arith) in
    rw no (none-above x b ys h p.1)

pub upto-above : (b : ℕ) (v : List ℕ) → is_rising v ≡ true → filter (λ y. leb y b) v ++ filter (λ y. ltb b y) v ≡ v
upto-above b [] h = refl
upto-above b (y ∷ ys) h =
    let p = and_parts (list_all (leb y) ys) (is_rising ys) h in
    let ih = upto-above b ys p.1 in
    ⊎_elim
    (λ t. let no = le-ltb b y (leb-true y b t) in rw (t, no) (ap (λ (l : List ℕ). y ∷ l) ih))
    (λ f. let yes = lt-ltb b y (leb-false y b f) in
    let none = none-above y b ys (leb-false y b f) p.0 in
    rw (f, yes, none) (ap (λ (l : List ℕ). y ∷ l) (rw none at ih)))
    (cases_Bool (leb y b))

pub meld-comm : (v w : List ℕ) → length v + length w ≤ most_items → effect ops.Meld v w 0 ≡ effect ops.Meld w v 0
meld-comm v w few =
    let same : rising (v ++ w) ≡ rising (w ++ v) = rising-same (v ++ w) (w ++ v) (λ x. times-IsPermutation x (v ++ w) (w ++ v) (IsPermutation-append_comm v w)) in
    let a : length (rising (v ++ w)) ≡ length v + length w = length-rising (v ++ w) ∙ length-append v w in
    let b : length (rising (w ++ v)) ≡ length v + length w = ap length (sym same) ∙ a in
    let yes = sym (le-leb (length v + length w) most_items few) in
    grown-allowed v (rising (v ++ w)) (length v + length w) true a yes refl
    ∙ (ap (λ (l : List ℕ). (l, replies.Ok)) same
    ∙ sym (grown-allowed w (rising (w ++ v)) (length v + length w) true b yes refl))

has-from : (x : ℕ) (v : List ℕ) → contains x v ≡ true → Contains v x
has-from x [] h = absurd (false≢true h)
has-from x (y ∷ ys) h =
    ⊎_elim
    (λ t. (0, omega arith, sym (eqb-true x y t)))
    (λ (f : eqb x y ≡ false). let rest : contains x ys ≡ true = rw f at h in
    let i = has-from x ys rest in let l : suc i.0 < suc (length ys) = let b = i.1 in omega arith in (suc i.0, l, i.2))
    (cases_Bool (eqb x y))

has-at : (x : ℕ) (v : List ℕ) (k : ℕ) → k < length v → get_or v k x ≡ x → contains x v ≡ true
has-at x [] k l e = absurd (omega arith)
has-at x (y ∷ ys) zero l e = rw (eq-eqb x y (sym e)) refl
has-at x (y ∷ ys) (suc k) l e = or_right (eqb x y) (contains x ys) (has-at x ys k (omega arith) e)

one_not_zero : replies.Number 0 ≡ replies.Number 1 → ⊥
one_not_zero e = let n : ◌≡◌ {A = ℕ} 0 1 = cc in omega arith

pub has-yes : (x : ℕ) (v : List ℕ) → (reply_of ops.Has v [] x ≡ replies.Number 1) ↔ Contains v x
has-yes x v = (
  λ h. ⊎_elim (λ t. has-from x v t) (λ (f : contains x v ≡ false). absurd (one_not_zero (rw f at h))) (cases_Bool (contains x v)),
  λ i. rw (has-at x v i.0 i.1 i.2) refl,
)

pub has-no : (x : ℕ) (v : List ℕ) → (reply_of ops.Has v [] x ≡ replies.Number 0) ↔ (¬ Contains v x)
has-no x v = (
  λ h i. one_not_zero (sym h ∙ rw (has-at x v i.0 i.1 i.2) refl),
  λ n. ⊎_elim (λ t. absurd (n (has-from x v t))) (λ (f : contains x v ≡ false). rw f refl) (cases_Bool (contains x v)),
)
