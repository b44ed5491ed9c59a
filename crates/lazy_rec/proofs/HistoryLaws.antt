-- What names and versions stand for, unfolded, and what an event of a script keeps.
use Rattle.std.proofs.Common.{◌≡◌, ℕ, zero, suc, ◌+◌, ◌-◌, ◌<◌, ◌≤◌, ◌^◌, refl, sym, ap, subst, ◌∙◌, arith, eqb, ltb, Bool, true, false, cond, ◌&&◌, ◌||◌, Option, Some, None, List, [], ◌∷◌, ◌++◌, length}
use Rattle.std.specs.Prelude.{slice_get, IsSome}
use Rattle.std.specs.List.{AllByRecursion, list_all}
use Rattle.std.proofs.lemmas.Bool.{true≢false, and_parts, eqb-true, ltb-true, le-leb}
use Rattle.std.proofs.lemmas.Bool.Decides.{nat_tests}
use Rattle.lazy_rec.specs.declared.events.Kind.{Kind}
use Rattle.lazy_rec.specs.declared.events.Op.{Op}
use Rattle.lazy_rec.specs.declared.events.Op.TheVariants as ops
use Rattle.lazy_rec.specs.declared.events.Event.{Event}
use Rattle.lazy_rec.specs.declared.events.Reply.{Reply}
use Rattle.lazy_rec.specs.Tests.{is_some_and}
use Rattle.lazy_rec.specs.ByPlace.{below, by_place}
use Rattle.lazy_rec.specs.Kinds.{bases, bases_of, belongs, same_kind, uses_base, uses_other, uses_argument, is_trim}
use Rattle.lazy_rec.specs.Plain.{effect, second_list}
use Rattle.lazy_rec.specs.History.{Events, event_of, second_mark, is_second, event_name, picked, lists_made, lists, plain, new_kind, kind_made, kind_of, is_smaller, has_smaller_bases, is_of_its_kind, names_seconds_well, is_event_at}
use Rattle.lazy_rec.proofs.ByPlaceLaws.{below_low, by_place_related, by_place_holds}

-- ---- names of versions

-- a number below the mark is a name, and stands for the first version
pub is_second-first : (v : ℕ) → v < second_mark → is_second v ≡ false
is_second-first v h = grind (arith, nat_tests)

pub event_name-first : (v : ℕ) → v < second_mark → event_name v ≡ v
event_name-first v h = rw (is_second-first v h) refl

pub is_second-second : (i : ℕ) → is_second (i + second_mark) ≡ true
is_second-second i = le-leb second_mark (i + second_mark) (omega arith)

pub event_name-second : (i : ℕ) → event_name (i + second_mark) ≡ i
event_name-second i = rw (is_second-second i) (omega arith)

pub event_name-le : (v : ℕ) → event_name v ≤ v
event_name-le v = by (is_second v)
  where
    by : (b : Bool) → cond b (v - second_mark) v ≤ v
    by true = omega arith
    by false = omega arith

-- the number of a version is below twice the mark where its name is below the mark
pub version-low : (v : ℕ) → v ≤ event_name v + second_mark
version-low v = by (is_second v)
  where
    by : (b : Bool) → v ≤ cond b (v - second_mark) v + second_mark
    by true = omega arith
    by false = omega arith

-- ---- the versions that an event uses

pub base-if_other : (op : Op) → uses_other op ≡ true → uses_base op ≡ true
base-if_other (ops.New _) h = absurd (true≢false (sym h))
base-if_other _ h = refl

pub all_true : {X : Type 0} (test : X → Bool) (xs : List X) → list_all test xs ≡ true → AllByRecursion (λ x. test x ≡ true) xs
all_true test [] h = tt
all_true test (x ∷ xs) h = let k = and_parts (test x) (list_all test xs) h in (k.0, all_true test xs k.1)

-- what holds of all of them holds of the base and of the other, where they are used
pub of_base : (op : Op) (base other : ℕ) (P : ℕ → Type 0) → AllByRecursion P (bases_of op base other) → uses_base op ≡ true → P base
of_base op base other P h u = by (uses_base op) u h
  where
    by : (b : Bool) → b ≡ true → AllByRecursion P (cond b (base ∷ cond (uses_other op) (other ∷ []) []) []) → P base
    by true e k = k.0
    by false e k = absurd (true≢false (sym e))

pub of_other : (op : Op) (base other : ℕ) (P : ℕ → Type 0) → AllByRecursion P (bases_of op base other) → uses_other op ≡ true → P other
of_other op base other P h u = by (uses_base op) (uses_other op) (base-if_other op u) u h
  where
    by : (b c : Bool) → b ≡ true → c ≡ true → AllByRecursion P (cond b (base ∷ cond c (other ∷ []) []) []) → P other
    by true true e f k = k.1.0
    by true false e f k = absurd (true≢false (sym f))
    by false c e f k = absurd (true≢false (sym e))

pub base_passes : (test : ℕ → Bool) (e : Event) → list_all test (bases e) ≡ true → uses_base e.op ≡ true → test e.base ≡ true
base_passes test e h = of_base e.op e.base e.other (λ b. test b ≡ true) (all_true test (bases e) h)

pub other_passes : (test : ℕ → Bool) (e : Event) → list_all test (bases e) ≡ true → uses_other e.op ≡ true → test e.other ≡ true
other_passes test e h = of_other e.op e.base e.other (λ b. test b ≡ true) (all_true test (bases e) h)

abbrev pub IsSmaller : ℕ → ℕ → Type 0
IsSmaller i v = is_smaller i v ≡ true

pub smaller-lt : (i v : ℕ) → IsSmaller i v → event_name v < i
smaller-lt i v h = ltb-true (event_name v) i (and_parts (ltb 0 (event_name v)) (ltb (event_name v) i) h).1

pub smaller-pos : (i v : ℕ) → IsSmaller i v → 0 < event_name v
smaller-pos i v h = ltb-true 0 (event_name v) (and_parts (ltb 0 (event_name v)) (ltb (event_name v) i) h).0

-- ---- tables look only at what the operation uses

pub effect_same : (op : Op) (v v' w w' : List ℕ) (x : ℕ) → (uses_base op ≡ true → v ≡ v') → (uses_other op ≡ true → w ≡ w') → effect op v w x ≡ effect op v' w' x
effect_same (ops.New _) v v' w w' x h k = refl
effect_same ops.Append v v' w w' x h k = rw (h refl, k refl) refl
effect_same ops.Meld v v' w w' x h k = rw (h refl, k refl) refl
effect_same ops.Concat v v' w w' x h k = rw (h refl, k refl) refl
effect_same _ v v' w w' x h k = rw (h refl) refl

pub second_same : (op : Op) (v v' : List ℕ) (x : ℕ) → (uses_base op ≡ true → v ≡ v') → second_list op v x ≡ second_list op v' x
second_same ops.Split v v' x h = rw (h refl) refl
second_same _ v v' x h = refl

pub kind_same : (op : Op) (k l : Option Kind) → (uses_base op ≡ true → k ≡ l) → new_kind op k ≡ new_kind op l
kind_same (ops.New _) k l h = refl
kind_same _ k l h = h refl

pub kind-if_base : (op : Op) (k : Option Kind) → uses_base op ≡ true → new_kind op k ≡ k
kind-if_base (ops.New _) k u = absurd (true≢false (sym u))
kind-if_base _ k u = refl

pub made_same : (e : Event) (f g : ℕ → List ℕ) → (uses_base e.op ≡ true → f e.base ≡ g e.base) → (uses_other e.op ≡ true → f e.other ≡ g e.other) → lists_made f (Some e) ≡ lists_made g (Some e)
made_same e f g h k =
    let first = ap (λ (p : List ℕ × Reply). p.0) (effect_same e.op (f e.base) (g e.base) (f e.other) (g e.other) e.arg h k) in
    let second = second_same e.op (f e.base) (g e.base) e.arg h in
    rw (first, second) refl

pub picked_same : (f g : ℕ → List ℕ × List ℕ) (v : ℕ) → f (event_name v) ≡ g (event_name v) → picked f v ≡ picked g v
picked_same f g v h = ap (λ (pair : List ℕ × List ℕ). cond (is_second v) pair.1 pair.0) h

-- ---- what a name stands for, by what the smaller names stand for

pub plain-first : (events : Events) (i : ℕ) → i < second_mark → plain events i ≡ (lists events i).0
unfolding plain
plain-first events i h = rw (is_second-first i h) refl

pub plain-second : (events : Events) (i : ℕ) → plain events (i + second_mark) ≡ (lists events i).1
unfolding plain
plain-second events i =
    let named : i + second_mark - second_mark ≡ i = omega arith in
    rw (is_second-second i) (ap (λ k. (lists events k).1) named)

pub lists_is : (events : Events) (i : ℕ) (e : Event) → events i ≡ Some e → has_smaller_bases i e ≡ true → lists events i ≡ lists_made (plain events) (Some e)
unfolding lists plain by_place
lists_is events i e here small =
    let step : (ℕ → List ℕ × List ℕ) → ℕ → List ℕ × List ℕ = λ lower j. lists_made (picked lower) (events j) in
    let lower : ℕ → List ℕ × List ℕ = below ([], []) step i in
    let all : ℕ → List ℕ × List ℕ = by_place ([], []) step in
    let same : (b : ℕ) → IsSmaller i b → picked lower b ≡ picked all b = λ b h. picked_same lower all b (below_low ([], []) step i (event_name b) (smaller-lt i b h)) in
    ap (lists_made (picked lower)) here
    ∙ made_same e (picked lower) (picked all) (λ u. same e.base (base_passes _ e small u)) (λ u. same e.other (other_passes _ e small u))

pub lists_none : (events : Events) (i : ℕ) → events i ≡ None → lists events i ≡ ([], [])
unfolding lists by_place
lists_none events i h = ap (lists_made (picked (below ([], []) (λ lower j. lists_made (picked lower) (events j)) i))) h

pub kind_is : (events : Events) (i : ℕ) (e : Event) → events i ≡ Some e → has_smaller_bases i e ≡ true → kind_of events i ≡ kind_made (kind_of events) (Some e)
unfolding kind_of by_place
kind_is events i e here small =
    let step : (ℕ → Option Kind) → ℕ → Option Kind = λ lower j. kind_made lower (events j) in
    ap (kind_made (below None step i)) here
    ∙ kind_same e.op _ _ (λ u. below_low None step i (event_name e.base) (smaller-lt i e.base (base_passes _ e small u)))

pub kind_none : (events : Events) (i : ℕ) → events i ≡ None → kind_of events i ≡ None
unfolding kind_of by_place
kind_none events i h = ap (kind_made (below None (λ lower j. kind_made lower (events j)) i)) h

-- what holds of both lists of a name
abbrev pub HoldsOfBoth : (List ℕ → Type 0) → List ℕ × List ℕ → Type 0
HoldsOfBoth P pair = P pair.0 × P pair.1

pub picked_holds : (P : List ℕ → Type 0) (pairs : ℕ → List ℕ × List ℕ) (v : ℕ) → HoldsOfBoth P (pairs (event_name v)) → P (picked pairs v)
picked_holds P pairs v h = by (is_second v)
  where
    by : (b : Bool) → P (cond b (pairs (event_name v)).1 (pairs (event_name v)).0)
    by true = h.1
    by false = h.0

-- what holds of the empty list, and is kept by each operation, holds of each version
module _ (P : List ℕ → Type 0) (none : P []) (first : (op : Op) (v w : List ℕ) (x : ℕ) → P v → P w → P (effect op v w x).0) (second : (op : Op) (v : List ℕ) (x : ℕ) → P v → P (second_list op v x)) where
  made_holds : (lower : ℕ → List ℕ × List ℕ) → ((q : ℕ) → HoldsOfBoth P (lower q)) → (o : Option Event) → HoldsOfBoth P (lists_made (picked lower) o)
  made_holds lower h None = (none, none)
  made_holds lower h (Some e) =
      let base = picked_holds P lower e.base (h (event_name e.base)) in
      let other = picked_holds P lower e.other (h (event_name e.other)) in
      (first e.op (picked lower e.base) (picked lower e.other) e.arg base other, second e.op (picked lower e.base) e.arg base)

  pub lists_hold : (events : Events) (i : ℕ) → HoldsOfBoth P (lists events i)
  unfolding lists
  lists_hold events i = by_place_holds (HoldsOfBoth P) ([], []) (λ lower j. lists_made (picked lower) (events j)) (none, none) (λ j lower h. made_holds lower h (events j)) i

  pub plain_holds : (events : Events) (v : ℕ) → P (plain events v)
  unfolding plain
  plain_holds events v = picked_holds P (lists events) v (lists_hold events (event_name v))

-- ---- events that agree up to a name

lists_made_agree : (f g : ℕ → List ℕ × List ℕ) (o : Option Event) → ((q : ℕ) → f q ≡ g q) → lists_made (picked f) o ≡ lists_made (picked g) o
lists_made_agree f g None h = refl
lists_made_agree f g (Some e) h = made_same e (picked f) (picked g) (λ _. picked_same f g e.base (h (event_name e.base))) (λ _. picked_same f g e.other (h (event_name e.other)))

pub lists_agree : (E F : Events) (n : ℕ) → ((p : ℕ) → p ≤ n → E p ≡ F p) → lists E n ≡ lists F n
unfolding lists
lists_agree E F n h = by_place_related (λ x y. x ≡ y) ([], []) (λ lower i. lists_made (picked lower) (E i)) ([], []) (λ lower i. lists_made (picked lower) (F i)) refl n
    (λ p f g l same. ap (lists_made (picked f)) (h p l) ∙ lists_made_agree f g (F p) same)

pub plain_agree : (E F : Events) (v : ℕ) → ((p : ℕ) → p ≤ event_name v → E p ≡ F p) → plain E v ≡ plain F v
unfolding plain
plain_agree E F v h = picked_same (lists E) (lists F) v (lists_agree E F (event_name v) h)

kind_made_agree : (f g : ℕ → Option Kind) (o : Option Event) → ((q : ℕ) → f q ≡ g q) → kind_made f o ≡ kind_made g o
kind_made_agree f g None h = refl
kind_made_agree f g (Some e) h = ap (new_kind e.op) (h (event_name e.base))

pub kind_of_agree : (E F : Events) (n : ℕ) → ((p : ℕ) → p ≤ n → E p ≡ F p) → kind_of E n ≡ kind_of F n
unfolding kind_of
kind_of_agree E F n h = by_place_related (λ x y. x ≡ y) None (λ lower i. kind_made lower (E i)) None (λ lower i. kind_made lower (F i)) refl n
    (λ p f g l same. ap (kind_made f) (h p l) ∙ kind_made_agree f g (F p) same)

-- ---- lists of events that grow

pub slice_get-append : {X : Type 0} (xs ys : List X) (i : ℕ) → i < length xs → slice_get (xs ++ ys) i ≡ slice_get xs i
slice_get-append [] ys i h = absurd (omega arith)
slice_get-append (x ∷ xs) ys zero h = refl
slice_get-append (x ∷ xs) ys (suc i) h = slice_get-append xs ys i (omega arith)

pub slice_get-last : {X : Type 0} (xs : List X) (y : X) (ys : List X) → slice_get (xs ++ y ∷ ys) (length xs) ≡ Some y
slice_get-last [] y ys = refl
slice_get-last (x ∷ xs) y ys = slice_get-last xs y ys

pub event_of-append : (es fs : List Event) (n : ℕ) → n ≤ length es → event_of (es ++ fs) n ≡ event_of es n
event_of-append es fs zero h = refl
event_of-append es fs (suc i) h = slice_get-append es fs i (omega arith)

pub event_of-last : (es : List Event) (e : Event) (fs : List Event) → event_of (es ++ e ∷ fs) (suc (length es)) ≡ Some e
event_of-last es e fs = slice_get-last es e fs

pub kind_of-append : (es fs : List Event) (n : ℕ) → n ≤ length es → kind_of (event_of (es ++ fs)) n ≡ kind_of (event_of es) n
kind_of-append es fs n h = kind_of_agree (event_of (es ++ fs)) (event_of es) n (λ p l. event_of-append es fs p (omega arith))

-- ---- an event of a script

pub record StandsAt (events : Events) (i : ℕ) (e : Event) : Type 0 where
  pub trim : is_trim e ≡ true
  pub smaller : has_smaller_bases i e ≡ true
  pub kinds : is_of_its_kind events e ≡ true
  pub seconds : names_seconds_well events e ≡ true
  pub argument : e.arg < 2 ^ 64

pub stands : (events : Events) (i : ℕ) (e : Event) → is_event_at events i e ≡ true → StandsAt events i e
stands events i e h =
    let p = and_parts (is_trim e && has_smaller_bases i e && is_of_its_kind events e && names_seconds_well events e) (ltb e.arg (2 ^ 64)) h in
    let q = and_parts (is_trim e && has_smaller_bases i e && is_of_its_kind events e) (names_seconds_well events e) p.0 in
    let r = and_parts (is_trim e && has_smaller_bases i e) (is_of_its_kind events e) q.0 in
    let s = and_parts (is_trim e) (has_smaller_bases i e) r.0 in
    record { trim = s.0; smaller = s.1; kinds = r.1; seconds = q.1; argument = ltb-true e.arg (2 ^ 64) p.1 }

-- a field that the operation doesn't use is 0
pub record IsTrim (e : Event) : Type 0 where
  pub base : (uses_base e.op || eqb e.base 0) ≡ true
  pub other : (uses_other e.op || eqb e.other 0) ≡ true
  pub argument : (uses_argument e.op || eqb e.arg 0) ≡ true

pub trim_parts : (e : Event) → is_trim e ≡ true → IsTrim e
trim_parts e h =
    let p = and_parts ((uses_base e.op || eqb e.base 0) && (uses_other e.op || eqb e.other 0)) (uses_argument e.op || eqb e.arg 0) h in
    let q = and_parts (uses_base e.op || eqb e.base 0) (uses_other e.op || eqb e.other 0) p.0 in
    record { base = q.0; other = q.1; argument = p.1 }

low_or_zero : (used : Bool) (b i : ℕ) → 0 < i → (used || eqb b 0) ≡ true → (used ≡ true → event_name b < i) → event_name b < i
low_or_zero true b i pos trim h = h refl
low_or_zero false b i pos trim h = let none = eqb-true b 0 trim in omega (arith, event_name-le b)

-- the names of a script's event are smaller than its own, where unused ones are 0
pub base-low : (i : ℕ) (e : Event) → 0 < i → is_trim e ≡ true → has_smaller_bases i e ≡ true → event_name e.base < i
base-low i e pos trim small = low_or_zero (uses_base e.op) e.base i pos (trim_parts e trim).base (λ u. smaller-lt i e.base (base_passes _ e small u))

pub other-low : (i : ℕ) (e : Event) → 0 < i → is_trim e ≡ true → has_smaller_bases i e ≡ true → event_name e.other < i
other-low i e pos trim small = low_or_zero (uses_other e.op) e.other i pos (trim_parts e trim).other (λ u. smaller-lt i e.other (other_passes _ e small u))

-- ---- kinds of a script's event

some_at : {X : Type 0} (test : X → Bool) (o : Option X) (x : X) → o ≡ Some x → is_some_and test o ≡ true → test x ≡ true
some_at {X} test o x e h = let P : Option X → Type 0 = λ k. is_some_and test k ≡ true in subst P e h

some_if : {X : Type 0} (test : X → Bool) (o : Option X) → is_some_and test o ≡ true → IsSome o
some_if test None h = absurd (true≢false (sym h))
some_if test (Some x) h = refl

-- the base has a kind, which has the operation
pub kind-has_op : (events : Events) (e : Event) (k : Kind) → is_of_its_kind events e ≡ true → uses_base e.op ≡ true → kind_of events (event_name e.base) ≡ Some k → belongs k e.op ≡ true
kind-has_op events e k h u g =
    let here = some_at _ (kind_of events (event_name e.base)) k g (base_passes _ e h u) in
    (and_parts (belongs k e.op) (is_some_and (same_kind k) (kind_of events (event_name e.base))) here).0

has_kind : (op : Op) (e : Event) (test : Kind → Bool) (kind : ℕ → Option Kind) → (uses_base op ≡ true → is_some_and test (kind (event_name e.base)) ≡ true) → IsSome (new_kind op (kind (event_name e.base)))
has_kind (ops.New _) e test kind h = refl
has_kind _ e test kind h = some_if test (kind (event_name e.base)) (h refl)

pub event-has_kind : (events : Events) (e : Event) → is_of_its_kind events e ≡ true → IsSome (kind_made (kind_of events) (Some e))
event-has_kind events e h = has_kind e.op e _ (kind_of events) (base_passes _ e h)
