-- The lists of heaps, priority queues and ordered sequences never fall.
use Rattle.std.proofs.Common.{◌≡◌, ℕ, zero, suc, ◌-◌, ◌<◌, eqb, leb, Bool, true, false, cond, List, [], ◌∷◌, ◌++◌, length, drop, get_or, refl, sym, ◌∙◌, subst, arith, ◌⊎◌, inl, inr, ⊎_elim, Option, Some, None}
use Rattle.std.specs.List.{list_all, list_any}
use Rattle.std.specs.List.Sorted.{IsNonDecreasing}
use Rattle.std.proofs.lemmas.Bool.{cases_Bool, leb-true, and_parts, and_from, or_cases, or_left, or_right, false≢true}
use Rattle.std.proofs.lemmas.List.Recursion.{and_at}
use Rattle.std.proofs.lemmas.List.Sorted.{IsNonDecreasingBy-take, IsNonDecreasingBy-drop}
use Rattle.std.proofs.lemmas.List.Kept.{IsNonDecreasingBy-filter}
use Rattle.lazy_rec.specs.declared.events.Kind.{Kind}
use Rattle.lazy_rec.specs.declared.events.Op.{Op}
use Rattle.lazy_rec.specs.declared.events.Op.TheVariants as ops
use Rattle.lazy_rec.specs.declared.events.Event.{Event}
use Rattle.lazy_rec.specs.declared.events.Reply.{Reply}
use Rattle.lazy_rec.specs.Kinds.{same_kind, kinds_with, uses_base}
use Rattle.lazy_rec.specs.Plain.{effect, second_list, without_last, without_first_equal, has_item, contains, rising, insert_rising, most_items}
use Rattle.lazy_rec.specs.History.{event_of, event_name, lists, plain, kind_of, is_smaller, IsScript}
use Rattle.lazy_rec.proofs.ByPlaceLaws.{from_lower}
use Rattle.lazy_rec.proofs.NumberLaws.{same_kind-eq}
use Rattle.lazy_rec.proofs.HistoryLaws.{stands, base_passes, smaller-lt, kind-if_base, kind-has_op, kind_is, lists_is, lists_none, HoldsOfBoth, picked_holds}
use Rattle.plain_model.specs.Laws.{keeps_order}
use Rattle.plain_model.proofs.ByPlaces.{without_last-take}
use Rattle.plain_model.proofs.RisingLists.{is_rising, is_rising-IsNonDecreasing, is_rising-insert_rising, is_rising-rising}

nothing-rises : IsNonDecreasing []
nothing-rises i j d l h = absurd (omega arith)

IsNonDecreasing-is_rising : (v : List ℕ) → is_rising v ≡ true → IsNonDecreasing v
IsNonDecreasing-is_rising [] r i j d l h = absurd (omega arith)
IsNonDecreasing-is_rising (x ∷ xs) r zero zero d l h = omega arith
IsNonDecreasing-is_rising (x ∷ xs) r zero (suc j) d l h =
    let p = and_parts (list_all (leb x) xs) (is_rising xs) r in
    leb-true x (get_or xs j d) (and_at (list_all (leb x)) (leb x) refl (λ _ _. refl) xs j d (omega arith) p.0)
IsNonDecreasing-is_rising (x ∷ xs) r (suc i) zero d l h = absurd (omega arith)
IsNonDecreasing-is_rising (x ∷ xs) r (suc i) (suc j) d l h =
    let p = and_parts (list_all (leb x) xs) (is_rising xs) r in
    IsNonDecreasing-is_rising xs p.1 i j d (omega arith) (omega arith)

all-without : (y x : ℕ) (v : List ℕ) → list_all (leb y) v ≡ true → list_all (leb y) (without_first_equal x v) ≡ true
all-without y x [] a = refl
all-without y x (z ∷ zs) a =
    let p = and_parts (leb y z) (list_all (leb y) zs) a in
    ⊎_elim
    (λ t. rw t p.1)
    (λ f. rw f (and_from (leb y z) (list_all (leb y) (without_first_equal x zs)) p.0 (all-without y x zs p.1)))
    (cases_Bool (eqb x z))

is_rising-without : (x : ℕ) (v : List ℕ) → is_rising v ≡ true → is_rising (without_first_equal x v) ≡ true
is_rising-without x [] r = refl
is_rising-without x (y ∷ ys) r =
    let p = and_parts (list_all (leb y) ys) (is_rising ys) r in
    ⊎_elim
    (λ t. rw t p.1)
    (λ f. rw f (and_from (list_all (leb y) (without_first_equal x ys)) (is_rising (without_first_equal x ys)) (all-without y x ys p.0) (is_rising-without x ys p.1)))
    (cases_Bool (eqb x y))

either-rises : (b : Bool) (v w : List ℕ) (r s : Reply) → IsNonDecreasing v → IsNonDecreasing w → IsNonDecreasing (cond {A = List ℕ × Reply} b (v, r) (w, s)).0
either-rises true v w r s hv hw = hv
either-rises false v w r s hv hw = hw

-- an operation that a kind in rising order has
abbrev is_ordered : Op → Bool
is_ordered op = list_any keeps_order (kinds_with op)

effect-rises : (op : Op) (v w : List ℕ) (x : ℕ) → is_ordered op ≡ true → IsNonDecreasing v → IsNonDecreasing (effect op v w x).0
effect-rises ops.Size v w x o r = r
effect-rises ops.Insert v w x o r = either-rises (leb (length (insert_rising x v)) most_items) (insert_rising x v) v _ _ (IsNonDecreasing-is_rising (insert_rising x v) (is_rising-insert_rising x v (is_rising-IsNonDecreasing v r))) r
effect-rises ops.Min v w x o r = r
effect-rises ops.Delmin v w x o r = either-rises (has_item v) (drop 1 v) v _ _ (IsNonDecreasingBy-drop (λ (y : ℕ). y) 1 v r) r
effect-rises ops.Meld v w x o r = either-rises (leb (length (rising (v ++ w))) most_items) (rising (v ++ w)) v _ _ (IsNonDecreasing-is_rising (rising (v ++ w)) (is_rising-rising (v ++ w))) r
effect-rises ops.Max v w x o r = r
effect-rises ops.Delmax v w x o r = either-rises (has_item v) (without_last v) v _ _ (subst IsNonDecreasing (sym (without_last-take v)) (IsNonDecreasingBy-take (λ (y : ℕ). y) (length v - 1) v r)) r
effect-rises ops.Has v w x o r = r
effect-rises ops.Remove v w x o r = either-rises (contains x v) (without_first_equal x v) v _ _ (IsNonDecreasing-is_rising (without_first_equal x v) (is_rising-without x v (is_rising-IsNonDecreasing v r))) r
effect-rises ops.Upto v w x o r = IsNonDecreasingBy-filter (λ (y : ℕ). y) (λ y. leb y x) v r
effect-rises _ v w x o r = absurd (false≢true o)

keeps_order-same : (k l : Kind) → same_kind k l ≡ true → keeps_order k ≡ true → keeps_order l ≡ true
keeps_order-same k l s o = subst (λ (kind : Kind). keeps_order kind ≡ true) (same_kind-eq k l s) o

ordered-among : (k : Kind) (ks : List Kind) → keeps_order k ≡ true → list_any (same_kind k) ks ≡ true → list_any keeps_order ks ≡ true
ordered-among k [] o h = h
ordered-among k (l ∷ ls) o h =
    ⊎_elim
    (λ t. or_left (keeps_order l) (list_any keeps_order ls) (keeps_order-same k l t o))
    (λ t. or_right (keeps_order l) (list_any keeps_order ls) (ordered-among k ls o t))
    (or_cases (same_kind k l) (list_any (same_kind k) ls) h)

-- no kind in rising order has the operation that makes a second list
second-rises : (op : Op) (v : List ℕ) (x : ℕ) → is_ordered op ≡ true → IsNonDecreasing (second_list op v x)
second-rises ops.Split v x o = absurd (false≢true o)
second-rises _ v x o = nothing-rises

-- both lists of a name rise
abbrev BothRise : List ℕ × List ℕ → Type 0
BothRise = HoldsOfBoth IsNonDecreasing

-- `new` makes empty lists, and any other operation has a base
new_or_not : (op : Op) → ((v w : List ℕ) (x : ℕ) → BothRise ((effect op v w x).0, second_list op v x)) ⊎ (uses_base op ≡ true)
new_or_not (ops.New k) = inl (λ v w x. (nothing-rises, nothing-rises))
new_or_not _ = inr refl

abbrev Rises : List Event → ℕ → Type 0
Rises events n = (k : Kind) → kind_of (event_of events) n ≡ Some k → keeps_order k ≡ true → BothRise (lists (event_of events) n)

version-rises : (events : List Event) (v : ℕ) → BothRise (lists (event_of events) (event_name v)) → IsNonDecreasing (plain (event_of events) v)
unfolding plain
version-rises events v both = picked_holds IsNonDecreasing (lists (event_of events)) v both

rises-event : (events : List Event) → IsScript events → (i : ℕ) (e : Event) → event_of events i ≡ Some e → ((m : ℕ) → m < i → Rises events m) → Rises events i
rises-event events s i e h lower k g o =
    let at = stands (event_of events) i e (s.each i e h) in
    subst BothRise (sym (lists_is (event_of events) i e h at.smaller))
    (⊎_elim
    (λ new. new (plain (event_of events) e.base) (plain (event_of events) e.other) e.arg)
    (λ (u : uses_base e.op ≡ true).
    let same : kind_of (event_of events) (event_name e.base) ≡ Some k = sym (kind-if_base e.op (kind_of (event_of events) (event_name e.base)) u) ∙ (sym (kind_is (event_of events) i e h at.smaller) ∙ g) in
    let ordered = ordered-among k (kinds_with e.op) o (kind-has_op (event_of events) e k at.kinds u same) in
    let below : event_name e.base < i = smaller-lt i e.base (base_passes (is_smaller i) e at.smaller u) in
    let base = version-rises events e.base (lower (event_name e.base) below k same o) in
    (effect-rises e.op (plain (event_of events) e.base) (plain (event_of events) e.other) e.arg ordered base, second-rises e.op (plain (event_of events) e.base) e.arg ordered))
    (new_or_not e.op))

rises-name : (events : List Event) → IsScript events → (i : ℕ) (o : Option Event) → event_of events i ≡ o → ((m : ℕ) → m < i → Rises events m) → Rises events i
rises-name events s i None h lower = λ k g o. subst BothRise (sym (lists_none (event_of events) i h)) (nothing-rises, nothing-rises)
rises-name events s i (Some e) h lower = rises-event events s i e h lower

pub rises : (events : List Event) → IsScript events → (v : ℕ) (k : Kind) → kind_of (event_of events) (event_name v) ≡ Some k → keeps_order k ≡ true → IsNonDecreasing (plain (event_of events) v)
rises events s v k g o =
    version-rises events v (from_lower (Rises events) (λ i lower. rises-name events s i (event_of events i) refl lower) (event_name v) k g o)
