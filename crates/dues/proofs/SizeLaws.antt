-- No version has more items than its size bound.
use Rattle.std.proofs.Common.{◌≡◌, ℕ, ◌+◌, ◌-◌, ◌≤◌, leb, Bool, true, false, cond, refl, arith, Option, Some, None, List, [], ◌∷◌, ◌++◌, drop, length, length-append, length-drop, length-take}
use Rattle.std.specs.Prelude.{filter}
use Rattle.std.proofs.lemmas.Bool.{leb-true}
use Rattle.std.proofs.lemmas.List.{length-reverse}
use Rattle.std.proofs.lemmas.List.Sums.{length-filter, count_by-le-length}
use Rattle.lazy_rec.specs.declared.events.Op.{Op}
use Rattle.lazy_rec.specs.declared.events.Op.TheVariants as ops
use Rattle.lazy_rec.specs.declared.events.Event.{Event}
use Rattle.lazy_rec.specs.declared.events.Reply.{Reply}
use Rattle.lazy_rec.specs.declared.events.Reply.TheVariants as replies
use Rattle.lazy_rec.specs.Kinds.{is_split}
use Rattle.lazy_rec.specs.Plain.{insert_rising, rising, without_last, without_first_equal, has_item, contains, most_items, grown, without_item, effect, second_list}
use Rattle.lazy_rec.specs.History.{Events, is_second, event_name, picked, lists_made, lists, plain}
use Rattle.lazy_rec.proofs.ByPlaceLaws.{by_place_related}
use Rattle.lazy_rec.proofs.PlainLaws.{length-insert_rising, length-rising, length-without_last, length-without_first_equal}
use Rattle.dues.specs.Sizes.{at_most_all, size_bound, second_bound, picked_bound, bounds_made, bounds, bound_of}
use Rattle.dues.specs.Rooms.{both_bounds}

filter-fits : (p : ℕ → Bool) (v : List ℕ) → length (filter p v) ≤ length v
filter-fits p v = omega (arith, length-filter p v, count_by-le-length p v)

-- a version within its bound, which is one that a version may have
abbrev pub Fits : ℕ → ℕ → Type 0
Fits size bound = (size ≤ bound) × (bound ≤ most_items)

-- a list that grows stays within a bound that lets it grow
grown_fits : (v longer : List ℕ) (n k : ℕ) → Fits (length v) n → length longer ≤ k → n ≤ k → Fits (length (grown v longer).0) (at_most_all k)
grown_fits v longer n k h l m = by (leb (length longer) most_items) refl
  where
    by : (b : Bool) → leb (length longer) most_items ≡ b → Fits (length ((cond {A = List ℕ × Reply} b (longer, replies.Ok) (v, replies.TooLong)).0)) (at_most_all k)
    by true e = let few = leb-true (length longer) most_items e in (omega arith, omega arith)
    by false e = (omega arith, omega arith)

-- taking an item out leaves at most one fewer, or nothing where there was nothing
one_fewer : (v shorter : List ℕ) (n : ℕ) → Fits (length v) n → length shorter ≡ length v - 1 → Fits (length (without_item (has_item v) v shorter).0) (n - 1)
one_fewer [] shorter n h e = (omega arith, omega arith)
one_fewer (x ∷ xs) shorter n h e = (omega arith, omega arith)

at_most_as_many : (has : Bool) (v shorter : List ℕ) (n : ℕ) → Fits (length v) n → length shorter ≤ length v → Fits (length (without_item has v shorter).0) n
at_most_as_many true v shorter n h l = (omega arith, omega arith)
at_most_as_many false v shorter n h l = (omega arith, omega arith)

pub effect_fits : (op : Op) (v w : List ℕ) (n m x : ℕ) → Fits (length v) n → Fits (length w) m → Fits (length (effect op v w x).0) (size_bound op n m x)
effect_fits (ops.New _) v w n m x h k = (omega arith, omega arith)
effect_fits ops.Cons v w n m x h k = grown_fits v (x ∷ v) n (n + 1) h (omega arith) (omega arith)
effect_fits ops.Snoc v w n m x h k = grown_fits v (v ++ x ∷ []) n (n + 1) h (omega (arith, length-append v (x ∷ []))) (omega arith)
effect_fits ops.Append v w n m x h k = grown_fits v (v ++ w) n (n + m) h (omega (arith, length-append v w)) (omega arith)
effect_fits ops.Reverse v w n m x h k = (omega (arith, length-reverse v), omega arith)
effect_fits ops.Tail v w n m x h k = one_fewer v (drop 1 v) n h (length-drop 1 v)
effect_fits ops.Insert v w n m x h k = grown_fits v (insert_rising x v) n (n + 1) h (omega (arith, length-insert_rising x v)) (omega arith)
effect_fits ops.Delmin v w n m x h k = one_fewer v (drop 1 v) n h (length-drop 1 v)
effect_fits ops.Meld v w n m x h k = grown_fits v (rising (v ++ w)) n (n + m) h (omega (arith, length-rising (v ++ w), length-append v w)) (omega arith)
effect_fits ops.Delmax v w n m x h k = one_fewer v (without_last v) n h (length-without_last v)
effect_fits ops.Pushl v w n m x h k = grown_fits v (x ∷ v) n (n + 1) h (omega arith) (omega arith)
effect_fits ops.Pushr v w n m x h k = grown_fits v (v ++ x ∷ []) n (n + 1) h (omega (arith, length-append v (x ∷ []))) (omega arith)
effect_fits ops.Popl v w n m x h k = one_fewer v (drop 1 v) n h (length-drop 1 v)
effect_fits ops.Popr v w n m x h k = one_fewer v (without_last v) n h (length-without_last v)
effect_fits ops.Take v w n m x h k = (omega (arith, length-take x v), omega arith)
effect_fits ops.Drop v w n m x h k = (omega (arith, length-drop x v), omega arith)
effect_fits ops.Concat v w n m x h k = grown_fits v (v ++ w) n (n + m) h (omega (arith, length-append v w)) (omega arith)
effect_fits ops.Remove v w n m x h k = at_most_as_many (contains x v) v (without_first_equal x v) n h (length-without_first_equal x v)
effect_fits ops.Split v w n m x h k = (omega (arith, length-take x v), omega arith)
effect_fits ops.Upto v w n m x h k = (omega (arith, filter-fits (λ y. leb y x) v), omega arith)
effect_fits _ v w n m x h k = h

second_fits : (op : Op) (v : List ℕ) (n x : ℕ) → Fits (length v) n → Fits (length (second_list op v x)) (cond (is_split op) (second_bound n x) 0)
second_fits ops.Split v n x h = (omega (arith, length-drop x v), omega arith)
second_fits _ v n x h = (omega arith, omega arith)

-- what a split cuts in two is within one bound, and other operations make one version
both_made_fit : (op : Op) (n m x : ℕ) → n ≤ most_items → size_bound op n m x ≤ most_items → size_bound op n m x + cond (is_split op) (second_bound n x) 0 ≤ most_items
both_made_fit ops.Split n m x h k = omega arith
both_made_fit _ n m x h k = omega arith

-- the lists of a name within its bounds, and both bounds together such as one version may have
record PairFits (pair : List ℕ × List ℕ) (limits : ℕ × ℕ) : Type 0 where
  first : Fits (length pair.0) limits.0
  second : Fits (length pair.1) limits.1
  both : limits.0 + limits.1 ≤ most_items

picked_fits : (f : ℕ → List ℕ × List ℕ) (g : ℕ → ℕ × ℕ) → ((i : ℕ) → PairFits (f i) (g i)) → (v : ℕ) → Fits (length (picked f v)) (picked_bound g v)
picked_fits f g fits v = by (is_second v) (f (event_name v)) (g (event_name v)) (fits (event_name v))
  where
    by : (b : Bool) (pair : List ℕ × List ℕ) (limits : ℕ × ℕ) → PairFits pair limits → Fits (length (cond b pair.1 pair.0)) (cond b limits.1 limits.0)
    by true pair limits fit = fit.second
    by false pair limits fit = fit.first

made_fits : (f : ℕ → List ℕ) (g : ℕ → ℕ) → ((v : ℕ) → Fits (length (f v)) (g v)) → (o : Option Event) → PairFits (lists_made f o) (bounds_made g o)
made_fits f g fits None = record { first = (omega arith, omega arith); second = (omega arith, omega arith); both = omega arith }
made_fits f g fits (Some e) =
    let first = effect_fits e.op (f e.base) (f e.other) (g e.base) (g e.other) e.arg (fits e.base) (fits e.other) in
    record {
      first = first;
      second = second_fits e.op (f e.base) (g e.base) e.arg (fits e.base);
      both = both_made_fit e.op (g e.base) (g e.other) e.arg (fits e.base).1 first.1;
    }

pair_fits : (events : Events) (i : ℕ) → PairFits (lists events i) (bounds events i)
unfolding lists bounds
pair_fits events i = by_place_related PairFits ([], []) (λ lower j. lists_made (picked lower) (events j)) (0, 0) (λ lower j. bounds_made (picked_bound lower) (events j))
    (made_fits (λ _. []) (λ _. 0) (λ _. (omega arith, omega arith)) None) i
    (λ p f g l fits. made_fits (picked f) (picked_bound g) (picked_fits f g fits) (events p))

pub bounds_fit : (events : Events) (v : ℕ) → Fits (length (plain events v)) (bound_of events v)
unfolding plain bound_of
bounds_fit events v = picked_fits (lists events) (bounds events) (pair_fits events) v

pub both_fit : (events : Events) (i : ℕ) → both_bounds events i ≤ most_items
both_fit events i = (pair_fits events i).both
