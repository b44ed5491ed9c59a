-- The put of a level.
use Rattle.std.proofs.Common.{◌≡◌, ℕ, suc, ◌+◌, ◌<◌, ◌≤◌, eqb, refl, sym, ap, ◌∙◌, arith, Bool, true, false, Some, List, [], ◌∷◌, ◌++◌, length}
use Rattle.std.specs.Prelude.{flat_map}
use Rattle.std.specs.List.{AllByRecursion}
use Rattle.std.proofs.lemmas.Bool.{and_from, or_left, eq-eqb}
use Rattle.std.proofs.lemmas.List.{append-nil, length-append}
use Rattle.lazy_rec.specs.declared.places.Ref.{Ref}
use Rattle.lazy_rec.specs.declared.places.Item.{Item}
use Rattle.lazy_rec.specs.declared.records.Rec.TheVariants.{TEmpty, Single, Deep}
use Rattle.lazy_rec.specs.Named.{NamedPlace, named}
use Rattle.lazy_rec.specs.Meaning.{means}
use Rattle.heap_store.specs.Span.{Span}
use Rattle.heap_store.specs.World.{World, recs}
use Rattle.heap_store.specs.Completion as top
use Rattle.heap_store.specs.Completion.{is_digit, on_digit, same_places, is_empty_tree}
use Rattle.heap_store.specs.Growth.{Grows}
use Rattle.heap_store.specs.Lawful.{IsLawful, height, is_of_level, may_wait}
use Rattle.heap_store.specs.Hand.{IsInHand}
use Rattle.heap_store.specs.View.{View, IsLawfulView, Fits, Put, purse}
use Rattle.heap_store.proofs.GrowthLaws.{at_true, grows_trans, grows_refl}
use Rattle.heap_store.proofs.LawfulLaws.{lawful_names}
use Rattle.heap_store.proofs.MeaningLaws.{means_is, means_kept}
use Rattle.heap_store.proofs.RecordLaws.{height_kept}
use Rattle.heap_store.proofs.CompletionLaws.{is_middle_at_up}
use Rattle.heap_store.proofs.Steps.{Filled-none, Quiet_refl, filling_start, filling_put}
use Rattle.finger_level.specs.declared.few.Few.{Few}
use Rattle.finger_level.specs.declared.few.Few.TheVariants as few
use Rattle.finger_level.specs.declared.few.Weight.{Weight}
use Rattle.finger_level.specs.declared.level.Digit.{Digit}
use Rattle.finger_level.specs.declared.level.Digit.TheVariants as digits
use Rattle.finger_level.specs.declared.level.Middle.{Middle}
use Rattle.finger_level.specs.declared.level.Middle.TheVariants as middles
use Rattle.finger_level.specs.declared.level.Level.{Level}
use Rattle.finger_level.specs.declared.level.Level.TheVariants as levels
use Rattle.finger_level.specs.declared.level.Family.{Family}
use Rattle.finger_level.specs.declared.level.Family.TheVariants.{First, Later}
use Rattle.finger_level.specs.Few.{few_list, digit_record}
use Rattle.finger_level.specs.Level.{digit_few, digit_list, digit_places, middle_of, middle_places, middle_elements, middle_items, items_of_made, made_of}
use Rattle.finger_level.specs.Puts.{units_shown, IsElement, IsTree, IsMiddle, IsLevel, PartAsk, DigitPut, IsNext, MiddleAsk, MiddlePut, EndsAsk, EndsPut, LevelAsk, LevelPut, IsMadeAt, IsLow}
use Rattle.finger_level.specs.Reads.{IsDigitAt, IsThere, IsUnder, IsUnderMiddle, AreUnder}
use Rattle.finger_level.proofs.Records.{fits_finger}
use Rattle.finger_level.proofs.Values.{level_is, value_height}
use Rattle.finger_level.proofs.Found.{digit_grows}
use Rattle.finger_level.proofs.Laying.{laid_put, laid_trans}
use Rattle.finger_level.proofs.Builds.{elements_up, tree_up, items_up, DigitWell, digit_shown, deep_well, single_well}
use Rattle.finger_level.proofs.Suspending.{places_self}
use Rattle.heap_store.proofs.FillLaws.{Filled_trans}
use Rattle.finger_level.proofs.NodePuts.{all_left, all_right, heights_up}
use Rattle.heap_store.proofs.FixedPlaces.{above_fixed, fixed_records}
use Rattle.heap_store.proofs.PutLaws.{place_fits}
use Rattle.heap_store.proofs.UnitLaws.{free}
use Rattle.finger_level.proofs.Funded.{more_bits}
use Rattle.finger_level.proofs.Pushing.{empty_height}

-- ---- digits and middles in a later world

-- a digit with its elements, in the world after
pub record DigitPart (a w : World) (d q : ℕ) (f : Few) : Type 0 where
  pub well : DigitWell w d q f
  pub items : means (recs w) q ≡ flat_map (means (recs a)) (few_list f)
  pub shown : is_digit w (few_list f) q ≡ true

pub on_few : (test : List ℕ → Bool) (f : Few) (weight : Weight) → on_digit test (digit_record f weight) ≡ test (few_list f)
on_few test (few.One x) weight = refl
on_few test (few.Two x y) weight = refl
on_few test (few.Three x y z) weight = refl
on_few test (few.Four x y z u) weight = refl

pub digit_part : {a w : World} → IsLawful a → IsLawful w → Grows a w → (d limit q : ℕ) (f : Few) → AllByRecursion (IsElement a d limit) (few_list f) → IsDigitAt w q f → DigitPart a w d q f
digit_part {a} {w} law law2 g d limit q f k at =
    let n = digit_shown law2 d limit q f (elements_up law g d limit limit (omega arith) (few_list f) k) at in
    record {
      well = n;
      items = n.items ∙ sym (items_up law g d limit (few_list f) k);
      shown = rw at.here (on_few (same_places w (few_list f)) f at.weight ∙ places_self w (few_list f));
    }

-- the parts of a deep tree, in the world after
pub record DeepParts (a w : World) (d limit left middle right : ℕ) (l : Few) (m : top.Middle) (r : Few) : Type 0 where
  pub first : DigitPart a w d left l
  pub last : DigitPart a w d right r
  pub below : IsTree w (suc d) limit middle
  pub items : means (recs w) left ++ means (recs w) middle ++ means (recs w) right ≡ items_of_made (means (recs a)) (top.deep (few_list l) m (few_list r))

pub deep_parts : {a b w : World} → IsLawful a → IsLawful b → IsLawful w → Grows a b → Grows b w → (d limit more left middle right : ℕ) → limit ≤ more → (l : Few) (m : top.Middle) (r : Few) → IsLevel a d limit (top.deep (few_list l) m (few_list r)) → IsTree b (suc d) more middle → means (recs b) middle ≡ middle_items (means (recs a)) m → IsDigitAt w left l → IsDigitAt w right r → DeepParts a w d more left middle right l m r
deep_parts {a} {b} {w} law law1 law2 g h d limit more left middle right high l m r k tree items fl fr =
    let es = k.elements in
    let one = digit_part law law2 (grows_trans g h) d limit left l (all_left _ (few_list l) _ es) fl in
    let two = digit_part law law2 (grows_trans g h) d limit right r (all_right _ (middle_elements m) (few_list r) (all_right _ (few_list l) (middle_elements m ++ few_list r) es)) fr in
    let t = at_true _ (recs b middle) tree.sort in
    let below : means (recs w) middle ≡ middle_items (means (recs a)) m = sym (means_kept (recs b) (recs w) (lawful_names law1) h.records middle (t.0, t.1)) ∙ items in
    record { first = one; last = two; below = tree_up law1 h (suc d) more more middle (omega arith) tree; items = rw (one.items, below, two.items) refl }

-- ---- heights of levels

pub digit_low : {a w : World} → IsLawful a → IsLawful w → Grows a w → (d limit q m : ℕ) (f : Few) → AllByRecursion (IsElement a d limit) (few_list f) → AllByRecursion (λ e. height (recs a) e ≤ m) (few_list f) → IsDigitAt w q f → height (recs w) q ≤ m
digit_low {a} {w} law law2 g d limit q m f k h at = value_height law2 q m _ at.here (waits f) (names f (heights_up law g d limit m (few_list f) k h))
  where
    waits : (f : Few) → may_wait (digit_record f at.weight) ≡ false
    waits (few.One x) = refl
    waits (few.Two x y) = refl
    waits (few.Three x y z) = refl
    waits (few.Four x y z u) = refl

    names : (f : Few) → AllByRecursion (λ e. height (recs w) e ≤ m) (few_list f) → AllByRecursion (λ (n : NamedPlace). height (recs w) n.0 ≤ m) (named (digit_record f at.weight))
    names (few.One x) k = (k.0, tt)
    names (few.Two x y) k = (k.0, (k.1.0, tt))
    names (few.Three x y z) k = (k.0, (k.1.0, (k.1.1.0, tt)))
    names (few.Four x y z u) k = (k.0, (k.1.0, (k.1.1.0, (k.1.1.1.0, tt))))

pub weaken : (w : World) (o : ℕ) (es : List ℕ) → AllByRecursion (λ e. height (recs w) e < o) es → AllByRecursion (λ e. height (recs w) e ≤ o) es
weaken w o [] h = tt
weaken w o (e ∷ es) h = (omega (arith, h.0), weaken w o es h.1)

-- ---- a deep tree that was put

pub deep_made : {a b w : World} → IsLawful a → IsLawful b → IsLawful w → Grows a b → Grows b w → (d limit more p : ℕ) → limit ≤ more → (left middle right : Ref) (l : Few) (m : top.Middle) (r : Few) → IsLevel a d limit (top.deep (few_list l) m (few_list r)) → IsTree b (suc d) more middle.0 → means (recs b) middle.0 ≡ middle_items (means (recs a)) m → IsDigitAt w left.0 l → IsDigitAt w right.0 r → (z : ℕ) (k : Item) → recs w p ≡ Some (Deep left middle right z k)
    → (family : Family) → IsNext b family m middle.0 → IsLow a family (top.deep (few_list l) m (few_list r)) → IsMadeAt w family (top.deep (few_list l) m (few_list r)) p
deep_made law law1 law2 g h d limit more p high left middle right l m r k tree items fl fr z key here First next low = tt
deep_made {a} {b} {w} law law1 law2 g h d limit more p high left middle right l m r k tree items fl fr z key here (Later s o off) next low =
    let x = deep_parts law law1 law2 g h d limit more left.0 middle.0 right.0 high l m r k tree items fl fr in
    let t = at_true _ (recs b middle.0) tree.sort in
    let mid : height (recs w) middle.0 ≤ o.0 = rw (height_kept (recs b) (recs w) (lawful_names law1) h.records middle.0 (t.0, t.1)) at next.1 in
    let gw = grows_trans g h in
    let el = all_left _ (few_list l) (middle_elements m ++ few_list r) k.elements in
    let er = all_right _ (middle_elements m) (few_list r) (all_right _ (few_list l) (middle_elements m ++ few_list r) k.elements) in
    let hl = weaken a o.0 (few_list l) (all_left _ (few_list l) (middle_elements m ++ few_list r) low) in
    let hr = weaken a o.0 (few_list r) (all_right _ (middle_elements m) (few_list r) (all_right _ (few_list l) (middle_elements m ++ few_list r) low)) in (
      rw here (and_from _ (is_digit w (few_list r) right.0) (and_from (is_digit w (few_list l) left.0) _ x.first.shown (is_middle_at_up b w h o.0 (suc off) m middle.0 next.0)) x.last.shown),
      value_height law2 p o.0 _ here refl (digit_low law law2 gw d limit left.0 o.0 l el hl fl, (mid, (digit_low law law2 gw d limit right.0 o.0 r er hr fr, tt))),
    )

-- ---- one part after another

pub there_up : {a b : World} → Grows a b → (d : Digit) → IsThere a d → IsThere b d
there_up g (digits.Old p f) k = digit_grows g p.0 f k
there_up g (digits.New f) k = tt

pub under_up : (limit more : ℕ) → limit ≤ more → (d : Digit) → IsUnder limit d → IsUnder more d
under_up limit more high (digits.Old p f) k = omega (arith, k, high)
under_up limit more high (digits.New f) k = tt

pub under_middle_up : (limit more : ℕ) → limit ≤ more → (m : Middle) → IsUnderMiddle limit m → IsUnderMiddle more m
under_middle_up limit more high (middles.Tail side t d) k = under_up limit more high d k
under_middle_up limit more high (middles.Shorter side l t r) k = (under_up limit more high l k.0, under_up limit more high r k.1)
under_middle_up limit more high _ k = tt

pub under_level : (limit more : ℕ) → limit ≤ more → (l : Level) → AreUnder limit l → AreUnder more l
under_level limit more high (levels.Deep l m r) k = (under_up limit more high l k.0, under_up limit more high r k.1, under_middle_up limit more high m k.2)
under_level limit more high _ k = tt

pub split_length : (xs ys zs : List ℕ) → length (xs ++ ys ++ zs) ≡ length xs + length ys + length zs
split_length xs ys zs = length-append (xs ++ ys) zs ∙ ap (λ n. n + length zs) (length-append xs ys)

-- what the put of a digit asks, in a later world
part_ask : {a : World} {b : View} {y : Span} → IsLawful a → (d limit : ℕ) (part : Digit) → Grows a b.seen → limit ≤ y.next → IsInHand b.hand y → y.next + digit_places part ≤ y.end → AllByRecursion (IsElement a d limit) (digit_list part) → length (flat_map (means (recs a)) (digit_list part)) ≤ 2147483647 → PartAsk b y (digit_places part) (digit_list part)
part_ask {a} {b} {y} law d limit part g high held room each small = record {
  depth = d;
  elements = record { each = elements_up law g d limit y.next high (digit_list part) each; small = rw (← items_up law g d limit (digit_list part) each) small };
  held = held;
  room = room;
}

-- ---- the ends of a deep tree

module _ {v : View} {run : Span} (law : IsLawfulView v) (left : Digit) (below : Ref) (right : Digit) (whole : Weight) (k : EndsAsk v run left below.0 right whole.size) where
  ends_lengths : whole.size ≡ length (flat_map (means (recs v.seen)) (digit_list left)) + length (means (recs v.seen) below.0) + length (flat_map (means (recs v.seen)) (digit_list right))
  ends_lengths = k.counts ∙ split_length (flat_map (means (recs v.seen)) (digit_list left)) (means (recs v.seen) below.0) (flat_map (means (recs v.seen)) (digit_list right))

  pub first_ask : PartAsk v run (digit_places left) (digit_list left)
  first_ask = part_ask law.world k.depth run.next left (grows_refl v.seen) (omega arith) k.held (omega (arith, k.room)) k.first (omega (arith, ends_lengths, k.small))

  module _ {c : View} {z : Span} {x : ℕ} (lp : DigitPut v c run z left x) where
    pub last_ask : PartAsk c z (digit_places right) (digit_list right)
    last_ask = part_ask law.world k.depth run.next right lp.laid.filled.grows (omega (arith, lp.laid.next)) lp.laid.held (omega (arith, lp.laid.next, lp.laid.end, k.room)) k.last (omega (arith, ends_lengths, k.small))

    pub last_there : IsThere c.seen right
    last_there = there_up lp.laid.filled.grows right k.there.1

    pub last_under : IsUnder z.next right
    last_under = under_up run.next z.next (omega (arith, lp.laid.next)) right k.under.1

    module _ {d : View} {s : Span} {q : ℕ} (rp : DigitPut c d z s right q) where
      ends_grow : Grows v.seen d.seen
      ends_grow = grows_trans lp.laid.filled.grows rp.laid.filled.grows

      pub ends_left : s.next < s.end
      ends_left = omega (arith, lp.laid.next, lp.laid.end, rp.laid.next, rp.laid.end, k.room)

      left_shown : IsDigitAt d.seen x (digit_few left)
      left_shown = digit_grows rp.laid.filled.grows x (digit_few left) lp.shown

      below_same : means (recs d.seen) below.0 ≡ means (recs v.seen) below.0
      below_same = let t = at_true _ (recs v.seen below.0) k.tree.sort in sym (means_kept (recs v.seen) (recs d.seen) (lawful_names law.world) ends_grow.records below.0 (t.0, t.1))

      pub ends_fits : IsLawfulView d → whole.key.0 < 18446744073709551616 → (rx rq : Ref) → rx.0 ≡ x → rq.0 ≡ q → Fits d s.next (Deep rx below rq whole.size whole.key)
      ends_fits law2 key rx rq ex eq =
          let held = rp.laid.held.each s.next (omega arith) ends_left in
          let tree : IsTree d.seen (suc k.depth) s.next below.0 = tree_up law.world ends_grow (suc k.depth) run.next s.next below.0 (omega (arith, lp.laid.next, rp.laid.next)) k.tree in
          let one = digit_part law.world law2.world ends_grow k.depth run.next rx.0 (digit_few left) k.first (rw ex left_shown) in
          let two = digit_part law.world law2.world ends_grow k.depth run.next rq.0 (digit_few right) k.last (rw eq rp.shown) in
          let items : means (recs d.seen) rx.0 ++ means (recs d.seen) below.0 ++ means (recs d.seen) rq.0 ≡ flat_map (means (recs v.seen)) (digit_list left) ++ means (recs v.seen) below.0 ++ flat_map (means (recs v.seen)) (digit_list right) = rw (one.items, two.items, below_same) refl in
          fits_finger law2 s.next held (Deep rx below rq whole.size whole.key) k.depth (deep_well law2.world k.depth s.next s.next (omega arith) (place_fits law2 s.next held) rx below rq (digit_few left) (digit_few right) whole one.well (omega (arith, ex, lp.under, rp.laid.next)) tree two.well (omega (arith, eq, rp.under)) (k.counts ∙ ap length (sym items)) k.small key) refl (free d.seen s.next (Deep rx below rq whole.size whole.key) (purse d) refl)

      pub ends_put : {n : View} {e : Span} {place : ℕ} → (rx rq : Ref) → rx.0 ≡ x → rq.0 ≡ q → Put d n s.next (Deep rx below rq whole.size whole.key) → e ≡ record s { next = s.next + 1 } → place ≡ s.next → EndsPut v n run e left below right whole place
      ends_put {n} {e} {place} rx rq ex eq p after at =
          let l = laid_trans (laid_trans lp.laid rp.laid) (laid_put rp.laid.held (Quiet_refl d) p after refl refl) in
          let next : e.next ≡ s.next + 1 = ap (λ (z : Span). z.next) after in
          let count : digit_places left + digit_places right + 1 ≡ suc (digit_places left + digit_places right) = omega arith in
          rw at (record {
            laid = rw count at l;
            under = omega (arith, next);
            first = rx;
            last = rq;
            here = p.here;
            first_shown = digit_grows p.grows rx.0 (digit_few left) (rw ex left_shown);
            last_shown = digit_grows p.grows rq.0 (digit_few right) (rw eq rp.shown);
          })

-- ---- a deep level

module _ {v : View} {run : Span} (law : IsLawfulView v) (left : Digit) (m : Middle) (right : Digit) (family : Family) (whole : Weight) (k : LevelAsk v run (levels.Deep left m right) family whole) where
  left_each : AllByRecursion (IsElement v.seen k.depth run.next) (digit_list left)
  left_each = all_left _ (digit_list left) (middle_elements (middle_of m) ++ digit_list right) k.parts.elements

  rest_each : AllByRecursion (IsElement v.seen k.depth run.next) (middle_elements (middle_of m) ++ digit_list right)
  rest_each = all_right _ (digit_list left) (middle_elements (middle_of m) ++ digit_list right) k.parts.elements

  right_each : AllByRecursion (IsElement v.seen k.depth run.next) (digit_list right)
  right_each = all_right _ (middle_elements (middle_of m)) (digit_list right) rest_each

  lengths : length (items_of_made (means (recs v.seen)) (made_of (levels.Deep left m right))) ≡ length (flat_map (means (recs v.seen)) (digit_list left)) + length (middle_items (means (recs v.seen)) (middle_of m)) + length (flat_map (means (recs v.seen)) (digit_list right))
  lengths = split_length (flat_map (means (recs v.seen)) (digit_list left)) (middle_items (means (recs v.seen)) (middle_of m)) (flat_map (means (recs v.seen)) (digit_list right))

  level_middle : (j : ℕ) → IsLevel v.seen j run.next (made_of (levels.Deep left m right)) → IsMiddle v.seen j run.next (middle_of m)
  level_middle j kj = record {
    elements = all_left _ (middle_elements (middle_of m)) (digit_list right) (all_right _ (digit_list left) (middle_elements (middle_of m) ++ digit_list right) kj.elements);
    trees = kj.trees;
    nodes = kj.nodes;
    inner = kj.inner;
    small = omega (arith, lengths, kj.small);
  }

  -- what the middle shows is shown of the whole
  middle_credits : (f : Family) → units_shown f whole.size ≤ v.hand.credits → units_shown f (length (middle_items (means (recs v.seen)) (middle_of m))) ≤ v.hand.credits
  middle_credits First h = let less = more_bits (length (middle_items (means (recs v.seen)) (middle_of m))) whole.size (omega (arith, lengths, k.counts)) in omega (arith, h, less)
  middle_credits (Later s o off) h = h

  middle_spends : (f : Family) → units_shown f (length (middle_items (means (recs v.seen)) (middle_of m))) ≤ units_shown f (length (items_of_made (means (recs v.seen)) (made_of (levels.Deep left m right))))
  middle_spends First = more_bits _ _ (omega (arith, lengths))
  middle_spends (Later s o off) = omega arith

  pub middle_ask : MiddleAsk v run m family
  middle_ask = record {
    depth = k.depth;
    middle = level_middle k.depth k.parts;
    follows = k.follows;
    credits = middle_credits family k.credits;
    there = k.there.2;
    under = k.under.2;
    held = k.held;
    above = above_fixed law run.next (k.held.each run.next (omega arith) (omega (arith, k.room)));
    room = omega (arith, k.room);
  }

  module _ {b : View} {y : Span} (below : Ref) (mp : MiddlePut v b run y family (middle_places m) (middle_of m) below.0) where
    pub ends_ask : EndsAsk b y left below.0 right whole.size
    ends_ask =
        let g = mp.filled.grows in
        let high : run.next ≤ y.next = omega (arith, mp.next) in
        let items : flat_map (means (recs b.seen)) (digit_list left) ++ means (recs b.seen) below.0 ++ flat_map (means (recs b.seen)) (digit_list right) ≡ items_of_made (means (recs v.seen)) (made_of (levels.Deep left m right)) = rw (← items_up law.world g k.depth run.next (digit_list left) left_each, mp.items, ← items_up law.world g k.depth run.next (digit_list right) right_each) refl in
        record {
          depth = k.depth;
          first = elements_up law.world g k.depth run.next y.next high (digit_list left) left_each;
          tree = mp.tree k.depth (level_middle k.depth k.parts);
          last = elements_up law.world g k.depth run.next y.next high (digit_list right) right_each;
          there = (there_up g left k.there.0, there_up g right k.there.1);
          under = (under_up run.next y.next high left k.under.0, under_up run.next y.next high right k.under.1);
          counts = k.counts ∙ ap length (sym items);
          small = omega (arith, k.counts, k.parts.small);
          held = mp.held;
          room = omega (arith, mp.next, mp.end, k.room);
        }

    pub put_made : {n : View} {e : Span} {place : ℕ} → IsLawful b.seen → IsLawful n.seen → EndsPut b n y e left below right whole place → LevelPut v n run e family (levels.Deep left m right) place
    put_made {n} {e} {place} law1 law2 p =
        let high : run.next ≤ e.next = omega (arith, mp.next, p.laid.next) in
        let h = p.laid.filled.grows in
        let tree : (j : ℕ) → IsLevel v.seen j run.next (made_of (levels.Deep left m right)) → IsTree b.seen (suc j) e.next below.0 = λ j kj. tree_up law1 (grows_refl b.seen) (suc j) y.next e.next below.0 (omega (arith, p.laid.next)) (mp.tree j (level_middle j kj)) in
        let parts : (j : ℕ) → IsLevel v.seen j run.next (made_of (levels.Deep left m right)) → DeepParts v.seen n.seen j e.next p.first.0 below.0 p.last.0 (digit_few left) (middle_of m) (digit_few right) = λ j kj. deep_parts law.world law1 law2 mp.filled.grows h j run.next e.next p.first.0 below.0 p.last.0 high (digit_few left) (middle_of m) (digit_few right) kj (tree j kj) mp.items p.first_shown p.last_shown in
        let x0 = parts k.depth k.parts in
        record {
          filled = Filled_trans (omega (arith, mp.next)) (omega (arith, p.laid.next)) mp.filled p.laid.filled;
          next = omega (arith, mp.next, p.laid.next);
          end = p.laid.end ∙ mp.end;
          value = rw p.here refl;
          of_level = λ j kj. (let xj = parts j kj in level_is law2 place _ p.here j ∙ and_from _ (is_of_level (recs n.seen) p.last.0 j) (and_from (is_of_level (recs n.seen) p.first.0 j) (is_of_level (recs n.seen) below.0 (suc j)) xj.first.well.of_level xj.below.of_level) xj.last.well.of_level);
          items = means_is (recs n.seen) (lawful_names law2) place _ p.here ∙ x0.items;
          made = deep_made law.world law1 law2 mp.filled.grows h k.depth run.next e.next place high p.first below p.last (digit_few left) (middle_of m) (digit_few right) k.parts (tree k.depth k.parts) mp.items p.first_shown p.last_shown whole.size whole.key p.here family mp.made k.low;
          credits = (let more = middle_spends family in omega (arith, mp.credits, p.laid.credits, more));
        }

-- ---- no element, and one

pub empty_put : {v : View} {run : Span} → IsLawful v.seen → (family : Family) (whole : Weight) (level : Level) → level ≡ levels.Empty → LevelAsk v run level family whole → LevelPut v v run run family level 4
empty_put {v} {run} law family whole level same k =
    let here = (fixed_records law).empty_tree in
    rw same (record {
      filled = Filled-none v run.next;
      next = omega arith;
      end = refl;
      value = rw here refl;
      of_level = λ d n. level_is law 4 TEmpty here d;
      items = means_is (recs v.seen) (lawful_names law) 4 TEmpty here;
      made = made family here;
      credits = omega arith;
    })
  where
    made : (f : Family) → recs v.seen 4 ≡ Some TEmpty → IsMadeAt v.seen f top.empty 4
    made First h = tt
    made (Later s o off) h = (rw h refl, omega (arith, empty_height law))

pub single_fits : {v : View} {run : Span} → IsLawfulView v → (family : Family) (whole : Weight) (level : Level) (e : Ref) → level ≡ levels.One e → LevelAsk v run level family whole → whole.key.0 < 18446744073709551616 → Fits v run.next (Single e whole.size whole.key)
single_fits {v} {run} law family whole level e same k key =
    let parts : IsLevel v.seen k.depth run.next (top.one e.0) = rw same at k.parts in
    let room : run.next + 1 ≤ run.end = rw same at k.room in
    let counts : whole.size ≡ length (means (recs v.seen) e.0) = rw same at k.counts in
    let held = k.held.each run.next (omega arith) (omega (arith, room)) in
    fits_finger law run.next held (Single e whole.size whole.key) k.depth (single_well law.world k.depth run.next run.next (omega arith) (place_fits law run.next held) e whole parts.elements.0 counts (omega (arith, counts, parts.small)) key) refl (free v.seen run.next (Single e whole.size whole.key) (purse v) refl)

pub single_put : {v n : View} {run z : Span} {place : ℕ} → IsLawful v.seen → IsLawful n.seen → (family : Family) (whole : Weight) (level : Level) (e : Ref) → level ≡ levels.One e → LevelAsk v run level family whole → Put v n run.next (Single e whole.size whole.key) → z ≡ record run { next = run.next + 1 } → place ≡ run.next → LevelPut v n run z family level place
single_put {v} {n} {run} {z} {place} law law2 family whole level e same k p after at =
    let f = filling_put (filling_start v run k.held) p after refl in
    let parts : IsLevel v.seen k.depth run.next (top.one e.0) = rw same at k.parts in
    let x = items_up law p.grows k.depth run.next (e.0 ∷ []) parts.elements in
    let own : means (recs n.seen) e.0 ≡ means (recs v.seen) e.0 = sym (append-nil _) ∙ (sym x ∙ append-nil _) in
    rw (at, same) (record {
      filled = f.filled;
      next = ap (λ (s : Span). s.next) after;
      end = f.same_end;
      value = rw p.here refl;
      of_level = λ d m. level_is law2 run.next _ p.here d ∙ (elements_up law p.grows d run.next run.next (omega arith) (e.0 ∷ []) m.elements).0.of_level;
      items = means_is (recs n.seen) (lawful_names law2) run.next _ p.here ∙ own;
      made = made family (rw same at k.low) (heights parts);
      credits = omega (arith, f.credits);
    })
  where
    heights : IsLevel v.seen k.depth run.next (top.one e.0) → (m : ℕ) → height (recs v.seen) e.0 ≤ m → height (recs n.seen) e.0 ≤ m
    heights parts m h = (heights_up law p.grows k.depth run.next m (e.0 ∷ []) parts.elements (h, tt)).0

    made : (f : Family) → IsLow v.seen f (top.one e.0) → ((m : ℕ) → height (recs v.seen) e.0 ≤ m → height (recs n.seen) e.0 ≤ m) → IsMadeAt n.seen f (top.one e.0) run.next
    made First l up = tt
    made (Later s o off) l up = (rw p.here (or_left (eqb e.0 e.0) _ (eq-eqb e.0 e.0 refl)), value_height law2 run.next o.0 _ p.here refl (up o.0 (omega (arith, l.0)), tt))
