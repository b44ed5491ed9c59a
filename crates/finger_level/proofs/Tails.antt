-- The put of a suspended tail.
use Rattle.std.proofs.Common.{◌≡◌, ℕ, suc, ◌+◌, ◌-◌, ◌<◌, ◌≤◌, eqb, ltb, leb, refl, sym, ap, ◌∙◌, arith, Bool, true, ◌&&◌, Some, List, [], ◌∷◌, ◌++◌, length}
use Rattle.std.specs.Prelude.{flat_map}
use Rattle.std.specs.List.{AllByRecursion}
use Rattle.std.proofs.lemmas.Bool.{and_from, eq-eqb, lt-ltb, le-leb, cond-false, ne_eqb}
use Rattle.std.proofs.lemmas.List.{length-append}
use Rattle.lazy_rec.specs.declared.places.Ref.{Ref}
use Rattle.lazy_rec.specs.declared.records.Rec.{Rec}
use Rattle.lazy_rec.specs.Named.{Records, is_pending}
use Rattle.lazy_rec.specs.Meaning.{means, means_of}
use Rattle.lazy_rec.specs.Numbers.{bits}
use Rattle.lazy_rec.specs.Units.{family_of, paid, if_first, units_below}
use Rattle.heap_store.specs.Span.{Span}
use Rattle.heap_store.specs.World.{World, recs, same_place}
use Rattle.heap_store.specs.Completion.{elements, is_middle, is_digit}
use Rattle.heap_store.specs.Growth.{Grows}
use Rattle.heap_store.specs.Lawful.{IsLawful, size_in, level_of, is_of_level, level_from, level, height, is_rooted}
use Rattle.heap_store.specs.Hand.{Hand, contains}
use Rattle.heap_store.specs.View.{View, IsLawfulView, Fits, Quiet}
use Rattle.heap_store.specs.Budget.{gain_at}
use Rattle.heap_store.proofs.Alls.{All-append}
use Rattle.heap_store.proofs.FillLaws.{Filled_trans}
use Rattle.heap_store.proofs.GrowthLaws.{at_true, grows_trans, grows_refl}
use Rattle.heap_store.proofs.LawfulLaws.{lawful_names}
use Rattle.heap_store.proofs.MadeLaws.{made_tree_up}
use Rattle.heap_store.proofs.MeaningLaws.{means_kept}
use Rattle.heap_store.proofs.RecordLaws.{height_kept}
use Rattle.heap_store.proofs.HeightLaws.{height_is, height_most}
use Rattle.heap_store.proofs.PutLaws.{place_fits}
use Rattle.heap_store.proofs.RangeLaws.{range_from}
use Rattle.heap_store.proofs.Steps.{quiet_Filled, unpassed_quiet}
use Rattle.heap_store.proofs.UnitLaws.{free}
use Rattle.finger_level.specs.declared.few.Few.{Few}
use Rattle.finger_level.specs.declared.few.Few.TheVariants as few
use Rattle.finger_level.specs.declared.few.Weight.{Weight}
use Rattle.finger_level.specs.declared.level.Digit.{Digit}
use Rattle.finger_level.specs.declared.level.Digit.TheVariants as digits
use Rattle.finger_level.specs.declared.level.Side.{Side}
use Rattle.finger_level.specs.declared.level.Side.TheVariants as sides
use Rattle.finger_level.specs.declared.level.Family.{Family}
use Rattle.finger_level.specs.declared.level.Family.TheVariants.{First, Later}
use Rattle.finger_level.specs.Few.{few_list}
use Rattle.finger_level.specs.Level.{without, digit_few, digit_list, digit_places, middle_elements, middle_trees, middle_nodes, middle_inner, middle_items}
use Rattle.finger_level.specs.Reads.{is_tree_rec, IsDigitAt}
use Rattle.finger_level.specs.Pushes.{beside}
use Rattle.finger_level.specs.Puts.{units_shown, IsElement, IsTree, IsMiddle, IsLater, IsFamily, MiddlePut, DigitPut, PartAsk, AreElements, tail_record, TailAsk}
use Rattle.finger_level.proofs.Records.{FingerWell, fits_finger, fits_later}
use Rattle.finger_level.proofs.Values.{origin_low}
use Rattle.finger_level.proofs.Found.{digit_grows, digit_elements}
use Rattle.finger_level.proofs.Builds.{DigitWell, elements_up, items_up, tree_up, tree_named, digit_named}
use Rattle.finger_level.proofs.NodePuts.{all_left, all_right, lows_up}
use Rattle.finger_level.proofs.Families.{next_fits, level_few}
use Rattle.finger_level.proofs.Funded.{first_gain}
use Rattle.finger_level.proofs.Suspending.{place_self, makes_next, no_units}
use Rattle.finger_level.proofs.Pushing.{LaterFits, both_length, later_up, shift}
use Rattle.finger_level.proofs.Levels.{DigitPart, digit_part, digit_low}

-- ---- the record

pub tail_family : (p : ℕ) (side : Side) (t q o : Ref) (off : ℕ) (w : Weight) → family_of p (tail_record side t q o off w) ≡ (o.0, off)
tail_family p sides.Left t q o off w = refl
tail_family p sides.Right t q o off w = refl

pub tail_size : (side : Side) (t q o : Ref) (off : ℕ) (w : Weight) → size_in (tail_record side t q o off w) ≡ Some w.size
tail_size sides.Left t q o off w = refl
tail_size sides.Right t q o off w = refl

pub tail_pending : (side : Side) (t q o : Ref) (off : ℕ) (w : Weight) → is_pending (tail_record side t q o off w) ≡ true
tail_pending sides.Left t q o off w = refl
tail_pending sides.Right t q o off w = refl

pub tail_tree : (side : Side) (t q o : Ref) (off : ℕ) (w : Weight) → is_tree_rec (tail_record side t q o off w) ≡ true
tail_tree sides.Left t q o off w = refl
tail_tree sides.Right t q o off w = refl

pub tail_own : (g : ℕ → ℕ) (side : Side) (t q o : Ref) (off : ℕ) (w : Weight) → level_from g (tail_record side t q o off w) ≡ g q.0
tail_own g sides.Left t q o off w = refl
tail_own g sides.Right t q o off w = refl

pub tail_level : (g : ℕ → ℕ → Bool) (d : ℕ) (side : Side) (t q o : Ref) (off : ℕ) (w : Weight) → level_of g (tail_record side t q o off w) d ≡ g t.0 (suc d) && g q.0 d
tail_level g d sides.Left t q o off w = refl
tail_level g d sides.Right t q o off w = refl

pub tail_means : (rs : Records) (g : ℕ → List ℕ) (p : ℕ) (side : Side) (t q o : Ref) (off : ℕ) (w : Weight) → means_of rs g p (tail_record side t q o off w) ≡ beside side (g t.0) (g q.0)
tail_means rs g p sides.Left t q o off w = refl
tail_means rs g p sides.Right t q o off w = refl

pub tail_height_is : {w : World} → IsLawful w → (p : ℕ) (side : Side) (t q o : Ref) (off : ℕ) (weight : Weight) → recs w p ≡ Some (tail_record side t q o off weight) → height (recs w) p ≡ o.0
tail_height_is law p sides.Left t q o off weight h = height_is law p _ h
tail_height_is law p sides.Right t q o off weight h = height_is law p _ h

-- a later one shows no unit
tail_free : (rs : Records) (p : ℕ) (side : Side) (t q o : Ref) (off : ℕ) (w : Weight) → paid rs p (tail_record side t q o (suc off) w) ≡ []
tail_free rs p side t q o off w = by side
  where
    none : if_first (suc off) (units_below o.0 (bits w.size)) ≡ []
    none = no_units o.0 off w.size

    by : (side : Side) → paid rs p (tail_record side t q o (suc off) w) ≡ []
    by sides.Left = none
    by sides.Right = none

-- what it names
pub record TailLow (w : World) (t q : Ref) (o : ℕ) : Type 0 where
  pub tree : height (recs w) t.0 < o
  pub digit : height (recs w) q.0 < o

module _ {w : World} (d p : ℕ) (low : p < 4194304) (t q o : Ref) (off : ℕ) (weight : Weight) (f : Few) (kt : IsTree w (suc d) p t.0) (kq : DigitWell w d q.0 f) (under : q.0 < p) (o_low : o.0 < 4194304) (off_low : off < 32) (small : weight.size ≤ 2147483647) (key : weight.key.0 < 18446744073709551616) where
  t_fits : t.0 < 4194304
  t_fits = omega (arith, kt.under, low)

  q_fits : q.0 < 4194304
  q_fits = omega (arith, under, low)

  size_fits : weight.size < 2147483648
  size_fits = omega (arith, small)

  levels : is_of_level (recs w) t.0 (suc d) && is_of_level (recs w) q.0 d ≡ true
  levels = and_from (is_of_level (recs w) t.0 (suc d)) (is_of_level (recs w) q.0 d) kt.of_level kq.of_level

  lows : TailLow w t q o.0 → ltb (height (recs w) t.0) o.0 && (ltb (height (recs w) q.0) o.0 && true) ≡ true
  lows l = and_from (ltb (height (recs w) t.0) o.0) _ (lt-ltb _ _ l.tree) (and_from (ltb (height (recs w) q.0) o.0) true (lt-ltb _ _ l.digit) refl)

  pub tail_well : (side : Side) → weight.size ≡ length (beside side (means (recs w) t.0) (means (recs w) q.0)) → TailLow w t q o.0 → is_rooted (recs w) p (tail_record side t q o off weight) ≡ true → FingerWell w p (tail_record side t q o off weight) d
  tail_well sides.Left size l root = record {
    finger = refl;
    range = range_from (tail_record sides.Left t q o off weight) (omega arith, (t_fits, (q_fits, (size_fits, (o_low, (off_low, (key, tt))))))) refl;
    names = (tree_named (suc d) p p t.0 (omega arith) kt, (digit_named d p p q.0 f under (omega arith) kq, tt));
    total = eq-eqb weight.size _ size;
    of_level = levels;
    own = kq.own;
    rooted = root;
    low = lows l;
  }
  tail_well sides.Right size l root = record {
    finger = refl;
    range = range_from (tail_record sides.Right t q o off weight) (omega arith, (t_fits, (q_fits, (size_fits, (o_low, (off_low, (key, tt))))))) refl;
    names = (tree_named (suc d) p p t.0 (omega arith) kt, (digit_named d p p q.0 f under (omega arith) kq, tt));
    total = eq-eqb weight.size _ size;
    of_level = levels;
    own = kq.own;
    rooted = root;
    low = lows l;
  }

-- ---- what is left of a tree

pub without_nodes : (side : Side) (t : ℕ) (ds : List ℕ) → middle_nodes (without side t ds) ≡ ds
without_nodes sides.Left t ds = refl
without_nodes sides.Right t ds = refl

pub without_inner : (side : Side) (t : ℕ) (ds : List ℕ) → middle_inner (without side t ds) ≡ t ∷ []
without_inner sides.Left t ds = refl
without_inner sides.Right t ds = refl

-- it names nothing of its own level
without_elements : (side : Side) (t : ℕ) (ds : List ℕ) → middle_elements (without side t ds) ≡ []
without_elements sides.Left t ds = refl
without_elements sides.Right t ds = refl

without_trees : (side : Side) (t : ℕ) (ds : List ℕ) → middle_trees (without side t ds) ≡ []
without_trees sides.Left t ds = refl
without_trees sides.Right t ds = refl

pub without_items : (f : ℕ → List ℕ) (side : Side) (t : ℕ) (ds : List ℕ) → middle_items f (without side t ds) ≡ beside side (f t) (flat_map f ds)
without_items f sides.Left t ds = refl
without_items f sides.Right t ds = refl

-- its middle and its digit, once the digit stands
pub record TailFound (a b : World) (d more : ℕ) (side : Side) (t q : Ref) (part : Digit) : Type 0 where
  pub tree : IsTree b (suc (suc d)) more t.0
  pub digit : DigitPart a b (suc d) q.0 (digit_few part)
  pub items : beside side (means (recs b) t.0) (means (recs b) q.0) ≡ middle_items (means (recs a)) (without side t.0 (digit_list part))
  pub both : length (means (recs b) t.0) + length (means (recs b) q.0) ≡ length (middle_items (means (recs a)) (without side t.0 (digit_list part)))

pub tail_found : {a b : World} → IsLawful a → IsLawful b → Grows a b → (d limit more : ℕ) → limit ≤ more → (side : Side) (t q : Ref) (part : Digit) → IsMiddle a d limit (without side t.0 (digit_list part)) → IsDigitAt b q.0 (digit_few part) → TailFound a b d more side t q part
tail_found {a} {b} law law2 g d limit more high side t q part k at =
    let nodes : AllByRecursion (IsElement a (suc d) limit) (digit_list part) = rw (without_nodes side t.0 (digit_list part)) at k.nodes in
    let inner : AllByRecursion (IsTree a (suc (suc d)) limit) (t.0 ∷ []) = rw (without_inner side t.0 (digit_list part)) at k.inner in
    let z = at_true is_tree_rec (recs a t.0) inner.0.sort in
    let same : means (recs b) t.0 ≡ means (recs a) t.0 = sym (means_kept (recs a) (recs b) (lawful_names law) g.records t.0 (z.0, z.1)) in
    let one = digit_part law law2 g (suc d) limit q.0 (digit_few part) nodes at in
    let all : beside side (means (recs b) t.0) (means (recs b) q.0) ≡ middle_items (means (recs a)) (without side t.0 (digit_list part)) = rw (same, one.items) (sym (without_items (means (recs a)) side t.0 (digit_list part))) in
    record {
      tree = tree_up law g (suc (suc d)) limit more t.0 high inner.0;
      digit = one;
      items = all;
      both = sym (both_length side (means (recs b) t.0) (means (recs b) q.0)) ∙ ap length all;
    }

pub tail_is_middle : (u : World) (oo off : ℕ) (side : Side) (t q : Ref) (part : Digit) (origin : Ref) (weight : Weight) → origin.0 ≡ oo → is_digit u (digit_list part) q.0 ≡ true → is_middle u oo off (without side t.0 (digit_list part)) (tail_record side t q origin off weight) ≡ true
tail_is_middle u oo off sides.Left t q part origin weight same h = and_from _ (eqb off off) (and_from _ (eqb oo origin.0) (and_from (same_place u t.0 t.0) _ (place_self u t.0) h) (eq-eqb oo origin.0 (sym same))) (eq-eqb off off refl)
tail_is_middle u oo off sides.Right t q part origin weight same h = and_from _ (eqb off off) (and_from _ (eqb oo origin.0) (and_from (same_place u t.0 t.0) _ (place_self u t.0) h) (eq-eqb oo origin.0 (sym same))) (eq-eqb off off refl)

pub tail_elements : {v : View} {run : Span} → (side : Side) (t : Ref) (part : Digit) (family : Family) (k : TailAsk v run side t part family) → AreElements v.seen (suc k.depth) run.next (digit_list part)
tail_elements {v} {run} side t part family k = record {
  each = rw (without_nodes side t.0 (digit_list part)) at k.middle.nodes;
  small = (let i = ap length (without_items (means (recs v.seen)) side t.0 (digit_list part)) in let j = both_length side (means (recs v.seen) t.0) (flat_map (means (recs v.seen)) (digit_list part)) in omega (arith, i, j, k.middle.small));
}

-- what the put of the digit asks
pub tail_ask : {v : View} {run : Span} → (side : Side) (t : Ref) (part : Digit) (family : Family) → TailAsk v run side t part family → PartAsk v run (digit_places part) (digit_list part)
tail_ask {v} {run} side t part family k = record { depth = suc k.depth; elements = tail_elements side t part family k; held = k.held; room = omega (arith, k.room) }

pub tail_inner : {v : View} {run : Span} → (side : Side) (t : Ref) (part : Digit) (family : Family) (k : TailAsk v run side t part family) → IsTree v.seen (suc (suc k.depth)) run.next t.0
tail_inner {v} {run} side t part family k = let inner : AllByRecursion (IsTree v.seen (suc (suc k.depth)) run.next) (t.0 ∷ []) = rw (without_inner side t.0 (digit_list part)) at k.middle.inner in inner.0

-- ---- what is asked, in a later world

module _ {a b : World} (law : IsLawful a) (g : Grows a b) (d limit : ℕ) (side : Side) (t : ℕ) (ds : List ℕ) (k : IsMiddle a d limit (without side t ds)) where
  nodes_below : AllByRecursion (IsElement a (suc d) limit) ds
  nodes_below = rw (without_nodes side t ds) at k.nodes

  inner_below : AllByRecursion (IsTree a (suc (suc d)) limit) (t ∷ [])
  inner_below = rw (without_inner side t ds) at k.inner

  pub tail_same : middle_items (means (recs a)) (without side t ds) ≡ middle_items (means (recs b)) (without side t ds)
  tail_same =
      let z = at_true is_tree_rec (recs a t) inner_below.0.sort in
      let tree = means_kept (recs a) (recs b) (lawful_names law) g.records t (z.0, z.1) in
      let digit = items_up law g (suc d) limit ds nodes_below in
      without_items (means (recs a)) side t ds ∙ (rw (tree, digit) refl ∙ sym (without_items (means (recs b)) side t ds))

  pub tail_middle : (more : ℕ) → limit ≤ more → IsMiddle b d more (without side t ds)
  tail_middle more high = record {
    elements = rw (without_elements side t ds) tt;
    trees = rw (without_trees side t ds) tt;
    nodes = rw (without_nodes side t ds) (elements_up law g (suc d) limit more high ds nodes_below);
    inner = rw (without_inner side t ds) (tree_up law g (suc (suc d)) limit more t high inner_below.0, tt);
    small = rw (← tail_same) k.small;
  }

  tail_lows : (o : ℕ) → AllByRecursion (λ e. height (recs a) e < o) (middle_nodes (without side t ds) ++ middle_inner (without side t ds)) → AllByRecursion (λ e. height (recs b) e < o) (middle_nodes (without side t ds) ++ middle_inner (without side t ds))
  tail_lows o h =
      let l : AllByRecursion (λ e. height (recs a) e < o) (ds ++ t ∷ []) = rw (without_nodes side t ds, without_inner side t ds) at h in
      let z = at_true is_tree_rec (recs a t) inner_below.0.sort in
      let ht : height (recs b) t < o = rw (height_kept (recs a) (recs b) (lawful_names law) g.records t (z.0, z.1)) at (all_right _ ds (t ∷ []) l).0 in
      rw (without_nodes side t ds, without_inner side t ds) (All-append (λ e. height (recs b) e < o) ds (t ∷ []) (lows_up law g (suc d) limit o ds nodes_below (all_left _ ds (t ∷ []) l)) (ht, tt))

-- once the digit is put, and after reads
module _ {v b d : View} {run y : Span} {side : Side} {t : Ref} {part : Digit} {family : Family} (law : IsLawful v.seen) (k : TailAsk v run side t part family) (q : Ref) (p : DigitPut v b run y part q.0) (quiet : Quiet b d) where
  onward : Grows v.seen d.seen
  onward = grows_trans p.laid.filled.grows quiet.grows

  higher : run.next ≤ y.next
  higher = omega (arith, p.laid.next)

  same_items : middle_items (means (recs v.seen)) (without side t.0 (digit_list part)) ≡ middle_items (means (recs d.seen)) (without side t.0 (digit_list part))
  same_items = tail_same law onward k.depth run.next side t.0 (digit_list part) k.middle

  same_credits : d.hand.credits ≡ b.hand.credits
  same_credits = ap (λ (h : Hand). h.credits) quiet.hand

  follows_up : (f : Family) → IsLawful d.seen → IsFamily v k.depth run.next f (without side t.0 (digit_list part)) → IsFamily d k.depth y.next f (without side t.0 (digit_list part))
  follows_up First law2 l = tt
  follows_up (Later s o off) law2 l = record {
    rec = l.rec;
    here = onward.records s.0 l.rec l.here;
    family = l.family;
    left = l.left;
    right = l.right;
    makes = made_tree_up v.seen d.seen (lawful_names law) onward s.0 l.rec l.here _ l.makes;
    newest = unpassed_quiet quiet s (p.laid.unpassed s l.newest);
    own = later_up law law2 onward s.0 k.depth l.rec l.here l.own;
    under = omega (arith, l.under, higher);
    larger = (let z = ap length (means_kept (recs v.seen) (recs d.seen) (lawful_names law) onward.records s.0 (l.rec, l.here)) in let i = ap length same_items in omega (arith, l.larger, z, i));
    low = rw (without_elements side t.0 (digit_list part), without_trees side t.0 (digit_list part)) tt;
    low_below = tail_lows law onward k.depth run.next side t.0 (digit_list part) k.middle o.0 l.low_below;
  }

  pub tail_later : IsLawful d.seen → TailAsk d y side t (digits.Old q (digit_few part)) family
  tail_later law2 = record {
    depth = k.depth;
    middle = tail_middle law onward k.depth run.next side t.0 (digit_list part) k.middle y.next higher;
    follows = follows_up family law2 k.follows;
    credits = (let c = same_credits in rw (← same_items) (omega (arith, k.credits, p.laid.credits, c)));
    there = digit_grows quiet.grows q.0 (digit_few part) p.shown;
    under = p.under;
    held = rw quiet.hand p.laid.held;
    room = omega (arith, p.laid.next, p.laid.end, k.room);
  }

  -- what is weighed is what is asked of
  pub tail_counts : IsLawful b.seen → {c : View} → Quiet b c → (near below : ℕ) → near ≡ length (flat_map (means (recs b.seen)) (digit_list part)) → below ≡ length (means (recs c.seen) t.0) → near + below ≡ length (middle_items (means (recs d.seen)) (without side t.0 (digit_list part)))
  tail_counts law1 {c} q1 near below sa sb =
      let f = tail_found law law1 p.laid.filled.grows k.depth run.next y.next higher side t q part k.middle p.shown in
      let z = at_true is_tree_rec (recs b.seen t.0) f.tree.sort in
      let same = ap length (means_kept (recs b.seen) (recs c.seen) (lawful_names law1) q1.grows.records t.0 (z.0, z.1)) in
      let own = ap length f.digit.well.items in
      let i = ap length same_items in
      omega (arith, sa, sb, same, own, f.both, i)

  -- what is put then
  pub tail_earlier : {n : View} {z : Span} {place : ℕ} → IsLawful d.seen → MiddlePut d n y z family 1 (without side t.0 (elements d.seen q.0)) place → MiddlePut v n run z family (suc (digit_places part)) (without side t.0 (digit_list part)) place
  tail_earlier {n} {z} {place} law2 put =
      let m : MiddlePut d n y z family 1 (without side t.0 (digit_list part)) place = rw (digit_elements d.seen q.0 (digit_few part) (digit_grows quiet.grows q.0 (digit_few part) p.shown)) at put in
      let c = same_credits in
      record {
        filled = Filled_trans (omega (arith, p.laid.next)) (omega (arith, m.next)) p.laid.filled (quiet_Filled quiet m.filled);
        next = omega (arith, p.laid.next, m.next);
        end = m.end ∙ p.laid.end;
        held = m.held;
        tree = λ j kj. m.tree j (tail_middle law onward j run.next side t.0 (digit_list part) kj y.next higher);
        items = m.items ∙ sym same_items;
        made = m.made;
        credits = rw same_items (omega (arith, p.laid.credits, m.credits, c));
      }

-- an element of a digit
pub first_of : {w : World} (d limit : ℕ) (f : Few) → AllByRecursion (IsElement w d limit) (few_list f) → (e : ℕ) × IsElement w d limit e × (length (means (recs w) e) ≤ length (flat_map (means (recs w)) (few_list f)))
first_of {w} d limit (few.One a) h = (a.0, h.0, (let z = length-append (means (recs w) a.0) [] in omega (arith, z)))
first_of {w} d limit (few.Two a b) h = (a.0, h.0, (let z = length-append (means (recs w) a.0) (flat_map (means (recs w)) (b.0 ∷ [])) in omega (arith, z)))
first_of {w} d limit (few.Three a b c) h = (a.0, h.0, (let z = length-append (means (recs w) a.0) (flat_map (means (recs w)) (b.0 ∷ c.0 ∷ [])) in omega (arith, z)))
first_of {w} d limit (few.Four a b c e) h = (a.0, h.0, (let z = length-append (means (recs w) a.0) (flat_map (means (recs w)) (b.0 ∷ c.0 ∷ e.0 ∷ [])) in omega (arith, z)))

-- ---- the record fits

module _ {v : View} {run : Span} (law : IsLawfulView v) {side : Side} {t q : Ref} {f : Few} (family : Family) (k : TailAsk v run side t (digits.Old q f) family) (weight : Weight) (counts : weight.size ≡ length (middle_items (means (recs v.seen)) (without side t.0 (few_list f)))) where
  in_hand : contains v.hand.reserved run.next ≡ true
  in_hand = k.held.each run.next (omega arith) (omega (arith, k.room))

  found_here : TailFound v.seen v.seen k.depth run.next side t q (digits.Old q f)
  found_here = tail_found law.world law.world (grows_refl v.seen) k.depth run.next run.next (omega arith) side t q (digits.Old q f) k.middle k.there

  low : run.next < 4194304
  low = place_fits law run.next in_hand

  total : weight.size ≡ length (beside side (means (recs v.seen) t.0) (means (recs v.seen) q.0))
  total = let z = both_length side (means (recs v.seen) t.0) (means (recs v.seen) q.0) in omega (arith, counts, found_here.both, z)

  pub first_spends : family ≡ First → (o : Ref) → o.0 ≡ run.next → (r : Rec) → r ≡ tail_record side t q o 0 weight → gain_at v.seen run.next r ≤ units_shown family (length (middle_items (means (recs v.seen)) (without side t.0 (few_list f))))
  first_spends first o same r is =
      let own : family_of run.next (tail_record side t q o 0 weight) ≡ (run.next, 0) = tail_family run.next side t q o 0 weight ∙ ap (λ (n : ℕ). (n, 0)) same in
      rw (first, is, ← counts) (first_gain v.seen run.next (tail_record side t q o 0 weight) weight.size (tail_pending side t q o 0 weight) (tail_size side t q o 0 weight) own)

  pub first_fits : family ≡ First → (o : Ref) → o.0 ≡ run.next → weight.key.0 < 18446744073709551616 → Fits v run.next (tail_record side t q o 0 weight)
  first_fits first o same kf =
      let d = found_here in
      let fam = tail_family run.next side t q o 0 weight in
      let own : family_of run.next (tail_record side t q o 0 weight) ≡ (run.next, 0) = fam ∙ ap (λ (n : ℕ). (n, 0)) same in
      let spends = first_spends first o same _ refl in
      let z = at_true is_tree_rec (recs v.seen t.0) d.tree.sort in
      fits_finger law run.next in_hand (tail_record side t q o 0 weight) (suc k.depth)
      (tail_well (suc k.depth) run.next low t q o 0 weight f d.tree d.digit.well k.under (omega (arith, same, low)) (omega arith) (omega (arith, counts, k.middle.small)) kf side total
      (record { tree = omega (arith, height_most law.world t.0 (z.0, z.1), d.tree.under, same); digit = omega (arith, height_most law.world q.0 d.digit.well.there, k.under, same) }) (rw fam refl))
      own (omega (arith, spends, k.credits))

  pub later_fits : (s o : Ref) (off : ℕ) → family ≡ Later s o off → weight.key.0 < 18446744073709551616 → LaterFits v run.next (tail_record side t q o (off + 1) weight) off
  later_fits s o off same kf =
      let d = found_here in
      let l : IsLater v k.depth run.next s o.0 off (without side t.0 (few_list f)) = rw same at k.follows in
      let n = next_fits law.world s.0 o.0 off k.depth weight.size l.rec _ l.here l.makes l.family l.own (omega (arith, counts, l.larger)) in
      let off_few : off + 1 < 32 = (let few = depth_few in omega (arith, few, n.shallow)) in
      let z : off + 1 ≡ suc off = omega arith in
      let fam : family_of run.next (tail_record side t q o (suc off) weight) ≡ (o.0, suc off) = tail_family run.next side t q o (suc off) weight in
      let o_low = origin_low law.world s.0 o.0 off l.rec l.here l.family in
      let names : AllByRecursion (λ e. height (recs v.seen) e < o.0) (few_list f ++ t.0 ∷ []) = rw (without_nodes side t.0 (few_list f), without_inner side t.0 (few_list f)) at l.low_below in
      let lows = tail_low o.0 names in
      let own = tail_own (level (recs v.seen)) side t q o (suc off) weight ∙ d.digit.well.own in
      let root : is_rooted (recs v.seen) run.next (tail_record side t q o (suc off) weight) ≡ true = rw (fam, tail_size side t q o (suc off) weight, own) (cond-false (eqb (suc off) 0) true _ (ne_eqb (suc off) 0 (λ x. omega (arith, x))) ∙ and_from (leb (suc off) (suc k.depth)) _ (le-leb (suc off) (suc k.depth) (omega (arith, n.shallow))) n.first) in
      rw z (record {
        fits = fits_later law run.next in_hand (tail_record side t q o (suc off) weight) (suc k.depth) o.0 off
            (tail_well (suc k.depth) run.next low t q o (suc off) weight f d.tree d.digit.well k.under (omega (arith, o_low, l.under, low)) (omega (arith, off_few)) (omega (arith, counts, k.middle.small)) kf side total lows root)
            fam (omega (arith, o_low, l.under))
            (makes_next v.seen v.hand.claims s o.0 off l.rec _ l.left l.right (without side t.0 (few_list f)) l.newest l.here l.family l.makes (tail_is_middle v.seen o.0 (suc off) side t q (digits.Old q f) o weight refl d.digit.shown))
            (tail_free (recs v.seen) run.next side t q o off weight);
        few = off_few;
      })
    where
      nodes : AllByRecursion (IsElement v.seen (suc k.depth) run.next) (few_list f)
      nodes = rw (without_nodes side t.0 (few_list f)) at k.middle.nodes

      depth_few : suc k.depth < 31
      depth_few =
          let e = first_of (suc k.depth) run.next f nodes in
          let i = ap length (without_items (means (recs v.seen)) side t.0 (few_list f)) in
          let j = both_length side (means (recs v.seen) t.0) (flat_map (means (recs v.seen)) (few_list f)) in
          level_few law.world (suc k.depth) run.next e.0 e.1 (omega (arith, e.2, i, j, k.middle.small))

      tail_low : (o : ℕ) → AllByRecursion (λ e. height (recs v.seen) e < o) (few_list f ++ t.0 ∷ []) → TailLow v.seen t q o
      tail_low o h =
          let ht = (all_right _ (few_list f) (t.0 ∷ []) h).0 in
          let hd = digit_low law.world law.world (grows_refl v.seen) (suc k.depth) run.next q.0 (o - 1) f nodes (shift v.seen o (few_list f) (all_left _ (few_list f) (t.0 ∷ []) h)) k.there in
          record { tree = ht; digit = omega (arith, ht, hd) }

pub tail_later_spends : (w : World) (p : ℕ) (side : Side) (family : Family) (n : ℕ) (t q o : Ref) (off : ℕ) (weight : Weight) (r : Rec) → r ≡ tail_record side t q o (off + 1) weight → gain_at w p r ≤ units_shown family n
tail_later_spends w p side family n t q o off weight r is =
    let z : off + 1 ≡ suc off = omega arith in
    rw is (free w p (tail_record side t q o (off + 1) weight) (units_shown family n) (rw z (tail_free (recs w) p side t q o off weight)))
