-- What the records of digits, nodes and trees say of their parts.
use Rattle.std.proofs.Common.{◌≡◌, ℕ, suc, ◌<◌, ◌≤◌, refl, ap, ◌∙◌, arith, Bool, true, List, [], ◌∷◌, ◌++◌, length}
use Rattle.std.specs.Prelude.{flat_map}
use Rattle.std.specs.List.{AllByRecursion, list_all}
use Rattle.std.proofs.lemmas.Bool.{and_from, eq-eqb}
use Rattle.lazy_rec.specs.declared.places.Ref.{Ref}
use Rattle.lazy_rec.specs.declared.records.Rec.TheVariants.{Single, Deep}
use Rattle.lazy_rec.specs.declared.records.Sort.TheVariants as sorts
use Rattle.lazy_rec.specs.Named.{Records, sort_of, same_sort}
use Rattle.lazy_rec.specs.Meaning.{means, means_of}
use Rattle.heap_store.specs.World.{World, recs, holds}
use Rattle.heap_store.specs.Lawful.{IsLawful, level_of, is_of_level, level}
use Rattle.heap_store.specs.Growth.{Grows}
use Rattle.heap_store.proofs.NameLaws.{IsPublished, IsNamedWell}
use Rattle.heap_store.proofs.GrowthLaws.{at_true, sorts_agree}
use Rattle.heap_store.proofs.LawfulLaws.{lawful_names}
use Rattle.heap_store.proofs.MeaningLaws.{means_is, means_kept}
use Rattle.heap_store.proofs.RecordLaws.{level_kept}
use Rattle.finger_level.specs.declared.few.Few.{Few}
use Rattle.finger_level.specs.declared.few.Few.TheVariants as few
use Rattle.finger_level.specs.declared.few.Group.{Group}
use Rattle.finger_level.specs.declared.few.Group.TheVariants as group
use Rattle.finger_level.specs.declared.few.Weight.{Weight}
use Rattle.finger_level.specs.Few.{few_list, group_list, digit_record, node_record}
use Rattle.finger_level.specs.Reads.{is_element, is_digit_rec, is_tree_rec, IsDigitAt}
use Rattle.finger_level.specs.Puts.{IsElement, IsTree, AreElements}
use Rattle.heap_store.proofs.RangeLaws.{range_from}
use Rattle.finger_level.proofs.Records.{FingerWell}
use Rattle.finger_level.proofs.Values.{level_is, level_unique, element_levelled, digit_levelled}

-- ---- parts

-- what is known of an element that is named at p
pub record Element (w : World) (p d e : ℕ) : Type 0 where
  pub named : IsNamedWell (recs w) p (e, sorts.Element)
  pub of_level : is_of_level (recs w) e d ≡ true
  pub own : level (recs w) e ≡ d
  pub fits : e < 4194304

pub element : {w : World} → IsLawful w → (d limit p e : ℕ) → limit ≤ p → p < 4194304 → IsElement w d limit e → Element w p d e
element {w} law d limit p e high low k =
    let t = at_true is_element (recs w e) k.sort in
    let s = sorts_agree (sort_of t.0) sorts.Element t.2 in
    record {
      named = (omega (arith, k.under, high), t.0, t.1, s);
      of_level = k.of_level;
      own = level_unique law e d t.0 t.1 (element_levelled t.0 s) k.of_level;
      fits = omega (arith, k.under, high, low);
    }

-- parts last while the world grows
pub element_up : {a b : World} → IsLawful a → Grows a b → (d limit more e : ℕ) → limit ≤ more → IsElement a d limit e → IsElement b d more e
element_up {a} {b} law g d limit more e high k =
    let t = at_true is_element (recs a e) k.sort in
    record {
      under = omega (arith, k.under, high);
      sort = rw (g.records e t.0 t.1) t.2;
      of_level = rw (← level_kept (recs a) (recs b) (lawful_names law) g.records e (t.0, t.1)) k.of_level;
    }

pub elements_up : {a b : World} → IsLawful a → Grows a b → (d limit more : ℕ) → limit ≤ more → (es : List ℕ) → AllByRecursion (IsElement a d limit) es → AllByRecursion (IsElement b d more) es
elements_up law g d limit more high [] k = tt
elements_up law g d limit more high (e ∷ es) k = (element_up law g d limit more e high k.0, elements_up law g d limit more high es k.1)

pub tree_up : {a b : World} → IsLawful a → Grows a b → (d limit more e : ℕ) → limit ≤ more → IsTree a d limit e → IsTree b d more e
tree_up {a} {b} law g d limit more e high k =
    let t = at_true is_tree_rec (recs a e) k.sort in
    record {
      under = omega (arith, k.under, high);
      sort = rw (g.records e t.0 t.1) t.2;
      of_level = rw (← level_kept (recs a) (recs b) (lawful_names law) g.records e (t.0, t.1)) k.of_level;
    }

pub element_there : {w : World} → (d limit e : ℕ) → IsElement w d limit e → IsPublished (recs w) e
element_there {w} d limit e k = let t = at_true is_element (recs w e) k.sort in (t.0, t.1)

-- the items of elements that an earlier world shows
pub items_up : {a b : World} → IsLawful a → Grows a b → (d limit : ℕ) (es : List ℕ) → AllByRecursion (IsElement a d limit) es → flat_map (means (recs a)) es ≡ flat_map (means (recs b)) es
items_up law g d limit [] k = refl
items_up {a} {b} law g d limit (e ∷ es) k = rw (means_kept (recs a) (recs b) (lawful_names law) g.records e (element_there d limit e k.0), items_up law g d limit es k.1) refl

-- ---- nodes

size_fit : (n : ℕ) → n ≤ 2147483647 → n < 2147483648
size_fit n h = omega (arith, h)

pub node_well : {w : World} → IsLawful w → (d limit p : ℕ) → limit ≤ p → p < 4194304 → (b : Group) (weight : Weight) → AreElements w d limit (group_list b) → weight.size ≡ length (flat_map (means (recs w)) (group_list b)) → weight.key.0 < 18446744073709551616 → FingerWell w p (node_record b weight) (suc d)
node_well {w} law d limit p high low (group.Two x y) weight k size key =
    let a = element law d limit p x.0 high low k.each.0 in
    let b = element law d limit p y.0 high low k.each.1.0 in
    record {
      finger = refl;
      range = range_from (node_record (group.Two x y) weight) (omega arith, (omega arith, (a.fits, (b.fits, (omega arith, (size_fit weight.size (omega (arith, size, k.small)), (key, tt))))))) refl;
      names = (a.named, (b.named, tt));
      total = eq-eqb weight.size _ size;
      of_level = and_from (is_of_level (recs w) x.0 d) _ a.of_level (and_from (is_of_level (recs w) y.0 d) true b.of_level refl);
      own = ap suc a.own;
      rooted = refl;
      low = refl;
    }
node_well {w} law d limit p high low (group.Three x y z) weight k size key =
    let a = element law d limit p x.0 high low k.each.0 in
    let b = element law d limit p y.0 high low k.each.1.0 in
    let c = element law d limit p z.0 high low k.each.1.1.0 in
    record {
      finger = refl;
      range = range_from (node_record (group.Three x y z) weight) (omega arith, (omega arith, (a.fits, (b.fits, (c.fits, (size_fit weight.size (omega (arith, size, k.small)), (key, tt))))))) refl;
      names = (a.named, (b.named, (c.named, tt)));
      total = eq-eqb weight.size _ size;
      of_level = and_from (is_of_level (recs w) x.0 d) _ a.of_level (and_from (is_of_level (recs w) y.0 d) _ b.of_level (and_from (is_of_level (recs w) z.0 d) true c.of_level refl));
      own = ap suc a.own;
      rooted = refl;
      low = refl;
    }

-- ---- digits

pub digit_well : {w : World} → IsLawful w → (d limit p : ℕ) → limit ≤ p → p < 4194304 → (f : Few) (weight : Weight) → AreElements w d limit (few_list f) → weight.size ≡ length (flat_map (means (recs w)) (few_list f)) → weight.key.0 < 18446744073709551616 → FingerWell w p (digit_record f weight) d
digit_well {w} law d limit p high low (few.One x) weight k size key =
    let a = element law d limit p x.0 high low k.each.0 in
    record {
      finger = refl;
      range = range_from (digit_record (few.One x) weight) (omega arith, (omega arith, (a.fits, (omega arith, (omega arith, (omega arith, (size_fit weight.size (omega (arith, size, k.small)), (key, tt)))))))) refl;
      names = (a.named, tt);
      total = eq-eqb weight.size _ size;
      of_level = and_from (is_of_level (recs w) x.0 d) true a.of_level refl;
      own = a.own;
      rooted = refl;
      low = refl;
    }
digit_well {w} law d limit p high low (few.Two x y) weight k size key =
    let a = element law d limit p x.0 high low k.each.0 in
    let b = element law d limit p y.0 high low k.each.1.0 in
    record {
      finger = refl;
      range = range_from (digit_record (few.Two x y) weight) (omega arith, (omega arith, (a.fits, (b.fits, (omega arith, (omega arith, (size_fit weight.size (omega (arith, size, k.small)), (key, tt)))))))) refl;
      names = (a.named, (b.named, tt));
      total = eq-eqb weight.size _ size;
      of_level = and_from (is_of_level (recs w) x.0 d) _ a.of_level (and_from (is_of_level (recs w) y.0 d) true b.of_level refl);
      own = a.own;
      rooted = refl;
      low = refl;
    }
digit_well {w} law d limit p high low (few.Three x y z) weight k size key =
    let a = element law d limit p x.0 high low k.each.0 in
    let b = element law d limit p y.0 high low k.each.1.0 in
    let c = element law d limit p z.0 high low k.each.1.1.0 in
    record {
      finger = refl;
      range = range_from (digit_record (few.Three x y z) weight) (omega arith, (omega arith, (a.fits, (b.fits, (c.fits, (omega arith, (size_fit weight.size (omega (arith, size, k.small)), (key, tt)))))))) refl;
      names = (a.named, (b.named, (c.named, tt)));
      total = eq-eqb weight.size _ size;
      of_level = and_from (is_of_level (recs w) x.0 d) _ a.of_level (and_from (is_of_level (recs w) y.0 d) _ b.of_level (and_from (is_of_level (recs w) z.0 d) true c.of_level refl));
      own = a.own;
      rooted = refl;
      low = refl;
    }
digit_well {w} law d limit p high low (few.Four x y z u) weight k size key =
    let a = element law d limit p x.0 high low k.each.0 in
    let b = element law d limit p y.0 high low k.each.1.0 in
    let c = element law d limit p z.0 high low k.each.1.1.0 in
    let e = element law d limit p u.0 high low k.each.1.1.1.0 in
    record {
      finger = refl;
      range = range_from (digit_record (few.Four x y z u) weight) (omega arith, (omega arith, (a.fits, (b.fits, (c.fits, (e.fits, (size_fit weight.size (omega (arith, size, k.small)), (key, tt)))))))) refl;
      names = (a.named, (b.named, (c.named, (e.named, tt))));
      total = eq-eqb weight.size _ size;
      of_level = and_from (is_of_level (recs w) x.0 d) _ a.of_level (and_from (is_of_level (recs w) y.0 d) _ b.of_level (and_from (is_of_level (recs w) z.0 d) _ c.of_level (and_from (is_of_level (recs w) u.0 d) true e.of_level refl)));
      own = a.own;
      rooted = refl;
      low = refl;
    }

-- what a digit that stands at a place says
digit_of_level : (g : ℕ → ℕ → Bool) (f : Few) (weight : Weight) (d : ℕ) → level_of g (digit_record f weight) d ≡ list_all (λ q. g q d) (few_list f)
digit_of_level g (few.One x) weight d = refl
digit_of_level g (few.Two x y) weight d = refl
digit_of_level g (few.Three x y z) weight d = refl
digit_of_level g (few.Four x y z u) weight d = refl

digit_items : (rs : Records) (g : ℕ → List ℕ) (p : ℕ) (f : Few) (weight : Weight) → means_of rs g p (digit_record f weight) ≡ flat_map g (few_list f)
digit_items rs g p (few.One x) weight = refl
digit_items rs g p (few.Two x y) weight = refl
digit_items rs g p (few.Three x y z) weight = refl
digit_items rs g p (few.Four x y z u) weight = refl

pub digit_sort : (f : Few) (weight : Weight) → sort_of (digit_record f weight) ≡ sorts.Digit
digit_sort (few.One x) weight = refl
digit_sort (few.Two x y) weight = refl
digit_sort (few.Three x y z) weight = refl
digit_sort (few.Four x y z u) weight = refl

pub record DigitWell (w : World) (d p : ℕ) (f : Few) : Type 0 where
  pub there : IsPublished (recs w) p
  pub sort : holds (recs w) p is_digit_rec ≡ true
  pub of_level : is_of_level (recs w) p d ≡ true
  pub own : level (recs w) p ≡ d
  pub items : means (recs w) p ≡ flat_map (means (recs w)) (few_list f)

pub all_of_level : (w : World) (d limit : ℕ) (es : List ℕ) → AllByRecursion (IsElement w d limit) es → list_all (λ q. is_of_level (recs w) q d) es ≡ true
all_of_level w d limit [] k = refl
all_of_level w d limit (e ∷ es) k = and_from (is_of_level (recs w) e d) _ k.0.of_level (all_of_level w d limit es k.1)

pub digit_means : {w : World} → IsLawful w → (p : ℕ) (f : Few) → IsDigitAt w p f → means (recs w) p ≡ flat_map (means (recs w)) (few_list f)
digit_means {w} law p f at = means_is (recs w) (lawful_names law) p _ at.here ∙ digit_items (recs w) (means (recs w)) p f at.weight

pub digit_shown : {w : World} → IsLawful w → (d limit p : ℕ) (f : Few) → AllByRecursion (IsElement w d limit) (few_list f) → IsDigitAt w p f → DigitWell w d p f
digit_shown {w} law d limit p f k at =
    let level_here = level_is law p _ at.here d ∙ (digit_of_level (is_of_level (recs w)) f at.weight d ∙ all_of_level w d limit (few_list f) k) in
    record {
      there = (digit_record f at.weight, at.here);
      sort = rw at.here (ap (λ s. same_sort s sorts.Digit) (digit_sort f at.weight));
      of_level = level_here;
      own = level_unique law p d _ at.here (digit_levelled _ (digit_sort f at.weight)) level_here;
      items = digit_means law p f at;
    }

-- ---- trees

pub single_well : {w : World} → IsLawful w → (d limit p : ℕ) → limit ≤ p → p < 4194304 → (e : Ref) (weight : Weight) → IsElement w d limit e.0 → weight.size ≡ length (means (recs w) e.0) → weight.size ≤ 2147483647 → weight.key.0 < 18446744073709551616 → FingerWell w p (Single e weight.size weight.key) d
single_well {w} law d limit p high low e weight k size small key =
    let a = element law d limit p e.0 high low k in
    record {
      finger = refl;
      range = range_from (Single e weight.size weight.key) (omega arith, (a.fits, (size_fit weight.size small, (key, tt)))) refl;
      names = (a.named, tt);
      total = eq-eqb weight.size _ size;
      of_level = a.of_level;
      own = a.own;
      rooted = refl;
      low = refl;
    }

pub tree_named : {w : World} → (d limit p t : ℕ) → limit ≤ p → IsTree w d limit t → IsNamedWell (recs w) p (t, sorts.Finger)
tree_named {w} d limit p t high k = let a = at_true is_tree_rec (recs w t) k.sort in (omega (arith, k.under, high), a.0, a.1, sorts_agree (sort_of a.0) sorts.Finger a.2)

pub digit_named : {w : World} → (d limit p q : ℕ) (f : Few) → q < limit → limit ≤ p → DigitWell w d q f → IsNamedWell (recs w) p (q, sorts.Digit)
digit_named {w} d limit p q f under high k = let a = at_true is_digit_rec (recs w q) k.sort in (omega (arith, under, high), a.0, a.1, sorts_agree (sort_of a.0) sorts.Digit a.2)

pub deep_well : {w : World} → IsLawful w → (d limit p : ℕ) → limit ≤ p → p < 4194304 → (left middle right : Ref) (l r : Few) (weight : Weight) → DigitWell w d left.0 l → left.0 < limit → IsTree w (suc d) limit middle.0 → DigitWell w d right.0 r → right.0 < limit
    → weight.size ≡ length (means (recs w) left.0 ++ means (recs w) middle.0 ++ means (recs w) right.0) → weight.size ≤ 2147483647 → weight.key.0 < 18446744073709551616 → FingerWell w p (Deep left middle right weight.size weight.key) d
deep_well {w} law d limit p high low left middle right l r weight kl under_l km kr under_r size small key = record {
  finger = refl;
  range = range_from (Deep left middle right weight.size weight.key) (omega arith, ((omega (arith, under_l, high, low)), ((omega (arith, km.under, high, low)), ((omega (arith, under_r, high, low)), (size_fit weight.size small, (key, tt)))))) refl;
  names = (digit_named d limit p left.0 l under_l high kl, (tree_named (suc d) limit p middle.0 high km, (digit_named d limit p right.0 r under_r high kr, tt)));
  total = eq-eqb weight.size _ size;
  of_level = and_from _ (is_of_level (recs w) right.0 d) (and_from (is_of_level (recs w) left.0 d) (is_of_level (recs w) middle.0 (suc d)) kl.of_level km.of_level) kr.of_level;
  own = kl.own;
  rooted = refl;
  low = refl;
}
