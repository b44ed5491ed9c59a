-- What is made of a middle's value and one digit, where nothing of the other digit is left.
use Rattle.std.proofs.Common.{◌≡◌, ℕ, suc, ◌<◌, ◌≤◌, refl, sym, ap, ◌∙◌, arith, Bool, true, ◌&&◌, Option, Some, None, List, [], ◌∷◌, ◌++◌, length, reverse}
use Rattle.std.specs.Prelude.{flat_map, cond}
use Rattle.std.specs.Option.{is_none}
use Rattle.std.specs.List.{AllByRecursion}
use Rattle.std.proofs.lemmas.Bool.{true≢false, and_parts, eqb-true}
use Rattle.std.proofs.lemmas.List.{append_assoc, append-nil}
use Rattle.std.proofs.lemmas.Grind.{flat_map-append}
use Rattle.lazy_rec.specs.declared.places.Ref.{Ref}
use Rattle.lazy_rec.specs.declared.places.Item.{Item}
use Rattle.lazy_rec.specs.declared.records.Rec.{Rec}
use Rattle.lazy_rec.specs.declared.records.Rec.TheVariants.{TEmpty, Leaf, Node, Single, Deep}
use Rattle.lazy_rec.specs.declared.records.Sort.TheVariants as sorts
use Rattle.lazy_rec.specs.Named.{Records, same_sort}
use Rattle.lazy_rec.specs.Meaning.{means}
use Rattle.heap_store.specs.World.{World, recs, holds}
use Rattle.heap_store.specs.Lawful.{IsLawful, is_of_level, height}
use Rattle.heap_store.specs.Completion as top
use Rattle.heap_store.specs.Completion.{Made, elements, elements_of, from_middle_left, from_middle_right, of_digit, with_left_node, with_right_node}
use Rattle.heap_store.specs.Growth.{Grows}
use Rattle.heap_store.proofs.Alls.{All-append}
use Rattle.heap_store.proofs.GrowthLaws.{at_true}
use Rattle.heap_store.proofs.RecordLaws.{level_kept}
use Rattle.heap_store.proofs.LawfulLaws.{lawful_names}
use Rattle.heap_store.proofs.NameLaws.{IsPublished}
use Rattle.heap_store.proofs.ReadLaws.{holds_at}
use Rattle.heap_store.proofs.MeaningLaws.{means_is}
use Rattle.finger_level.specs.declared.few.Few.{Few}
use Rattle.finger_level.specs.declared.few.Few.TheVariants as few
use Rattle.finger_level.specs.declared.few.Group.{Group}
use Rattle.finger_level.specs.declared.few.Group.TheVariants as group
use Rattle.finger_level.specs.declared.level.Digit.TheVariants as digits
use Rattle.finger_level.specs.declared.level.Middle.{Middle}
use Rattle.finger_level.specs.declared.level.Middle.TheVariants as middles
use Rattle.finger_level.specs.declared.level.Level.{Level}
use Rattle.finger_level.specs.declared.level.Side.{Side}
use Rattle.finger_level.specs.declared.level.Side.TheVariants as sides
use Rattle.finger_level.specs.Few.{few_list, node_record, few_of_group, rest_list}
use Rattle.finger_level.specs.Level.{made_of, middle_of, middle_elements, middle_trees, middle_nodes, middle_inner, middle_items, elements_in, trees_in, nodes_in, inner_in, items_of_made, places_of, made_places}
use Rattle.finger_level.specs.Reads.{is_element, is_node_rec, is_digit_rec, is_tree_value, IsDigitAt, IsNodeAt, AreThere, AreUnder, IsThereMiddle, IsUnderMiddle}
use Rattle.finger_level.specs.Keyed.{HasKeys, AreKeyed, KeyedMiddle, KeyedLevel}
use Rattle.finger_level.specs.Pushes.{beside}
use Rattle.finger_level.specs.Puts.{IsElement, IsTree, IsLevel}
use Rattle.finger_level.specs.Pops.{both_ends, what_is_left, level_by, from_middle, is_single, AreLow, AreParts, IsUpper, IsDrawn}
use Rattle.finger_level.proofs.Values.{level_is, names_height}
use Rattle.finger_level.proofs.Builds.{digit_sort}
use Rattle.finger_level.proofs.NodePuts.{all_left, all_right}
use Rattle.finger_level.proofs.Pushing.{both_length}
use Rattle.finger_level.proofs.Found.{digit_elements}
use Rattle.finger_level.proofs.Tops.{digit_top, TopWell, top_well}
use Rattle.finger_level.proofs.Keying.{keyed_of, digit_keys}

-- ---- nodes and digits that stand

pub record Parts (w : World) (d limit p : ℕ) (es : List ℕ) : Type 0 where
  pub each : AllByRecursion (IsElement w d limit) es
  pub items : means (recs w) p ≡ flat_map (means (recs w)) es
  pub low : AllByRecursion (λ e. height (recs w) e ≤ height (recs w) p) es

node_parts : {w : World} → IsLawful w → (d limit e : ℕ) (b : Group) → IsElement w (suc d) limit e → IsNodeAt w b e → Parts w d limit e (few_list (few_of_group b))
node_parts {w} law d limit e (group.Two x y) k at =
    let n = lawful_names law e _ at.here in
    let l : (is_of_level (recs w) x.0 d && (is_of_level (recs w) y.0 d && true)) ≡ true = sym (level_is law e _ at.here (suc d)) ∙ k.of_level in
    let a = and_parts (is_of_level (recs w) x.0 d) (is_of_level (recs w) y.0 d && true) l in
    let b = and_parts (is_of_level (recs w) y.0 d) true a.1 in
    let h = names_height law e _ at.here refl in
    record {
      each = (record { under = omega (arith, n.0.0, k.under); sort = rw n.0.2 (ap (λ s. same_sort s sorts.Element) n.0.3); of_level = a.0 }, (record { under = omega (arith, n.1.0.0, k.under); sort = rw n.1.0.2 (ap (λ s. same_sort s sorts.Element) n.1.0.3); of_level = b.0 }, tt));
      items = means_is (recs w) (lawful_names law) e _ at.here;
      low = (h.0, (h.1.0, tt));
    }
node_parts {w} law d limit e (group.Three x y z) k at =
    let n = lawful_names law e _ at.here in
    let l : (is_of_level (recs w) x.0 d && (is_of_level (recs w) y.0 d && (is_of_level (recs w) z.0 d && true))) ≡ true = sym (level_is law e _ at.here (suc d)) ∙ k.of_level in
    let a = and_parts (is_of_level (recs w) x.0 d) _ l in
    let b = and_parts (is_of_level (recs w) y.0 d) _ a.1 in
    let c = and_parts (is_of_level (recs w) z.0 d) true b.1 in
    let h = names_height law e _ at.here refl in
    record {
      each = (record { under = omega (arith, n.0.0, k.under); sort = rw n.0.2 (ap (λ s. same_sort s sorts.Element) n.0.3); of_level = a.0 }, (record { under = omega (arith, n.1.0.0, k.under); sort = rw n.1.0.2 (ap (λ s. same_sort s sorts.Element) n.1.0.3); of_level = b.0 }, (record { under = omega (arith, n.1.1.0.0, k.under); sort = rw n.1.1.0.2 (ap (λ s. same_sort s sorts.Element) n.1.1.0.3); of_level = c.0 }, tt)));
      items = means_is (recs w) (lawful_names law) e _ at.here;
      low = (h.0, (h.1.0, (h.1.1.0, tt)));
    }

node_elements : (w : World) (b : Group) (e : ℕ) → IsNodeAt w b e → elements w e ≡ few_list (few_of_group b)
node_elements w b e k = rw k.here (by b)
  where
    by : (b : Group) → elements_of (node_record b k.weight) ≡ few_list (few_of_group b)
    by (group.Two x y) = refl
    by (group.Three x y z) = refl

node_keys : {w : World} → IsLawful w → (keyed : Bool) (b : Group) (e : ℕ) → IsNodeAt w b e → HasKeys keyed w e → AreKeyed keyed w (few_list (few_of_group b))
node_keys law keyed (group.Two x y) e k h = (keyed_of law keyed e _ k.here h).all
node_keys law keyed (group.Three x y z) e k h = (keyed_of law keyed e _ k.here h).all

pub digit_parts : {w : World} → IsLawful w → (d limit p : ℕ) (f : Few) → IsDigitAt w p f → p < limit → is_of_level (recs w) p d ≡ true → Parts w d limit p (few_list f)
digit_parts {w} law d limit p f at low h =
    let t = digit_top law d limit p _ at.here (digit_sort f at.weight) (omega (arith, low)) h in
    let e = digit_elements w p f at in
    record { each = rw e at t.each; items = rw e at t.items; low = rw e at t.low }

-- heights below one that is higher
pub lower : (w : World) (m o : ℕ) (es : List ℕ) → m < o → AllByRecursion (λ e. height (recs w) e ≤ m) es → AllByRecursion (λ e. height (recs w) e < o) es
lower w m o [] lt h = tt
lower w m o (e ∷ es) lt h = (omega (arith, h.0, lt), lower w m o es lt h.1)

-- ---- what is left of a deep tree

pub record LeftFacts (m : top.Middle) (side : Side) (rest : List ℕ) (t : ℕ) (far : List ℕ) : Type 0 where
  pub elements : middle_elements m ≡ []
  pub trees : middle_trees m ≡ []
  pub nodes : middle_nodes m ≡ beside side rest far
  pub inner : middle_inner m ≡ t ∷ []
  pub items : (f : ℕ → List ℕ) → middle_items f m ≡ beside side (flat_map f rest) (beside side (f t) (flat_map f far))

left_facts : (side : Side) (rest : Option Few) (t p : Ref) (g : Few) → LeftFacts (middle_of (what_is_left side rest t (digits.Old p g))) side (rest_list rest) t.0 (few_list g)
left_facts sides.Left None t p g = record { elements = refl; trees = refl; nodes = refl; inner = refl; items = λ f. refl }
left_facts sides.Left (Some r) t p g = record { elements = refl; trees = refl; nodes = refl; inner = refl; items = λ f. append_assoc (flat_map f (few_list r)) (f t.0) (flat_map f (few_list g)) }
left_facts sides.Right None t p g = record { elements = refl; trees = refl; nodes = sym (append-nil (few_list g)); inner = refl; items = λ f. sym (append-nil (flat_map f (few_list g) ++ f t.0)) }
left_facts sides.Right (Some r) t p g = record { elements = refl; trees = refl; nodes = refl; inner = refl; items = λ f. refl }

-- a level by its side
pub by_elements : (side : Side) (near : Few) (m : Middle) (p : Ref) (f : Few) → middle_elements (middle_of m) ≡ [] → elements_in (made_of (level_by side near m (digits.Old p f))) ≡ beside side (few_list near) (few_list f)
by_elements sides.Left near m p f h = rw h refl
by_elements sides.Right near m p f h = rw h refl

pub by_trees : (side : Side) (near : Few) (m : Middle) (p : Ref) (f : Few) → trees_in (made_of (level_by side near m (digits.Old p f))) ≡ middle_trees (middle_of m)
by_trees sides.Left near m p f = refl
by_trees sides.Right near m p f = refl

pub by_nodes : (side : Side) (near : Few) (m : Middle) (p : Ref) (f : Few) → nodes_in (made_of (level_by side near m (digits.Old p f))) ≡ middle_nodes (middle_of m)
by_nodes sides.Left near m p f = refl
by_nodes sides.Right near m p f = refl

pub by_inner : (side : Side) (near : Few) (m : Middle) (p : Ref) (f : Few) → inner_in (made_of (level_by side near m (digits.Old p f))) ≡ middle_inner (middle_of m)
by_inner sides.Left near m p f = refl
by_inner sides.Right near m p f = refl

pub by_items : (g : ℕ → List ℕ) (side : Side) (near : Few) (m : Middle) (p : Ref) (f : Few) → items_of_made g (made_of (level_by side near m (digits.Old p f))) ≡ beside side (beside side (flat_map g (few_list near)) (middle_items g (middle_of m))) (flat_map g (few_list f))
by_items g sides.Left near m p f = refl
by_items g sides.Right near m p f = append_assoc (flat_map g (few_list f)) (middle_items g (middle_of m)) (flat_map g (few_list near))

pub by_there : (w : World) (side : Side) (near : Few) (m : Middle) (p : Ref) (f : Few) → IsDigitAt w p.0 f → IsThereMiddle w m → AreThere w (level_by side near m (digits.Old p f))
by_there w sides.Left near m p f h k = (tt, h, k)
by_there w sides.Right near m p f h k = (h, tt, k)

pub by_under : (limit : ℕ) (side : Side) (near : Few) (m : Middle) (p : Ref) (f : Few) → p.0 < limit → IsUnderMiddle limit m → AreUnder limit (level_by side near m (digits.Old p f))
by_under limit sides.Left near m p f h k = (tt, h, k)
by_under limit sides.Right near m p f h k = (h, tt, k)

pub by_keyed : (w : World) (keyed : Bool) (side : Side) (near : Few) (m : Middle) (p : Ref) (f : Few) → AreKeyed keyed w (few_list near) → KeyedMiddle keyed w m → HasKeys keyed w p.0 → AreKeyed keyed w (few_list f) → KeyedLevel keyed w (level_by side near m (digits.Old p f))
by_keyed w keyed sides.Left near m p f a b c d = (a, b, (c, d))
by_keyed w keyed sides.Right near m p f a b c d = ((c, d), b, a)

-- lists by the side
pub all_both : (P : ℕ → Type 0) (side : Side) (xs ys : List ℕ) → AllByRecursion P xs → AllByRecursion P ys → AllByRecursion P (beside side xs ys)
all_both P sides.Left xs ys h k = All-append P xs ys h k
all_both P sides.Right xs ys h k = All-append P ys xs k h

pub all_near : (P : ℕ → Type 0) (side : Side) (xs ys : List ℕ) → AllByRecursion P (beside side xs ys) → AllByRecursion P xs
all_near P sides.Left xs ys h = all_left P xs ys h
all_near P sides.Right xs ys h = all_right P ys xs h

pub all_far : (P : ℕ → Type 0) (side : Side) (xs ys : List ℕ) → AllByRecursion P (beside side xs ys) → AllByRecursion P ys
all_far P sides.Left xs ys h = all_right P xs ys h
all_far P sides.Right xs ys h = all_left P ys xs h

pub both_flat : (f : ℕ → List ℕ) (side : Side) (xs ys : List ℕ) → flat_map f (beside side xs ys) ≡ beside side (flat_map f xs) (flat_map f ys)
both_flat f sides.Left xs ys = flat_map-append f xs ys
both_flat f sides.Right xs ys = flat_map-append f ys xs

-- three lists by the side
pub turned : (side : Side) (xs ys zs : List ℕ) → beside side (beside side xs ys) zs ≡ beside side xs (beside side ys zs)
turned sides.Left xs ys zs = append_assoc xs ys zs
turned sides.Right xs ys zs = sym (append_assoc zs ys xs)

-- ---- a middle's value that is deep

pub record Middles (w : World) (d limit q t : ℕ) (side : Side) (near far : List ℕ) : Type 0 where
  pub near_each : AllByRecursion (IsElement w d limit) near
  pub far_each : AllByRecursion (IsElement w d limit) far
  pub tree : IsTree w (suc d) limit t
  pub items : means (recs w) q ≡ beside side (flat_map (means (recs w)) near) (beside side (means (recs w) t) (flat_map (means (recs w)) far))
  pub near_low : AllByRecursion (λ e. height (recs w) e ≤ height (recs w) q) near
  pub far_low : AllByRecursion (λ e. height (recs w) e ≤ height (recs w) q) far
  pub tree_low : height (recs w) t ≤ height (recs w) q

pub middles_at : {w : World} → IsLawful w → (d limit q : ℕ) (left middle right : Ref) (z : ℕ) (k : Item) → recs w q ≡ Some (Deep left middle right z k) → q < limit → is_of_level (recs w) q d ≡ true → (side : Side) (near far : Ref) → (near, far) ≡ both_ends side left right → (f g : Few) → IsDigitAt w near.0 f → IsDigitAt w far.0 g → Middles w d limit q middle.0 side (few_list f) (few_list g)
middles_at {w} law d limit q left middle right z k e low h side near far ends f g atf atg = by side (ap (λ (x : Ref × Ref). x.0) ends) (ap (λ (x : Ref × Ref). x.1) ends)
  where
    x : TopWell w d limit q (top.deep (elements w left.0) (top.tree (Some middle.0)) (elements w right.0))
    x = top_well law d limit q (Deep left middle right z k) (top.deep (elements w left.0) (top.tree (Some middle.0)) (elements w right.0)) e refl low h

    by : (side : Side) → near ≡ (both_ends side left right).0 → far ≡ (both_ends side left right).1 → Middles w d limit q middle.0 side (few_list f) (few_list g)
    by sides.Left a b =
        let ef : elements w left.0 ≡ few_list f = rw a at (digit_elements w near.0 f atf) in
        let eg : elements w right.0 ≡ few_list g = rw b at (digit_elements w far.0 g atg) in
        record {
          near_each = rw ef at (all_left _ (elements w left.0) (elements w right.0) x.elements);
          far_each = rw eg at (all_right _ (elements w left.0) (elements w right.0) x.elements);
          tree = x.trees.0;
          items = sym x.items ∙ (rw (ef, eg) (ap (λ ys. (flat_map (means (recs w)) (few_list f) ++ ys) ++ flat_map (means (recs w)) (few_list g)) (append-nil (means (recs w) middle.0)) ∙ append_assoc (flat_map (means (recs w)) (few_list f)) (means (recs w) middle.0) (flat_map (means (recs w)) (few_list g))));
          near_low = rw ef at (all_left _ (elements w left.0) (elements w right.0) x.low);
          far_low = rw eg at (all_right _ (elements w left.0) (elements w right.0) x.low);
          tree_low = x.low_trees.0;
        }
    by sides.Right a b =
        let ef : elements w right.0 ≡ few_list f = rw a at (digit_elements w near.0 f atf) in
        let eg : elements w left.0 ≡ few_list g = rw b at (digit_elements w far.0 g atg) in
        record {
          near_each = rw ef at (all_right _ (elements w left.0) (elements w right.0) x.elements);
          far_each = rw eg at (all_left _ (elements w left.0) (elements w right.0) x.elements);
          tree = x.trees.0;
          items = sym x.items ∙ (rw (ef, eg) (ap (λ ys. (flat_map (means (recs w)) (few_list g) ++ ys) ++ flat_map (means (recs w)) (few_list f)) (append-nil (means (recs w) middle.0))));
          near_low = rw ef at (all_right _ (elements w left.0) (elements w right.0) x.low);
          far_low = rw eg at (all_left _ (elements w left.0) (elements w right.0) x.low);
          tree_low = x.low_trees.0;
        }

-- ---- what is made, in the words of completions

made_left : (w : World) (t far p : Ref) (e : ℕ) (b : Group) (rest : Option Few) (g f : Few) → elements w far.0 ≡ few_list g → elements w e ≡ few_list (few_of_group b) → with_left_node w t.0 far.0 (few_list f) (e ∷ rest_list rest) ≡ Some (made_of (level_by sides.Left (few_of_group b) (what_is_left sides.Left rest t (digits.Old far g)) (digits.Old p f)))
made_left w t far p e b None g f hg he = rw (hg, he) refl
made_left w t far p e b (Some (few.One x)) g f hg he = rw (hg, he) refl
made_left w t far p e b (Some (few.Two x y)) g f hg he = rw (hg, he) refl
made_left w t far p e b (Some (few.Three x y z)) g f hg he = rw (hg, he) refl
made_left w t far p e b (Some (few.Four x y z u)) g f hg he = rw (hg, he) refl

made_right : (w : World) (t far p : Ref) (e : ℕ) (b : Group) (rest : Option Few) (g f : Few) → elements w far.0 ≡ few_list g → elements w e ≡ few_list (few_of_group b) → with_right_node w far.0 t.0 (few_list f) (reverse (rest_list rest ++ e ∷ [])) ≡ Some (made_of (level_by sides.Right (few_of_group b) (what_is_left sides.Right rest t (digits.Old far g)) (digits.Old p f)))
made_right w t far p e b None g f hg he = rw (hg, he) refl
made_right w t far p e b (Some (few.One x)) g f hg he = rw (hg, he) refl
made_right w t far p e b (Some (few.Two x y)) g f hg he = rw (hg, he) refl
made_right w t far p e b (Some (few.Three x y z)) g f hg he = rw (hg, he) refl
made_right w t far p e b (Some (few.Four x y z u)) g f hg he = rw (hg, he) refl

made_by : (w : World) (side : Side) (left middle right : Ref) (z : ℕ) (k : Item) (near far p : Ref) → (near, far) ≡ both_ends side left right → (e : ℕ) (b : Group) (rest : Option Few) (n g f : Few) → beside side (e ∷ []) (rest_list rest) ≡ few_list n → elements w near.0 ≡ few_list n → elements w far.0 ≡ few_list g → elements w e ≡ few_list (few_of_group b) → from_middle side w (Deep left middle right z k) (few_list f) ≡ Some (made_of (level_by side (few_of_group b) (what_is_left side rest middle (digits.Old far g)) (digits.Old p f)))
made_by w side left middle right z k near far p ends e b rest n g f taken hn hg he = by side (ap (λ (x : Ref × Ref). x.0) ends) (ap (λ (x : Ref × Ref). x.1) ends) taken
  where
    by : (side : Side) → near ≡ (both_ends side left right).0 → far ≡ (both_ends side left right).1 → beside side (e ∷ []) (rest_list rest) ≡ few_list n → from_middle side w (Deep left middle right z k) (few_list f) ≡ Some (made_of (level_by side (few_of_group b) (what_is_left side rest middle (digits.Old far g)) (digits.Old p f)))
    by sides.Left a c t = rw (← a, hn, ← t, ← c) (made_left w middle far p e b rest g f hg he)
    by sides.Right a c t = rw (← a, hn, ← t, ← c) (made_right w middle far p e b rest g f hg he)

places_by : (side : Side) (near : Few) (rest : Option Few) (t far p : Ref) (g f : Few) → (places_of (level_by side near (what_is_left side rest t (digits.Old far g)) (digits.Old p f)) ≡ made_places 0 (made_of (level_by side near (what_is_left side rest t (digits.Old far g)) (digits.Old p f)))) × (places_of (level_by side near (what_is_left side rest t (digits.Old far g)) (digits.Old p f)) ≤ 4)
places_by sides.Left near None t far p g f = (refl, omega arith)
places_by sides.Left near (Some r) t far p g f = (refl, omega arith)
places_by sides.Right near None t far p g f = (refl, omega arith)
places_by sides.Right near (Some r) t far p g f = (refl, omega arith)

-- by the elements that the middle's digit had
pub rest_count : (side : Side) (e : ℕ) (rest : Option Few) → is_single (beside side (e ∷ []) (rest_list rest)) ≡ is_none rest
rest_count sides.Left e None = refl
rest_count sides.Left e (Some (few.One a)) = refl
rest_count sides.Left e (Some (few.Two a b)) = refl
rest_count sides.Left e (Some (few.Three a b c)) = refl
rest_count sides.Left e (Some (few.Four a b c d)) = refl
rest_count sides.Right e None = refl
rest_count sides.Right e (Some (few.One a)) = refl
rest_count sides.Right e (Some (few.Two a b)) = refl
rest_count sides.Right e (Some (few.Three a b c)) = refl
rest_count sides.Right e (Some (few.Four a b c d)) = refl

count_by : (side : Side) (near : Few) (rest : Option Few) (t far p : Ref) (g f : Few) → places_of (level_by side near (what_is_left side rest t (digits.Old far g)) (digits.Old p f)) ≡ cond (is_none rest) 3 4
count_by sides.Left near None t far p g f = refl
count_by sides.Left near (Some r) t far p g f = refl
count_by sides.Right near None t far p g f = refl
count_by sides.Right near (Some r) t far p g f = refl

-- the digit of the side that a level shows
pub shown_near : (w : World) (side : Side) (left right near far : Ref) → (near, far) ≡ both_ends side left right → (n g : Few) → elements w near.0 ≡ few_list n → elements w far.0 ≡ few_list g → ((both_ends side (elements w left.0) (elements w right.0)).0 ≡ few_list n) × ((both_ends side (elements w left.0) (elements w right.0)).1 ≡ few_list g)
shown_near w side left right near far ends n g hn hg = by side (ap (λ (x : Ref × Ref). x.0) ends) (ap (λ (x : Ref × Ref). x.1) ends)
  where
    by : (side : Side) → near ≡ (both_ends side left right).0 → far ≡ (both_ends side left right).1 → ((both_ends side (elements w left.0) (elements w right.0)).0 ≡ few_list n) × ((both_ends side (elements w left.0) (elements w right.0)).1 ≡ few_list g)
    by sides.Left a c = (rw a at hn, rw c at hg)
    by sides.Right a c = (rw a at hn, rw c at hg)

left_there : (w : World) (side : Side) (rest : Option Few) (t far : Ref) (g : Few) → IsDigitAt w far.0 g → IsThereMiddle w (what_is_left side rest t (digits.Old far g))
left_there w sides.Left None t far g h = h
left_there w sides.Left (Some r) t far g h = (tt, h)
left_there w sides.Right None t far g h = h
left_there w sides.Right (Some r) t far g h = (h, tt)

left_under : (limit : ℕ) (side : Side) (rest : Option Few) (t far : Ref) (g : Few) → far.0 < limit → IsUnderMiddle limit (what_is_left side rest t (digits.Old far g))
left_under limit sides.Left None t far g h = h
left_under limit sides.Left (Some r) t far g h = (tt, h)
left_under limit sides.Right None t far g h = h
left_under limit sides.Right (Some r) t far g h = (h, tt)

left_keyed : (w : World) (keyed : Bool) (side : Side) (rest : Option Few) (t far : Ref) (g : Few) → AreKeyed keyed w (rest_list rest) → HasKeys keyed w t.0 → HasKeys keyed w far.0 → AreKeyed keyed w (few_list g) → KeyedMiddle keyed w (what_is_left side rest t (digits.Old far g))
left_keyed w keyed sides.Left None t far g a b c d = (b, (c, d))
left_keyed w keyed sides.Left (Some r) t far g a b c d = (a, b, (c, d))
left_keyed w keyed sides.Right None t far g a b c d = (b, (c, d))
left_keyed w keyed sides.Right (Some r) t far g a b c d = ((c, d), b, a)

-- ---- a level that is drawn

pub end_lows : {w : World} → IsLawful w → (q : ℕ) (left middle right : Ref) (z : ℕ) (k : Item) → recs w q ≡ Some (Deep left middle right z k) → (side : Side) (near far : Ref) → (near, far) ≡ both_ends side left right → far.0 < q
end_lows {w} law q left middle right z k e side near far ends = by side (ap (λ (x : Ref × Ref). x.1) ends)
  where
    by : (side : Side) → far ≡ (both_ends side left right).1 → far.0 < q
    by sides.Left c = rw c (let n = lawful_names law q _ e in n.1.1.0.0)
    by sides.Right c = rw c (let n = lawful_names law q _ e in n.0.0)

pub end_keys : (w : World) (keyed : Bool) (left right : Ref) (side : Side) (near far : Ref) → (near, far) ≡ both_ends side left right → HasKeys keyed w left.0 → HasKeys keyed w right.0 → HasKeys keyed w near.0 × HasKeys keyed w far.0
end_keys w keyed left right side near far ends hl hr = by side (ap (λ (x : Ref × Ref). x.0) ends) (ap (λ (x : Ref × Ref). x.1) ends)
  where
    by : (side : Side) → near ≡ (both_ends side left right).0 → far ≡ (both_ends side left right).1 → HasKeys keyed w near.0 × HasKeys keyed w far.0
    by sides.Left a c = (rw a hl, rw c hr)
    by sides.Right a c = (rw a hr, rw c hl)

-- the first node of a deep middle, what is left of the middle, and the digit that there is
pub record Drawing (w : World) (side : Side) (q : ℕ) (left middle right near far e p : Ref) (b : Group) (rest : Option Few) (n g f : Few) : Type 0 where
  pub size : ℕ
  pub key : Item
  pub here : recs w q ≡ Some (Deep left middle right size key)
  pub ends : (near, far) ≡ both_ends side left right
  pub near_at : IsDigitAt w near.0 n
  pub far_at : IsDigitAt w far.0 g
  pub node_at : IsNodeAt w b e.0
  pub digit_at : IsDigitAt w p.0 f
  pub taken : beside side (e.0 ∷ []) (rest_list rest) ≡ few_list n

module _ {w : World} (law : IsLawful w) (side : Side) (q : ℕ) (left middle right near far e p : Ref) (b : Group) (rest : Option Few) (n g f : Few) (k : Drawing w side q left middle right near far e p b rest n g f) where
  abbrev left_middle : Middle
  left_middle = what_is_left side rest middle (digits.Old far g)

  abbrev pub drawn : Level
  drawn = level_by side (few_of_group b) left_middle (digits.Old p f)

  left_is : LeftFacts (middle_of left_middle) side (rest_list rest) middle.0 (few_list g)
  left_is = left_facts side rest middle far g

  module _ (d limit : ℕ) (a : AreParts w d limit q p.0) where
    m : Middles w (suc d) limit q middle.0 side (few_list n) (few_list g)
    m = middles_at law (suc d) limit q left middle right k.size k.key k.here a.upper_low a.upper side near far k.ends n g k.near_at k.far_at

    near_all : AllByRecursion (IsElement w (suc d) limit) (beside side (e.0 ∷ []) (rest_list rest))
    near_all = rw k.taken m.near_each

    near_low : AllByRecursion (λ x. height (recs w) x ≤ height (recs w) q) (beside side (e.0 ∷ []) (rest_list rest))
    near_low = rw k.taken m.near_low

    node : Parts w d limit e.0 (few_list (few_of_group b))
    node = node_parts law d limit e.0 b (all_near (IsElement w (suc d) limit) side (e.0 ∷ []) (rest_list rest) near_all).0 k.node_at

    digit : Parts w d limit p.0 (few_list f)
    digit = digit_parts law d limit p.0 f k.digit_at a.digit_low a.digit

    drawn_items : items_of_made (means (recs w)) (made_of drawn) ≡ beside side (means (recs w) q) (means (recs w) p.0)
    drawn_items =
        let i = means (recs w) in
        let own : flat_map i (few_list n) ≡ beside side (i e.0) (flat_map i (rest_list rest)) = ap (flat_map i) (sym k.taken) ∙ (both_flat i side (e.0 ∷ []) (rest_list rest) ∙ ap (λ xs. beside side xs (flat_map i (rest_list rest))) (append-nil (i e.0))) in
        let whole : i q ≡ beside side (beside side (i e.0) (flat_map i (rest_list rest))) (beside side (i middle.0) (flat_map i (few_list g))) = m.items ∙ ap (λ xs. beside side xs (beside side (i middle.0) (flat_map i (few_list g)))) own in
        let made : items_of_made i (made_of drawn) ≡ beside side (beside side (i e.0) (beside side (flat_map i (rest_list rest)) (beside side (i middle.0) (flat_map i (few_list g))))) (i p.0) = by_items i side (few_of_group b) left_middle p f ∙ rw (← node.items, left_is.items i, ← digit.items) refl in
        made ∙ ap (λ xs. beside side xs (i p.0)) (sym (turned side (i e.0) (flat_map i (rest_list rest)) (beside side (i middle.0) (flat_map i (few_list g)))) ∙ sym whole)

    drawn_parts : IsLevel w d limit (made_of drawn)
    drawn_parts = record {
      elements = rw (by_elements side (few_of_group b) left_middle p f left_is.elements) (all_both (IsElement w d limit) side (few_list (few_of_group b)) (few_list f) node.each digit.each);
      trees = rw (by_trees side (few_of_group b) left_middle p f, left_is.trees) tt;
      nodes = rw (by_nodes side (few_of_group b) left_middle p f, left_is.nodes) (all_both (IsElement w (suc d) limit) side (rest_list rest) (few_list g) (all_far (IsElement w (suc d) limit) side (e.0 ∷ []) (rest_list rest) near_all) m.far_each);
      inner = rw (by_inner side (few_of_group b) left_middle p f, left_is.inner) (m.tree, tt);
      small = (let z = ap length drawn_items in let y = both_length side (means (recs w) q) (means (recs w) p.0) in omega (arith, z, y, a.small));
    }

    drawn_low : (o : ℕ) → height (recs w) q < o → height (recs w) p.0 < o → AreLow w o (made_of drawn)
    drawn_low o hq hp =
        let he = (all_near (λ x. height (recs w) x ≤ height (recs w) q) side (e.0 ∷ []) (rest_list rest) near_low).0 in
        let hr = all_far (λ x. height (recs w) x ≤ height (recs w) q) side (e.0 ∷ []) (rest_list rest) near_low in
        record {
          elements = rw (by_elements side (few_of_group b) left_middle p f left_is.elements) (all_both (λ x. height (recs w) x < o) side (few_list (few_of_group b)) (few_list f) (lower w (height (recs w) e.0) o _ (omega (arith, he, hq)) node.low) (lower w (height (recs w) p.0) o _ hp digit.low));
          trees = rw (by_trees side (few_of_group b) left_middle p f, left_is.trees) tt;
          nodes = rw (by_nodes side (few_of_group b) left_middle p f, left_is.nodes) (all_both (λ x. height (recs w) x < o) side (rest_list rest) (few_list g) (lower w (height (recs w) q) o _ hq hr) (lower w (height (recs w) q) o _ hq m.far_low));
          inner = rw (by_inner side (few_of_group b) left_middle p f, left_is.inner) (omega (arith, m.tree_low, hq), tt);
        }

  pub drawn_deep : IsDrawn w side q p.0 drawn
  drawn_deep = record {
    rec = Deep left middle right k.size k.key;
    here = k.here;
    shown = top.deep (elements w left.0) (top.tree (Some middle.0)) (elements w right.0);
    top = refl;
    made = rw (digit_elements w p.0 f k.digit_at) (made_by w side left middle right k.size k.key near far p k.ends e.0 b rest n g f k.taken (digit_elements w near.0 n k.near_at) (digit_elements w far.0 g k.far_at) (node_elements w b e.0 k.node_at));
    places = (places_by side (few_of_group b) rest middle far p g f).0;
    count = count_by side (few_of_group b) rest middle far p g f ∙ rw ((shown_near w side left right near far k.ends n g (digit_elements w near.0 n k.near_at) (digit_elements w far.0 g k.far_at)).0, ← k.taken) (ap (λ x. cond x 3 4) (sym (rest_count side e.0 rest)));
    most = (places_by side (few_of_group b) rest middle far p g f).1;
    there = by_there w side (few_of_group b) left_middle p f k.digit_at (left_there w side rest middle far g k.far_at);
    under = λ limit ql pl. (let low = end_lows law q left middle right k.size k.key k.here side near far k.ends in by_under limit side (few_of_group b) left_middle p f pl (left_under limit side rest middle far g (omega (arith, low, ql))));
    items = drawn_items;
    parts = drawn_parts;
    low = drawn_low;
    keyed = λ keyed hq hp. (
        let all = (keyed_of law keyed q _ k.here hq).all in
        let ends = end_keys w keyed left right side near far k.ends all.0 all.1.1.0 in
        let es : AreKeyed keyed w (beside side (e.0 ∷ []) (rest_list rest)) = rw k.taken (digit_keys law keyed near.0 n k.near_at ends.0) in
        let node = (all_near (HasKeys keyed w) side (e.0 ∷ []) (rest_list rest) es).0 in
        let others = all_far (HasKeys keyed w) side (e.0 ∷ []) (rest_list rest) es in
        by_keyed w keyed side (few_of_group b) left_middle p f (node_keys law keyed b e.0 k.node_at node) (left_keyed w keyed side rest middle far g others all.1.0 ends.1 (digit_keys law keyed far.0 g k.far_at ends.1)) hp (digit_keys law keyed p.0 f k.digit_at hp));
  }

-- ---- a middle of one node

single_made : (w : World) (side : Side) (x p : Ref) (z : ℕ) (k : Item) (b : Group) (f : Few) → elements w x.0 ≡ few_list (few_of_group b) → from_middle side w (Single x z k) (few_list f) ≡ Some (made_of (level_by side (few_of_group b) (middles.Tree None) (digits.Old p f)))
single_made w sides.Left x p z k b f h = rw h refl
single_made w sides.Right x p z k b f h = rw h refl

single_places : (side : Side) (near : Few) (p : Ref) (f : Few) → (places_of (level_by side near (middles.Tree None) (digits.Old p f)) ≡ made_places 0 (made_of (level_by side near (middles.Tree None) (digits.Old p f)))) × (places_of (level_by side near (middles.Tree None) (digits.Old p f)) ≤ 4)
single_places sides.Left near p f = (refl, omega arith)
single_places sides.Right near p f = (refl, omega arith)

single_count : (side : Side) (near : Few) (p : Ref) (f : Few) → made_places 0 (made_of (level_by side near (middles.Tree None) (digits.Old p f))) ≡ 2
single_count sides.Left near p f = refl
single_count sides.Right near p f = refl

module _ {w : World} (law : IsLawful w) (side : Side) (q : ℕ) (x p : Ref) (size : ℕ) (key : Item) (here : recs w q ≡ Some (Single x size key)) (b : Group) (f : Few) (node_at : IsNodeAt w b x.0) (digit_at : IsDigitAt w p.0 f) where
  abbrev pub one_left : Level
  one_left = level_by side (few_of_group b) (middles.Tree None) (digits.Old p f)

  module _ (d limit : ℕ) (a : AreParts w d limit q p.0) where
    shows : TopWell w (suc d) limit q (top.one x.0)
    shows = top_well law (suc d) limit q (Single x size key) (top.one x.0) here refl a.upper_low a.upper

    one_node : Parts w d limit x.0 (few_list (few_of_group b))
    one_node = node_parts law d limit x.0 b shows.elements.0 node_at

    one_digit : Parts w d limit p.0 (few_list f)
    one_digit = digit_parts law d limit p.0 f digit_at a.digit_low a.digit

    one_items : items_of_made (means (recs w)) (made_of one_left) ≡ beside side (means (recs w) q) (means (recs w) p.0)
    one_items =
        let i = means (recs w) in
        let made : items_of_made i (made_of one_left) ≡ beside side (beside side (i x.0) []) (i p.0) = by_items i side (few_of_group b) (middles.Tree None) p f ∙ rw (← one_node.items, ← one_digit.items) refl in
        made ∙ ap (λ xs. beside side xs (i p.0)) (none side (i x.0) ∙ shows.items)
      where
        none : (side : Side) (xs : List ℕ) → beside side xs [] ≡ xs
        none sides.Left xs = append-nil xs
        none sides.Right xs = refl

    one_parts : IsLevel w d limit (made_of one_left)
    one_parts = record {
      elements = rw (by_elements side (few_of_group b) (middles.Tree None) p f refl) (all_both (IsElement w d limit) side (few_list (few_of_group b)) (few_list f) one_node.each one_digit.each);
      trees = rw (by_trees side (few_of_group b) (middles.Tree None) p f) tt;
      nodes = rw (by_nodes side (few_of_group b) (middles.Tree None) p f) tt;
      inner = rw (by_inner side (few_of_group b) (middles.Tree None) p f) tt;
      small = (let z = ap length one_items in let y = both_length side (means (recs w) q) (means (recs w) p.0) in omega (arith, z, y, a.small));
    }

    one_low : (o : ℕ) → height (recs w) q < o → height (recs w) p.0 < o → AreLow w o (made_of one_left)
    one_low o hq hp = record {
      elements = rw (by_elements side (few_of_group b) (middles.Tree None) p f refl) (all_both (λ x. height (recs w) x < o) side (few_list (few_of_group b)) (few_list f) (lower w (height (recs w) x.0) o _ (let h = shows.low.0 in omega (arith, h, hq)) one_node.low) (lower w (height (recs w) p.0) o _ hp one_digit.low));
      trees = rw (by_trees side (few_of_group b) (middles.Tree None) p f) tt;
      nodes = rw (by_nodes side (few_of_group b) (middles.Tree None) p f) tt;
      inner = rw (by_inner side (few_of_group b) (middles.Tree None) p f) tt;
    }

  pub drawn_single : IsDrawn w side q p.0 one_left
  drawn_single = record {
    rec = Single x size key;
    here = here;
    shown = top.one x.0;
    top = refl;
    made = rw (digit_elements w p.0 f digit_at) (single_made w side x p size key b f (node_elements w b x.0 node_at));
    places = (single_places side (few_of_group b) p f).0;
    count = (single_places side (few_of_group b) p f).0 ∙ single_count side (few_of_group b) p f;
    most = (single_places side (few_of_group b) p f).1;
    there = by_there w side (few_of_group b) (middles.Tree None) p f digit_at tt;
    under = λ limit ql pl. by_under limit side (few_of_group b) (middles.Tree None) p f pl tt;
    items = one_items;
    parts = one_parts;
    low = one_low;
    keyed = λ keyed hq hp. by_keyed w keyed side (few_of_group b) (middles.Tree None) p f (node_keys law keyed b x.0 node_at (keyed_of law keyed q _ here hq).all.0) (tt, tt) hp (digit_keys law keyed p.0 f digit_at hp);
  }

-- ---- no middle

digit_elements_in : (f : Few) → elements_in (of_digit (few_list f)) ≡ few_list f
digit_elements_in (few.One a) = refl
digit_elements_in (few.Two a b) = refl
digit_elements_in (few.Three a b c) = refl
digit_elements_in (few.Four a b c d) = refl

digit_bare : (f : Few) → (trees_in (of_digit (few_list f)) ≡ []) × ((nodes_in (of_digit (few_list f)) ≡ []) × (inner_in (of_digit (few_list f)) ≡ []))
digit_bare (few.One a) = (refl, (refl, refl))
digit_bare (few.Two a b) = (refl, (refl, refl))
digit_bare (few.Three a b c) = (refl, (refl, refl))
digit_bare (few.Four a b c d) = (refl, (refl, refl))

digit_items_in : (i : ℕ → List ℕ) (f : Few) → items_of_made i (of_digit (few_list f)) ≡ flat_map i (few_list f)
digit_items_in i (few.One a) = sym (append-nil (i a.0))
digit_items_in i (few.Two a b) = simp (append_assoc, append-nil) refl
digit_items_in i (few.Three a b c) = simp (append_assoc, append-nil) refl
digit_items_in i (few.Four a b c d) = simp (append_assoc, append-nil) refl

empty_made : (w : World) (side : Side) (es : List ℕ) → from_middle side w TEmpty es ≡ Some (of_digit es)
empty_made w sides.Left es = refl
empty_made w sides.Right es = refl

-- a level that is the tree of a digit
pub record IsOfDigit (w : World) (f : Few) (level : Level) : Type 0 where
  pub made : made_of level ≡ of_digit (few_list f)
  pub places : places_of level ≡ made_places 1 (made_of level)
  pub there : AreThere w level
  pub under : (limit : ℕ) → AreUnder limit level
  pub keyed : (k : Bool) → AreKeyed k w (few_list f) → KeyedLevel k w level

most_of_digit : (f : Few) → made_places 1 (of_digit (few_list f)) ≤ 4
most_of_digit (few.One a) = omega arith
most_of_digit (few.Two a b) = omega arith
most_of_digit (few.Three a b c) = omega arith
most_of_digit (few.Four a b c d) = omega arith

pub drawn_empty : {w : World} → IsLawful w → (side : Side) (q p : ℕ) (f : Few) (level : Level) → recs w q ≡ Some TEmpty → IsDigitAt w p f → IsOfDigit w f level → IsDrawn w side q p level
drawn_empty {w} law side q p f level here at k = record {
  rec = TEmpty;
  here = here;
  shown = top.empty;
  top = refl;
  made = rw (digit_elements w p f at) (empty_made w side (few_list f) ∙ ap Some (sym k.made));
  places = k.places;
  count = k.places ∙ rw (digit_elements w p f at) (ap (made_places 1) k.made);
  most = (let z = most_of_digit f in let y = ap (made_places 1) k.made in omega (arith, z, y, k.places));
  there = k.there;
  under = λ limit ql pl. k.under limit;
  items = items;
  parts = λ d limit a. (let x = digit_parts law d limit p f at a.digit_low a.digit in rw k.made (record {
    elements = rw (digit_elements_in f) x.each;
    trees = rw (digit_bare f).0 tt;
    nodes = rw (digit_bare f).1.0 tt;
    inner = rw (digit_bare f).1.1 tt;
    small = (let z = ap length (items d limit a) in let m = ap (λ (n : Made). length (items_of_made (means (recs w)) n)) k.made in let y = both_length side (means (recs w) q) (means (recs w) p) in omega (arith, z, y, m, a.small));
  }));
  low = λ d limit a o hq hp. (let x = digit_parts law d limit p f at a.digit_low a.digit in rw k.made (record {
    elements = rw (digit_elements_in f) (lower w (height (recs w) p) o _ hp x.low);
    trees = rw (digit_bare f).0 tt;
    nodes = rw (digit_bare f).1.0 tt;
    inner = rw (digit_bare f).1.1 tt;
  }));
  keyed = λ j hq hp. k.keyed j (digit_keys law j p f at hp);
}
  where
    none : (side : Side) (xs : List ℕ) → xs ≡ beside side [] xs
    none sides.Left xs = refl
    none sides.Right xs = sym (append-nil xs)

    items : (d limit : ℕ) → AreParts w d limit q p → items_of_made (means (recs w)) (made_of level) ≡ beside side (means (recs w) q) (means (recs w) p)
    items d limit a = (let x = digit_parts law d limit p f at a.digit_low a.digit in rw k.made (digit_items_in (means (recs w)) f ∙ (sym x.items ∙ rw (means_is (recs w) (lawful_names law) q TEmpty here) (none side (means (recs w) p)))))

-- ---- what is read

pub upper_up : {a b : World} → IsLawful a → Grows a b → (q : ℕ) → IsUpper a q → IsUpper b q
upper_up {a} {b} law g q k =
    let t = at_true is_tree_value (recs a q) k.value in
    record { depth = k.depth; value = rw (g.records q t.0 t.1) t.2; of_level = rw (← level_kept (recs a) (recs b) (lawful_names law) g.records q (t.0, t.1)) k.of_level }

-- an element of a level above the items is a node
element_node : {w : World} → IsLawful w → (d limit e : ℕ) → IsElement w (suc d) limit e → holds (recs w) e is_node_rec ≡ true
element_node {w} law d limit e k = let t = at_true is_element (recs w e) k.sort in rw t.1 (by t.0 t.1 t.2)
  where
    by : (r : Rec) → recs w e ≡ Some r → is_element r ≡ true → is_node_rec r ≡ true
    by (Leaf x) h s = absurd (let z = eqb-true (suc d) 0 (sym (level_is law e (Leaf x) h (suc d)) ∙ k.of_level) in omega (arith, z))
    by (Node _ _ _ _ _ _) h s = refl
    by _ h s = absurd (true≢false (sym s))

pub single_node : {w : World} → IsLawful w → (q : ℕ) → IsUpper w q → (x : Ref) (z : ℕ) (k : Item) → recs w q ≡ Some (Single x z k) → holds (recs w) x.0 is_node_rec ≡ true
single_node {w} law q u x z k e = element_node law u.depth (suc q) x.0 (top_well law (suc u.depth) (suc q) q (Single x z k) (top.one x.0) e refl (omega arith) u.of_level).elements.0

pub deep_digits : {w : World} → IsLawful w → (q : ℕ) (left middle right : Ref) (z : ℕ) (k : Item) → recs w q ≡ Some (Deep left middle right z k) → (side : Side) (near far : Ref) → (near, far) ≡ both_ends side left right → (holds (recs w) near.0 is_digit_rec ≡ true) × (holds (recs w) far.0 is_digit_rec ≡ true)
deep_digits {w} law q left middle right z k e side near far ends = by side (ap (λ (x : Ref × Ref). x.0) ends) (ap (λ (x : Ref × Ref). x.1) ends)
  where
    one : holds (recs w) left.0 is_digit_rec ≡ true
    one = let n = lawful_names law q _ e in rw n.0.2 (ap (λ s. same_sort s sorts.Digit) n.0.3)

    two : holds (recs w) right.0 is_digit_rec ≡ true
    two = let n = lawful_names law q _ e in rw n.1.1.0.2 (ap (λ s. same_sort s sorts.Digit) n.1.1.0.3)

    by : (side : Side) → near ≡ (both_ends side left right).0 → far ≡ (both_ends side left right).1 → (holds (recs w) near.0 is_digit_rec ≡ true) × (holds (recs w) far.0 is_digit_rec ≡ true)
    by sides.Left a c = (rw a one, rw c two)
    by sides.Right a c = (rw a two, rw c one)

pub deep_node : {w : World} → IsLawful w → (q : ℕ) → IsUpper w q → (left middle right : Ref) (z : ℕ) (k : Item) → recs w q ≡ Some (Deep left middle right z k) → (side : Side) (near far : Ref) → (near, far) ≡ both_ends side left right → (n g : Few) → IsDigitAt w near.0 n → IsDigitAt w far.0 g → (e : Ref) (rest : Option Few) → beside side (e.0 ∷ []) (rest_list rest) ≡ few_list n → holds (recs w) e.0 is_node_rec ≡ true
deep_node {w} law q u left middle right z k here side near far ends n g atn atg e rest taken =
    let m = middles_at law (suc u.depth) (suc q) q left middle right z k here (omega arith) u.of_level side near far ends n g atn atg in
    let all : AllByRecursion (IsElement w (suc u.depth) (suc q)) (beside side (e.0 ∷ []) (rest_list rest)) = rw taken m.near_each in
    element_node law u.depth (suc q) e.0 (all_near (IsElement w (suc u.depth) (suc q)) side (e.0 ∷ []) (rest_list rest) all).0

-- a value that a place holds
pub tree_there : (rs : Records) (q : ℕ) → holds rs q is_tree_value ≡ true → IsPublished rs q
tree_there rs q k = let t = at_true is_tree_value (rs q) k in (t.0, t.1)

pub tree_is : (rs : Records) (q : ℕ) → holds rs q is_tree_value ≡ true → (r : Rec) → rs q ≡ Some r → is_tree_value r ≡ true
tree_is rs q k r e = holds_at rs q is_tree_value r k e

pub no_other : (r : Rec) → is_tree_value r ≡ true → (r ≡ TEmpty → ⊥) → ((x : Ref) (z : ℕ) (k : Item) → r ≡ Single x z k → ⊥) → ((l m n : Ref) (z : ℕ) (k : Item) → r ≡ Deep l m n z k → ⊥) → ⊥
no_other TEmpty h a b c = a refl
no_other (Single x z k) h a b c = b x z k refl
no_other (Deep l m n z k) h a b c = c l m n z k refl
no_other _ h a b c = true≢false (sym h)
