-- The top level of a tree that stands, and pushes onto it.
use Rattle.std.proofs.Common.{◌≡◌, ℕ, zero, suc, ◌<◌, ◌≤◌, refl, sym, ap, ◌∙◌, arith, true, ◌&&◌, Some, List, [], ◌∷◌, ◌++◌, map, take}
use Rattle.std.specs.Prelude.{flat_map}
use Rattle.std.specs.List.{AllByRecursion, list_all}
use Rattle.std.proofs.lemmas.Bool.{true≢false, and_parts}
use Rattle.std.proofs.lemmas.List.{append_assoc, append-nil}
use Rattle.lazy_rec.specs.declared.records.Rec.{Rec}
use Rattle.lazy_rec.specs.declared.records.Rec.TheVariants.{TEmpty, Single, Deep, Digit}
use Rattle.lazy_rec.specs.declared.records.Sort.TheVariants as sorts
use Rattle.lazy_rec.specs.Named.{NamedPlace, sort_of, same_sort}
use Rattle.lazy_rec.specs.Meaning.{means}
use Rattle.heap_store.specs.World.{World, recs}
use Rattle.heap_store.specs.Completion as top
use Rattle.heap_store.specs.Completion.{Made, top_of_record, elements}
use Rattle.heap_store.specs.Lawful.{IsLawful, is_of_level, height}
use Rattle.heap_store.proofs.NameLaws.{IsNamedWell}
use Rattle.heap_store.proofs.LawfulLaws.{lawful_names}
use Rattle.heap_store.proofs.MeaningLaws.{means_is}
use Rattle.heap_store.proofs.ShowLaws.{one_value}
use Rattle.finger_level.specs.declared.level.Level.{Level}
use Rattle.finger_level.specs.declared.level.Level.TheVariants as levels
use Rattle.finger_level.specs.declared.level.Digit.TheVariants as digits
use Rattle.finger_level.specs.declared.level.Middle.TheVariants as middles
use Rattle.finger_level.specs.declared.level.Side.{Side}
use Rattle.finger_level.specs.declared.level.Side.TheVariants as sides
use Rattle.finger_level.specs.declared.level.Pushed.{Pushed}
use Rattle.finger_level.specs.declared.level.Pushed.TheVariants as pushes
use Rattle.finger_level.specs.Level.{elements_in, trees_in, nodes_in, inner_in, items_of_made, made_of}
use Rattle.finger_level.specs.Reads.{is_at_rest}
use Rattle.finger_level.specs.Puts.{IsElement, IsTree}
use Rattle.finger_level.specs.Pushes.{pushed_list, push_all, beside}
use Rattle.heap_store.proofs.Alls.{All-append}
use Rattle.finger_level.proofs.Values.{level_is, names_height}
use Rattle.finger_level.proofs.LevelPushes.{open_left, open_right, elements_left, elements_right, trees_left, trees_right, items_left, items_right, bare_left, bare_right, open_after_left, open_after_right}

-- ---- elements of a digit

zip_elements : {w : World} → IsLawful w → (d limit p n : ℕ) (es : List ℕ) → p ≤ limit → AllByRecursion (IsNamedWell (recs w) p) (take n (map (λ e. (e, sorts.Element)) es)) → list_all (λ q. is_of_level (recs w) q d) (take n es) ≡ true → AllByRecursion (IsElement w d limit) (take n es)
zip_elements law d limit p zero es high h k = tt
zip_elements law d limit p (suc n) [] high h k = tt
zip_elements {w} law d limit p (suc n) (e ∷ es) high h k =
    let a = and_parts (is_of_level (recs w) e d) _ k in
    (record { under = omega (arith, h.0.0, high); sort = rw h.0.2 (ap (λ s. same_sort s sorts.Element) h.0.3); of_level = a.0 }, zip_elements law d limit p n es high h.1 a.1)

zip_low : (w : World) (m n : ℕ) (es : List ℕ) → AllByRecursion (λ (q : NamedPlace). height (recs w) q.0 ≤ m) (take n (map (λ e. (e, sorts.Element)) es)) → AllByRecursion (λ e. height (recs w) e ≤ m) (take n es)
zip_low w m zero es h = tt
zip_low w m (suc n) [] h = tt
zip_low w m (suc n) (e ∷ es) h = (h.0, zip_low w m n es h.1)

pub record DigitTop (w : World) (d limit p : ℕ) : Type 0 where
  pub each : AllByRecursion (IsElement w d limit) (elements w p)
  pub items : means (recs w) p ≡ flat_map (means (recs w)) (elements w p)
  pub low : AllByRecursion (λ e. height (recs w) e ≤ height (recs w) p) (elements w p)

pub digit_top : {w : World} → IsLawful w → (d limit p : ℕ) (r : Rec) → recs w p ≡ Some r → sort_of r ≡ sorts.Digit → p ≤ limit → is_of_level (recs w) p d ≡ true → DigitTop w d limit p
digit_top {w} law d limit p (Digit count e1 e2 e3 e4 z k) e is high h =
    let n = lawful_names law p _ e in
    let l : list_all (λ q. is_of_level (recs w) q d) (take count (e1.0 ∷ e2.0 ∷ e3.0 ∷ e4.0 ∷ [])) ≡ true = sym (level_is law p _ e d) ∙ h in
    let x = zip_elements law d limit p count (e1.0 ∷ e2.0 ∷ e3.0 ∷ e4.0 ∷ []) high n l in
    let y = zip_low w (height (recs w) p) count (e1.0 ∷ e2.0 ∷ e3.0 ∷ e4.0 ∷ []) (names_height law p _ e refl) in
    record { each = rw e x; items = means_is (recs w) (lawful_names law) p _ e ∙ rw e refl; low = rw e y }
digit_top law d limit p _ e is high h = absurd (let z = ap (λ s. same_sort s sorts.Digit) is in true≢false (sym z))

-- ---- the top level

pub record TopWell (w : World) (d limit q : ℕ) (made : Made) : Type 0 where
  pub elements : AllByRecursion (IsElement w d limit) (elements_in made)
  pub trees : AllByRecursion (IsTree w (suc d) limit) (trees_in made)
  pub items : items_of_made (means (recs w)) made ≡ means (recs w) q
  pub low : AllByRecursion (λ e. height (recs w) e ≤ height (recs w) q) (elements_in made)
  pub low_trees : AllByRecursion (λ e. height (recs w) e ≤ height (recs w) q) (trees_in made)

raise : (w : World) (m n : ℕ) (es : List ℕ) → m ≤ n → AllByRecursion (λ e. height (recs w) e ≤ m) es → AllByRecursion (λ e. height (recs w) e ≤ n) es
raise w m n [] le h = tt
raise w m n (e ∷ es) le h = (omega (arith, h.0, le), raise w m n es le h.1)

pub top_well : {w : World} → IsLawful w → (d limit q : ℕ) (r : Rec) (made : Made) → recs w q ≡ Some r → top_of_record w r ≡ Some made → q < limit → is_of_level (recs w) q d ≡ true → TopWell w d limit q made
top_well {w} law d limit q TEmpty made e shows low h =
    let same : top.empty ≡ made = one_value _ _ shows in
    rw (← same) (record { elements = tt; trees = tt; items = sym (means_is (recs w) (lawful_names law) q TEmpty e); low = tt; low_trees = tt })
top_well {w} law d limit q (Single x z k) made e shows low h =
    let same : top.one x.0 ≡ made = one_value _ _ shows in
    let n = (lawful_names law q _ e).0 in
    let l : is_of_level (recs w) x.0 d ≡ true = sym (level_is law q _ e d) ∙ h in
    rw (← same) (record {
      elements = (record { under = omega (arith, n.0, low); sort = rw n.2 (ap (λ s. same_sort s sorts.Element) n.3); of_level = l }, tt);
      trees = tt;
      items = sym (means_is (recs w) (lawful_names law) q _ e);
      low = ((names_height law q _ e refl).0, tt);
      low_trees = tt;
    })
top_well {w} law d limit q (Deep left middle right z k) made e shows low h =
    let same : top.deep (elements w left.0) (top.tree (Some middle.0)) (elements w right.0) ≡ made = one_value _ _ shows in
    let n = lawful_names law q _ e in
    let l : (is_of_level (recs w) left.0 d && is_of_level (recs w) middle.0 (suc d) && is_of_level (recs w) right.0 d) ≡ true = sym (level_is law q _ e d) ∙ h in
    let l1 = and_parts (is_of_level (recs w) left.0 d && is_of_level (recs w) middle.0 (suc d)) (is_of_level (recs w) right.0 d) l in
    let l2 = and_parts (is_of_level (recs w) left.0 d) (is_of_level (recs w) middle.0 (suc d)) l1.0 in
    let a = digit_top law d limit left.0 n.0.1 n.0.2 n.0.3 (omega (arith, n.0.0, low)) l2.0 in
    let b = digit_top law d limit right.0 n.1.1.0.1 n.1.1.0.2 n.1.1.0.3 (omega (arith, n.1.1.0.0, low)) l1.1 in
    let hs = names_height law q _ e refl in
    rw (← same) (record {
      elements = All-append _ (elements w left.0) (elements w right.0) a.each b.each;
      trees = (record { under = omega (arith, n.1.0.0, low); sort = rw n.1.0.2 (ap (λ s. same_sort s sorts.Finger) n.1.0.3); of_level = l2.1 }, tt);
      items = rw (← a.items, append-nil (means (recs w) middle.0), ← b.items) (sym (means_is (recs w) (lawful_names law) q _ e));
      low = All-append _ (elements w left.0) (elements w right.0) (raise w _ _ (elements w left.0) hs.0 a.low) (raise w _ _ (elements w right.0) hs.1.1.0 b.low);
      low_trees = (hs.1.0, tt);
    })
top_well law d limit q _ made e shows low h = cc

-- ---- pushes

pub rest_open : (l : Level) → is_at_rest l ≡ true → (open_left (made_of l) ≡ true) × (open_right (made_of l) ≡ true)
rest_open levels.Empty h = (refl, refl)
rest_open (levels.One e) h = (refl, refl)
rest_open (levels.Deep (digits.Old _ _) (middles.Tree t) (digits.Old _ _)) h = (refl, refl)
rest_open (levels.Deep (digits.Old _ _) (middles.PushL _ _) (digits.Old _ _)) h = absurd (true≢false (sym h))
rest_open (levels.Deep (digits.Old _ _) (middles.PushR _ _) (digits.Old _ _)) h = absurd (true≢false (sym h))
rest_open (levels.Deep (digits.Old _ _) (middles.Tail _ _ _) (digits.Old _ _)) h = absurd (true≢false (sym h))
rest_open (levels.Deep (digits.Old _ _) (middles.Shorter _ _ _ _) (digits.Old _ _)) h = absurd (true≢false (sym h))
rest_open (levels.Deep (digits.Old _ _) (middles.Between _ _ _) (digits.Old _ _)) h = absurd (true≢false (sym h))
rest_open (levels.Deep (digits.New _) m r) h = absurd (true≢false (sym h))
rest_open (levels.Deep (digits.Old _ _) (middles.Tree _) (digits.New _)) h = absurd (true≢false (sym h))
rest_open (levels.Deep (digits.Old _ _) (middles.PushL _ _) (digits.New _)) h = absurd (true≢false (sym h))
rest_open (levels.Deep (digits.Old _ _) (middles.PushR _ _) (digits.New _)) h = absurd (true≢false (sym h))
rest_open (levels.Deep (digits.Old _ _) (middles.Tail _ _ _) (digits.New _)) h = absurd (true≢false (sym h))
rest_open (levels.Deep (digits.Old _ _) (middles.Shorter _ _ _ _) (digits.New _)) h = absurd (true≢false (sym h))
rest_open (levels.Deep (digits.Old _ _) (middles.Between _ _ _) (digits.New _)) h = absurd (true≢false (sym h))

pub record PushAll (side : Side) (es : Pushed) (made : Made) : Type 1 where
  pub elements : (P : ℕ → Type 0) → AllByRecursion P (pushed_list es) → AllByRecursion P (elements_in made) → AllByRecursion P (elements_in (push_all side (pushed_list es) made))
  pub trees : trees_in (push_all side (pushed_list es) made) ≡ trees_in made
  pub bare : (nodes_in (push_all side (pushed_list es) made) ≡ []) × (inner_in (push_all side (pushed_list es) made) ≡ [])
  pub items : (f : ℕ → List ℕ) → items_of_made f (push_all side (pushed_list es) made) ≡ beside side (flat_map f (pushed_list es)) (items_of_made f made)

pub push_all_well : (side : Side) (es : Pushed) (made : Made) → (open_left made ≡ true) × (open_right made ≡ true) → PushAll side es made
push_all_well sides.Left (pushes.One e) made o = record {
  elements = λ P h k. rw (elements_left e.0 made o.0) (h.0, k);
  trees = trees_left e.0 made o.0;
  bare = bare_left (top.push_one_left e.0 made) (open_after_left e.0 made o.0);
  items = λ f. items_left f e.0 made o.0 ∙ ap (λ xs. xs ++ items_of_made f made) (sym (append-nil (f e.0)));
}
push_all_well sides.Left (pushes.Two e g) made o =
    let after = open_after_left g.0 made o.0 in
    record {
      elements = λ P h k. rw (elements_left e.0 (top.push_one_left g.0 made) after, elements_left g.0 made o.0) (h.0, (h.1.0, k));
      trees = trees_left e.0 (top.push_one_left g.0 made) after ∙ trees_left g.0 made o.0;
      bare = bare_left (top.push_one_left e.0 (top.push_one_left g.0 made)) (open_after_left e.0 (top.push_one_left g.0 made) after);
      items = λ f. rw (items_left f e.0 (top.push_one_left g.0 made) after, items_left f g.0 made o.0) (rw (append-nil (f g.0)) (sym (append_assoc (f e.0) (f g.0) (items_of_made f made))));
    }
push_all_well sides.Right (pushes.One e) made o = record {
  elements = λ P h k. rw (elements_right made e.0 o.1) (All-append P (elements_in made) (e.0 ∷ []) k h);
  trees = trees_right made e.0 o.1;
  bare = bare_right (top.push_one_right made e.0) (open_after_right made e.0 o.1);
  items = λ f. items_right f made e.0 o.1 ∙ ap (λ xs. items_of_made f made ++ xs) (sym (append-nil (f e.0)));
}
push_all_well sides.Right (pushes.Two e g) made o =
    let after = open_after_right made e.0 o.1 in
    record {
      elements = λ P h k. rw (elements_right (top.push_one_right made e.0) g.0 after, elements_right made e.0 o.1) (All-append P (elements_in made ++ e.0 ∷ []) (g.0 ∷ []) (All-append P (elements_in made) (e.0 ∷ []) k (h.0, tt)) (h.1.0, tt));
      trees = trees_right (top.push_one_right made e.0) g.0 after ∙ trees_right made e.0 o.1;
      bare = bare_right (top.push_one_right (top.push_one_right made e.0) g.0) (open_after_right (top.push_one_right made e.0) g.0 after);
      items = λ f. rw (items_right f (top.push_one_right made e.0) g.0 after, items_right f made e.0 o.1) (rw (append-nil (f g.0)) (append_assoc (items_of_made f made) (f e.0) (f g.0)));
    }
