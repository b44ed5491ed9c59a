-- The lists of heaps: what a record says of a list that it names, and the trees with which the list is done.
use Rattle.std.proofs.Common.{◌≡◌, ℕ, ◌<◌, eqb, refl, sym, ap, ◌∙◌, ⊎_elim, Bool, true, false, cond, ◌&&◌, Option, Some, None, length}
use Rattle.std.specs.Prelude.{option_map}
use Rattle.std.proofs.lemmas.Bool.{true≢false, and_parts, and_from, or_cases, eqb-true, eq-eqb}
use Rattle.lazy_rec.specs.declared.places.Ref.{Ref}
use Rattle.lazy_rec.specs.declared.places.Item.{Item}
use Rattle.lazy_rec.specs.declared.records.Rec.{Rec}
use Rattle.lazy_rec.specs.declared.records.Rec.TheVariants.{TNil, TCons, HeapInsert, HeapMerge}
use Rattle.lazy_rec.specs.declared.records.Sort.TheVariants as sorts
use Rattle.lazy_rec.specs.Named.{sort_of, same_sort, is_pending}
use Rattle.lazy_rec.specs.Meaning.{means}
use Rattle.heap_store.specs.World.{World, recs, holds, done_at, is_value}
use Rattle.heap_store.specs.Values.{value_place_of, value_place}
use Rattle.heap_store.specs.Forest.{Forest, no_trees, a_tree, same_forest, forest, is_trees_only, is_tree_list, ranks_rise}
use Rattle.heap_store.specs.Growth.{Grows}
use Rattle.heap_store.specs.Completion.{is_made}
use Rattle.heap_store.specs.Lawful.{IsLawful, is_heap_list}
use Rattle.heap_store.proofs.NameLaws.{IsPublished, IsNamedWell}
use Rattle.heap_store.proofs.GrowthLaws.{done_grows}
use Rattle.heap_store.proofs.ShowLaws.{one_value}
use Rattle.heap_store.proofs.LawfulLaws.{lawful_names, done_there}
use Rattle.heap_store.proofs.RangeLaws.{range_fields}
use Rattle.heap_store.proofs.ReadLaws.{holds_at}
use Rattle.heap_store.proofs.ValueLaws.{known_done}
use Rattle.binom_heap.specs.Trees.{weight}
use Rattle.binom_heap.proofs.ShapeLaws.{list_weight}

-- ---- a list that a record names

pub record ListAt (w : World) (p list size : ℕ) : Type 0 where
  pub named : IsNamedWell (recs w) p (list, sorts.TreeList)
  pub list_is : is_heap_list (recs w) list ≡ true
  pub size_is : size ≡ length (means (recs w) list)
  pub fits : size < 2147483648

pub insert_list : {w : World} → IsLawful w → (p : ℕ) (item : Item) (list : Ref) (size : ℕ) → recs w p ≡ Some (HeapInsert item list size) → ListAt w p list.0 size
insert_list {w} law p item list size e =
    let h = law.each p _ e in
    record { named = (lawful_names law p _ e).0; list_is = h.heap; size_is = eqb-true size (length (means (recs w) list.0)) h.sizes; fits = (range_fields (HeapInsert item list size) h.range).1.1.1.0 }

pub item_fits : {w : World} → IsLawful w → (p : ℕ) (item : Item) (list : Ref) (size : ℕ) → recs w p ≡ Some (HeapInsert item list size) → item.0 < 18446744073709551616
item_fits law p item list size e = (range_fields (HeapInsert item list size) (law.each p _ e).range).1.0

pub merge_list1 : {w : World} → IsLawful w → (p : ℕ) (list1 list2 : Ref) (n1 n2 : ℕ) → recs w p ≡ Some (HeapMerge list1 list2 n1 n2) → ListAt w p list1.0 n1
merge_list1 {w} law p list1 list2 n1 n2 e =
    let h = law.each p _ e in
    let sizes = and_parts (eqb n1 (length (means (recs w) list1.0))) (eqb n2 (length (means (recs w) list2.0))) h.sizes in
    record { named = (lawful_names law p _ e).0; list_is = (and_parts (is_heap_list (recs w) list1.0) (is_heap_list (recs w) list2.0) h.heap).0; size_is = eqb-true n1 (length (means (recs w) list1.0)) sizes.0; fits = (range_fields (HeapMerge list1 list2 n1 n2) h.range).1.1.1.0 }

pub merge_list2 : {w : World} → IsLawful w → (p : ℕ) (list1 list2 : Ref) (n1 n2 : ℕ) → recs w p ≡ Some (HeapMerge list1 list2 n1 n2) → ListAt w p list2.0 n2
merge_list2 {w} law p list1 list2 n1 n2 e =
    let h = law.each p _ e in
    let sizes = and_parts (eqb n1 (length (means (recs w) list1.0))) (eqb n2 (length (means (recs w) list2.0))) h.sizes in
    record { named = (lawful_names law p _ e).1.0; list_is = (and_parts (is_heap_list (recs w) list1.0) (is_heap_list (recs w) list2.0) h.heap).1; size_is = eqb-true n2 (length (means (recs w) list2.0)) sizes.1; fits = (range_fields (HeapMerge list1 list2 n1 n2) h.range).1.1.1.1.0 }

pub list_there : {w : World} {p list size : ℕ} → ListAt w p list size → IsPublished (recs w) list
list_there k = (k.named.1, k.named.2)

-- ---- forests that are the same

forests_agree : (f g : Forest) → same_forest f g ≡ true → f ≡ g
forests_agree no_trees no_trees h = refl
forests_agree no_trees (a_tree _ _ _ _) h = absurd (true≢false (sym h))
forests_agree (a_tree _ _ _ _) no_trees h = absurd (true≢false (sym h))
forests_agree (a_tree r x k m) (a_tree r' x' k' m') h =
    let p = and_parts (eqb r r' && eqb x x' && same_forest k k') (same_forest m m') h in
    let q = and_parts (eqb r r' && eqb x x') (same_forest k k') p.0 in
    let s = and_parts (eqb r r') (eqb x x') q.0 in
    let a = eqb-true r r' s.0 in
    let b = eqb-true x x' s.1 in
    let c = forests_agree k k' q.1 in
    let d = forests_agree m m' p.1 in
    rw (a, b, c, d) refl

pub forest_self : (f : Forest) → same_forest f f ≡ true
forest_self no_trees = refl
forest_self (a_tree r x k m) = and_from (eqb r r && eqb x x && same_forest k k) (same_forest m m) (and_from (eqb r r && eqb x x) (same_forest k k) (and_from (eqb r r) (eqb x x) (eq-eqb r r refl) (eq-eqb x x refl)) (forest_self k)) (forest_self m)

-- ---- the value of a list

-- the list's value is a list of its trees in rising ranks
pub record DoneList (w : World) (list place size : ℕ) : Type 0 where
  pub trees : is_trees_only (recs w) place ≡ true
  pub rise : ranks_rise 0 (forest (recs w) place) ≡ true
  pub same : forest (recs w) place ≡ forest (recs w) list
  pub weight_is : weight (forest (recs w) place) ≡ size
  pub means_are : means (recs w) place ≡ means (recs w) list

-- what was made of a suspended list
made_forest : (w : World) (list place : ℕ) (r : Rec) → same_sort (sort_of r) sorts.TreeList ≡ true → is_pending r ≡ true → is_made w list r place ≡ true → same_forest (forest (recs w) list) (forest (recs w) place) ≡ true
made_forest w list place (HeapInsert _ _ _) s p m = m
made_forest w list place (HeapMerge _ _ _ _) s p m = m
made_forest w list place TNil s p m = absurd (true≢false (sym p))
made_forest w list place (TCons _ _) s p m = absurd (true≢false (sym p))
made_forest w list place _ s p m = absurd (true≢false (sym s))

-- a value's place is where the list stands, or what it is done with
value_cases : (w : World) (list place : ℕ) (r : Rec) → recs w list ≡ Some r → value_place w list ≡ Some place → (P : ℕ → Type 0) → (is_pending r ≡ false → P list) → ((d : ℕ × ℕ) → is_pending r ≡ true → done_at w list ≡ Some d → P d.0) → P place
value_cases w list place r e v P own done = by (is_pending r) refl (let k : value_place_of w list r ≡ Some place = rw e at v in k)
  where
    by_done : is_pending r ≡ true → (o : Option (ℕ × ℕ)) → done_at w list ≡ o → option_map (λ (d : ℕ × ℕ). d.0) o ≡ Some place → P place
    by_done pend None f k = absurd (none k)
      where
        none : None ≡ Some place → ⊥
        none k = cc
    by_done pend (Some d) f k = let z : d.0 ≡ place = one_value d.0 place k in rw (← z) (done d pend f)

    by : (c : Bool) → is_pending r ≡ c → cond c (option_map (λ (d : ℕ × ℕ). d.0) (done_at w list)) (Some list) ≡ Some place → P place
    by true pend k = by_done pend (done_at w list) refl k
    by false pend k = let z : list ≡ place = one_value list place k in rw (← z) (own pend)

pub value_trees : {w : World} → IsLawful w → (p list size place : ℕ) → ListAt w p list size → value_place w list ≡ Some place → DoneList w list place size
value_trees {w} law p list size place k v = value_cases w list place k.named.1 k.named.2 v (λ q. DoneList w list q size)
    (λ waits. done_of list (⊎_elim (λ h. absurd (true≢false (sym (holds_at (recs w) list is_pending k.named.1 h k.named.2) ∙ waits))) (λ t. t) (or_cases (holds (recs w) list is_pending) (is_tree_list (recs w) list) k.list_is)) refl refl)
    (λ d pend f. (
    let well = law.done list k.named.1 k.named.2 d f in
    let sort = ap (λ s. same_sort s sorts.TreeList) k.named.3 in
    let trees = well.trees in
    done_of d.0 (rw sort at trees) (sym (forests_agree (forest (recs w) list) (forest (recs w) d.0) (made_forest w list d.0 k.named.1 sort pend well.made))) well.means))
  where
    done_of : (q : ℕ) → is_tree_list (recs w) q ≡ true → forest (recs w) q ≡ forest (recs w) list → means (recs w) q ≡ means (recs w) list → DoneList w list q size
    done_of q trees same m =
        let t = and_parts (is_trees_only (recs w) q) (ranks_rise 0 (forest (recs w) q)) trees in
        record { trees = t.0; rise = t.1; same = same; weight_is = sym (list_weight law q t.0) ∙ (ap length m ∙ sym k.size_is); means_are = m }

-- a list that is known has a value's place, and it is published
pub known_place : {w : World} → IsLawful w → (list : ℕ) → IsPublished (recs w) list → is_value w list ≡ true → (q : ℕ) × (value_place w list ≡ Some q) × (IsPublished (recs w) q)
known_place {w} law list is h = by (is_pending is.0) refl
  where
    by : (c : Bool) → is_pending is.0 ≡ c → (q : ℕ) × (value_place w list ≡ Some q) × (IsPublished (recs w) q)
    by true pend = let d = known_done w list is.0 is.1 pend h in let k = is.1 in (d.0.0, rw (k, pend, d.1) refl, done_there law list d.0 d.1)
    by false pend = let k = is.1 in (list, rw (k, pend) refl, is)

-- a later world shows the same place
pub value_place_up : {a b : World} → Grows a b → (p q : ℕ) → IsPublished (recs a) p → value_place a p ≡ Some q → value_place b p ≡ Some q
value_place_up {a} {b} x p q is v = value_cases a p q is.0 is.1 v (λ q. value_place b p ≡ Some q)
    (λ waits. (let k = x.records p is.0 is.1 in rw (k, waits) refl))
    (λ d pend f. (let k = x.records p is.0 is.1 in let g = done_grows x p d f in rw (k, pend, g) refl))

-- a place that is known has a value's place
pub not_waiting : {w : World} → IsLawful w → (p : ℕ) → IsPublished (recs w) p → is_value w p ≡ true → value_place w p ≡ None → ⊥
not_waiting {w} law p is h none = let k = known_place law p is h in let z : Some k.0 ≡ None = sym k.1 ∙ none in cc
