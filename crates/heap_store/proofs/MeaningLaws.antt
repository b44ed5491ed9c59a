use Rattle.std.proofs.Common.{◌≡◌, ℕ, zero, suc, ◌<◌, refl, sym, ap, ◌∙◌, arith, subst, Bool, true, false, Some, List, [], ◌∷◌, ◌++◌, take, reverse, map}
use Rattle.std.specs.Prelude.{flat_map}
use Rattle.std.specs.List.{AllByRecursion}
use Rattle.lazy_rec.specs.declared.records.Rec.{Rec}
use Rattle.lazy_rec.specs.declared.records.Rec.TheVariants.{Nil, Cons, LNil, LCons, StreamTop, BankTop, RtTop, HeapTop, TNil, TCons, Tree, CatNil, CatNode, TEmpty, Leaf, Node, Digit, Single, Deep, Append, Reverse, BankRot, RtRot, HeapInsert, HeapMerge, LinkAll, PushL, PushR, DeepL, DeepR, Concat}
use Rattle.lazy_rec.specs.declared.records.Sort.{Sort}
use Rattle.lazy_rec.specs.declared.records.Sort.TheVariants as sorts
use Rattle.lazy_rec.specs.ByPlace.{below, by_place}
use Rattle.lazy_rec.specs.Meaning.{Entry, an_item, a_child, entry, by_record, cells_of, cells, items_of, joined, means_of, means_at, means}
use Rattle.lazy_rec.proofs.ByPlaceLaws.{below_low, by_place_agree, from_lower}
use Rattle.heap_store.proofs.Alls.{All-map, All-append, All-take, All-reverse}
use Rattle.heap_store.proofs.NameLaws.{IsPublished, IsNamedWell, NamesWell, LooksAtNamed}
use Rattle.heap_store.specs.World.{Keeps}
use Rattle.lazy_rec.specs.Named.{Records, NamedPlace, named, child_named, at_record}

-- a function that looks at named places alone sees the same in a larger world
pub by_record_kept : {X : Type 0} (d : X) (f : (ℕ → X) → Rec → X) → LooksAtNamed f → (a b : Records) → NamesWell a → Keeps a b → (p : ℕ) → IsPublished a p → by_record d f a p ≡ by_record d f b p
by_record_kept d f looks a b names keeps = by_place_agree d _ _ (IsPublished a) (λ p g h is same.
    ap (at_record d (f g)) is.1
    ∙ looks is.0 g h (All-map (IsNamedWell a p) (λ q. g q.0 ≡ h q.0) (λ q w. same q.0 w.0 (w.1, w.2)) (named is.0) (names p is.0 is.1))
    ∙ sym (ap (at_record d (f h)) (keeps p is.0 is.1)))

-- at a published place it is the function of what it is at the places that the record names
pub by_record_is : {X : Type 0} (d : X) (f : (ℕ → X) → Rec → X) → LooksAtNamed f → (a : Records) → NamesWell a → (p : ℕ) (r : Rec) → a p ≡ Some r → by_record d f a p ≡ f (by_record d f a) r
unfolding by_place
by_record_is d f looks a names p r e =
    ap (at_record d (f (below d (λ lower q. at_record d (f lower) (a q)) p))) e
    ∙ looks r _ _ (All-map (IsNamedWell a p) _ (λ q w. below_low d (λ lower q. at_record d (f lower) (a q)) p q.0 w.0) (named r) (names p r e))

cells_look : LooksAtNamed cells_of
cells_look (Cons c v rest) g h s = ap (λ es. entry c v ∷ es) s.0
cells_look (LCons c v rest) g h s = ap (λ es. entry c v ∷ es) s.0
cells_look (Append xs ys left _ _) g h s = rw (s.0, s.1.0) refl
cells_look (Reverse xs left) g h s = rw s.0 refl
cells_look (BankRot xs rear left _ _) g h s = rw (s.0, s.1.0) refl
cells_look (RtRot xs rear acc left _ _) g h s = rw (s.0, s.1.0, s.1.1.0) refl
cells_look _ g h s = refl

-- growth keeps the cells
pub cells_kept : (a b : Records) → NamesWell a → Keeps a b → (p : ℕ) → IsPublished a p → cells a p ≡ cells b p
unfolding cells
cells_kept = by_record_kept [] cells_of cells_look

pub cells_is : (a : Records) → NamesWell a → (p : ℕ) (r : Rec) → a p ≡ Some r → cells a p ≡ cells_of (cells a) r
unfolding cells
cells_is = by_record_is [] cells_of cells_look

-- a child of a cell of p is published and lower
abbrev pub IsLowerChild : Records → ℕ → Entry → Type 0
IsLowerChild a p (an_item _) = Unit {0}
IsLowerChild a p (a_child q) = (q < p) × IsPublished a q

raise : (a : Records) (q p : ℕ) → q < p → (e : Entry) → IsLowerChild a q e → IsLowerChild a p e
raise a q p l (an_item _) h = tt
raise a q p l (a_child k) h = (omega arith, h.1)

entry_lower : (a : Records) (p : ℕ) (c : Bool) (v : ℕ) → AllByRecursion (IsNamedWell a p) (child_named c v) → IsLowerChild a p (entry c v)
entry_lower a p true v h = (h.0.0, (h.0.1, h.0.2))
entry_lower a p false v h = tt

-- what the cells of a record's named places have, its own cells have
of_lower : (a : Records) (p : ℕ) (r : Rec) → AllByRecursion (IsNamedWell a p) (named r) → AllByRecursion (λ q. AllByRecursion (IsLowerChild a p) (cells a q.0)) (named r) → AllByRecursion (IsLowerChild a p) (cells_of (cells a) r)
of_lower a p (Cons c v rest) n h = (entry_lower a p c v n.1, h.0)
of_lower a p (LCons c v rest) n h = (entry_lower a p c v n.1, h.0)
of_lower a p (Append xs ys left _ _) n h = All-append _ _ _ (All-take _ left _ h.0) h.1.0
of_lower a p (Reverse xs left) n h = All-reverse _ _ (All-take _ left _ h.0)
of_lower a p (BankRot xs rear left _ _) n h = All-append _ _ _ (All-take _ left _ h.0) (All-reverse _ _ h.1.0)
of_lower a p (RtRot xs rear acc left _ _) n h = All-append _ _ _ (All-append _ _ _ (All-take _ left _ h.0) (All-reverse _ _ h.1.0)) h.1.1.0
of_lower a p _ n h = tt

pub children_lower : (a : Records) → NamesWell a → (p : ℕ) → IsPublished a p → AllByRecursion (IsLowerChild a p) (cells a p)
children_lower a names = from_lower (λ p. IsPublished a p → AllByRecursion (IsLowerChild a p) (cells a p)) (λ p ih is.
    subst (AllByRecursion (IsLowerChild a p)) (sym (cells_is a names p is.0 is.1))
    (of_lower a p is.0 (names p is.0 is.1) (All-map (IsNamedWell a p) _
    (λ q w. All-map (IsLowerChild a q.0) (IsLowerChild a p) (raise a q.0 p w.0) _ (ih q.0 w.0 (w.1, w.2)))
    (named is.0) (names p is.0 is.1))))

module _ (a : Records) (p : ℕ) (g h : ℕ → List ℕ) (same : (q : ℕ) → q < p → IsPublished a q → g q ≡ h q) where
  item_same : (e : Entry) → IsLowerChild a p e → items_of g e ≡ items_of h e
  item_same (an_item _) l = refl
  item_same (a_child q) l = same q l.0 l.1

  items_same : (es : List Entry) → AllByRecursion (IsLowerChild a p) es → flat_map (items_of g) es ≡ flat_map (items_of h) es
  items_same [] l = refl
  items_same (e ∷ es) l = rw (item_same e l.0, items_same es l.1) refl

pub joined_same : (g h : ℕ → List ℕ) (s : Sort) (n : ℕ) (ps : List ℕ) → AllByRecursion (λ (q : NamedPlace). g q.0 ≡ h q.0) (take n (map (λ p. (p, s)) ps)) → joined g (take n ps) ≡ joined h (take n ps)
joined_same g h s zero ps k = refl
joined_same g h s (suc n) [] k = refl
joined_same g h s (suc n) (p ∷ ps) k = rw (k.0, joined_same g h s n ps k.1) refl

module _ (a b : Records) (names : NamesWell a) (keeps : Keeps a b) (p : ℕ) (g h : ℕ → List ℕ) (same : (q : ℕ) → q < p → IsPublished a q → g q ≡ h q) where
  own_same : IsPublished a p → flat_map (items_of g) (cells a p) ≡ flat_map (items_of h) (cells b p)
  own_same is = items_same a p g h same (cells a p) (children_lower a names p is) ∙ ap (flat_map (items_of h)) (cells_kept a b names keeps p is)

  queue_same : (front rear : ℕ) (s t : Sort) → IsNamedWell a p (front, s) → IsNamedWell a p (rear, t) → flat_map (items_of g) (cells a front ++ reverse (cells a rear)) ≡ flat_map (items_of h) (cells b front ++ reverse (cells b rear))
  queue_same front rear s t f r =
      items_same a p g h same (cells a front ++ reverse (cells a rear)) (All-append _ _ _ (lift front f.0 (f.1, f.2)) (All-reverse _ _ (lift rear r.0 (r.1, r.2))))
      ∙ ap (λ es. flat_map (items_of h) (es ++ reverse (cells a rear))) (cells_kept a b names keeps front (f.1, f.2))
      ∙ ap (λ es. flat_map (items_of h) (cells b front ++ reverse es)) (cells_kept a b names keeps rear (r.1, r.2))
    where
      lift : (q : ℕ) → q < p → IsPublished a q → AllByRecursion (IsLowerChild a p) (cells a q)
      lift q l is = All-map (IsLowerChild a q) (IsLowerChild a p) (raise a q p l) _ (children_lower a names q is)

  means_same : (r : Rec) → a p ≡ Some r → AllByRecursion (IsNamedWell a p) (named r) → AllByRecursion (λ q. g q.0 ≡ h q.0) (named r) → means_of a g p r ≡ means_of b h p r
  means_same (StreamTop front _) e n s = s.0
  means_same (BankTop _ front _ rear _ _ _ _) e n s = queue_same front.0 rear.0 sorts.Stream sorts.List n.0 n.1.0
  means_same (RtTop front _ rear _ _) e n s = queue_same front.0 rear.0 sorts.Stream sorts.List n.0 n.1.0
  means_same (HeapTop list _ _) e n s = s.0
  means_same TNil e n s = refl
  means_same (TCons tree rest) e n s = rw (s.0, s.1.0) refl
  means_same (Tree _ x kids) e n s = rw s.0 refl
  means_same (HeapInsert x list _) e n s = rw s.0 refl
  means_same (HeapMerge list1 list2 _ _) e n s = rw (s.0, s.1.0) refl
  means_same CatNil e n s = refl
  means_same (CatNode x kids _) e n s = rw s.0 refl
  means_same (LinkAll queue _ _ _ _) e n s = s.0
  means_same TEmpty e n s = refl
  means_same (Leaf x) e n s = refl
  means_same (Node count e1 e2 e3 _ _) e n s = joined_same g h sorts.Element count (e1.0 ∷ e2.0 ∷ e3.0 ∷ []) s
  means_same (Digit count e1 e2 e3 e4 _ _) e n s = joined_same g h sorts.Element count (e1.0 ∷ e2.0 ∷ e3.0 ∷ e4.0 ∷ []) s
  means_same (Single elem _ _) e n s = s.0
  means_same (Deep left middle right _ _) e n s = rw (s.0, s.1.0, s.1.1.0) refl
  means_same (PushL count _ tree e1 e2 _ _ _) e n s = rw (s.0, joined_same g h sorts.Element count (e1.0 ∷ e2.0 ∷ []) s.1) refl
  means_same (PushR count _ tree e1 e2 _ _ _) e n s = rw (s.0, joined_same g h sorts.Element count (e1.0 ∷ e2.0 ∷ []) s.1) refl
  means_same (DeepL middle digit _ _ _ _) e n s = rw (s.0, s.1.0) refl
  means_same (DeepR middle digit _ _ _ _) e n s = rw (s.0, s.1.0) refl
  means_same (Concat _ left right list _ _ _) e n s = rw (s.0, s.1.0, s.1.1.0) refl
  means_same Nil e n s = own_same (_, e)
  means_same (Cons _ _ _) e n s = own_same (_, e)
  means_same LNil e n s = own_same (_, e)
  means_same (LCons _ _ _) e n s = own_same (_, e)
  means_same (Append _ _ _ _ _) e n s = own_same (_, e)
  means_same (Reverse _ _) e n s = own_same (_, e)
  means_same (BankRot _ _ _ _ _) e n s = own_same (_, e)
  means_same (RtRot _ _ _ _ _ _) e n s = own_same (_, e)

-- growth keeps the meaning
pub means_kept : (a b : Records) → NamesWell a → Keeps a b → (p : ℕ) → IsPublished a p → means a p ≡ means b p
unfolding means
means_kept a b names keeps = by_place_agree [] _ _ (IsPublished a) (λ p g h is same.
    ap (means_at a g p) is.1
    ∙ means_same a b names keeps p g h same is.0 is.1 (names p is.0 is.1) (All-map (IsNamedWell a p) _ (λ q w. same q.0 w.0 (w.1, w.2)) (named is.0) (names p is.0 is.1))
    ∙ sym (ap (means_at b h p) (keeps p is.0 is.1)))

-- at a published place the meaning is that of the record, from the meanings of other places
pub means_is : (a : Records) → NamesWell a → (p : ℕ) (r : Rec) → a p ≡ Some r → means a p ≡ means_of a (means a) p r
unfolding means by_place
means_is a names p r e =
    ap (means_at a (below [] (λ lower q. means_at a lower q (a q)) p) p) e
    ∙ means_same a a names (λ q s h. h) p _ (means a) (λ q l is. below_low [] (λ lower k. means_at a lower k (a k)) p q l) r e (names p r e)
    (All-map (IsNamedWell a p) _ (λ q w. below_low [] (λ lower k. means_at a lower k (a k)) p q.0 w.0) (named r) (names p r e))
