-- Cells and meaning of places. A pending record's meaning is read from its kind and arguments, never from its result.
use Rattle.std.specs.Prelude.{ℕ, Bool, cond, Option, Some, None, List, [], ◌∷◌, ◌++◌, take, reverse, flat_map}
use Rattle.lazy_rec.specs.declared.records.Rec.{Rec}
use Rattle.lazy_rec.specs.declared.records.Rec.TheVariants.{Cons, LCons, StreamTop, BankTop, RtTop, HeapTop, TNil, TCons, Tree, CatNil, CatNode, TEmpty, Leaf, Node, Digit, Single, Deep, Append, Reverse, BankRot, RtRot, HeapInsert, HeapMerge, LinkAll, PushL, PushR, DeepL, DeepR, Concat}
use Rattle.lazy_rec.specs.Named.{Records, at_record}
use Rattle.lazy_rec.specs.ByPlace.{by_place}
use Rattle.lazy_rec.specs.Plain.{rising}

-- an entry of a stream or a list: an item, or the place of a catenable list
pub data Entry : Type 0 where
  an_item : ℕ → Entry
  a_child : ℕ → Entry

abbrev pub entry : Bool → ℕ → Entry
entry is_child value = cond is_child (a_child value) (an_item value)

-- recursion on places over the records
abbrev pub by_record : {X : Type 0} → X → ((ℕ → X) → Rec → X) → Records → ℕ → X
by_record d f recs = by_place d (λ lower p. at_record d (f lower) (recs p))

-- the cells of a record, from those of lower places; only streams and lists have any
abbrev pub cells_of : (ℕ → List Entry) → Rec → List Entry
cells_of lower (Cons child value rest) = entry child value ∷ lower rest.0
cells_of lower (LCons child value rest) = entry child value ∷ lower rest.0
cells_of lower (Append xs ys left _ _) = take left (lower xs.0) ++ lower ys.0
cells_of lower (Reverse xs left) = reverse (take left (lower xs.0))
cells_of lower (BankRot xs rear left _ _) = take left (lower xs.0) ++ reverse (lower rear.0)
cells_of lower (RtRot xs rear acc left _ _) = take left (lower xs.0) ++ reverse (lower rear.0) ++ lower acc.0
cells_of lower _ = []

-- the entries of the stream or list at a place
unfoldable pub cells : Records → ℕ → List Entry
cells = by_record [] cells_of

-- the items of an entry
abbrev pub items_of : (ℕ → List ℕ) → Entry → List ℕ
items_of lower (an_item value) = value ∷ []
items_of lower (a_child place) = lower place

-- the meanings of places, one after another
abbrev pub joined : (ℕ → List ℕ) → List ℕ → List ℕ
joined lower places = flat_map lower places

-- the items of a record, from the cells and from the meanings of lower places. For streams and lists they are the cells,
-- with each child replaced by its meaning; for heaps the rising list of all items below
abbrev pub means_of : Records → (ℕ → List ℕ) → ℕ → Rec → List ℕ
means_of recs lower p (StreamTop front _) = lower front.0
means_of recs lower p (BankTop _ front _ rear _ _ _ _) = flat_map (items_of lower) (cells recs front.0 ++ reverse (cells recs rear.0))
means_of recs lower p (RtTop front _ rear _ _) = flat_map (items_of lower) (cells recs front.0 ++ reverse (cells recs rear.0))
means_of recs lower p (HeapTop list _ _) = lower list.0
means_of recs lower p TNil = []
means_of recs lower p (TCons tree rest) = rising (lower tree.0 ++ lower rest.0)
means_of recs lower p (Tree _ item kids) = rising (item.0 ∷ lower kids.0)
means_of recs lower p (HeapInsert item list _) = rising (item.0 ∷ lower list.0)
means_of recs lower p (HeapMerge list1 list2 _ _) = rising (lower list1.0 ++ lower list2.0)
means_of recs lower p CatNil = []
means_of recs lower p (CatNode item kids _) = item.0 ∷ lower kids.0
means_of recs lower p (LinkAll queue _ _ _ _) = lower queue.0
means_of recs lower p TEmpty = []
means_of recs lower p (Leaf item) = item.0 ∷ []
means_of recs lower p (Node count e1 e2 e3 _ _) = joined lower (take count (e1.0 ∷ e2.0 ∷ e3.0 ∷ []))
means_of recs lower p (Digit count e1 e2 e3 e4 _ _) = joined lower (take count (e1.0 ∷ e2.0 ∷ e3.0 ∷ e4.0 ∷ []))
means_of recs lower p (Single elem _ _) = lower elem.0
means_of recs lower p (Deep left middle right _ _) = lower left.0 ++ lower middle.0 ++ lower right.0
means_of recs lower p (PushL count _ tree e1 e2 _ _ _) = joined lower (take count (e1.0 ∷ e2.0 ∷ [])) ++ lower tree.0
means_of recs lower p (PushR count _ tree e1 e2 _ _ _) = lower tree.0 ++ joined lower (take count (e1.0 ∷ e2.0 ∷ []))
means_of recs lower p (DeepL middle digit _ _ _ _) = lower middle.0 ++ lower digit.0
means_of recs lower p (DeepR middle digit _ _ _ _) = lower digit.0 ++ lower middle.0
means_of recs lower p (Concat _ left right list _ _ _) = lower left.0 ++ lower list.0 ++ lower right.0
means_of recs lower p _ = flat_map (items_of lower) (cells recs p)

abbrev pub means_at : Records → (ℕ → List ℕ) → ℕ → Option Rec → List ℕ
means_at recs lower p None = []
means_at recs lower p (Some r) = means_of recs lower p r

-- the list of items that a place means
unfoldable pub means : Records → ℕ → List ℕ
means recs = by_place [] (λ lower p. means_at recs lower p (recs p))
