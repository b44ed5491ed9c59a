-- The sort of each record, and which places a record names, of which sort.
use Rattle.std.specs.Prelude.{ℕ, eqb, Bool, true, false, Option, Some, None, List, [], ◌∷◌, take}
use Rattle.lazy_rec.specs.declared.records.Rec.{Rec}
use Rattle.lazy_rec.specs.declared.records.Rec.TheVariants.{Nil, Cons, LNil, LCons, StreamTop, BankTop, RtTop, HeapTop, TNil, TCons, Tree, CatNil, CatNode, TEmpty, Leaf, Node, Digit, Single, Deep, Append, Reverse, BankRot, RtRot, HeapInsert, HeapMerge, LinkAll, PushL, PushR, DeepL, DeepR, Concat}
use Rattle.lazy_rec.specs.declared.records.Sort.{Sort}
use Rattle.lazy_rec.specs.declared.records.Sort.TheVariants as sorts

-- the structure that a record belongs to
abbrev pub sort_of : Rec → Sort
sort_of Nil = sorts.Stream
sort_of (Cons _ _ _) = sorts.Stream
sort_of LNil = sorts.List
sort_of (LCons _ _ _) = sorts.List
sort_of (StreamTop _ _) = sorts.StreamTop
sort_of (BankTop _ _ _ _ _ _ _ _) = sorts.BankTop
sort_of (RtTop _ _ _ _ _) = sorts.RtTop
sort_of (HeapTop _ _ _) = sorts.HeapTop
sort_of TNil = sorts.TreeList
sort_of (TCons _ _) = sorts.TreeList
sort_of (Tree _ _ _) = sorts.Tree
sort_of CatNil = sorts.Cat
sort_of (CatNode _ _ _) = sorts.Cat
sort_of TEmpty = sorts.Finger
sort_of (Leaf _) = sorts.Element
sort_of (Node _ _ _ _ _ _) = sorts.Element
sort_of (Digit _ _ _ _ _ _ _) = sorts.Digit
sort_of (Single _ _ _) = sorts.Finger
sort_of (Deep _ _ _ _ _) = sorts.Finger
sort_of (Append _ _ _ _ _) = sorts.Stream
sort_of (Reverse _ _) = sorts.Stream
sort_of (BankRot _ _ _ _ _) = sorts.Stream
sort_of (RtRot _ _ _ _ _ _) = sorts.Stream
sort_of (HeapInsert _ _ _) = sorts.TreeList
sort_of (HeapMerge _ _ _ _) = sorts.TreeList
sort_of (LinkAll _ _ _ _ _) = sorts.Cat
sort_of (PushL _ _ _ _ _ _ _ _) = sorts.Finger
sort_of (PushR _ _ _ _ _ _ _ _) = sorts.Finger
sort_of (DeepL _ _ _ _ _ _) = sorts.Finger
sort_of (DeepR _ _ _ _ _ _) = sorts.Finger
sort_of (Concat _ _ _ _ _ _ _) = sorts.Finger

-- the number of a sort, from 0
abbrev pub sort_number : Sort → ℕ
sort_number sorts.Stream = 0
sort_number sorts.List = 1
sort_number sorts.StreamTop = 2
sort_number sorts.BankTop = 3
sort_number sorts.RtTop = 4
sort_number sorts.HeapTop = 5
sort_number sorts.TreeList = 6
sort_number sorts.Tree = 7
sort_number sorts.Cat = 8
sort_number sorts.Element = 9
sort_number sorts.Digit = 10
sort_number sorts.Finger = 11

abbrev pub same_sort : Sort → Sort → Bool
same_sort s t = eqb (sort_number s) (sort_number t)

-- a named place with the sort that it is to have
abbrev pub NamedPlace : Type 0
NamedPlace = ℕ × Sort

abbrev pub child_named : Bool → ℕ → List NamedPlace
child_named true value = (value, sorts.Cat) ∷ []
child_named false value = []

-- the places that a record names, other than its origin. The elements that a count leaves unused name nothing
abbrev pub named : Rec → List NamedPlace
named Nil = []
named (Cons child value rest) = (rest.0, sorts.Stream) ∷ child_named child value
named LNil = []
named (LCons child value rest) = (rest.0, sorts.List) ∷ child_named child value
named (StreamTop cells _) = (cells.0, sorts.Stream) ∷ []
named (BankTop _ front _ rear _ _ _ _) = (front.0, sorts.Stream) ∷ (rear.0, sorts.List) ∷ []
named (RtTop front _ rear _ sched) = (front.0, sorts.Stream) ∷ (rear.0, sorts.List) ∷ (sched.0, sorts.Stream) ∷ []
named (HeapTop list _ _) = (list.0, sorts.TreeList) ∷ []
named TNil = []
named (TCons tree rest) = (tree.0, sorts.Tree) ∷ (rest.0, sorts.TreeList) ∷ []
named (Tree _ _ kids) = (kids.0, sorts.TreeList) ∷ []
named CatNil = []
named (CatNode _ kids _) = (kids.0, sorts.RtTop) ∷ []
named TEmpty = []
named (Leaf _) = []
named (Node count e1 e2 e3 _ _) = take count ((e1.0, sorts.Element) ∷ (e2.0, sorts.Element) ∷ (e3.0, sorts.Element) ∷ [])
named (Digit count e1 e2 e3 e4 _ _) = take count ((e1.0, sorts.Element) ∷ (e2.0, sorts.Element) ∷ (e3.0, sorts.Element) ∷ (e4.0, sorts.Element) ∷ [])
named (Single elem _ _) = (elem.0, sorts.Element) ∷ []
named (Deep left middle right _ _) = (left.0, sorts.Digit) ∷ (middle.0, sorts.Finger) ∷ (right.0, sorts.Digit) ∷ []
named (Append xs ys _ _ _) = (xs.0, sorts.Stream) ∷ (ys.0, sorts.Stream) ∷ []
named (Reverse xs _) = (xs.0, sorts.Stream) ∷ []
named (BankRot xs rear _ _ _) = (xs.0, sorts.Stream) ∷ (rear.0, sorts.List) ∷ []
named (RtRot xs rear acc _ _ _) = (xs.0, sorts.Stream) ∷ (rear.0, sorts.List) ∷ (acc.0, sorts.Stream) ∷ []
named (HeapInsert _ list _) = (list.0, sorts.TreeList) ∷ []
named (HeapMerge list1 list2 _ _) = (list1.0, sorts.TreeList) ∷ (list2.0, sorts.TreeList) ∷ []
named (LinkAll queue _ _ _ _) = (queue.0, sorts.RtTop) ∷ []
named (PushL count _ tree e1 e2 _ _ _) = (tree.0, sorts.Finger) ∷ take count ((e1.0, sorts.Element) ∷ (e2.0, sorts.Element) ∷ [])
named (PushR count _ tree e1 e2 _ _ _) = (tree.0, sorts.Finger) ∷ take count ((e1.0, sorts.Element) ∷ (e2.0, sorts.Element) ∷ [])
named (DeepL middle digit _ _ _ _) = (middle.0, sorts.Finger) ∷ (digit.0, sorts.Digit) ∷ []
named (DeepR middle digit _ _ _ _) = (middle.0, sorts.Finger) ∷ (digit.0, sorts.Digit) ∷ []
named (Concat _ left right list _ _ _) = (left.0, sorts.Finger) ∷ (right.0, sorts.Finger) ∷ (list.0, sorts.Digit) ∷ []

-- the record at each place, or none where the place isn't published
abbrev pub Records : Type 0
Records = ℕ → Option Rec

-- what a function makes of the record at a place, and the default where there is none
abbrev pub at_record : {X : Type 0} → X → (Rec → X) → Option Rec → X
at_record d f None = d
at_record d f (Some r) = f r

-- a record of pending work
abbrev pub is_pending : Rec → Bool
is_pending (Append _ _ _ _ _) = true
is_pending (Reverse _ _) = true
is_pending (BankRot _ _ _ _ _) = true
is_pending (RtRot _ _ _ _ _ _) = true
is_pending (HeapInsert _ _ _) = true
is_pending (HeapMerge _ _ _ _) = true
is_pending (LinkAll _ _ _ _ _) = true
is_pending (PushL _ _ _ _ _ _ _ _) = true
is_pending (PushR _ _ _ _ _ _ _ _) = true
is_pending (DeepL _ _ _ _ _ _) = true
is_pending (DeepR _ _ _ _ _ _) = true
is_pending (Concat _ _ _ _ _ _ _) = true
is_pending _ = false
