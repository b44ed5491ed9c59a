-- Records as four words. A record's fields stand in order from the lowest free bit upward, after the tag in bits 0 to 5 of
-- word 0; a field that would cross the end of a word starts the next. Unused bits are 0.
use Rattle.std.specs.Prelude.{ℕ, ◌+◌, ◌*◌, ◌^◌, eqb, leb, ltb, cond, Bool, true, ◌&&◌, ◌||◌, List, [], ◌∷◌, ◌++◌, map, take, replicate}
use Rattle.std.specs.List.{list_all}
use Rattle.lazy_rec.specs.declared.records.Rec.{Rec}
use Rattle.lazy_rec.specs.declared.records.Rec.TheVariants.{Nil, Cons, LNil, LCons, StreamTop, BankTop, RtTop, HeapTop, TNil, TCons, Tree, CatNil, CatNode, TEmpty, Leaf, Node, Digit, Single, Deep, Append, Reverse, BankRot, RtRot, HeapInsert, HeapMerge, LinkAll, PushL, PushR, DeepL, DeepR, Concat}
use Rattle.lazy_rec.specs.declared.places.Ref.{Ref}
use Rattle.lazy_rec.specs.declared.places.Item.{Item}
use Rattle.lazy_rec.specs.declared.limits.TheConstants.{MOST_PLACES}
use Rattle.lazy_rec.specs.Tests.{implies}

-- ---- words made of fields

-- a field: its width in bits, and its value
abbrev pub Field : Type 0
Field = ℕ × ℕ

-- the number that has the fields from its lowest bit upward
abbrev pub number : List Field → ℕ
number [] = 0
number (f ∷ fs) = f.1 + 2 ^ f.0 * number fs

-- a field put before the fields of the first word
abbrev pub put_first : Field → List (List Field) → List (List Field)
put_first f [] = (f ∷ []) ∷ []
put_first f (g ∷ gs) = (f ∷ g) ∷ gs

-- the fields of each word, where so many bits of the first word are used
abbrev pub grouped : ℕ → List Field → List (List Field)
grouped used [] = [] ∷ []
grouped used (f ∷ fs) = cond (leb (used + f.0) 64) (put_first f (grouped (used + f.0) fs)) ([] ∷ put_first f (grouped f.0 fs))

abbrev pub four_words : List Field → List ℕ
four_words fs = take 4 (map number (grouped 0 fs) ++ replicate 4 0)

abbrev pub fits_field : Field → Bool
fits_field f = ltb f.1 (2 ^ f.0)

-- ---- the fields of each record

abbrev pub tag : ℕ → Field
tag n = (6, n)

abbrev pub flag : Bool → Field
flag b = (1, cond b 1 0)

abbrev pub place : Ref → Field
place r = (22, r.0)

abbrev pub size : ℕ → Field
size n = (31, n)

abbrev pub value : ℕ → Field
value n = (64, n)

abbrev pub item : Item → Field
item x = (64, x.0)

abbrev pub small : ℕ → ℕ → Field
small width n = (width, n)

-- the table of all records
abbrev pub fields : Rec → List Field
fields Nil = tag 1 ∷ []
fields (Cons child v rest) = tag 2 ∷ flag child ∷ value v ∷ place rest ∷ []
fields LNil = tag 3 ∷ []
fields (LCons child v rest) = tag 4 ∷ flag child ∷ value v ∷ place rest ∷ []
fields (StreamTop cells total) = tag 5 ∷ place cells ∷ size total ∷ []
fields (BankTop rotated front lenf rear lenr origin n tails) = tag 6 ∷ place front ∷ size lenf ∷ place rear ∷ size lenr ∷ flag rotated ∷ place origin ∷ size n ∷ size tails ∷ []
fields (RtTop front lenf rear lenr sched) = tag 7 ∷ place front ∷ size lenf ∷ place rear ∷ size lenr ∷ place sched ∷ []
fields (HeapTop list total owed) = tag 8 ∷ place list ∷ size total ∷ small 6 owed ∷ []
fields TNil = tag 9 ∷ []
fields (TCons tree rest) = tag 10 ∷ place tree ∷ place rest ∷ []
fields (Tree rank x kids) = tag 11 ∷ small 5 rank ∷ item x ∷ place kids ∷ []
fields CatNil = tag 12 ∷ []
fields (CatNode x kids total) = tag 13 ∷ item x ∷ place kids ∷ size total ∷ []
fields TEmpty = tag 14 ∷ []
fields (Leaf x) = tag 15 ∷ item x ∷ []
fields (Node count e1 e2 e3 total key) = tag 16 ∷ small 2 count ∷ place e1 ∷ place e2 ∷ place e3 ∷ size total ∷ item key ∷ []
fields (Digit count e1 e2 e3 e4 total key) = tag 17 ∷ small 3 count ∷ place e1 ∷ place e2 ∷ place e3 ∷ place e4 ∷ size total ∷ item key ∷ []
fields (Single elem total key) = tag 18 ∷ place elem ∷ size total ∷ item key ∷ []
fields (Deep left middle right total key) = tag 19 ∷ place left ∷ place middle ∷ place right ∷ size total ∷ item key ∷ []
fields (Append xs ys left origin off) = tag 32 ∷ place xs ∷ place ys ∷ size left ∷ place origin ∷ size off ∷ []
fields (Reverse xs left) = tag 33 ∷ place xs ∷ size left ∷ []
fields (BankRot xs rear left origin off) = tag 34 ∷ place xs ∷ place rear ∷ size left ∷ place origin ∷ size off ∷ []
fields (RtRot xs rear acc left origin off) = tag 35 ∷ place xs ∷ place rear ∷ place acc ∷ size left ∷ place origin ∷ size off ∷ []
fields (HeapInsert x list total) = tag 36 ∷ item x ∷ place list ∷ size total ∷ []
fields (HeapMerge list1 list2 n1 n2) = tag 37 ∷ place list1 ∷ place list2 ∷ size n1 ∷ size n2 ∷ []
fields (LinkAll queue len total origin off) = tag 38 ∷ place queue ∷ size len ∷ size total ∷ place origin ∷ size off ∷ []
fields (PushL count off tree e1 e2 origin total key) = tag 39 ∷ place tree ∷ small 2 count ∷ place e1 ∷ place e2 ∷ place origin ∷ small 5 off ∷ size total ∷ item key ∷ []
fields (PushR count off tree e1 e2 origin total key) = tag 40 ∷ place tree ∷ small 2 count ∷ place e1 ∷ place e2 ∷ place origin ∷ small 5 off ∷ size total ∷ item key ∷ []
fields (DeepL middle digit total origin off key) = tag 41 ∷ place middle ∷ place digit ∷ size total ∷ place origin ∷ small 5 off ∷ item key ∷ []
fields (DeepR middle digit total origin off key) = tag 42 ∷ place middle ∷ place digit ∷ size total ∷ place origin ∷ small 5 off ∷ item key ∷ []
fields (Concat off left right list origin total key) = tag 43 ∷ place left ∷ place right ∷ place list ∷ place origin ∷ small 5 off ∷ size total ∷ item key ∷ []

-- what a record keeps beside the widths of its fields: the elements that a count leaves unused are 0, a child's value is a
-- place, and a banker's queue without a rotation has 0 in the fields of one
abbrev pub has_unused_zero : Rec → Bool
has_unused_zero (Cons child v rest) = implies child (ltb v MOST_PLACES)
has_unused_zero (LCons child v rest) = implies child (ltb v MOST_PLACES)
has_unused_zero (BankTop rotated front lenf rear lenr origin n tails) = rotated || (eqb origin.0 0 && eqb n 0 && eqb tails 0)
has_unused_zero (Node count e1 e2 e3 _ _) = leb 2 count && (ltb 2 count || eqb e3.0 0)
has_unused_zero (Digit count e1 e2 e3 e4 _ _) = leb 1 count && leb count 4 && (ltb 3 count || eqb e4.0 0) && (ltb 2 count || eqb e3.0 0) && (ltb 1 count || eqb e2.0 0)
has_unused_zero (PushL count _ _ e1 e2 _ _ _) = leb 1 count && leb count 2 && (ltb 1 count || eqb e2.0 0)
has_unused_zero (PushR count _ _ e1 e2 _ _ _) = leb 1 count && leb count 2 && (ltb 1 count || eqb e2.0 0)
has_unused_zero _ = true

-- each field of the record is in its range
abbrev pub in_range : Rec → Bool
in_range r = list_all fits_field (fields r) && has_unused_zero r

-- the words of a record
abbrev pub words_of : Rec → List ℕ
words_of r = four_words (fields r)
