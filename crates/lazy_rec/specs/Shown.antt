-- The record that four words show: the tag of the first word tells which one it is, and each field stands at its place. It
-- undoes `words_of` at the records in range.
use Rattle.std.specs.Prelude.{ℕ, ◌/◌, ◌%◌, ◌^◌, eqb, cond, Bool, List, slice_index}
use Rattle.lazy_rec.specs.declared.records.Rec.{Rec}
use Rattle.lazy_rec.specs.declared.records.Rec.TheVariants.{Nil, Cons, LNil, LCons, StreamTop, BankTop, RtTop, HeapTop, TNil, TCons, Tree, CatNil, CatNode, TEmpty, Leaf, Node, Digit, Single, Deep, Append, Reverse, BankRot, RtRot, HeapInsert, HeapMerge, LinkAll, PushL, PushR, DeepL, DeepR, Concat}
use Rattle.lazy_rec.specs.declared.places.Ref.{Ref}
use Rattle.lazy_rec.specs.declared.places.Item.{Item}

-- the number in a word from a bit on, of a width
abbrev pub at : List ℕ → ℕ → ℕ → ℕ → ℕ
at words word from width = slice_index words word / 2 ^ from % 2 ^ width

abbrev pub place_at : List ℕ → ℕ → ℕ → Ref
place_at words word from = record { 0 = at words word from 22 }

abbrev pub flag_at : List ℕ → ℕ → ℕ → Bool
flag_at words word from = eqb (at words word from 1) 1

-- a field that fills a word
abbrev pub value_at : List ℕ → ℕ → ℕ
value_at words word = slice_index words word

abbrev pub item_at : List ℕ → ℕ → Item
item_at words word = record { 0 = value_at words word }

-- the record of a tag, 0 to 63; a tag that no record has shows the empty stream
abbrev pub tagged : ℕ → List ℕ → Rec
tagged tag ws =
    (cond (eqb tag 2) (Cons (flag_at ws 0 6) (value_at ws 1) (place_at ws 2 0))
    (cond (eqb tag 3) LNil
    (cond (eqb tag 4) (LCons (flag_at ws 0 6) (value_at ws 1) (place_at ws 2 0))
    (cond (eqb tag 5) (StreamTop (place_at ws 0 6) (at ws 0 28 31))
    (cond (eqb tag 6) (BankTop (flag_at ws 1 53) (place_at ws 0 6) (at ws 0 28 31) (place_at ws 1 0) (at ws 1 22 31) (place_at ws 2 0) (at ws 2 22 31) (at ws 3 0 31))
    (cond (eqb tag 7) (RtTop (place_at ws 0 6) (at ws 0 28 31) (place_at ws 1 0) (at ws 1 22 31) (place_at ws 2 0))
    (cond (eqb tag 8) (HeapTop (place_at ws 0 6) (at ws 0 28 31) (at ws 1 0 6))
    (cond (eqb tag 9) TNil
    (cond (eqb tag 10) (TCons (place_at ws 0 6) (place_at ws 0 28))
    (cond (eqb tag 11) (Tree (at ws 0 6 5) (item_at ws 1) (place_at ws 2 0))
    (cond (eqb tag 12) CatNil
    (cond (eqb tag 13) (CatNode (item_at ws 1) (place_at ws 2 0) (at ws 2 22 31))
    (cond (eqb tag 14) TEmpty
    (cond (eqb tag 15) (Leaf (item_at ws 1))
    (cond (eqb tag 16) (Node (at ws 0 6 2) (place_at ws 0 8) (place_at ws 0 30) (place_at ws 1 0) (at ws 1 22 31) (item_at ws 2))
    (cond (eqb tag 17) (Digit (at ws 0 6 3) (place_at ws 0 9) (place_at ws 0 31) (place_at ws 1 0) (place_at ws 1 22) (at ws 2 0 31) (item_at ws 3))
    (cond (eqb tag 18) (Single (place_at ws 0 6) (at ws 0 28 31) (item_at ws 1))
    (cond (eqb tag 19) (Deep (place_at ws 0 6) (place_at ws 0 28) (place_at ws 1 0) (at ws 1 22 31) (item_at ws 2))
    (cond (eqb tag 32) (Append (place_at ws 0 6) (place_at ws 0 28) (at ws 1 0 31) (place_at ws 1 31) (at ws 2 0 31))
    (cond (eqb tag 33) (Reverse (place_at ws 0 6) (at ws 0 28 31))
    (cond (eqb tag 34) (BankRot (place_at ws 0 6) (place_at ws 0 28) (at ws 1 0 31) (place_at ws 1 31) (at ws 2 0 31))
    (cond (eqb tag 35) (RtRot (place_at ws 0 6) (place_at ws 0 28) (place_at ws 1 0) (at ws 1 22 31) (place_at ws 2 0) (at ws 2 22 31))
    (cond (eqb tag 36) (HeapInsert (item_at ws 1) (place_at ws 2 0) (at ws 2 22 31))
    (cond (eqb tag 37) (HeapMerge (place_at ws 0 6) (place_at ws 0 28) (at ws 1 0 31) (at ws 1 31 31))
    (cond (eqb tag 38) (LinkAll (place_at ws 0 6) (at ws 0 28 31) (at ws 1 0 31) (place_at ws 1 31) (at ws 2 0 31))
    (cond (eqb tag 39) (PushL (at ws 0 28 2) (at ws 1 44 5) (place_at ws 0 6) (place_at ws 0 30) (place_at ws 1 0) (place_at ws 1 22) (at ws 2 0 31) (item_at ws 3))
    (cond (eqb tag 40) (PushR (at ws 0 28 2) (at ws 1 44 5) (place_at ws 0 6) (place_at ws 0 30) (place_at ws 1 0) (place_at ws 1 22) (at ws 2 0 31) (item_at ws 3))
    (cond (eqb tag 41) (DeepL (place_at ws 0 6) (place_at ws 0 28) (at ws 1 0 31) (place_at ws 1 31) (at ws 1 53 5) (item_at ws 2))
    (cond (eqb tag 42) (DeepR (place_at ws 0 6) (place_at ws 0 28) (at ws 1 0 31) (place_at ws 1 31) (at ws 1 53 5) (item_at ws 2))
    (cond (eqb tag 43) (Concat (at ws 1 44 5) (place_at ws 0 6) (place_at ws 0 28) (place_at ws 1 0) (place_at ws 1 22) (at ws 2 0 31) (item_at ws 3))
    Nil))))))))))))))))))))))))))))))

-- the record that the words show
abbrev pub shown : List ℕ → Rec
shown ws = tagged (at ws 0 0 6) ws
