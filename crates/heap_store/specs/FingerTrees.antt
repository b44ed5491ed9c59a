-- The finger tree: what a suspended push, tail or concatenation makes, level by level (Hinze and Paterson, 3).
use Rattle.std.specs.Prelude.{ℕ, suc, eqb, Bool, true, false, ◌&&◌, Option, Some, None, List, [], ◌∷◌, ◌++◌, take, reverse, option_map, option_and_then}
use Rattle.lazy_rec.specs.declared.records.Rec.{Rec}
use Rattle.lazy_rec.specs.declared.records.Rec.TheVariants.{TEmpty, Node, Digit, Single, Deep, PushL, PushR, DeepL, DeepR, Concat}
use Rattle.lazy_rec.specs.Tests.{is_some_and}
use Rattle.lazy_rec.specs.Named.{at_record}
use Rattle.lazy_rec.specs.Units.{family_of}
use Rattle.heap_store.specs.World.{World, recs, holds, value_at, same_place}

-- ---- the top level that a completion makes

-- the places that a node or a digit holds
abbrev pub elements_of : Rec → List ℕ
elements_of (Node count e1 e2 e3 _ _) = take count (e1.0 ∷ e2.0 ∷ e3.0 ∷ [])
elements_of (Digit count e1 e2 e3 e4 _ _) = take count (e1.0 ∷ e2.0 ∷ e3.0 ∷ e4.0 ∷ [])
elements_of _ = []

abbrev pub elements : World → ℕ → List ℕ
elements w p = at_record [] elements_of (recs w p)

-- a middle that is made: a tree that is there, or none; nodes to be pushed onto it; the rest of a middle whose first or
-- last node was taken; two middles with nodes between them. A node and a digit are the lists of their elements, since a
-- completion may copy them
pub data Middle : Type 0 where
  tree : Option ℕ → Middle
  push_left : Option ℕ → List (List ℕ) → Middle
  push_right : Option ℕ → List (List ℕ) → Middle
  without_left : ℕ → List ℕ → Middle
  without_right : ℕ → List ℕ → Middle
  shorter_left : List ℕ → ℕ → List ℕ → Middle
  shorter_right : List ℕ → ℕ → List ℕ → Middle
  between : ℕ → ℕ → List (List ℕ) → Middle

-- the top level of a tree that is made
pub data Made : Type 0 where
  empty : Made
  one : ℕ → Made
  deep : List ℕ → Middle → List ℕ → Made

-- the top level of a tree whose value is there
abbrev pub top_of_record : World → Rec → Option Made
top_of_record w TEmpty = Some empty
top_of_record w (Single elem _ _) = Some (one elem.0)
top_of_record w (Deep left middle right _ _) = Some (deep (elements w left.0) (tree (Some middle.0)) (elements w right.0))
top_of_record w _ = None

abbrev pub top_at : World → ℕ → Option Made
top_at w p = option_and_then (top_of_record w) (value_at w p)

-- a node pushed onto a middle
abbrev pub node_left : List ℕ → Middle → Middle
node_left n (tree t) = push_left t (n ∷ [])
node_left n (push_left t ns) = push_left t (n ∷ ns)
node_left n m = m

abbrev pub node_right : List ℕ → Middle → Middle
node_right n (tree t) = push_right t (n ∷ [])
node_right n (push_right t ns) = push_right t (ns ++ n ∷ [])
node_right n m = m

-- an element pushed onto a digit, and the node that overflows
abbrev pub onto_left : ℕ → List ℕ → Middle → List ℕ → Made
onto_left e (b ∷ c ∷ d ∷ f ∷ []) m right = deep (e ∷ b ∷ []) (node_left (c ∷ d ∷ f ∷ []) m) right
onto_left e left m right = deep (e ∷ left) m right

abbrev pub onto_right : List ℕ → Middle → List ℕ → ℕ → Made
onto_right left m (b ∷ c ∷ d ∷ f ∷ []) e = deep left (node_right (b ∷ c ∷ d ∷ []) m) (f ∷ e ∷ [])
onto_right left m right e = deep left m (right ++ e ∷ [])

abbrev pub push_one_left : ℕ → Made → Made
push_one_left e empty = one e
push_one_left e (one f) = deep (e ∷ []) (tree None) (f ∷ [])
push_one_left e (deep left m right) = onto_left e left m right

abbrev pub push_one_right : Made → ℕ → Made
push_one_right empty e = one e
push_one_right (one f) e = deep (f ∷ []) (tree None) (e ∷ [])
push_one_right (deep left m right) e = onto_right left m right e

-- elements pushed nearest first
abbrev pub push_all_left : List ℕ → Made → Made
push_all_left [] t = t
push_all_left (e ∷ es) t = push_one_left e (push_all_left es t)

abbrev pub push_all_right : Made → List ℕ → Made
push_all_right t [] = t
push_all_right t (e ∷ es) = push_all_right (push_one_right t e) es

-- the tree of a digit's elements
abbrev pub of_digit : List ℕ → Made
of_digit [] = empty
of_digit (a ∷ []) = one a
of_digit (a ∷ b ∷ []) = deep (a ∷ []) (tree None) (b ∷ [])
of_digit (a ∷ b ∷ c ∷ []) = deep (a ∷ b ∷ []) (tree None) (c ∷ [])
of_digit (a ∷ b ∷ c ∷ d ∷ es) = deep (a ∷ b ∷ []) (tree None) (c ∷ d ∷ es)

-- the tree with no left digit: the first node of the middle becomes the digit
abbrev pub middle_without_left : List ℕ → ℕ → List ℕ → Middle
middle_without_left [] m r = without_left m r
middle_without_left (a ∷ es) m r = shorter_left (a ∷ es) m r

abbrev pub with_left_node : World → ℕ → ℕ → List ℕ → List ℕ → Option Made
with_left_node w m r digit [] = None
with_left_node w m r digit (e ∷ es) = Some (deep (elements w e) (middle_without_left es m (elements w r)) digit)

abbrev pub from_middle_left : World → Rec → List ℕ → Option Made
from_middle_left w TEmpty digit = Some (of_digit digit)
from_middle_left w (Single elem _ _) digit = Some (deep (elements w elem.0) (tree None) digit)
from_middle_left w (Deep left middle right _ _) digit = with_left_node w middle.0 right.0 digit (elements w left.0)
from_middle_left w _ digit = None

abbrev pub middle_without_right : List ℕ → ℕ → List ℕ → Middle
middle_without_right l m [] = without_right m l
middle_without_right l m (a ∷ es) = shorter_right l m (reverse (a ∷ es))

-- the same with no right digit; the right digit's elements are taken from its end
abbrev pub with_right_node : World → ℕ → ℕ → List ℕ → List ℕ → Option Made
with_right_node w l m digit [] = None
with_right_node w l m digit (e ∷ es) = Some (deep digit (middle_without_right (elements w l) m es) (elements w e))

abbrev pub from_middle_right : World → Rec → List ℕ → Option Made
from_middle_right w TEmpty digit = Some (of_digit digit)
from_middle_right w (Single elem _ _) digit = Some (deep digit (tree None) (elements w elem.0))
from_middle_right w (Deep left middle right _ _) digit = with_right_node w left.0 middle.0 digit (reverse (elements w right.0))
from_middle_right w _ digit = None

-- elements grouped into nodes, of three where more than four are left
abbrev pub grouped : List ℕ → List (List ℕ)
grouped (a ∷ b ∷ c ∷ d ∷ e ∷ es) = (a ∷ b ∷ c ∷ []) ∷ grouped (d ∷ e ∷ es)
grouped (a ∷ b ∷ c ∷ d ∷ []) = (a ∷ b ∷ []) ∷ (c ∷ d ∷ []) ∷ []
grouped es = es ∷ []

-- a list of elements between two trees
abbrev pub middles : Middle → Middle → List (List ℕ) → Middle
middles (tree (Some l)) (tree (Some r)) ns = between l r ns
middles l r ns = l

abbrev pub joined_trees : Made → List ℕ → Made → Made
joined_trees empty es t = push_all_left es t
joined_trees (one a) es empty = push_all_right (one a) es
joined_trees (deep l m r) es empty = push_all_right (deep l m r) es
joined_trees (one a) es t = push_all_left (a ∷ es) t
joined_trees (deep l m r) es (one b) = push_all_right (deep l m r) (es ++ b ∷ [])
joined_trees (deep l m r) es (deep l' m' r') = deep l (middles m m' (grouped (r ++ es ++ l'))) r'

-- the top level of what the completion makes, where its needs are done
abbrev pub made_tree : World → Rec → Option Made
made_tree w (PushL count _ t e1 e2 _ _ _) = option_map (push_all_left (take count (e1.0 ∷ e2.0 ∷ []))) (top_at w t.0)
made_tree w (PushR count _ t e1 e2 _ _ _) = option_map (λ l. push_all_right l (take count (e1.0 ∷ e2.0 ∷ []))) (top_at w t.0)
made_tree w (DeepL middle digit _ _ _ _) = option_and_then (λ m. from_middle_left w m (elements w digit.0)) (value_at w middle.0)
made_tree w (DeepR middle digit _ _ _ _) = option_and_then (λ m. from_middle_right w m (elements w digit.0)) (value_at w middle.0)
made_tree w (Concat _ left right list _ _ _) = option_and_then (λ l. option_map (joined_trees l (elements w list.0)) (top_at w right.0)) (top_at w left.0)
made_tree w _ = None

-- ---- the records that hold it

-- places one by one
abbrev pub same_places : World → List ℕ → List ℕ → Bool
same_places w [] [] = true
same_places w (p ∷ ps) (q ∷ qs) = same_place w p q && same_places w ps qs
same_places w _ _ = false

-- a test of the elements of a digit, of a node
abbrev pub on_digit : (List ℕ → Bool) → Rec → Bool
on_digit test (Digit count e1 e2 e3 e4 _ _) = test (take count (e1.0 ∷ e2.0 ∷ e3.0 ∷ e4.0 ∷ []))
on_digit _ _ = false

abbrev pub on_node : (List ℕ → Bool) → Rec → Bool
on_node test (Node count e1 e2 e3 _ _) = test (take count (e1.0 ∷ e2.0 ∷ e3.0 ∷ []))
on_node _ _ = false

abbrev pub is_digit : World → List ℕ → ℕ → Bool
is_digit w es p = holds (recs w) p (on_digit (same_places w es))

abbrev pub is_node : World → List ℕ → ℕ → Bool
is_node w es p = holds (recs w) p (on_node (same_places w es))

abbrev pub are_nodes : World → List (List ℕ) → List ℕ → Bool
are_nodes w [] [] = true
are_nodes w (n ∷ ns) (p ∷ ps) = is_node w n p && are_nodes w ns ps
are_nodes w _ _ = false

abbrev pub is_empty_tree : Rec → Bool
is_empty_tree TEmpty = true
is_empty_tree _ = false

-- the tree that is there, or none
abbrev pub is_tree : World → Option ℕ → ℕ → Bool
is_tree w None p = holds (recs w) p is_empty_tree
is_tree w (Some t) p = same_place w t p

-- the record is that middle; a suspension is the family's of the given offset
abbrev pub is_middle : World → ℕ → ℕ → Middle → Rec → Bool
is_middle w origin off (push_left t ns) (PushL count off' t' e1 e2 origin' _ _) = is_tree w t t'.0 && are_nodes w ns (take count (e1.0 ∷ e2.0 ∷ [])) && eqb origin origin'.0 && eqb off off'
is_middle w origin off (push_right t ns) (PushR count off' t' e1 e2 origin' _ _) = is_tree w t t'.0 && are_nodes w ns (take count (e1.0 ∷ e2.0 ∷ [])) && eqb origin origin'.0 && eqb off off'
is_middle w origin off (without_left m d) (DeepL m' d' _ origin' off' _) = same_place w m m'.0 && is_digit w d d'.0 && eqb origin origin'.0 && eqb off off'
is_middle w origin off (without_right m d) (DeepR m' d' _ origin' off' _) = same_place w m m'.0 && is_digit w d d'.0 && eqb origin origin'.0 && eqb off off'
is_middle w origin off (shorter_left es m r) (Deep l' m' r' _ _) = is_digit w es l'.0 && same_place w m m'.0 && is_digit w r r'.0
is_middle w origin off (shorter_right l m es) (Deep l' m' r' _ _) = is_digit w l l'.0 && same_place w m m'.0 && is_digit w es r'.0
is_middle w origin off (between l r ns) (Concat off' l' r' d origin' _ _) = same_place w l l'.0 && same_place w r r'.0 && holds (recs w) d.0 (on_digit (are_nodes w ns)) && eqb origin origin'.0 && eqb off off'
is_middle w origin off _ _ = false

abbrev pub is_middle_at : World → ℕ → ℕ → Middle → ℕ → Bool
is_middle_at w origin off (tree t) p = is_tree w t p
is_middle_at w origin off m p = holds (recs w) p (is_middle w origin off m)

-- the record is that top level of a tree
abbrev pub is_top : World → ℕ → ℕ → Made → Rec → Bool
is_top w origin off empty TEmpty = true
is_top w origin off (one e) (Single e' _ _) = same_place w e e'.0
is_top w origin off (deep l m r) (Deep l' m' r' _ _) = is_digit w l l'.0 && is_middle_at w origin off m m'.0 && is_digit w r r'.0
is_top w origin off _ _ = false

-- the middle of a top level that is made is the record, a suspension
abbrev pub is_next_middle : World → ℕ → ℕ → Made → Rec → Bool
is_next_middle w origin off (deep l m r) s = is_middle w origin off m s
is_next_middle w origin off _ s = false

-- the second record is the middle that a finger suspension's completion makes, a suspension
abbrev pub next_tree : World → Rec → Rec → Bool
next_tree w r s = let f = family_of 0 r in is_some_and (λ t. is_next_middle w f.0 (suc f.1) t s) (made_tree w r)

abbrev pub is_tree_made : World → Rec → ℕ → Bool
is_tree_made w r place = let f = family_of 0 r in is_some_and (λ t. holds (recs w) place (is_top w f.0 (suc f.1) t)) (made_tree w r)
