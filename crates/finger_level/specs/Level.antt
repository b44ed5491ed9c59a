-- Levels of finger trees, as plain values.
use Rattle.std.specs.Prelude.{ℕ, suc, ◌+◌, ◌-◌, Bool, true, false, Option, Some, None, List, [], ◌∷◌, ◌++◌, option_map, flat_map, length}
use Rattle.lazy_rec.specs.declared.places.Ref.{Ref}
use Rattle.heap_store.specs.Completion as top
use Rattle.heap_store.specs.Completion.{Made}
use Rattle.finger_level.specs.declared.few.Few.{Few}
use Rattle.finger_level.specs.declared.level.Digit.{Digit}
use Rattle.finger_level.specs.declared.level.Digit.TheVariants as digits
use Rattle.finger_level.specs.declared.level.Nodes.{Nodes}
use Rattle.finger_level.specs.declared.level.Nodes.TheVariants as nodes
use Rattle.finger_level.specs.declared.level.NodeRow.{NodeRow}
use Rattle.finger_level.specs.declared.level.Middle.{Middle}
use Rattle.finger_level.specs.declared.level.Middle.TheVariants as middles
use Rattle.finger_level.specs.declared.level.Level.{Level}
use Rattle.finger_level.specs.declared.level.Level.TheVariants as levels
use Rattle.finger_level.specs.declared.level.Side.{Side}
use Rattle.finger_level.specs.declared.level.Side.TheVariants as sides
use Rattle.finger_level.specs.Few.{few_list, group_list}

-- ---- what they stand for

-- the elements of a digit, and their places
abbrev pub digit_few : Digit → Few
digit_few (digits.Old place few) = few
digit_few (digits.New few) = few

abbrev pub digit_list : Digit → List ℕ
digit_list d = few_list (digit_few d)

-- the elements of each node
abbrev pub nodes_list : Nodes → List (List ℕ)
nodes_list (nodes.One n) = group_list n ∷ []
nodes_list (nodes.Two n m) = group_list n ∷ group_list m ∷ []

-- and of each node of a row
abbrev pub rest_of_row : Option Nodes → List (List ℕ)
rest_of_row None = []
rest_of_row (Some ns) = nodes_list ns

abbrev pub row_list : NodeRow → List (List ℕ)
row_list row = nodes_list row.near ++ rest_of_row row.far

abbrev pub tree_of : Option Ref → Option ℕ
tree_of t = option_map (λ (p : Ref). p.0) t

-- a tree without the node at an end, by the side: its middle and its other digit; or with a shorter digit
abbrev pub without : Side → ℕ → List ℕ → top.Middle
without sides.Left t d = top.without_left t d
without sides.Right t d = top.without_right t d

abbrev pub shorter : Side → List ℕ → ℕ → List ℕ → top.Middle
shorter sides.Left l t r = top.shorter_left l t r
shorter sides.Right l t r = top.shorter_right l t r

-- the middle, and the level, in the words of what a completion makes
abbrev pub middle_of : Middle → top.Middle
middle_of (middles.Tree t) = top.tree (tree_of t)
middle_of (middles.PushL t ns) = top.push_left (tree_of t) (nodes_list ns)
middle_of (middles.PushR t ns) = top.push_right (tree_of t) (nodes_list ns)
middle_of (middles.Tail side t d) = without side t.0 (digit_list d)
middle_of (middles.Shorter side l t r) = shorter side (digit_list l) t.0 (digit_list r)
middle_of (middles.Between l row r) = top.between l.0 r.0 (row_list row)

abbrev pub made_of : Level → Made
made_of levels.Empty = top.empty
made_of (levels.One e) = top.one e.0
made_of (levels.Deep l m r) = top.deep (digit_list l) (middle_of m) (digit_list r)

-- ---- room for one more node

abbrev pub middle_takes_left : Middle → Bool
middle_takes_left (middles.Tree _) = true
middle_takes_left (middles.PushL _ (nodes.One _)) = true
middle_takes_left _ = false

abbrev pub middle_takes_right : Middle → Bool
middle_takes_right (middles.Tree _) = true
middle_takes_right (middles.PushR _ (nodes.One _)) = true
middle_takes_right _ = false

-- how many elements can be pushed onto an end. Each one that overflows puts a node of three into the middle, which takes two
abbrev pub middle_room_left : Middle → ℕ
middle_room_left (middles.Tree _) = 10
middle_room_left (middles.PushL _ (nodes.One _)) = 7
middle_room_left (middles.PushL _ (nodes.Two _ _)) = 4
middle_room_left _ = 0

abbrev pub middle_room_right : Middle → ℕ
middle_room_right (middles.Tree _) = 10
middle_room_right (middles.PushR _ (nodes.One _)) = 7
middle_room_right (middles.PushR _ (nodes.Two _ _)) = 4
middle_room_right _ = 0

abbrev pub room_left : Level → ℕ
room_left (levels.Deep l m _) = middle_room_left m - length (digit_list l)
room_left _ = 10

abbrev pub room_right : Level → ℕ
room_right (levels.Deep _ m r) = middle_room_right m - length (digit_list r)
room_right _ = 10

-- ---- places

-- what stands already takes none
abbrev pub digit_places : Digit → ℕ
digit_places (digits.Old _ _) = 0
digit_places (digits.New _) = 1

abbrev pub nodes_places : Nodes → ℕ
nodes_places (nodes.One _) = 1
nodes_places (nodes.Two _ _) = 2

abbrev pub rest_places : Option Nodes → ℕ
rest_places None = 0
rest_places (Some ns) = nodes_places ns

abbrev pub row_places : NodeRow → ℕ
row_places row = nodes_places row.near + rest_places row.far

abbrev pub middle_places : Middle → ℕ
middle_places (middles.Tree _) = 0
middle_places (middles.PushL _ ns) = suc (nodes_places ns)
middle_places (middles.PushR _ ns) = suc (nodes_places ns)
middle_places (middles.Tail _ _ d) = suc (digit_places d)
middle_places (middles.Shorter _ l _ r) = suc (digit_places l + digit_places r)
middle_places (middles.Between _ row _) = suc (suc (row_places row))

abbrev pub places_of : Level → ℕ
places_of levels.Empty = 0
places_of (levels.One _) = 1
places_of (levels.Deep l m r) = digit_places l + middle_places m + digit_places r + 1

-- ---- elements, trees and meaning of a level that is made

-- the elements of its own level
abbrev pub all_of : List (List ℕ) → List ℕ
all_of ns = flat_map (λ n. n) ns

abbrev pub middle_elements : top.Middle → List ℕ
middle_elements (top.push_left t ns) = all_of ns
middle_elements (top.push_right t ns) = all_of ns
middle_elements (top.between l r ns) = all_of ns
middle_elements _ = []

-- those of a level
abbrev pub elements_in : Made → List ℕ
elements_in top.empty = []
elements_in (top.one e) = e ∷ []
elements_in (top.deep l m r) = l ++ (middle_elements m ++ r)

-- the trees of the next level that its middle names
abbrev pub if_there : Option ℕ → List ℕ
if_there None = []
if_there (Some t) = t ∷ []

abbrev pub middle_trees : top.Middle → List ℕ
middle_trees (top.tree t) = if_there t
middle_trees (top.push_left t ns) = if_there t
middle_trees (top.push_right t ns) = if_there t
middle_trees (top.between l r ns) = l ∷ r ∷ []
middle_trees _ = []

-- and those of a level
abbrev pub trees_in : Made → List ℕ
trees_in (top.deep l m r) = middle_trees m
trees_in _ = []

-- the elements of the next level, and the tree of the one after it, that a middle names which is what is left of a tree
abbrev pub middle_nodes : top.Middle → List ℕ
middle_nodes (top.without_left t d) = d
middle_nodes (top.without_right t d) = d
middle_nodes (top.shorter_left l t r) = l ++ r
middle_nodes (top.shorter_right l t r) = l ++ r
middle_nodes _ = []

abbrev pub middle_inner : top.Middle → List ℕ
middle_inner (top.without_left t d) = t ∷ []
middle_inner (top.without_right t d) = t ∷ []
middle_inner (top.shorter_left l t r) = t ∷ []
middle_inner (top.shorter_right l t r) = t ∷ []
middle_inner _ = []

-- and that a level's middle names
abbrev pub nodes_in : Made → List ℕ
nodes_in (top.deep l m r) = middle_nodes m
nodes_in _ = []

abbrev pub inner_in : Made → List ℕ
inner_in (top.deep l m r) = middle_inner m
inner_in _ = []

-- the items, from those of elements and trees
abbrev pub middle_items : (ℕ → List ℕ) → top.Middle → List ℕ
middle_items f (top.tree t) = flat_map f (if_there t)
middle_items f (top.push_left t ns) = flat_map f (all_of ns) ++ flat_map f (if_there t)
middle_items f (top.push_right t ns) = flat_map f (if_there t) ++ flat_map f (all_of ns)
middle_items f (top.without_left m r) = f m ++ flat_map f r
middle_items f (top.without_right m l) = flat_map f l ++ f m
middle_items f (top.shorter_left es m r) = flat_map f es ++ f m ++ flat_map f r
middle_items f (top.shorter_right l m es) = flat_map f l ++ f m ++ flat_map f es
middle_items f (top.between l r ns) = f l ++ flat_map f (all_of ns) ++ f r

-- and those of a level
abbrev pub items_of_made : (ℕ → List ℕ) → Made → List ℕ
items_of_made f top.empty = []
items_of_made f (top.one e) = f e
items_of_made f (top.deep l m r) = flat_map f l ++ middle_items f m ++ flat_map f r

-- ---- places of a level that is made

-- those of its middle: each node, and a suspension; or what is left of a tree. A list between two middles is a digit, which is
-- the new one: those of the level stand
abbrev pub made_middle_places : top.Middle → ℕ
made_middle_places (top.push_left t ns) = suc (length ns)
made_middle_places (top.push_right t ns) = suc (length ns)
made_middle_places (top.without_left t d) = 1
made_middle_places (top.without_right t d) = 1
made_middle_places (top.shorter_left l t r) = 2
made_middle_places (top.shorter_right l t r) = 2
made_middle_places (top.between l r ns) = suc (length ns)
made_middle_places _ = 0

-- those of a level, of which one digit is new and the other takes so many
abbrev pub made_places : ℕ → Made → ℕ
made_places k top.empty = 0
made_places k (top.one e) = 1
made_places k (top.deep l m r) = 1 + made_middle_places m + k + 1

-- how many places the digit of the other side takes: none where it stands already
abbrev pub kept_right : Level → ℕ
kept_right (levels.Deep l m r) = digit_places r
kept_right _ = 1

-- the same on the left
abbrev pub kept_left : Level → ℕ
kept_left (levels.Deep l m r) = digit_places l
kept_left _ = 1

-- of a level that is read: its other digit stands, but a tree of one element has none
abbrev pub kept_of : Made → ℕ
kept_of (top.deep l m r) = 0
kept_of _ = 1

-- of a level that is made of a middle whose value shows such a level: the digit that the middle had beside it stands, but of an
-- empty middle its elements are the tree, with two new digits
abbrev pub drawn_kept : Made → ℕ
drawn_kept top.empty = 1
drawn_kept _ = 0
