-- The concatenation of two trees with a few elements between them.
use Rattle.std.specs.Prelude.{◌≡◌, ℕ, ◌+◌, ◌*◌, ◌≤◌, ◌<◌, Bool, true, false, Option, Some, None, List, [], ◌∷◌, ◌++◌, length}
use Rattle.lazy_rec.specs.declared.places.Ref.{Ref}
use Rattle.heap_store.specs.World.{World}
use Rattle.heap_store.specs.Completion as top
use Rattle.heap_store.specs.Completion.{Made, grouped, joined_trees, elements}
use Rattle.finger_level.specs.declared.few.Few.{Few}
use Rattle.finger_level.specs.declared.level.Digit.TheVariants as digits
use Rattle.finger_level.specs.declared.level.Middle.{Middle}
use Rattle.finger_level.specs.declared.level.Middle.TheVariants as middles
use Rattle.finger_level.specs.declared.level.Level.{Level}
use Rattle.finger_level.specs.declared.level.Level.TheVariants as levels
use Rattle.finger_level.specs.declared.level.Side.{Side}
use Rattle.finger_level.specs.declared.level.Side.TheVariants as sides
use Rattle.finger_level.specs.declared.concat.Full.{Full}
use Rattle.finger_level.specs.declared.concat.Full.TheVariants as full
use Rattle.finger_level.specs.declared.concat.Grouping.{Grouping}
use Rattle.finger_level.specs.Few.{few_list, group_list}
use Rattle.finger_level.specs.Level.{made_of, places_of, made_places, kept_left, kept_right, kept_of, room_left, room_right}
use Rattle.finger_level.specs.Reads.{AreThere, AreUnder, LevelRead}
use Rattle.finger_level.specs.Keyed.{HasKeys, AreKeyed, KeyedLevel}
use Rattle.finger_level.specs.Pushes.{push_all}

-- ---- pushes

-- by the side: how many places the digit of the other side takes, and how many elements can be pushed
abbrev pub other_kept : Side → Level → ℕ
other_kept sides.Left l = kept_right l
other_kept sides.Right l = kept_left l

abbrev pub room : Side → Level → ℕ
room sides.Left l = room_left l
room sides.Right l = room_right l

-- elements pushed onto a level
pub record IsOnto (side : Side) (es : List ℕ) (before after : Level) : Type 0 where
  pub made : made_of after ≡ push_all side es (made_of before)
  pub kept : other_kept side after ≡ other_kept side before
  pub places : places_of after ≡ made_places (other_kept side before) (made_of after)
  pub more : room side before ≤ length es + room side after
  pub most : places_of after ≤ 6
  pub stands : (w : World) → AreThere w before → AreThere w after
  pub under : (limit : ℕ) → AreUnder limit before → AreUnder limit after
  pub keyed : (k : Bool) (w : World) → AreKeyed k w es → KeyedLevel k w before → KeyedLevel k w after

-- ---- elements grouped into nodes

-- the elements of each node of three
abbrev pub full_list : Full → List (List ℕ)
full_list full.None = []
full_list (full.One a) = group_list a ∷ []
full_list (full.Two a b) = group_list a ∷ group_list b ∷ []
full_list (full.Three a b c) = group_list a ∷ group_list b ∷ group_list c ∷ []

-- all nodes, once the rest of the elements has come
abbrev pub grouping_list : Grouping → List ℕ → List (List ℕ)
grouping_list g rest = full_list g.full ++ grouped (few_list g.held ++ rest)

-- how many elements have come
abbrev pub grouping_count : Grouping → ℕ
grouping_count g = 3 * length (full_list g.full) + length (few_list g.held)

-- ---- both levels

-- a level as it is read of a value
abbrev pub is_whole_middle : Middle → Bool
is_whole_middle (middles.Tree (Some _)) = true
is_whole_middle _ = false

abbrev pub is_whole : Level → Bool
is_whole (levels.Deep (digits.Old _ _) m (digits.Old _ _)) = is_whole_middle m
is_whole (levels.Deep _ _ _) = false
is_whole _ = true

-- the tree of such a middle
abbrev pub tree_in : Middle → Option Ref
tree_in (middles.Tree t) = t
tree_in _ = None

-- how many places the digit takes onto whose other side the elements are pushed. Between two deep trees no digit is new
abbrev pub joined_kept : Made → Made → ℕ
joined_kept (top.deep l m r) t = 0
joined_kept s t = kept_of t

-- the level of two levels that are read and the elements between them
pub record IsJoined (left : Level) (es : Few) (right : Level) (level : Level) : Type 0 where
  pub made : made_of level ≡ joined_trees (made_of left) (few_list es) (made_of right)
  pub places : places_of level ≡ made_places (joined_kept (made_of left) (made_of right)) (made_of level)
  pub most : places_of level ≤ 7
  pub there : (w : World) → AreThere w left → AreThere w right → AreThere w level
  pub under : (limit : ℕ) → AreUnder limit left → AreUnder limit right → AreUnder limit level
  pub keyed : (k : Bool) (w : World) → KeyedLevel k w left → AreKeyed k w (few_list es) → KeyedLevel k w right → KeyedLevel k w level

-- the level of the trees whose values are at p and q, and of the elements of the digit at d between them
pub record IsConcat (w : World) (p d q : ℕ) (level : Level) : Type 0 where
  pub left : Level
  pub right : Level
  pub left_read : LevelRead w p left
  pub right_read : LevelRead w q right
  pub made : made_of level ≡ joined_trees (made_of left) (elements w d) (made_of right)
  pub places : places_of level ≡ made_places (joined_kept (made_of left) (made_of right)) (made_of level)
  pub most : places_of level ≤ 7
  pub there : AreThere w level
  pub under : (limit : ℕ) → p < limit → q < limit → AreUnder limit level
  pub keyed : (k : Bool) → HasKeys k w p → HasKeys k w d → HasKeys k w q → KeyedLevel k w level
