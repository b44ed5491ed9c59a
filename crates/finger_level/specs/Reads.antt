-- What is read of a tree: records of its sorts, levels as they stand, and what elements weigh.
use Rattle.std.specs.Prelude.{◌≡◌, ℕ, ◌<◌, Bool, true, false, not, ◌&&◌, Some, None, length, flat_map, option_and_then}
use Rattle.lazy_rec.specs.declared.records.Rec.{Rec}
use Rattle.lazy_rec.specs.declared.records.Rec.TheVariants.{Leaf, Node}
use Rattle.lazy_rec.specs.declared.records.Sort.TheVariants as sorts
use Rattle.lazy_rec.specs.Named.{sort_of, same_sort, at_record, is_pending}
use Rattle.lazy_rec.specs.Meaning.{means}
use Rattle.heap_store.specs.World.{World, recs}
use Rattle.heap_store.specs.Completion.{top_of_record}
use Rattle.heap_store.specs.Lawful.{size_in, key_of}
use Rattle.finger_level.specs.declared.few.Few.{Few}
use Rattle.finger_level.specs.declared.few.Group.{Group}
use Rattle.finger_level.specs.declared.few.Weight.{Weight}
use Rattle.finger_level.specs.declared.few.WeighedFew.{WeighedFew}
use Rattle.finger_level.specs.declared.level.Digit.{Digit}
use Rattle.finger_level.specs.declared.level.Digit.TheVariants as digits
use Rattle.finger_level.specs.declared.level.Middle.{Middle}
use Rattle.finger_level.specs.declared.level.Middle.TheVariants as middles
use Rattle.finger_level.specs.declared.level.Level.{Level}
use Rattle.finger_level.specs.declared.level.Level.TheVariants as levels
use Rattle.finger_level.specs.Few.{few_list, digit_record, node_record}
use Rattle.finger_level.specs.Level.{made_of}
use Rattle.finger_level.specs.Keyed.{HasKeys, KeyedLevel, key_in}

-- the sorts of a finger tree's records
abbrev pub is_element : Rec → Bool
is_element r = same_sort (sort_of r) sorts.Element

abbrev pub is_node_rec : Rec → Bool
is_node_rec (Node _ _ _ _ _ _) = true
is_node_rec _ = false

abbrev pub is_digit_rec : Rec → Bool
is_digit_rec r = same_sort (sort_of r) sorts.Digit

abbrev pub is_tree_rec : Rec → Bool
is_tree_rec r = same_sort (sort_of r) sorts.Finger

-- a tree that is no suspension
abbrev pub is_tree_value : Rec → Bool
is_tree_value r = not (is_pending r) && is_tree_rec r

-- a digit that stands at a place
pub record IsDigitAt (w : World) (p : ℕ) (few : Few) : Type 0 where
  pub weight : Weight
  pub here : recs w p ≡ Some (digit_record few weight)

-- a node that stands at a place
pub record IsNodeAt (w : World) (b : Group) (p : ℕ) : Type 0 where
  pub weight : Weight
  pub here : recs w p ≡ Some (node_record b weight)

-- what is said to stand does
abbrev pub IsThere : World → Digit → Type 0
IsThere w (digits.Old p few) = IsDigitAt w p.0 few
IsThere w (digits.New few) = Unit {0}

-- a digit that stands already is below a place
abbrev pub IsUnder : ℕ → Digit → Type 0
IsUnder limit (digits.Old p few) = p.0 < limit
IsUnder limit (digits.New few) = Unit {0}

-- the same of the digits of a middle
abbrev pub IsThereMiddle : World → Middle → Type 0
IsThereMiddle w (middles.Tail side t d) = IsThere w d
IsThereMiddle w (middles.Shorter side l t r) = IsThere w l × IsThere w r
IsThereMiddle w _ = Unit {0}

abbrev pub IsUnderMiddle : ℕ → Middle → Type 0
IsUnderMiddle limit (middles.Tail side t d) = IsUnder limit d
IsUnderMiddle limit (middles.Shorter side l t r) = IsUnder limit l × IsUnder limit r
IsUnderMiddle limit _ = Unit {0}

-- and of a level
abbrev pub AreUnder : ℕ → Level → Type 0
AreUnder limit (levels.Deep l m r) = IsUnder limit l × IsUnder limit r × IsUnderMiddle limit m
AreUnder limit _ = Unit {0}

abbrev pub AreThere : World → Level → Type 0
AreThere w (levels.Deep l m r) = IsThere w l × IsThere w r × IsThereMiddle w m
AreThere w _ = Unit {0}

-- no node waits to be pushed
abbrev pub is_tree_middle : Middle → Bool
is_tree_middle (middles.Tree _) = true
is_tree_middle _ = false

-- a level as it is read: its digits stand, and its middle waits for no node
abbrev pub is_at_rest : Level → Bool
is_at_rest (levels.Deep (digits.Old _ _) (middles.Tree _) (digits.Old _ _)) = true
is_at_rest (levels.Deep _ _ _) = false
is_at_rest _ = true

-- the key that a record caches, 0 without one
abbrev pub cached_key : Rec → ℕ
cached_key r = elim (key_of r) [ None ↦ 0 | Some k ↦ k ]

-- the level that the value at a place shows
pub record LevelRead (w : World) (q : ℕ) (found : Level) : Type 0 where
  pub made : option_and_then (top_of_record w) (recs w q) ≡ Some (made_of found)
  pub there : AreThere w found
  pub rests : is_at_rest found ≡ true
  pub under : AreUnder q found
  pub keyed : (k : Bool) → HasKeys k w q → KeyedLevel k w found

-- the key that an element's record caches; a leaf's is its item
abbrev pub element_key : Rec → ℕ
element_key (Leaf item) = item.0
element_key (Node _ _ _ _ _ key) = key.0
element_key _ = 0

-- how many items an element has, and the key that it caches
pub record IsWeight (w : World) (e : ℕ) (weight : Weight) : Type 0 where
  pub size : weight.size ≡ length (means (recs w) e)
  pub key : weight.key.0 ≡ at_record 0 element_key (recs w e)

-- a digit that stands at a place with its weight: its items' number, and their greatest where the digit has keys
pub record IsWeighedAt (w : World) (p : ℕ) (digit : WeighedFew) : Type 0 where
  pub shown : IsDigitAt w p digit.few
  pub size : digit.weight.size ≡ length (flat_map (means (recs w)) (few_list digit.few))
  pub key : (keyed : Bool) → HasKeys keyed w p → digit.weight.key.0 ≡ key_in keyed (flat_map (means (recs w)) (few_list digit.few))

-- the size that a record caches, 0 for the empty tree
abbrev pub cached_size : Rec → ℕ
cached_size r = elim (size_in r) [ None ↦ 0 | Some n ↦ n ]
