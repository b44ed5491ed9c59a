-- What is left of a level whose element at an end is taken.
use Rattle.std.specs.Prelude.{◌≡◌, ℕ, suc, ◌+◌, ◌<◌, ◌≤◌, Bool, true, false, cond, Option, Some, None, List, [], ◌∷◌, length, option_and_then}
use Rattle.std.specs.List.{AllByRecursion}
use Rattle.lazy_rec.specs.declared.places.Ref.{Ref}
use Rattle.lazy_rec.specs.declared.records.Rec.{Rec}
use Rattle.lazy_rec.specs.Meaning.{means}
use Rattle.heap_store.specs.declared.jobs.Prep.{Prep}
use Rattle.heap_store.specs.declared.jobs.Prep.TheVariants.{Need, Ready}
use Rattle.heap_store.specs.World.{World, recs, holds}
use Rattle.heap_store.specs.Completion as top
use Rattle.heap_store.specs.Completion.{Made, elements, top_of_record}
use Rattle.heap_store.specs.Lawful.{is_of_level, height}
use Rattle.finger_level.specs.declared.few.Few.{Few}
use Rattle.finger_level.specs.declared.level.Digit.{Digit}
use Rattle.finger_level.specs.declared.level.Digit.TheVariants as digits
use Rattle.finger_level.specs.declared.level.Middle.{Middle}
use Rattle.finger_level.specs.declared.level.Middle.TheVariants as middles
use Rattle.finger_level.specs.declared.level.Level.{Level}
use Rattle.finger_level.specs.declared.level.Level.TheVariants as levels
use Rattle.finger_level.specs.declared.level.Side.{Side}
use Rattle.finger_level.specs.declared.level.Side.TheVariants as sides
use Rattle.finger_level.specs.declared.pops.Popped.{Popped}
use Rattle.finger_level.specs.declared.pops.Popped.TheVariants as found
use Rattle.heap_store.specs.Values.{value_place}
use Rattle.finger_level.specs.Level.{made_of, places_of, made_places, drawn_kept, elements_in, trees_in, nodes_in, inner_in, items_of_made}
use Rattle.finger_level.specs.Reads.{is_tree_rec, is_tree_value, AreThere, AreUnder}
use Rattle.finger_level.specs.Keyed.{HasKeys, KeyedLevel}
use Rattle.finger_level.specs.Pushes.{beside}
use Rattle.finger_level.specs.Puts.{IsElement, IsLevel}

-- ---- by the side

-- the digit of the side, and the other
abbrev pub both_ends : {X : Type 0} → Side → X → X → X × X
both_ends sides.Left left right = (left, right)
both_ends sides.Right left right = (right, left)

-- what is left of a deep tree, by what is left of its digit on the side
abbrev pub what_is_left : Side → Option Few → Ref → Digit → Middle
what_is_left side None tree other = middles.Tail side tree other
what_is_left sides.Left (Some few) tree other = middles.Shorter sides.Left (digits.New few) tree other
what_is_left sides.Right (Some few) tree other = middles.Shorter sides.Right other tree (digits.New few)

-- a deep level, whose digit on the side is new
abbrev pub level_by : Side → Few → Middle → Digit → Level
level_by sides.Left near middle other = levels.Deep (digits.New near) middle other
level_by sides.Right near middle other = levels.Deep other middle (digits.New near)

-- what is made of a middle's value and the digit that there is
abbrev pub from_middle : Side → World → Rec → List ℕ → Option Made
from_middle sides.Left w r digit = top.from_middle_left w r digit
from_middle sides.Right w r digit = top.from_middle_right w r digit

-- ---- a level that is drawn from a middle

-- a value of a middle: its elements are nodes
pub record IsUpper (w : World) (q : ℕ) : Type 0 where
  pub depth : ℕ
  pub value : holds (recs w) q is_tree_value ≡ true
  pub of_level : is_of_level (recs w) q (suc depth) ≡ true

-- what a level names is of a lower height
pub record AreLow (w : World) (o : ℕ) (made : Made) : Type 0 where
  pub elements : AllByRecursion (λ p. height (recs w) p < o) (elements_in made)
  pub trees : AllByRecursion (λ p. height (recs w) p < o) (trees_in made)
  pub nodes : AllByRecursion (λ p. height (recs w) p < o) (nodes_in made)
  pub inner : AllByRecursion (λ p. height (recs w) p < o) (inner_in made)

-- a middle's value at q and a digit at p, both of the tree's level d and below a place
pub record AreParts (w : World) (d limit q p : ℕ) : Type 0 where
  pub upper : is_of_level (recs w) q (suc d) ≡ true
  pub upper_low : q < limit
  pub digit : is_of_level (recs w) p d ≡ true
  pub digit_low : p < limit
  pub small : length (means (recs w) q) + length (means (recs w) p) ≤ 2147483647

-- so few elements that nothing is left without one
abbrev pub is_single : List ℕ → Bool
is_single (e ∷ []) = true
is_single _ = false

-- the places of a level that is drawn from a middle whose value shows a level, and from a digit
abbrev pub drawn_places : Side → List ℕ → Made → ℕ
drawn_places side digit top.empty = made_places 1 (top.of_digit digit)
drawn_places side digit (top.one e) = 2
drawn_places side digit (top.deep l m r) = cond (is_single (both_ends side l r).0) 3 4

-- a level that was made of the middle's value at q and the digit at p: it has their items, its parts are of their levels and
-- no higher, and its keys are theirs
pub record IsDrawn (w : World) (side : Side) (q p : ℕ) (level : Level) : Type 0 where
  pub rec : Rec
  pub here : recs w q ≡ Some rec
  pub shown : Made
  pub top : top_of_record w rec ≡ Some shown
  pub made : from_middle side w rec (elements w p) ≡ Some (made_of level)
  pub places : places_of level ≡ made_places (drawn_kept shown) (made_of level)
  pub count : places_of level ≡ drawn_places side (elements w p) shown
  pub most : places_of level ≤ 4
  pub there : AreThere w level
  pub under : (limit : ℕ) → q < limit → p < limit → AreUnder limit level
  pub items : (d limit : ℕ) → AreParts w d limit q p → items_of_made (means (recs w)) (made_of level) ≡ beside side (means (recs w) q) (means (recs w) p)
  pub parts : (d limit : ℕ) → AreParts w d limit q p → IsLevel w d limit (made_of level)
  pub low : (d limit : ℕ) → AreParts w d limit q p → (o : ℕ) → height (recs w) q < o → height (recs w) p < o → AreLow w o (made_of level)
  pub keyed : (k : Bool) → HasKeys k w q → HasKeys k w p → KeyedLevel k w level

-- ---- a pop

-- a value of a tree
pub record IsWhole (w : World) (q : ℕ) : Type 0 where
  pub depth : ℕ
  pub value : holds (recs w) q is_tree_value ≡ true
  pub of_level : is_of_level (recs w) q depth ≡ true

-- the level that the value at a place shows
abbrev pub shown_at : World → ℕ → Option Made
shown_at w p = option_and_then (top_of_record w) (recs w p)

-- the middle of a level of whose digit on the side nothing would be left: the level below it is drawn up
abbrev pub drawn_middle : Side → Made → Option ℕ
drawn_middle side (top.deep l (top.tree m) r) = cond (is_single (both_ends side l r).0) m None
drawn_middle _ _ = None

-- the places of the level that a pop leaves of one, where the value of its middle shows the other
abbrev pub pop_places : Side → Made → Made → ℕ
pop_places side (top.deep l m r) below = cond (is_single (both_ends side l r).0) (drawn_places side (both_ends side l r).1 below) 2
pop_places side _ below = 0

-- the value of a middle, and the level that it shows
pub record IsFrom (w : World) (m from : ℕ) (below : Made) : Type 0 where
  pub place : value_place w m ≡ Some from
  pub shows : top.top_at w m ≡ Some below

-- a root of a level, and the place from which its rest is drawn, both below a place
pub record IsRootAt (w : World) (d limit root from : ℕ) : Type 0 where
  pub of_level : is_of_level (recs w) root d ≡ true
  pub root_low : root < limit
  pub from_low : from < limit

-- the level that is left of a tree without the element e at the side: both have the tree's items, and its keys are theirs
pub record IsRest (w : World) (side : Side) (root e : ℕ) (level : Level) : Type 0 where
  pub shown : Made
  pub shows : shown_at w root ≡ Some shown
  pub from : ℕ
  pub below : Made
  pub from_middle : (m : ℕ) → drawn_middle side shown ≡ Some m → IsFrom w m from below
  pub from_root : drawn_middle side shown ≡ None → from ≡ root
  pub places : places_of level ≡ pop_places side shown below
  pub most : places_of level ≤ 4
  pub there : AreThere w level
  pub under : (limit : ℕ) → root < limit → from < limit → AreUnder limit level
  pub element : (d limit : ℕ) → IsRootAt w d limit root from → IsElement w d limit e
  pub items : (d limit : ℕ) → IsRootAt w d limit root from → means (recs w) root ≡ beside side (means (recs w) e) (items_of_made (means (recs w)) (made_of level))
  pub parts : (d limit : ℕ) → IsRootAt w d limit root from → IsLevel w d limit (made_of level)
  pub keyed : (k : Bool) → HasKeys k w root → KeyedLevel k w level

-- the middle has to be a value first
pub record IsToDraw (w : World) (side : Side) (root m : ℕ) : Type 0 where
  pub shown : Made
  pub shows : shown_at w root ≡ Some shown
  pub middle : drawn_middle side shown ≡ Some m
  pub sort : holds (recs w) m is_tree_rec ≡ true
  pub waits : value_place w m ≡ None

-- what a pop finds
abbrev pub IsPopped : World → Side → ℕ → Popped → Type 0
IsPopped w side root found.Nothing = shown_at w root ≡ Some top.empty
IsPopped w side root (found.Rest e level) = IsRest w side root e.0 level
IsPopped w side root (found.Need m) = IsToDraw w side root m.0

-- a pop needs nothing, and takes the places of the level that it leaves
pub record PopReady (w : World) (side : Side) (root nodes : ℕ) : Type 0 where
  pub shown : Made
  pub here : shown_at w root ≡ Some shown
  pub from : ℕ
  pub below : Made
  pub drawn : (m : ℕ) → drawn_middle side shown ≡ Some m → IsFrom w m from below
  pub places : nodes ≡ pop_places side shown below
  pub most : nodes ≤ 4

-- what a pop needs, or the places of the level that it leaves
abbrev pub PopPrepared : World → Side → ℕ → Prep → Type 0
PopPrepared w side root (Need m) = IsToDraw w side root m.0
PopPrepared w side root (Ready nodes) = PopReady w side root nodes
