-- Elements pushed onto the level that a value shows.
use Rattle.std.specs.Prelude.{◌≡◌, ◌≤◌, ℕ, Bool, List, [], ◌∷◌, ◌++◌}
use Rattle.heap_store.specs.World.{World}
use Rattle.heap_store.specs.Completion as top
use Rattle.heap_store.specs.Completion.{Made, elements}
use Rattle.finger_level.specs.declared.level.Level.{Level}
use Rattle.finger_level.specs.declared.level.Side.{Side}
use Rattle.finger_level.specs.declared.level.Side.TheVariants as sides
use Rattle.finger_level.specs.declared.level.Pushed.{Pushed}
use Rattle.finger_level.specs.declared.level.Pushed.TheVariants as pushes
use Rattle.finger_level.specs.Level.{places_of, made_of, made_places, kept_of}
use Rattle.finger_level.specs.Reads.{AreUnder, AreThere, LevelRead}
use Rattle.finger_level.specs.Keyed.{HasKeys, AreKeyed, KeyedLevel}

-- their places, from left to right
abbrev pub pushed_list : Pushed → List ℕ
pushed_list (pushes.One e) = e.0 ∷ []
pushed_list (pushes.Two e f) = e.0 ∷ f.0 ∷ []

-- two lists, the first one on the side
abbrev pub beside : {X : Type 0} → Side → List X → List X → List X
beside sides.Left xs ys = xs ++ ys
beside sides.Right xs ys = ys ++ xs

-- elements pushed onto an end, nearest first
abbrev pub push_all : Side → List ℕ → Made → Made
push_all sides.Left es made = top.push_all_left es made
push_all sides.Right es made = top.push_all_right made es

-- a level onto which elements were pushed
pub record IsPushed (w : World) (side : Side) (es : Pushed) (q : ℕ) (level : Level) : Type 0 where
  pub before : Level
  pub read : LevelRead w q before
  pub made : made_of level ≡ push_all side (pushed_list es) (made_of before)
  pub places : places_of level ≡ made_places (kept_of (made_of before)) (made_of level)
  pub most : places_of level ≤ 6
  pub there : AreThere w level
  pub under : (limit : ℕ) → AreUnder limit before → AreUnder limit level
  pub keyed : (k : Bool) → HasKeys k w q → AreKeyed k w (pushed_list es) → KeyedLevel k w level
