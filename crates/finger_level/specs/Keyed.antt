-- The keys of levels, where keys are asked for.
use Rattle.std.specs.Prelude.{◌≡◌, ℕ, Bool, true, false, List}
use Rattle.std.specs.List.{AllByRecursion}
use Rattle.lazy_rec.specs.declared.events.Kind.{Kind}
use Rattle.lazy_rec.specs.declared.events.Kind.TheVariants as kinds
use Rattle.heap_store.specs.World.{World, recs}
use Rattle.heap_store.specs.Lawful.{has_keys, key_for}
use Rattle.finger_level.specs.declared.level.Digit.{Digit}
use Rattle.finger_level.specs.declared.level.Digit.TheVariants as digits
use Rattle.finger_level.specs.declared.level.Middle.{Middle}
use Rattle.finger_level.specs.declared.level.Middle.TheVariants as middles
use Rattle.finger_level.specs.declared.level.Level.{Level}
use Rattle.finger_level.specs.declared.level.Level.TheVariants as levels
use Rattle.finger_level.specs.Few.{few_list}
use Rattle.finger_level.specs.Level.{middle_elements, middle_trees, middle_of}

-- the keys that are made: greatest items where they are asked for, or none
abbrev pub way : Bool → Kind
way true = kinds.Prio
way false = kinds.Seq

-- a place, and all that it reaches, has these keys
abbrev pub HasKeys : Bool → World → ℕ → Type 0
HasKeys keyed w p = has_keys (way keyed) (recs w) p ≡ true

abbrev pub AreKeyed : Bool → World → List ℕ → Type 0
AreKeyed keyed w ps = AllByRecursion (HasKeys keyed w) ps

-- the key of a list of items
abbrev pub key_in : Bool → List ℕ → ℕ
key_in keyed xs = key_for (way keyed) xs

-- the parts of a level have these keys already
abbrev pub KeyedDigit : Bool → World → Digit → Type 0
KeyedDigit keyed w (digits.Old p few) = HasKeys keyed w p.0 × AreKeyed keyed w (few_list few)
KeyedDigit keyed w (digits.New few) = AreKeyed keyed w (few_list few)

abbrev pub KeyedMiddle : Bool → World → Middle → Type 0
KeyedMiddle keyed w (middles.Tail side t d) = HasKeys keyed w t.0 × KeyedDigit keyed w d
KeyedMiddle keyed w (middles.Shorter side l t r) = KeyedDigit keyed w l × HasKeys keyed w t.0 × KeyedDigit keyed w r
KeyedMiddle keyed w m = AreKeyed keyed w (middle_elements (middle_of m)) × AreKeyed keyed w (middle_trees (middle_of m))

abbrev pub KeyedLevel : Bool → World → Level → Type 0
KeyedLevel keyed w levels.Empty = Unit {0}
KeyedLevel keyed w (levels.One e) = HasKeys keyed w e.0
KeyedLevel keyed w (levels.Deep l m r) = KeyedDigit keyed w l × KeyedMiddle keyed w m × KeyedDigit keyed w r
