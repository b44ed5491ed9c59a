-- The elements of digits and nodes, and their records.
use Rattle.std.specs.Prelude.{ℕ, eqb, cond, Option, Some, None, List, [], ◌∷◌}
use Rattle.lazy_rec.specs.declared.places.Ref.{Ref}
use Rattle.lazy_rec.specs.declared.records.Rec.{Rec}
use Rattle.lazy_rec.specs.declared.records.Rec.TheVariants.{Node, Digit}
use Rattle.finger_level.specs.declared.few.Few.{Few}
use Rattle.finger_level.specs.declared.few.Few.TheVariants as few
use Rattle.finger_level.specs.declared.few.Group.{Group}
use Rattle.finger_level.specs.declared.few.Group.TheVariants as group
use Rattle.finger_level.specs.declared.few.Weight.{Weight}

-- their places, from left to right
abbrev pub few_list : Few → List ℕ
few_list (few.One a) = a.0 ∷ []
few_list (few.Two a b) = a.0 ∷ b.0 ∷ []
few_list (few.Three a b c) = a.0 ∷ b.0 ∷ c.0 ∷ []
few_list (few.Four a b c d) = a.0 ∷ b.0 ∷ c.0 ∷ d.0 ∷ []

-- those of a node
abbrev pub group_list : Group → List ℕ
group_list (group.Two a b) = a.0 ∷ b.0 ∷ []
group_list (group.Three a b c) = a.0 ∷ b.0 ∷ c.0 ∷ []

-- a field of a record that holds no element
abbrev pub no_place : Ref
no_place = record { 0 = 0 }

-- the record of a digit with its weight, and that of a node
abbrev pub digit_record : Few → Weight → Rec
digit_record (few.One a) w = Digit 1 a no_place no_place no_place w.size w.key
digit_record (few.Two a b) w = Digit 2 a b no_place no_place w.size w.key
digit_record (few.Three a b c) w = Digit 3 a b c no_place w.size w.key
digit_record (few.Four a b c d) w = Digit 4 a b c d w.size w.key

abbrev pub node_record : Group → Weight → Rec
node_record (group.Two a b) w = Node 2 a b no_place w.size w.key
node_record (group.Three a b c) w = Node 3 a b c w.size w.key

-- the elements of a digit's record
abbrev pub few_at : ℕ → Ref → Ref → Ref → Ref → Few
few_at count e1 e2 e3 e4 = cond (eqb count 1) (few.One e1) (cond (eqb count 2) (few.Two e1 e2) (cond (eqb count 3) (few.Three e1 e2 e3) (few.Four e1 e2 e3 e4)))

-- and of a node's
abbrev pub group_at : ℕ → Ref → Ref → Ref → Group
group_at count e1 e2 e3 = cond (eqb count 2) (group.Two e1 e2) (group.Three e1 e2 e3)

-- the elements of a node, as those of a digit
abbrev pub few_of_group : Group → Few
few_of_group (group.Two a b) = few.Two a b
few_of_group (group.Three a b c) = few.Three a b c

-- what may be left of a digit
abbrev pub rest_list : Option Few → List ℕ
rest_list None = []
rest_list (Some f) = few_list f
