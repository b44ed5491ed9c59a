-- What the laws of the effects speak of.
use Rattle.std.specs.Prelude.{ℕ, Bool, List, [], ◌∷◌}
use Rattle.std.specs.List.{list_any}
use Rattle.lazy_rec.specs.declared.events.Kind.{Kind}
use Rattle.lazy_rec.specs.declared.events.Kind.TheVariants as kinds
use Rattle.lazy_rec.specs.declared.events.Op.{Op}
use Rattle.lazy_rec.specs.declared.events.Op.TheVariants as ops
use Rattle.lazy_rec.specs.declared.events.Reply.{Reply}
use Rattle.lazy_rec.specs.Kinds.{same_kind}
use Rattle.lazy_rec.specs.Plain.{effect}

-- the list after an operation, from the base's list, the other's list and the argument
abbrev pub list_after : Op → List ℕ → List ℕ → ℕ → List ℕ
list_after op v w x = (effect op v w x).0

-- the reply to an operation, from the base's list, the other's list and the argument
abbrev pub reply_of : Op → List ℕ → List ℕ → ℕ → Reply
reply_of op v w x = (effect op v w x).1

-- the list after a `snoc` of each item, from left to right
abbrev pub after_snocs : List ℕ → List ℕ → List ℕ
after_snocs v [] = v
after_snocs v (x ∷ xs) = after_snocs (list_after ops.Snoc v [] x) xs

-- the kinds whose lists are in rising order
abbrev pub keeps_order : Kind → Bool
keeps_order k = list_any (same_kind k) (kinds.Heap ∷ kinds.Prio ∷ kinds.Ord ∷ [])
