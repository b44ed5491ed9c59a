-- What operations do on plain lists. A heap's, a priority queue's and an ordered sequence's list never falls from left to
-- right, so two equal multisets are one list.
use Rattle.std.specs.Prelude.{ℕ, eqb, leb, Bool, true, false, cond, Option, Some, None, List, [], ◌∷◌, ◌++◌, take, drop, reverse, length, filter, slice_get}
use Rattle.std.specs.List.{list_any}
use Rattle.lazy_rec.specs.declared.events.Op.{Op}
use Rattle.lazy_rec.specs.declared.events.Op.TheVariants as ops
use Rattle.lazy_rec.specs.declared.events.Reply.{Reply}
use Rattle.lazy_rec.specs.declared.events.Reply.TheVariants as replies
use Rattle.lazy_rec.specs.declared.limits.TheConstants.{MOST_ITEMS}

-- an item put into a rising list, after those that are not greater
abbrev pub insert_rising : ℕ → List ℕ → List ℕ
insert_rising x [] = x ∷ []
insert_rising x (y ∷ ys) = cond (leb y x) (y ∷ insert_rising x ys) (x ∷ y ∷ ys)

-- a list put in rising order
abbrev pub rising : List ℕ → List ℕ
rising [] = []
rising (x ∷ xs) = insert_rising x (rising xs)

abbrev pub last_of : List ℕ → Option ℕ
last_of [] = None
last_of (x ∷ []) = Some x
last_of (x ∷ y ∷ ys) = last_of (y ∷ ys)

abbrev pub without_last : List ℕ → List ℕ
without_last [] = []
without_last (x ∷ []) = []
without_last (x ∷ y ∷ ys) = x ∷ without_last (y ∷ ys)

abbrev pub without_first_equal : ℕ → List ℕ → List ℕ
without_first_equal x [] = []
without_first_equal x (y ∷ ys) = cond (eqb x y) ys (y ∷ without_first_equal x ys)

abbrev pub has_item : List ℕ → Bool
has_item [] = false
has_item (_ ∷ _) = true

abbrev pub contains : ℕ → List ℕ → Bool
contains x v = list_any (eqb x) v

-- the most items of one version
abbrev pub most_items : ℕ
most_items = MOST_ITEMS

-- the longer list, or the base where that would have too many items
abbrev pub grown : List ℕ → List ℕ → List ℕ × Reply
grown v longer = cond (leb (length longer) most_items) (longer, replies.Ok) (v, replies.TooLong)

-- the reply that tells an item, or that there is none
abbrev pub told : Option ℕ → Reply
told None = replies.Empty
told (Some x) = replies.Number x

-- the list with an item taken out of it, or the base where it has no such item
abbrev pub without_item : Bool → List ℕ → List ℕ → List ℕ × Reply
without_item has v shorter = cond has (shorter, replies.Ok) (v, replies.Empty)

-- the new list, of a split the first one, and the reply of an operation, from the base's list v, the other's list w and the argument x
abbrev pub effect : Op → List ℕ → List ℕ → ℕ → List ℕ × Reply
effect (ops.New _) v w x = ([], replies.Ok)
effect ops.Size v w x = (v, replies.Number (length v))
effect ops.Cons v w x = grown v (x ∷ v)
effect ops.Snoc v w x = grown v (v ++ x ∷ [])
effect ops.Append v w x = grown v (v ++ w)
effect ops.Reverse v w x = (reverse v, replies.Ok)
effect ops.Head v w x = (v, told (slice_get v 0))
effect ops.Tail v w x = without_item (has_item v) v (drop 1 v)
effect ops.Insert v w x = grown v (insert_rising x v)
effect ops.Min v w x = (v, told (slice_get v 0))
effect ops.Delmin v w x = without_item (has_item v) v (drop 1 v)
effect ops.Meld v w x = grown v (rising (v ++ w))
effect ops.Max v w x = (v, told (last_of v))
effect ops.Delmax v w x = without_item (has_item v) v (without_last v)
effect ops.Pushl v w x = grown v (x ∷ v)
effect ops.Pushr v w x = grown v (v ++ x ∷ [])
effect ops.Popl v w x = without_item (has_item v) v (drop 1 v)
effect ops.Popr v w x = without_item (has_item v) v (without_last v)
effect ops.First v w x = (v, told (slice_get v 0))
effect ops.Last v w x = (v, told (last_of v))
effect ops.Nth v w x = (v, told (slice_get v x))
effect ops.Take v w x = (take x v, replies.Ok)
effect ops.Drop v w x = (drop x v, replies.Ok)
effect ops.Concat v w x = grown v (v ++ w)
effect ops.Has v w x = (v, replies.Number (cond (contains x v) 1 0))
effect ops.Remove v w x = without_item (contains x v) v (without_first_equal x v)
effect ops.Upto v w x = (filter (λ y. leb y x) v, replies.Ok)
effect ops.Split v w x = (take x v, replies.Ok)

-- the list of the second version: what a split leaves behind its first one
abbrev pub second_list : Op → List ℕ → ℕ → List ℕ
second_list ops.Split v x = drop x v
second_list _ v x = []
