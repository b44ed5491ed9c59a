-- Which kind has which operation, and which fields of an event an operation uses.
use Rattle.std.specs.Prelude.{ℕ, eqb, Bool, true, false, cond, ◌&&◌, ◌||◌, List, [], ◌∷◌}
use Rattle.std.specs.List.{list_any}
use Rattle.lazy_rec.specs.declared.events.Kind.{Kind}
use Rattle.lazy_rec.specs.declared.events.Kind.TheVariants as kinds
use Rattle.lazy_rec.specs.declared.events.Op.{Op}
use Rattle.lazy_rec.specs.declared.events.Op.TheVariants as ops
use Rattle.lazy_rec.specs.declared.events.Event.{Event}

-- the number of a kind, from 0
abbrev pub kind_number : Kind → ℕ
kind_number kinds.Stream = 0
kind_number kinds.Bankq = 1
kind_number kinds.Rtq = 2
kind_number kinds.Heap = 3
kind_number kinds.Seq = 4
kind_number kinds.Prio = 5
kind_number kinds.Ord = 6
kind_number kinds.Cat = 7

abbrev pub same_kind : Kind → Kind → Bool
same_kind k l = eqb (kind_number k) (kind_number l)

-- the kinds that have an operation; `new` starts a structure and belongs to none
abbrev pub kinds_with : Op → List Kind
kinds_with (ops.New _) = []
kinds_with ops.Size = kinds.Stream ∷ kinds.Bankq ∷ kinds.Rtq ∷ kinds.Heap ∷ kinds.Seq ∷ kinds.Prio ∷ kinds.Ord ∷ kinds.Cat ∷ []
kinds_with ops.Cons = kinds.Stream ∷ kinds.Cat ∷ []
kinds_with ops.Snoc = kinds.Bankq ∷ kinds.Rtq ∷ kinds.Cat ∷ []
kinds_with ops.Append = kinds.Stream ∷ kinds.Cat ∷ []
kinds_with ops.Reverse = kinds.Stream ∷ []
kinds_with ops.Head = kinds.Stream ∷ kinds.Bankq ∷ kinds.Rtq ∷ kinds.Cat ∷ []
kinds_with ops.Tail = kinds.Stream ∷ kinds.Bankq ∷ kinds.Rtq ∷ kinds.Cat ∷ []
kinds_with ops.Insert = kinds.Heap ∷ kinds.Prio ∷ kinds.Ord ∷ []
kinds_with ops.Min = kinds.Heap ∷ kinds.Ord ∷ []
kinds_with ops.Delmin = kinds.Heap ∷ []
kinds_with ops.Meld = kinds.Heap ∷ kinds.Prio ∷ []
kinds_with ops.Max = kinds.Prio ∷ []
kinds_with ops.Delmax = kinds.Prio ∷ []
kinds_with ops.Pushl = kinds.Seq ∷ []
kinds_with ops.Pushr = kinds.Seq ∷ []
kinds_with ops.Popl = kinds.Seq ∷ []
kinds_with ops.Popr = kinds.Seq ∷ []
kinds_with ops.First = kinds.Seq ∷ []
kinds_with ops.Last = kinds.Seq ∷ []
kinds_with ops.Nth = kinds.Seq ∷ []
kinds_with ops.Take = kinds.Seq ∷ []
kinds_with ops.Drop = kinds.Seq ∷ []
kinds_with ops.Concat = kinds.Seq ∷ []
kinds_with ops.Has = kinds.Ord ∷ []
kinds_with ops.Remove = kinds.Ord ∷ []
kinds_with ops.Upto = kinds.Ord ∷ []
kinds_with ops.Split = kinds.Seq ∷ []

abbrev pub belongs : Kind → Op → Bool
belongs k op = list_any (same_kind k) (kinds_with op)

abbrev pub uses_base : Op → Bool
uses_base (ops.New _) = false
uses_base _ = true

abbrev pub uses_other : Op → Bool
uses_other ops.Append = true
uses_other ops.Meld = true
uses_other ops.Concat = true
uses_other _ = false

abbrev pub uses_argument : Op → Bool
uses_argument ops.Cons = true
uses_argument ops.Snoc = true
uses_argument ops.Insert = true
uses_argument ops.Pushl = true
uses_argument ops.Pushr = true
uses_argument ops.Nth = true
uses_argument ops.Take = true
uses_argument ops.Drop = true
uses_argument ops.Has = true
uses_argument ops.Remove = true
uses_argument ops.Upto = true
uses_argument ops.Split = true
uses_argument _ = false

-- the operation that makes two versions
abbrev pub is_split : Op → Bool
is_split ops.Split = true
is_split _ = false

abbrev pub bases_of : Op → ℕ → ℕ → List ℕ
bases_of op base other = cond (uses_base op) (base ∷ cond (uses_other op) (other ∷ []) []) []

-- the versions that an event uses, base first
abbrev pub bases : Event → List ℕ
bases e = bases_of e.op e.base e.other

-- a field that the operation doesn't use is 0
abbrev pub is_trim : Event → Bool
is_trim e = (uses_base e.op || eqb e.base 0) && (uses_other e.op || eqb e.other 0) && (uses_argument e.op || eqb e.arg 0)
