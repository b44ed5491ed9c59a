-- The numbers of kinds and operations, by which words and tables show them.
use Rattle.std.specs.Prelude.{ℕ, ◌+◌, ◌-◌, eqb, leb, cond, Option, None, List, [], ◌∷◌, slice_get, option_map}
use Rattle.lazy_rec.specs.declared.events.Kind.{Kind}
use Rattle.lazy_rec.specs.declared.events.Kind.TheVariants as kinds
use Rattle.lazy_rec.specs.declared.events.Op.{Op}
use Rattle.lazy_rec.specs.declared.events.Op.TheVariants as ops
use Rattle.lazy_rec.specs.Kinds.{kind_number}

-- the kinds in the order of their numbers, from 0
abbrev pub all_kinds : List Kind
all_kinds = kinds.Stream ∷ kinds.Bankq ∷ kinds.Rtq ∷ kinds.Heap ∷ kinds.Seq ∷ kinds.Prio ∷ kinds.Ord ∷ kinds.Cat ∷ []

abbrev pub kind_of_number : ℕ → Option Kind
kind_of_number n = slice_get all_kinds n

-- the operations but for `new`, in the order of their numbers, from 1
abbrev pub numbered_ops : List Op
numbered_ops = ops.Size ∷ ops.Cons ∷ ops.Snoc ∷ ops.Append ∷ ops.Reverse ∷ ops.Head ∷ ops.Tail ∷ ops.Insert ∷ ops.Min ∷ ops.Delmin ∷ ops.Meld ∷ ops.Max ∷ ops.Delmax
    ∷ ops.Pushl ∷ ops.Pushr ∷ ops.Popl ∷ ops.Popr ∷ ops.First ∷ ops.Last ∷ ops.Nth ∷ ops.Take ∷ ops.Drop ∷ ops.Concat ∷ ops.Has ∷ ops.Remove ∷ ops.Upto ∷ ops.Split ∷ []

-- the operation with a number; `new` of a kind has 32 and the kind's number
abbrev pub op_of_number : ℕ → Option Op
op_of_number n = cond (leb 32 n) (option_map ops.New (kind_of_number (n - 32))) (cond (eqb n 0) None (slice_get numbered_ops (n - 1)))

-- the number of an operation
abbrev pub op_number : Op → ℕ
op_number ops.Size = 1
op_number ops.Cons = 2
op_number ops.Snoc = 3
op_number ops.Append = 4
op_number ops.Reverse = 5
op_number ops.Head = 6
op_number ops.Tail = 7
op_number ops.Insert = 8
op_number ops.Min = 9
op_number ops.Delmin = 10
op_number ops.Meld = 11
op_number ops.Max = 12
op_number ops.Delmax = 13
op_number ops.Pushl = 14
op_number ops.Pushr = 15
op_number ops.Popl = 16
op_number ops.Popr = 17
op_number ops.First = 18
op_number ops.Last = 19
op_number ops.Nth = 20
op_number ops.Take = 21
op_number ops.Drop = 22
op_number ops.Concat = 23
op_number ops.Has = 24
op_number ops.Remove = 25
op_number ops.Upto = 26
op_number ops.Split = 27
op_number (ops.New k) = 32 + kind_number k
