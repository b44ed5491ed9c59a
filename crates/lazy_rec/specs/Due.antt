-- What an event is charged when it begins, the places that it may reserve itself, and whether it forces. These tables are
-- this project's own; the banker's and real-time queues' and the heap's lines follow Okasaki's debits.
use Rattle.std.specs.Prelude.{ℕ, ◌+◌, ◌*◌, Bool, true, false}
use Rattle.lazy_rec.specs.declared.events.Kind.{Kind}
use Rattle.lazy_rec.specs.declared.events.Kind.TheVariants as kinds
use Rattle.lazy_rec.specs.declared.events.Op.{Op}
use Rattle.lazy_rec.specs.declared.events.Op.TheVariants as ops
use Rattle.lazy_rec.specs.Numbers.{bits}

-- the due at the sizes of the base and of the other, 0 where there is none. What has no line, as `new` and `size`, is free,
-- and so is an operation that the kind doesn't have
abbrev pub due : Kind → Op → ℕ → ℕ → ℕ
due kinds.Stream ops.Append n m = n
due kinds.Stream ops.Reverse n m = n
due kinds.Bankq ops.Snoc n m = 1
due kinds.Bankq ops.Tail n m = 2
due kinds.Rtq ops.Snoc n m = 1
due kinds.Rtq ops.Tail n m = 1
due kinds.Heap ops.Insert n m = 2
due kinds.Heap ops.Min n m = bits n
due kinds.Heap ops.Delmin n m = 2 * bits n
due kinds.Heap ops.Meld n m = bits n + bits m + 1
due kinds.Seq ops.Pushl n m = bits (n + 1)
due kinds.Seq ops.Pushr n m = bits (n + 1)
due kinds.Seq ops.Popl n m = bits n
due kinds.Seq ops.Popr n m = bits n
due kinds.Seq ops.Take n m = bits n * bits n
due kinds.Seq ops.Drop n m = bits n * bits n
due kinds.Seq ops.Concat n m = bits (n + m)
due kinds.Seq ops.Split n m = 2 * bits n * bits n
due kinds.Prio ops.Insert n m = bits (n + 1)
due kinds.Prio ops.Delmax n m = 2 * bits n * bits n + bits n
due kinds.Prio ops.Meld n m = bits (n + m)
due kinds.Ord ops.Insert n m = 2 * bits n * bits n + bits (n + 1)
due kinds.Ord ops.Remove n m = 2 * bits n * bits n + bits n
due kinds.Ord ops.Upto n m = bits n * bits n
due kinds.Cat ops.Cons n m = 1
due kinds.Cat ops.Snoc n m = 1
due kinds.Cat ops.Append n m = 1
due kinds.Cat ops.Tail n m = 3 * n + 2
due _ _ n m = 0

-- the places of an empty structure of a kind
abbrev pub new_places : Kind → ℕ
new_places kinds.Stream = 1
new_places kinds.Bankq = 1
new_places kinds.Rtq = 1
new_places kinds.Heap = 1
new_places _ = 0

-- the bound on the places of an event's own reserves; what has no line reserves none
abbrev pub direct : Kind → Op → ℕ → ℕ → ℕ
direct k (ops.New _) n m = new_places k
direct kinds.Stream ops.Cons n m = 2
direct kinds.Stream ops.Append n m = 2
direct kinds.Stream ops.Reverse n m = 2
direct kinds.Stream ops.Tail n m = 1
direct kinds.Bankq ops.Snoc n m = 3
direct kinds.Bankq ops.Tail n m = 2
direct kinds.Rtq ops.Snoc n m = 3
direct kinds.Rtq ops.Tail n m = 2
direct kinds.Heap ops.Insert n m = 2
direct kinds.Heap ops.Min n m = 1
direct kinds.Heap ops.Delmin n m = 2 * bits n + 3
direct kinds.Heap ops.Meld n m = 2
direct kinds.Seq ops.Pushl n m = 6
direct kinds.Seq ops.Pushr n m = 6
direct kinds.Seq ops.Popl n m = 6
direct kinds.Seq ops.Popr n m = 6
direct kinds.Seq ops.Take n m = 4 * bits n + 4
direct kinds.Seq ops.Drop n m = 4 * bits n + 4
direct kinds.Seq ops.Concat n m = 8
direct kinds.Seq ops.Split n m = 8 * bits n + 8
direct kinds.Prio ops.Insert n m = 6
direct kinds.Prio ops.Delmax n m = 8 * bits n + 16
direct kinds.Prio ops.Meld n m = 8
direct kinds.Ord ops.Insert n m = 8 * bits n + 20
direct kinds.Ord ops.Remove n m = 8 * bits n + 16
direct kinds.Ord ops.Upto n m = 4 * bits n + 4
direct kinds.Cat ops.Cons n m = 6
direct kinds.Cat ops.Snoc n m = 6
direct kinds.Cat ops.Append n m = 6
direct kinds.Cat ops.Tail n m = 8
direct _ _ n m = 0

-- whether the operation may force a suspension
abbrev pub may_force : Kind → Op → Bool
may_force kinds.Stream ops.Head = true
may_force kinds.Stream ops.Tail = true
may_force kinds.Bankq ops.Head = true
may_force kinds.Bankq ops.Tail = true
may_force kinds.Rtq ops.Snoc = true
may_force kinds.Rtq ops.Head = true
may_force kinds.Rtq ops.Tail = true
may_force kinds.Heap ops.Min = true
may_force kinds.Heap ops.Delmin = true
may_force kinds.Seq ops.Popl = true
may_force kinds.Seq ops.Popr = true
may_force kinds.Seq ops.Nth = true
may_force kinds.Seq ops.Take = true
may_force kinds.Seq ops.Drop = true
may_force kinds.Seq ops.Split = true
may_force kinds.Prio ops.Delmax = true
may_force kinds.Ord ops.Insert = true
may_force kinds.Ord ops.Has = true
may_force kinds.Ord ops.Remove = true
may_force kinds.Ord ops.Upto = true
may_force kinds.Cat ops.Snoc = true
may_force kinds.Cat ops.Append = true
may_force kinds.Cat ops.Tail = true
may_force _ _ = false
