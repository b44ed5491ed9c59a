-- Dues and node bounds grow with the sizes, so what they are at size bounds is enough at the true sizes.
use Rattle.std.proofs.Common.{ℕ, zero, suc, ◌+◌, ◌*◌, ◌/◌, ◌≤◌, arith, Option, Some, None, length}
use Rattle.std.proofs.lemmas.Nat.{mul-le}
use Rattle.lazy_rec.specs.declared.events.Kind.{Kind}
use Rattle.lazy_rec.specs.declared.events.Kind.TheVariants as kinds
use Rattle.lazy_rec.specs.declared.events.Op.{Op}
use Rattle.lazy_rec.specs.declared.events.Op.TheVariants as ops
use Rattle.lazy_rec.specs.declared.events.Event.{Event}
use Rattle.lazy_rec.specs.Numbers.{digits, binary, bits}
use Rattle.lazy_rec.specs.Due.{due, direct}
use Rattle.lazy_rec.specs.History.{Events, plain}
use Rattle.dues.specs.Sizes.{bound_of}
use Rattle.dues.specs.Rooms.{places, places_of, places_at_size, sum_to}
use Rattle.dues.proofs.SizeLaws.{bounds_fit}

digits_grow : (most n n' : ℕ) → n ≤ n' → length (digits most n) ≤ length (digits most n')
digits_grow zero n n' h = omega arith
digits_grow (suc most) zero n' h = omega arith
digits_grow (suc most) (suc n) zero h = absurd (omega arith)
digits_grow (suc most) (suc n) (suc n') h = omega (arith, digits_grow most (suc n / 2) (suc n' / 2) (omega arith))

bits_grow : (n n' : ℕ) → n ≤ n' → bits n ≤ bits n'
unfolding binary
bits_grow n n' h = digits_grow 64 n n' h

squares_grow : (n n' : ℕ) → n ≤ n' → bits n * bits n ≤ bits n' * bits n'
squares_grow n n' h = mul-le (bits n) (bits n) (bits n') (bits n') (bits_grow n n' h) (bits_grow n n' h)

due_grows : (k : Kind) (op : Op) (n m n' m' : ℕ) → n ≤ n' → m ≤ m' → due k op n m ≤ due k op n' m'
due_grows kinds.Stream ops.Append n m n' m' h k = omega arith
due_grows kinds.Stream ops.Reverse n m n' m' h k = omega arith
due_grows kinds.Bankq ops.Snoc n m n' m' h k = omega arith
due_grows kinds.Bankq ops.Tail n m n' m' h k = omega arith
due_grows kinds.Rtq ops.Snoc n m n' m' h k = omega arith
due_grows kinds.Rtq ops.Tail n m n' m' h k = omega arith
due_grows kinds.Heap ops.Insert n m n' m' h k = omega arith
due_grows kinds.Heap ops.Min n m n' m' h k = omega (arith, bits_grow n n' h)
due_grows kinds.Heap ops.Delmin n m n' m' h k = omega (arith, bits_grow n n' h)
due_grows kinds.Heap ops.Meld n m n' m' h k = omega (arith, bits_grow n n' h, bits_grow m m' k)
due_grows kinds.Seq ops.Pushl n m n' m' h k = omega (arith, bits_grow (n + 1) (n' + 1) (omega arith))
due_grows kinds.Seq ops.Pushr n m n' m' h k = omega (arith, bits_grow (n + 1) (n' + 1) (omega arith))
due_grows kinds.Seq ops.Popl n m n' m' h k = omega (arith, bits_grow n n' h)
due_grows kinds.Seq ops.Popr n m n' m' h k = omega (arith, bits_grow n n' h)
due_grows kinds.Seq ops.Take n m n' m' h k = omega (arith, squares_grow n n' h)
due_grows kinds.Seq ops.Drop n m n' m' h k = omega (arith, squares_grow n n' h)
due_grows kinds.Seq ops.Concat n m n' m' h k = omega (arith, bits_grow (n + m) (n' + m') (omega arith))
due_grows kinds.Seq ops.Split n m n' m' h k = omega (arith, squares_grow n n' h)
due_grows kinds.Prio ops.Insert n m n' m' h k = omega (arith, bits_grow (n + 1) (n' + 1) (omega arith))
due_grows kinds.Prio ops.Delmax n m n' m' h k = omega (arith, squares_grow n n' h, bits_grow n n' h)
due_grows kinds.Prio ops.Meld n m n' m' h k = omega (arith, bits_grow (n + m) (n' + m') (omega arith))
due_grows kinds.Ord ops.Insert n m n' m' h k = omega (arith, squares_grow n n' h, bits_grow (n + 1) (n' + 1) (omega arith))
due_grows kinds.Ord ops.Remove n m n' m' h k = omega (arith, squares_grow n n' h, bits_grow n n' h)
due_grows kinds.Ord ops.Upto n m n' m' h k = omega (arith, squares_grow n n' h)
due_grows kinds.Cat ops.Cons n m n' m' h k = omega arith
due_grows kinds.Cat ops.Snoc n m n' m' h k = omega arith
due_grows kinds.Cat ops.Append n m n' m' h k = omega arith
due_grows kinds.Cat ops.Tail n m n' m' h k = omega arith
due_grows _ _ n m n' m' h k = omega arith

direct_grows : (k : Kind) (op : Op) (n m n' m' : ℕ) → n ≤ n' → m ≤ m' → direct k op n m ≤ direct k op n' m'
direct_grows k (ops.New _) n m n' m' h l = omega arith
direct_grows kinds.Stream ops.Cons n m n' m' h k = omega arith
direct_grows kinds.Stream ops.Append n m n' m' h k = omega arith
direct_grows kinds.Stream ops.Reverse n m n' m' h k = omega arith
direct_grows kinds.Stream ops.Tail n m n' m' h k = omega arith
direct_grows kinds.Bankq ops.Snoc n m n' m' h k = omega arith
direct_grows kinds.Bankq ops.Tail n m n' m' h k = omega arith
direct_grows kinds.Rtq ops.Snoc n m n' m' h k = omega arith
direct_grows kinds.Rtq ops.Tail n m n' m' h k = omega arith
direct_grows kinds.Heap ops.Insert n m n' m' h k = omega arith
direct_grows kinds.Heap ops.Min n m n' m' h k = omega arith
direct_grows kinds.Heap ops.Delmin n m n' m' h k = omega (arith, bits_grow n n' h)
direct_grows kinds.Heap ops.Meld n m n' m' h k = omega arith
direct_grows kinds.Seq ops.Pushl n m n' m' h k = omega arith
direct_grows kinds.Seq ops.Pushr n m n' m' h k = omega arith
direct_grows kinds.Seq ops.Popl n m n' m' h k = omega arith
direct_grows kinds.Seq ops.Popr n m n' m' h k = omega arith
direct_grows kinds.Seq ops.Take n m n' m' h k = omega (arith, bits_grow n n' h)
direct_grows kinds.Seq ops.Drop n m n' m' h k = omega (arith, bits_grow n n' h)
direct_grows kinds.Seq ops.Concat n m n' m' h k = omega arith
direct_grows kinds.Seq ops.Split n m n' m' h k = omega (arith, bits_grow n n' h)
direct_grows kinds.Prio ops.Insert n m n' m' h k = omega arith
direct_grows kinds.Prio ops.Delmax n m n' m' h k = omega (arith, bits_grow n n' h)
direct_grows kinds.Prio ops.Meld n m n' m' h k = omega arith
direct_grows kinds.Ord ops.Insert n m n' m' h k = omega (arith, bits_grow n n' h)
direct_grows kinds.Ord ops.Remove n m n' m' h k = omega (arith, bits_grow n n' h)
direct_grows kinds.Ord ops.Upto n m n' m' h k = omega (arith, bits_grow n n' h)
direct_grows kinds.Cat ops.Cons n m n' m' h k = omega arith
direct_grows kinds.Cat ops.Snoc n m n' m' h k = omega arith
direct_grows kinds.Cat ops.Append n m n' m' h k = omega arith
direct_grows kinds.Cat ops.Tail n m n' m' h k = omega arith
direct_grows _ _ n m n' m' h k = omega arith

-- an event takes no less at greater sizes
pub places_grow : (k : Kind) (op : Op) (n m n' m' : ℕ) → n ≤ n' → m ≤ m' → places k op n m ≤ places k op n' m'
places_grow k op n m n' m' h l = omega (arith, due_grows k op n m n' m' h l, direct_grows k op n m n' m' h l)

pub covered : (events : Events) (k : Option Kind) (o : Option Event) → places_at_size events k o ≤ places_of events k o
covered events (Some k) (Some e) =
    places_grow k e.op (length (plain events e.base)) (length (plain events e.other)) (bound_of events e.base) (bound_of events e.other) (bounds_fit events e.base).0 (bounds_fit events e.other).0
covered events (Some k) None = omega arith
covered events None o = omega arith

pub sums_grow : (f g : ℕ → ℕ) → ((i : ℕ) → f i ≤ g i) → (last : ℕ) → sum_to f last ≤ sum_to g last
sums_grow f g each zero = omega arith
sums_grow f g each (suc last) = omega (arith, sums_grow f g each last, each (suc last))
