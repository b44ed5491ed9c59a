-- How large the places of an event and the sums over a script can be.
use Rattle.std.proofs.Common.{◌≡◌, ℕ, zero, suc, ◌+◌, ◌-◌, ◌*◌, ◌≤◌, ◌<◌, ◌^◌, min, arith, Option, Some, None, List, length, ⊎_elim, sym, ap, subst, ◌∙◌}
use Rattle.std.specs.Prelude.{slice_get}
use Rattle.std.proofs.lemmas.Bool.{cases_lt}
use Rattle.lazy_rec.specs.declared.events.Kind.{Kind}
use Rattle.lazy_rec.specs.declared.events.Kind.TheVariants as kinds
use Rattle.lazy_rec.specs.declared.events.Op.{Op}
use Rattle.lazy_rec.specs.declared.events.Op.TheVariants as ops
use Rattle.lazy_rec.specs.declared.events.Event.{Event}
use Rattle.lazy_rec.specs.declared.limits.TheConstants.{MOST_EVENTS}
use Rattle.lazy_rec.specs.Numbers.{bits}
use Rattle.lazy_rec.specs.Due.{due, direct, new_places}
use Rattle.lazy_rec.specs.Plain.{most_items}
use Rattle.lazy_rec.specs.History.{Events, event_of, kind_of}
use Rattle.dues.specs.Sizes.{bound_of}
use Rattle.dues.specs.Rooms.{places, places_of, sum_to, room, both_bounds}
use Rattle.dues.proofs.BitsFit.{bits_fit, square_fits}
use Rattle.dues.proofs.SizeLaws.{bounds_fit, both_fit}

pub due_fits : (k : Kind) (op : Op) (n m : ℕ) → due k op n m ≤ 3 * n + 8300
due_fits kinds.Stream ops.Append n m = omega arith
due_fits kinds.Stream ops.Reverse n m = omega arith
due_fits kinds.Bankq ops.Snoc n m = omega arith
due_fits kinds.Bankq ops.Tail n m = omega arith
due_fits kinds.Rtq ops.Snoc n m = omega arith
due_fits kinds.Rtq ops.Tail n m = omega arith
due_fits kinds.Heap ops.Insert n m = omega arith
due_fits kinds.Heap ops.Min n m = omega (arith, bits_fit n)
due_fits kinds.Heap ops.Delmin n m = omega (arith, bits_fit n)
due_fits kinds.Heap ops.Meld n m = omega (arith, bits_fit n, bits_fit m)
due_fits kinds.Seq ops.Pushl n m = omega (arith, bits_fit (n + 1))
due_fits kinds.Seq ops.Pushr n m = omega (arith, bits_fit (n + 1))
due_fits kinds.Seq ops.Popl n m = omega (arith, bits_fit n)
due_fits kinds.Seq ops.Popr n m = omega (arith, bits_fit n)
due_fits kinds.Seq ops.Take n m = omega (arith, square_fits (bits n) (bits_fit n))
due_fits kinds.Seq ops.Drop n m = omega (arith, square_fits (bits n) (bits_fit n))
due_fits kinds.Seq ops.Concat n m = omega (arith, bits_fit (n + m))
due_fits kinds.Seq ops.Split n m = omega (arith, square_fits (bits n) (bits_fit n))
due_fits kinds.Prio ops.Insert n m = omega (arith, bits_fit (n + 1))
due_fits kinds.Prio ops.Delmax n m = omega (arith, square_fits (bits n) (bits_fit n), bits_fit n)
due_fits kinds.Prio ops.Meld n m = omega (arith, bits_fit (n + m))
due_fits kinds.Ord ops.Insert n m = omega (arith, square_fits (bits n) (bits_fit n), bits_fit (n + 1))
due_fits kinds.Ord ops.Remove n m = omega (arith, square_fits (bits n) (bits_fit n), bits_fit n)
due_fits kinds.Ord ops.Upto n m = omega (arith, square_fits (bits n) (bits_fit n))
due_fits kinds.Cat ops.Cons n m = omega arith
due_fits kinds.Cat ops.Snoc n m = omega arith
due_fits kinds.Cat ops.Append n m = omega arith
due_fits kinds.Cat ops.Tail n m = omega arith
due_fits _ _ n m = omega arith

new_places_fit : (k : Kind) → new_places k ≤ 600
new_places_fit kinds.Stream = omega arith
new_places_fit kinds.Bankq = omega arith
new_places_fit kinds.Rtq = omega arith
new_places_fit kinds.Heap = omega arith
new_places_fit _ = omega arith

pub direct_fits : (k : Kind) (op : Op) (n m : ℕ) → direct k op n m ≤ 600
direct_fits k (ops.New _) n m = new_places_fit k
direct_fits kinds.Stream ops.Cons n m = omega arith
direct_fits kinds.Stream ops.Append n m = omega arith
direct_fits kinds.Stream ops.Reverse n m = omega arith
direct_fits kinds.Stream ops.Tail n m = omega arith
direct_fits kinds.Bankq ops.Snoc n m = omega arith
direct_fits kinds.Bankq ops.Tail n m = omega arith
direct_fits kinds.Rtq ops.Snoc n m = omega arith
direct_fits kinds.Rtq ops.Tail n m = omega arith
direct_fits kinds.Heap ops.Insert n m = omega arith
direct_fits kinds.Heap ops.Min n m = omega arith
direct_fits kinds.Heap ops.Delmin n m = omega (arith, bits_fit n)
direct_fits kinds.Heap ops.Meld n m = omega arith
direct_fits kinds.Seq ops.Pushl n m = omega arith
direct_fits kinds.Seq ops.Pushr n m = omega arith
direct_fits kinds.Seq ops.Popl n m = omega arith
direct_fits kinds.Seq ops.Popr n m = omega arith
direct_fits kinds.Seq ops.Take n m = omega (arith, bits_fit n)
direct_fits kinds.Seq ops.Drop n m = omega (arith, bits_fit n)
direct_fits kinds.Seq ops.Concat n m = omega arith
direct_fits kinds.Seq ops.Split n m = omega (arith, bits_fit n)
direct_fits kinds.Prio ops.Insert n m = omega arith
direct_fits kinds.Prio ops.Delmax n m = omega (arith, bits_fit n)
direct_fits kinds.Prio ops.Meld n m = omega arith
direct_fits kinds.Ord ops.Insert n m = omega (arith, bits_fit n)
direct_fits kinds.Ord ops.Remove n m = omega (arith, bits_fit n)
direct_fits kinds.Ord ops.Upto n m = omega (arith, bits_fit n)
direct_fits kinds.Cat ops.Cons n m = omega arith
direct_fits kinds.Cat ops.Snoc n m = omega arith
direct_fits kinds.Cat ops.Append n m = omega arith
direct_fits kinds.Cat ops.Tail n m = omega arith
direct_fits _ _ n m = omega arith

-- no event may take more places than these, whatever the sizes of its bases
abbrev pub most_places : ℕ
most_places = 51539674528

pub places_fit : (k : Kind) (op : Op) (n m : ℕ) → places k op n m ≤ 24 * n + 67000
places_fit k op n m = omega (arith, due_fits k op n m, direct_fits k op n m)

pub places_of_fit : (events : Events) (k : Option Kind) (o : Option Event) → places_of events k o ≤ most_places
places_of_fit events (Some k) (Some e) =
    let base = bounds_fit events e.base in
    omega (arith, places_fit k e.op (bound_of events e.base) (bound_of events e.other))
places_of_fit events (Some k) None = omega arith
places_of_fit events None o = omega arith

sum_fits : (f : ℕ → ℕ) (most : ℕ) → ((i : ℕ) → f i ≤ most) → (last : ℕ) → sum_to f last ≤ last * most
sum_fits f most each zero = omega arith
sum_fits f most each (suc last) = omega (arith, sum_fits f most each last, each (suc last))

-- the places of the events up to a name
abbrev pub places_to : List Event → ℕ → ℕ
places_to events last = sum_to (λ i. places_of (event_of events) (kind_of (event_of events) i) (event_of events i)) last

pub places_to_fit : (events : List Event) (last : ℕ) → last ≤ MOST_EVENTS → places_to events last < 2 ^ 54
places_to_fit events last few =
    omega (
      arith,
      sum_fits (λ i. places_of (event_of events) (kind_of (event_of events) i) (event_of events i)) most_places
          (λ i. places_of_fit (event_of events) (kind_of (event_of events) i) (event_of events i)) last,
    )

-- and with one more event
pub places_more : (events : List Event) (kinds : List Kind) (i total p : ℕ) (k : Kind) (e : Event) → total ≡ places_to events i → slice_get kinds i ≡ Some k → slice_get events i ≡ Some e
    → slice_get kinds i ≡ kind_of (event_of events) (suc i) → p ≡ places k e.op (bound_of (event_of events) e.base) (bound_of (event_of events) e.other) → total + p ≡ places_to events (suc i)
places_more events kinds i total p k e is kind here same of_event =
    let named = event_of events in
    let added : p ≡ places_of named (kind_of named (suc i)) (named (suc i)) =
    of_event ∙ (ap (λ o. places_of named o (Some e)) (sym kind ∙ same) ∙ ap (places_of named (kind_of named (suc i))) (sym here)) in
    ap (λ t. t + p) is ∙ ap (λ q. places_to events i + q) added

sum_rises : (f : ℕ → ℕ) (last all : ℕ) → last ≤ all → sum_to f last ≤ sum_to f all
sum_rises f last zero h = let none : last ≡ 0 = omega (arith, h) in rw none (omega arith)
sum_rises f last (suc all) h = ⊎_elim
    (λ (before : last < suc all). omega (arith, sum_rises f last all (omega (arith, before))))
    (λ (past : suc all ≤ last). let same : last ≡ suc all = omega (arith, h, past) in rw same (omega arith))
    (cases_lt last (suc all))

-- a pass counts down from the most places: so many are left behind the events up to a name
module _ (events : List Event) (i left most : ℕ) (counted : places_to events i + left ≡ most) where
  pub left_behind_all : i ≤ length events → length events ≤ i → most - left ≡ min (room events) most
  left_behind_all within all =
      let last : i ≡ length events = omega (arith, within, all) in
      omega (arith, counted, ap (places_to events) last)

  module _ (p : ℕ) (more : places_to events i + p ≡ places_to events (suc i)) where
    pub left_behind_next : (rest : ℕ) → p ≤ left × rest ≡ left - p → places_to events (i + 1) + rest ≡ most
    left_behind_next rest fits =
        let same : suc i ≡ i + 1 = omega arith in
        subst (λ n. places_to events n + rest ≡ most) same (omega (arith, counted, more, fits.0, fits.1))

    -- the next event takes more than is left, so the script takes more than the most
    pub room_above : i < length events → (p ≤ left → ⊥) → most ≡ min (room events) most
    room_above within above =
        let rises = sum_rises (λ n. places_of (event_of events) (kind_of (event_of events) n) (event_of events n)) (suc i) (length events) (omega (arith, within)) in
        omega (arith, counted, more, above, rises)

pub bounds_to_fit : (events : List Event) (last : ℕ) → last ≤ MOST_EVENTS → sum_to (both_bounds (event_of events)) last < 2 ^ 49
bounds_to_fit events last few = omega (arith, sum_fits (both_bounds (event_of events)) most_items (both_fit (event_of events)) last)
