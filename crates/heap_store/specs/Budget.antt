-- What is discharged, which suspensions are paid for, and how far the dues and the places of the events reach.
use Rattle.std.specs.Prelude.{◌≡◌, ℕ, zero, suc, ◌+◌, ◌-◌, ◌*◌, ◌≤◌, eqb, leb, Bool, true, cond, not, ◌||◌, Option, Some, None, List, [], ◌∷◌, ◌++◌, length, sum_by, filter}
use Rattle.std.specs.List.{list_all, list_any}
use Rattle.std.specs.Set.{is_member, distinct_count}
use Rattle.lazy_rec.specs.declared.records.Rec.{Rec}
use Rattle.lazy_rec.specs.declared.records.Rec.TheVariants.{BankRot}
use Rattle.lazy_rec.specs.declared.events.Kind.{Kind}
use Rattle.lazy_rec.specs.declared.events.Op.{Op}
use Rattle.lazy_rec.specs.declared.events.Op.TheVariants as ops
use Rattle.lazy_rec.specs.declared.events.Event.{Event}
use Rattle.lazy_rec.specs.Tests.{implies}
use Rattle.lazy_rec.specs.Due as by_kind
use Rattle.lazy_rec.specs.Named.{Records, at_record, is_pending}
use Rattle.lazy_rec.specs.States.{kept, given_up}
use Rattle.lazy_rec.specs.History.{event_name, kind_of}
use Rattle.lazy_rec.specs.Units.{WorkUnit, same_unit, units, units_below, family_of, steps, credits, paid}
use Rattle.heap_store.specs.declared.nodes.Node.{Node}
use Rattle.heap_store.specs.World.{World, recs, holds, is_done, is_taken, fixed_places}
use Rattle.heap_store.specs.Rows.{Row, row_of, row_at, version_at, events_of}
use Rattle.heap_store.specs.Lawful.{EachRecord}
use Rattle.heap_store.specs.LookedAt.{size_of}
use Rattle.heap_store.specs.Hand.{Hand, is_built}

-- ---- units

-- all units that the places below a number show as discharged
unfoldable pub discharged : Records → ℕ → List WorkUnit
discharged rs zero = []
discharged rs (suc n) = at_record [] (paid rs n) (rs n) ++ discharged rs n

-- how many units a list has, each counted once
abbrev pub unit_count : List WorkUnit → ℕ
unit_count us = distinct_count same_unit us

-- the units of the second list that the first lacks
abbrev pub units_beyond : List WorkUnit → List WorkUnit → List WorkUnit
units_beyond seen us = filter (λ u. not (is_member same_unit seen u)) us

-- how many units the record shows at a place that no record of the places below a number shows
abbrev pub gain : ℕ → Records → ℕ → Rec → ℕ
gain size rs p r = unit_count (units_beyond (discharged rs size) (paid rs p r))

-- the same in a world
abbrev pub gain_at : World → ℕ → Rec → ℕ
gain_at w p r = gain (length w.nodes) (recs w) p r

abbrev pub all_discharged : World → List WorkUnit
all_discharged w = discharged (recs w) (length w.nodes)

abbrev pub are_discharged : World → List WorkUnit → Bool
are_discharged w us = list_all (λ u. is_member same_unit (all_discharged w) u) us

-- ---- funded

abbrev pub is_funded : World → ℕ → Rec → Bool
is_funded w p r = are_discharged w (units p r)

-- a suspension that is paid for
abbrev pub is_funded_at : World → ℕ → Bool
is_funded_at w p = holds (recs w) p (is_funded w p)

-- all units of the family of a banker's rotation
abbrev pub bank_family : Rec → List WorkUnit
bank_family (BankRot _ _ left origin off) = units_below origin.0 (2 * (left + off) + 1)
bank_family _ = []

abbrev pub other_family : ℕ → Rec → List WorkUnit
other_family origin r = cond (eqb (family_of 0 r).0 origin) [] (bank_family r)

-- where a rotation stands on one of another family, that family is paid
abbrev pub is_settled : World → ℕ → Rec → Bool
is_settled w p (BankRot xs _ _ origin _) = at_record true (λ r. are_discharged w (other_family origin.0 r)) (recs w xs.0)
is_settled w p _ = true

-- each claimed or done suspension is paid for, and each rotation that another one stands on
pub record IsFunded (w : World) : Type 0 where
  pub taken : EachRecord w (λ p r. implies (is_pending r) (implies (is_taken w p) (is_funded w p r)))
  pub settled : EachRecord w (is_settled w)

-- ---- running worlds and their budget

-- a world and the hands of all that work on it, and the plan if there is one
pub record Running : Type 0 where
  pub world : World
  pub hands : List Hand
  pub plan : Option (List Event)

-- a claim of the place is in a hand, and its attempt has published a place
abbrev pub is_being_built : Running → ℕ → Bool
is_being_built g p = list_any (λ (h : Hand). is_built h.claims p) g.hands

abbrev pub sum_below : ℕ → Records → (ℕ → Rec → ℕ) → ℕ
sum_below zero rs f = 0
sum_below (suc n) rs f = at_record 0 (f n) (rs n) + sum_below n rs f

-- a sum over all records
abbrev pub sum_records : World → (ℕ → Rec → ℕ) → ℕ
sum_records w f = sum_below (length w.nodes) (recs w) f

-- a sum over all rows, by name from a number on
abbrev pub sum_rows : (ℕ → List ℕ → ℕ) → ℕ → List (List ℕ) → ℕ
sum_rows f i [] = 0
sum_rows f i (words ∷ rows) = f i words + sum_rows f (suc i) rows

-- a number of a table by kinds, at the sizes of the versions that a begun row uses; 0 where it isn't begun
abbrev pub of_based : (Kind → Op → ℕ → ℕ → ℕ) → World → Event → Option Kind → ℕ
of_based table w e None = 0
of_based table w e (Some k) = table k e.op (size_of (version_at (row_at w) e.base)) (size_of (version_at (row_at w) e.other))

abbrev pub of_event : (Kind → Op → ℕ → ℕ → ℕ) → World → Event → Op → ℕ
of_event table w e (ops.New k) = table k e.op 0 0
of_event table w e _ = of_based table w e (kind_of (events_of (row_at w)) (event_name e.base))

abbrev pub of_row : (Kind → Op → ℕ → ℕ → ℕ) → World → Option Row → ℕ
of_row table w None = 0
of_row table w (Some r) = cond r.begun (of_event table w r.event r.event.op) 0

-- the due and the places of the row of a name
abbrev pub due_at : World → ℕ → ℕ
due_at w name = of_row by_kind.due w (row_at w name)

abbrev pub direct_at : World → ℕ → ℕ
direct_at w name = of_row by_kind.direct w (row_at w name)

abbrev pub dues : World → ℕ
dues w = sum_rows (λ i words. of_row by_kind.due w (row_of i words)) 1 w.rows

abbrev pub direct_places : World → ℕ
direct_places w = sum_rows (λ i words. of_row by_kind.direct w (row_of i words)) 1 w.rows

-- the places that all events together may take, with eight for each step that they are charged
abbrev pub room_of : World → ℕ
room_of w = direct_places w + 8 * dues w

-- the credits that completions brought
abbrev pub credits_brought : Running → ℕ
credits_brought g = sum_records g.world (λ p r. cond (is_done g.world p || is_being_built g p) (credits r) 0)

-- the places given by reserves: those published beside the five fixed ones, and those in a hand
abbrev pub places_given : Running → ℕ
places_given g = sum_records g.world (λ p r. cond (leb 5 p) 1 0) + sum_by (λ (h : Hand). length h.reserved) g.hands

-- the steps of the suspensions that are claimed or done
abbrev pub taken_steps : World → ℕ
taken_steps w = sum_records w (λ p r. cond (is_taken w p) (steps r) 0)

-- what is discharged and what is in hand never exceeds the dues, nor the places what the events and the steps may take
pub record IsInBudget (g : Running) : Type 0 where
  pub paid : unit_count (all_discharged g.world) + sum_by (λ (h : Hand). h.credits) g.hands ≤ dues g.world + credits_brought g
  pub places : places_given g + sum_by (λ (h : Hand). h.allowance) g.hands ≤ direct_places g.world + 8 * taken_steps g.world

-- one hand alone works on a world
abbrev pub alone_with : World → Hand → Running
alone_with w h = record { world = w; hands = h ∷ []; plan = None }

-- the same as equations: what the dues and the completions brought is discharged, in hand, or was lost, as a hand that hasn't
-- seen all pays for what another one paid; and what the events and the steps may take is given, or in hand
pub record IsBalanced (g : Running) (lost : ℕ) : Type 0 where
  pub paid : unit_count (all_discharged g.world) + sum_by (λ (h : Hand). h.credits) g.hands + lost ≡ dues g.world + credits_brought g
  pub places : places_given g + sum_by (λ (h : Hand). h.allowance) g.hands ≡ direct_places g.world + 8 * taken_steps g.world

-- ---- totals

abbrev pub done_of : Option Node → List (ℕ × ℕ)
done_of None = []
done_of (Some n) = elim (kept n.state) [ None ↦ [] | Some d ↦ d ∷ [] ]

abbrev pub given_up_of : Option Node → ℕ
given_up_of None = 0
given_up_of (Some n) = given_up n.state

abbrev pub node_count_of : Option Node → ℕ
node_count_of None = 0
node_count_of (Some n) = 1

-- the Done states
abbrev pub total_forced : World → ℕ
total_forced w = sum_by (λ n. length (done_of n)) w.nodes

-- the steps that Done states keep, so those of attempts that were given back are in no total
abbrev pub total_steps : World → ℕ
total_steps w = sum_by (λ n. sum_by (λ (d : ℕ × ℕ). d.1) (done_of n)) w.nodes

abbrev pub total_given_up : World → ℕ
total_given_up w = sum_by given_up_of w.nodes

-- the published places beside the fixed ones
abbrev pub total_nodes : World → ℕ
total_nodes w = sum_by node_count_of w.nodes - fixed_places

-- ---- callers

-- the names of the rows with a caller's number
abbrev pub mine_from : ℕ → ℕ → List (List ℕ) → List ℕ
mine_from caller i [] = []
mine_from caller i (words ∷ rows) = elim (row_of i words) [ None ↦ mine_from caller (suc i) rows | Some r ↦ cond (eqb r.caller caller) (i ∷ mine_from caller (suc i) rows) (mine_from caller (suc i) rows) ]

abbrev pub mine : ℕ → World → List ℕ
mine caller w = mine_from caller 1 w.rows
