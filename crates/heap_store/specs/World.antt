-- Worlds: what the places of a store show, and the words of the rows of its events.
use Rattle.std.specs.Prelude.{◌≡◌, ℕ, zero, suc, eqb, Bool, true, false, cond, not, ◌||◌, Option, Some, None, List, length, slice_set, slice_index_or, option_map, option_and_then}
use Rattle.lazy_rec.specs.declared.records.Rec.{Rec}
use Rattle.lazy_rec.specs.declared.states.SuspState.{SuspState}
use Rattle.lazy_rec.specs.Tests.{is_some_and}
use Rattle.lazy_rec.specs.Named.{Records, at_record, is_pending}
use Rattle.lazy_rec.specs.States.{is_claimed, kept, given_up}
use Rattle.heap_store.specs.declared.nodes.Node.{Node}

-- the places in order, none where one isn't published; the eight words of each row, by name from 1 on
pub record World : Type 0 where
  pub nodes : List (Option Node)
  pub rows : List (List ℕ)

abbrev pub node_at : World → ℕ → Option Node
node_at w p = slice_index_or w.nodes p None

-- the record of each place
abbrev pub recs : World → Records
recs w p = option_map (λ n. n.rec) (node_at w p)

-- the state of each place
abbrev pub state_at : World → ℕ → Option SuspState
state_at w p = option_map (λ n. n.state) (node_at w p)

-- how many attempts at a suspension were given back, as far as its count goes
abbrev pub attempts_of : Option SuspState → ℕ
attempts_of None = 0
attempts_of (Some s) = given_up s

abbrev pub attempts_at : World → ℕ → ℕ
attempts_at w p = attempts_of (state_at w p)

-- no attempt was given back
abbrev pub SameAttempts : World → World → Type 0
SameAttempts old new = (p : ℕ) → attempts_at new p ≡ attempts_at old p

-- a place that shows this record and this state, and all others as before
abbrev pub show : World → ℕ → Rec → SuspState → World
show w p r s = record w { nodes = slice_set w.nodes p (Some (record { rec = r; state = s })) }

-- the record at a place is published and passes a test
abbrev pub holds : Records → ℕ → (Rec → Bool) → Bool
holds rs p test = at_record false test (rs p)

abbrev pub is_published : Records → ℕ → Bool
is_published rs p = holds rs p (λ _. true)

-- some record of the places below a number passes a test
abbrev pub some_below : ℕ → Records → (ℕ → Rec → Bool) → Bool
some_below zero rs test = false
some_below (suc n) rs test = holds rs n (test n) || some_below n rs test

abbrev pub some_record : World → (ℕ → Rec → Bool) → Bool
some_record w test = some_below (length w.nodes) (recs w) test

-- the place and the steps that a Done place keeps
abbrev pub done_at : World → ℕ → Option (ℕ × ℕ)
done_at w p = option_and_then (λ n. kept n.state) (node_at w p)

abbrev pub is_done : World → ℕ → Bool
is_done w p = is_some_and (λ d. true) (done_at w p)

abbrev pub is_claimed_at : World → ℕ → Bool
is_claimed_at w p = is_some_and (λ n. is_claimed n.state) (node_at w p)

-- a suspension that is claimed or done
abbrev pub is_taken : World → ℕ → Bool
is_taken w p = is_done w p || is_claimed_at w p

-- two places are one, or one is the Done place of the other
abbrev pub same_place : World → ℕ → ℕ → Bool
same_place w p q = eqb p q || (is_some_and (λ d. eqb d.0 q) (done_at w p) || is_some_and (λ d. eqb d.0 p) (done_at w q))

-- the record of the value at a place: its own, or that of its Done place; none while it isn't done
abbrev pub value_of : World → Option (ℕ × ℕ) → Rec → Option Rec
value_of w d r = cond (is_pending r) (option_and_then (λ k. recs w k.0) d) (Some r)

abbrev pub value_at : World → ℕ → Option Rec
value_at w p = option_and_then (value_of w (done_at w p)) (recs w p)

-- the place is a value or done
abbrev pub is_value : World → ℕ → Bool
is_value w p = holds (recs w) p (λ r. not (is_pending r)) || is_done w p

-- the records of a world stay
abbrev pub Keeps : Records → Records → Type 0
Keeps a b = (p : ℕ) (r : Rec) → a p ≡ Some r → b p ≡ Some r

-- the five fixed places
abbrev pub fixed_places : ℕ
fixed_places = 5

abbrev pub nil_place : ℕ
nil_place = 0

abbrev pub list_nil_place : ℕ
list_nil_place = 1
