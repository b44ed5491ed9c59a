-- What the fields of the store of one thread mean. It takes its room when it is opened, and fills it as places and names are
-- drawn: a place that no reserve has given yet shows nothing, and a row whose name isn't drawn shows zeros.
use Rattle.std.specs.Prelude.{◌≡◌, ℕ, suc, ◌+◌, ◌-◌, ◌*◌, ◌<◌, ◌≤◌, ◌∷◌, [], ◌++◌, replicate, Bool, true, false, cond, Option, Some, None, List, length}
use Rattle.std.specs.List.{list_all}
use Rattle.lazy_rec.specs.declared.records.Rec.{Rec}
use Rattle.lazy_rec.specs.declared.records.Rec.TheVariants.{Nil, LNil, TNil, CatNil, TEmpty}
use Rattle.lazy_rec.specs.declared.states.SuspState.TheVariants.{Unforced}
use Rattle.lazy_rec.specs.declared.limits.TheConstants.{MOST_EVENTS, MOST_NODES}
use Rattle.lazy_rec.specs.Tests.{is_some_and}
use Rattle.lazy_rec.specs.States.{is_claimed}
use Rattle.heap_store.specs.declared.nodes.Node.{Node}
use Rattle.heap_store.specs.declared.claims.HeldClaim.{HeldClaim}
use Rattle.heap_store.specs.declared.claims.OpenRow.{OpenRow}
use Rattle.heap_store.specs.declared.claims.Full.{Full}
use Rattle.heap_store.specs.World.{World, is_claimed_at, fixed_places}
use Rattle.heap_store.specs.Rows.{Row, row_of, row_at, words_at, word_at, is_ended, is_ended_at}
use Rattle.heap_store.specs.Legal.{IsLegal}
use Rattle.heap_store.specs.Lawful.{IsLawful}
use Rattle.heap_store.specs.LookedAt.{HasRoots}
use Rattle.heap_store.specs.Hand.{Hand, contains, all_distinct, claim_places, is_claim_well, is_marked_well, rows_after_end}
use Rattle.heap_store.specs.Budget.{all_discharged, unit_count, dues, direct_places, taken_steps, credits_brought, places_given, alone_with, IsFunded, IsInBudget}
use Rattle.heap_store.specs.View.{View}
use Rattle.heap_store.specs.RowCalls.{begins_row, ends_row}

-- a list with so many elements in all, the missing ones at its end
abbrev pub filled_up : {X : Type 0} → X → ℕ → List X → List X
filled_up missing n xs = xs ++ replicate (n - length xs) missing

-- the row of a name that has no event yet
abbrev pub no_words : List ℕ
no_words = 0 ∷ 0 ∷ 0 ∷ 0 ∷ 0 ∷ 0 ∷ 0 ∷ 0 ∷ []

-- a record whose state was never touched
abbrev pub fresh_node : Rec → Option Node
fresh_node r = Some (record { rec = r; state = Unforced 0 })

-- the places of a store in which nothing is drawn
abbrev pub five_records : List (Option Node)
five_records = fresh_node Nil ∷ fresh_node LNil ∷ fresh_node TNil ∷ fresh_node CatNil ∷ fresh_node TEmpty ∷ []

-- what stands in place of the last refusal where none was
abbrev pub no_refusal : Full
no_refusal = record { drawn = 0; wanted = 0 }

-- the places of a list that show nothing, where the first one has this number
abbrev pub free_places : ℕ → List (Option Node) → List ℕ
free_places p [] = []
free_places p (None ∷ nodes) = p ∷ free_places (suc p) nodes
free_places p (Some _ ∷ nodes) = free_places (suc p) nodes

abbrev pub is_ended_row : Option Row → Bool
is_ended_row o = is_some_and (λ (r : Row). is_ended r.ending) o

-- the names of the rows that aren't ended, where the first row has this name
abbrev pub open_names : ℕ → List (List ℕ) → List ℕ
open_names i [] = []
open_names i (words ∷ rows) = cond (is_ended_row (row_of i words)) (open_names (suc i) rows) (i ∷ open_names (suc i) rows)

abbrev pub is_claimed_node : Option Node → Bool
is_claimed_node o = is_some_and (λ (n : Node). is_claimed n.state) o

-- the rows that are worked on after a word of the row of a name is stored
abbrev pub rows_after_word : ℕ → ℕ → ℕ → List OpenRow → List OpenRow
rows_after_word name i value rows = cond (begins_row i value) (rows ++ record { name = name; refused = false } ∷ []) (cond (ends_row i) (rows_after_end name rows) rows)

-- what the drawn places and rows show, in a store of so many places and rows
abbrev pub plain_world : ℕ → ℕ → List (Option Node) → List (List ℕ) → World
plain_world capacity row_capacity nodes rows = record {
  nodes = filled_up None (fixed_places + capacity) nodes;
  rows = filled_up no_words row_capacity rows;
}

-- what is in hand beside credits and places. The claims are those from the newest on
abbrev pub held_things : List HeldClaim → List ℕ → List ℕ → List OpenRow → Hand
held_things claims reserved names open_rows = record {
  claims = claims;
  reserved = reserved;
  names = names;
  open_rows = open_rows;
  mine = [];
  vain = None;
  credits = 0;
  allowance = 0;
}

-- the hand with the credits and the places that the dues and the steps leave it: no field of the store counts them
abbrev pub with_budget : World → Hand → Hand
with_budget w h = record h {
  credits = dues w + credits_brought (alone_with w h) - unit_count (all_discharged w);
  allowance = direct_places w + 8 * taken_steps w - places_given (alone_with w h);
}

abbrev pub plain_hand : World → List (Option Node) → List HeldClaim → List (List ℕ) → List OpenRow → Hand
plain_hand w nodes claims rows open_rows = with_budget w (held_things claims (free_places 0 nodes) (open_names 1 rows) open_rows)

abbrev pub plain_view : List (Option Node) → List HeldClaim → List (List ℕ) → List OpenRow → ℕ → ℕ → ℕ → Full → View
plain_view nodes claims rows open_rows capacity row_capacity refused last = record {
  seen = plain_world capacity row_capacity nodes rows;
  hand = plain_hand (plain_world capacity row_capacity nodes rows) nodes claims rows open_rows;
  refusals = record { count = refused; last = last };
  drawn = length nodes - fixed_places;
  named = length rows;
  about = record { capacity = capacity; rows = row_capacity; alone = true; plan = None; caller = None };
}

-- a world of one thread, and the claims on it
pub record IsSeenWell (w : World) (claims : List HeldClaim) : Type 0 where
  pub lawful : IsLawful w
  pub legal : IsLegal w
  pub roots : HasRoots w
  pub well : list_all (is_claim_well w) claims ≡ true
  -- the claims are the claimed places
  pub held : (s : ℕ) → contains (claim_places claims) s ≡ is_claimed_at w s
  -- each row has eight words, and word 5 is 0 until the row is ended
  pub wide : (k : ℕ) → k < length w.rows → length (words_at w (suc k)) ≡ 8
  pub unended : (i : ℕ) → is_ended_at (row_at w) i ≡ false → word_at w i 5 ≡ 0

pub record IsPlain (capacity row_capacity : ℕ) (nodes : List (Option Node)) (claims : List HeldClaim) (rows : List (List ℕ)) : Type 0 where
  pub seen : IsSeenWell (plain_world capacity row_capacity nodes rows) claims
  pub marked : list_all is_marked_well claims ≡ true
  pub once : all_distinct (claim_places claims) ≡ true
  -- no more is discharged and given than the dues and the steps allow, so nothing is lost in the hand's numbers
  pub funded : IsFunded (plain_world capacity row_capacity nodes rows)
  pub budget : IsInBudget (alone_with (plain_world capacity row_capacity nodes rows) (held_things claims (free_places 0 nodes) [] []))
  pub fits : length nodes ≤ fixed_places + capacity
  pub small : capacity ≤ MOST_NODES
  pub rows_fit : length rows ≤ row_capacity
  pub rows_small : row_capacity ≤ MOST_EVENTS
