-- Seats are joined: one takes another in.
use Rattle.std.specs.Prelude.{◌≡◌, ◌+◌, ◌<◌, List, [], ◌∷◌, ◌++◌, Option, Some, None, length}
use Rattle.heap_store.specs.declared.claims.Full.{Full}
use Rattle.heap_store.specs.Hand.{Hand}
use Rattle.word_store.specs.declared.sight.Sight.{Sight}
use Rattle.word_store.specs.Rule.{empty_hand}

-- what a seat is left with whose rights passed to another
abbrev pub no_sight : Sight
no_sight = record { nodes = 0; rows = 0; callers = 0; plan = None; numbers = []; words = []; told = []; hand = empty_hand; wasted = 0 }

-- what both added in vain
abbrev pub both_vain : Option Full → Option Full → Option Full
both_vain None b = b
both_vain (Some a) None = Some a
both_vain (Some a) (Some b) = Some (record { drawn = a.drawn; wanted = a.wanted + b.wanted })

abbrev pub joined_hand : Hand → Hand → Hand
joined_hand h g = record {
  claims = h.claims ++ g.claims;
  reserved = h.reserved ++ g.reserved;
  names = h.names ++ g.names;
  open_rows = h.open_rows ++ g.open_rows;
  mine = h.mine ++ g.mine;
  vain = both_vain h.vain g.vain;
  credits = h.credits + g.credits;
  allowance = h.allowance + g.allowance;
}

-- the first seat takes the second one in, and was told what it had seen
abbrev pub joined : Sight → Sight → Sight
joined v w = record v { numbers = v.numbers ++ w.numbers; told = (w.nodes, w.rows, w.words) ∷ v.told; hand = joined_hand v.hand w.hand; wasted = v.wasted + w.wasted }

-- the first seat after it took in all others
abbrev pub gathered : Sight → List Sight → Sight
gathered v [] = v
gathered v (w ∷ ws) = joined (gathered v ws) w

-- no claim, no reserved place and no begun row is in hand. Names may be
pub record MayClose (h : Hand) : Type 0 where
  pub claims : h.claims ≡ []
  pub reserved : h.reserved ≡ []
  pub rows : h.open_rows ≡ []

-- a seat of all callers that sees the words as they are
pub record IsLastSeat (v : Sight) : Type 0 where
  pub all : length v.numbers ≡ v.callers
  pub some : 0 < length v.numbers
  pub told : v.told ≡ []
