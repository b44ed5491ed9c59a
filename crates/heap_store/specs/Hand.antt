-- What is in hand, and what the calls do to it: functions on plain data, the same for a store of one thread and for a pass
-- over a shared one.
use Rattle.std.specs.Prelude.{◌≡◌, ℕ, zero, suc, ◌+◌, ◌-◌, ◌*◌, ◌<◌, ◌≤◌, eqb, leb, ltb, Bool, true, false, cond, not, ◌&&◌, ◌||◌, Option, Some, None, List, [], ◌∷◌, ◌++◌, map, filter}
use Rattle.std.specs.List.{list_any, list_all}
use Rattle.lazy_rec.specs.declared.places.Ref.{Ref}
use Rattle.lazy_rec.specs.declared.records.Rec.{Rec}
use Rattle.lazy_rec.specs.Tests.{implies}
use Rattle.lazy_rec.specs.Named.{Records, at_record, is_pending}
use Rattle.lazy_rec.specs.Units.{family_of, steps}
use Rattle.lazy_rec.specs.Units as work
use Rattle.heap_store.specs.declared.claims.HeldClaim.{HeldClaim}
use Rattle.heap_store.specs.declared.claims.OpenRow.{OpenRow}
use Rattle.heap_store.specs.declared.claims.Full.{Full}
use Rattle.heap_store.specs.Span.{Span}
use Rattle.heap_store.specs.World.{World, recs, is_published, is_claimed_at, some_record, holds}
use Rattle.heap_store.specs.Rows.{words_at, row_at, is_ended_at}
use Rattle.heap_store.specs.Completion.{is_next}

-- the claims from the newest on; the places reserved and not published; the names drawn and not ended; the rows that
-- are worked on; the names of all rows of the caller's number, of a heap that is bound to one; the numbers of the refusal at an add
-- in vain, of a shared store alone; how many units may still be discharged, and how many places may still be reserved
pub record Hand : Type 0 where
  pub claims : List HeldClaim
  pub reserved : List ℕ
  pub names : List ℕ
  pub open_rows : List OpenRow
  pub mine : List ℕ
  pub vain : Option Full
  pub credits : ℕ
  pub allowance : ℕ

abbrev pub contains : List ℕ → ℕ → Bool
contains xs p = list_any (λ x. eqb x p) xs

abbrev pub all_distinct : List ℕ → Bool
all_distinct [] = true
all_distinct (x ∷ xs) = not (contains xs x) && all_distinct xs

-- so many places, from the first on
abbrev pub places_from : ℕ → ℕ → List ℕ
places_from first zero = []
places_from first (suc k) = first ∷ places_from (suc first) k

-- a list without the numbers from `from` up to, and without, `to`
abbrev pub without : ℕ → ℕ → List ℕ → List ℕ
without from to = filter (λ p. not (leb from p && ltb p to))

abbrev pub claim_places : List HeldClaim → List ℕ
claim_places claims = map (λ (c : HeldClaim). c.place.0) claims

abbrev pub holds_claim : Hand → ℕ → Bool
holds_claim h s = contains (claim_places h.claims) s

-- a claim that has published nothing
abbrev pub fresh_claim : Ref → HeldClaim
fresh_claim s = record { place = s; built = false; passed = false }

-- the newest claim's attempt published a place, or the next suspension of its family
abbrev pub mark_newest : Bool → List HeldClaim → List HeldClaim
mark_newest is_next_offset [] = []
mark_newest is_next_offset (c ∷ cs) = record c { built = true; passed = c.passed || is_next_offset } ∷ cs

-- a later suspension of a family
abbrev pub is_later : ℕ → Rec → Bool
is_later p r = ltb 0 (family_of p r).1

abbrev pub without_claim : ℕ → List HeldClaim → List HeldClaim
without_claim s = filter (λ (c : HeldClaim). not (eqb c.place.0 s))

-- ---- what the calls do

-- a claim in hand whose attempt has published a place
abbrev pub is_built : List HeldClaim → ℕ → Bool
is_built claims s = list_any (λ (c : HeldClaim). eqb c.place.0 s && c.built) claims

-- a claim in hand whose attempt has published nothing
abbrev pub is_unbuilt : Hand → ℕ → Bool
is_unbuilt h s = list_any (λ (c : HeldClaim). eqb c.place.0 s && not c.built) h.claims

-- the places that a completion of the suspension may take
abbrev pub places_of_steps : Records → ℕ → ℕ
places_of_steps rs s = 8 * at_record 0 steps (rs s)

-- the credits of a suspension
abbrev pub credits_at : Records → ℕ → ℕ
credits_at rs s = at_record 0 work.credits (rs s)

-- what the newest claim's suspension brings, where its attempt has published nothing yet
abbrev pub brings : Records → List HeldClaim → ℕ
brings rs [] = 0
brings rs (c ∷ cs) = cond c.built 0 (credits_at rs c.place.0)

abbrev pub hand_reserved : Hand → ℕ → ℕ → Hand
hand_reserved h first k = record h { reserved = h.reserved ++ places_from first k; allowance = h.allowance - k }

-- a refused reserve is noted of each row that is worked on
abbrev pub hand_refused : Hand → Hand
hand_refused h = record h { open_rows = map (λ (o : OpenRow). record o { refused = true }) h.open_rows }

-- a put spends so many credits for the units that the record shows first
abbrev pub hand_put : Records → Hand → ℕ → Rec → ℕ → Hand
hand_put rs h p r spent = record h {
  reserved = without p (p + 1) h.reserved;
  claims = mark_newest (is_later p r) h.claims;
  credits = h.credits + brings rs h.claims - spent;
}

abbrev pub hand_won : Records → Hand → Ref → Hand
hand_won rs h s = record h { claims = fresh_claim s ∷ h.claims; allowance = h.allowance + places_of_steps rs s.0 }

-- a claim that is given back leaves the hand, and with it the places of its steps
abbrev pub hand_given_up : Records → Hand → ℕ → Hand
hand_given_up rs h s = record h { claims = without_claim s h.claims; allowance = h.allowance - places_of_steps rs s }

-- a claim whose suspension is completed leaves the hand. One that published nothing brings its credits now
abbrev pub hand_completed : Records → Hand → ℕ → Hand
hand_completed rs h s = record h { claims = without_claim s h.claims; credits = h.credits + cond (is_unbuilt h s) (credits_at rs s) 0 }

abbrev pub hand_named : Hand → ℕ → Hand
hand_named h name = record h { names = h.names ++ name ∷ [] }

-- an event that begins brings its due, and the places that it may reserve itself
abbrev pub hand_begun : Hand → ℕ → ℕ → ℕ → Hand
hand_begun h name due direct = record h { open_rows = h.open_rows ++ record { name = name; refused = false } ∷ []; credits = h.credits + due; allowance = h.allowance + direct }

-- the rows that are worked on after the row of a name has ended
abbrev pub rows_after_end : ℕ → List OpenRow → List OpenRow
rows_after_end name rows = filter (λ (o : OpenRow). not (eqb o.name name)) rows

abbrev pub hand_ended : Hand → ℕ → Hand
hand_ended h name = record h {
  names = without name (name + 1) h.names;
  open_rows = rows_after_end name h.open_rows;
}

-- a heap that is bound to a caller stores word 0 of rows of its own
abbrev pub hand_mine : Option ℕ → ℕ → ℕ → Hand → Hand
hand_mine None name i h = h
hand_mine (Some caller) name i h = record h { mine = cond (eqb i 0) (name ∷ h.mine) h.mine }

-- ---- what is in hand agrees with the world

-- the rows of names in hand have the words that they had
abbrev pub KeepsWords : Hand → World → World → Type 0
KeepsWords h old new = (i : ℕ) → contains h.names i ≡ true → words_at new i ≡ words_at old i

-- the newest claim is at the offset before r in r's family, hasn't published the next one yet, and r is what it makes next
abbrev pub newest_makes : World → List HeldClaim → ℕ → ℕ → Rec → Bool
newest_makes w [] origin off r = false
newest_makes w (c ∷ cs) origin off r = not c.passed && holds (recs w) c.place.0 (λ s. is_pending s && eqb (family_of c.place.0 s).0 origin && eqb (suc (family_of c.place.0 s).1) off && is_next w s r)

-- a suspension of this origin and offset
abbrev pub is_at_offset : ℕ → ℕ → ℕ → Rec → Bool
is_at_offset origin off q s = is_pending s && eqb (family_of q s).0 origin && eqb (family_of q s).1 off

-- the next offset of a suspension's family isn't published
abbrev pub has_no_next : World → ℕ → Rec → Bool
has_no_next w s r = not (some_record w (is_at_offset (family_of s r).0 (suc (family_of s r).1)))

-- a claim is of a claimed suspension, and one that hasn't passed has no next offset
abbrev pub is_claim_well : World → HeldClaim → Bool
is_claim_well w c = is_claimed_at w c.place.0 && (c.passed || holds (recs w) c.place.0 (λ r. has_no_next w c.place.0 r))

-- the run's places are in the hand
pub record IsInHand (h : Hand) (run : Span) : Type 0 where
  pub each : (p : ℕ) → run.next ≤ p → p < run.end → contains h.reserved p ≡ true

-- a claim whose attempt has published the next suspension has published a place
abbrev pub is_marked_well : HeldClaim → Bool
is_marked_well c = implies c.passed c.built

-- the hand of a heap that has seen the world
pub record IsLawfulHand (w : World) (h : Hand) : Type 0 where
  pub claims : list_all (is_claim_well w) h.claims ≡ true
  pub marked : list_all is_marked_well h.claims ≡ true
  pub claims_once : all_distinct (claim_places h.claims) ≡ true
  pub reserved : (p : ℕ) → contains h.reserved p ≡ true → is_published (recs w) p ≡ false
  pub reserved_once : all_distinct h.reserved ≡ true
  pub names : (i : ℕ) → contains h.names i ≡ true → (1 ≤ i) × (is_ended_at (row_at w) i ≡ false)
  pub names_once : all_distinct h.names ≡ true
