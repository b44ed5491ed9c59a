-- The calls on names and rows: what they ask and what they do.
use Rattle.std.specs.Prelude.{◌≡◌, ◌≢◌, ℕ, zero, suc, ◌+◌, ◌*◌, ◌/◌, ◌%◌, ◌^◌, ◌<◌, ◌≤◌, eqb, leb, ltb, Bool, true, false, cond, ◌&&◌, ◌||◌, Option, Some, None, List, [], ◌∷◌, is_some, slice_index_or}
use Rattle.lazy_rec.specs.declared.events.Event.{Event}
use Rattle.lazy_rec.specs.declared.limits.TheConstants.{MOST_DRAWN}
use Rattle.std.specs.List.{list_any}
use Rattle.lazy_rec.specs.Tests.{is_some_and}
use Rattle.lazy_rec.specs.History.{event_of}
use Rattle.heap_store.specs.declared.claims.OpenRow.{OpenRow}
use Rattle.heap_store.specs.declared.claims.Full.{Full}
use Rattle.heap_store.specs.declared.claims.NamesFull.{NamesFull}
use Rattle.heap_store.specs.Rows.{Row, Ending, full, is_full, op_of_word, is_reply_word, is_second_word, is_ended_at, version_of_word, is_begun_word, caller_of_word, row_at, word_at, store_word}
use Rattle.heap_store.specs.World.{World}
use Rattle.heap_store.specs.Growth.{Grows}
use Rattle.heap_store.specs.Legal.{IsLegal, FollowsPlan}
use Rattle.heap_store.specs.LookedAt.{HasRoots}
use Rattle.heap_store.specs.Hand.{Hand, KeepsWords, contains, hand_named, hand_begun, hand_ended, hand_mine}
use Rattle.heap_store.specs.Budget.{due_at, direct_at}
use Rattle.heap_store.specs.View.{View}
use Rattle.heap_store.specs.Causes.{HasCause}

-- ---- names

-- a name was drawn: the next one of an alone heap, and greater than every name of which a word was seen
pub record NameDrawn (old new : View) (name : ℕ) : Type 0 where
  pub grows : Grows old.seen new.seen
  pub words : KeepsWords old.hand old.seen new.seen
  pub low : 1 ≤ name
  pub high : name ≤ old.about.rows
  pub unseen : (i j : ℕ) → word_at old.seen i j ≢ 0 → i < name
  -- nobody has stored a word of it
  pub empty : (j : ℕ) → word_at new.seen name j ≡ 0
  pub hand : new.hand ≡ hand_named old.hand name
  pub about : new.about ≡ old.about
  pub refusals : new.refusals ≡ old.refusals
  pub alone : old.about.alone ≡ true → (new.seen ≡ old.seen) × (new.drawn ≡ old.drawn) × (name ≡ old.named + 1) × (new.named ≡ name)

-- no name was left
pub record NoName (old new : View) (none : NamesFull) : Type 0 where
  pub grows : Grows old.seen new.seen
  pub words : KeepsWords old.hand old.seen new.seen
  pub hand : new.hand ≡ old.hand
  pub about : new.about ≡ old.about
  pub refusals : new.refusals ≡ old.refusals
  pub full : old.about.rows ≤ none.drawn
  pub told : none.drawn ≤ new.named
  pub alone : old.about.alone ≡ true → (new ≡ old) × (none.drawn ≡ old.named)

-- ---- words of rows

-- the word of a version of fewer than 2 ^ 31 items
abbrev pub is_version_word : ℕ → Bool
is_version_word w = is_some (version_of_word 0 w) && ltb (w / 2 ^ 32) (2 ^ 31)

-- the drawn and the wanted number of a refusal
abbrev pub is_refusal_word : ℕ → Bool
is_refusal_word w = leb (w % 2 ^ 32) MOST_DRAWN && ltb (w / 2 ^ 32) (2 ^ 32)

-- the values that a word can have; 0 is none of words 0 and 5
abbrev pub is_word_value : ℕ → ℕ → Bool
is_word_value i w = slice_index_or
    (is_some (op_of_word w) ∷ ltb w (2 ^ 64) ∷ ltb w (2 ^ 64) ∷ is_version_word w ∷ (is_reply_word w || is_refusal_word w) ∷ (leb 1 w && leb w 4) ∷ is_second_word w ∷ ltb w (2 ^ 64) ∷ []) i false

-- a reserve was refused since the row of this name was begun
abbrev pub was_refused : Hand → ℕ → Bool
was_refused h name = list_any (λ (o : OpenRow). eqb o.name name && o.refused) h.open_rows

-- the word 0 of a begun row
abbrev pub begins_row : ℕ → ℕ → Bool
begins_row zero w = is_begun_word w
begins_row (suc i) w = false

-- the word with which a row ends
abbrev pub ends_row : ℕ → Bool
ends_row i = eqb i 5

-- what the row that comes to be ended is: full exactly where a reserve was refused since it was begun, with the numbers of the
-- last refusal; and where it ends without an answer this heap has seen the cause
pub record EndsWell (v : View) (name : ℕ) (r : Row) : Type 0 where
  pub idle : v.hand.claims ≡ []
  pub full_where : is_full r.ending ≡ (r.begun && was_refused v.hand name)
  pub numbers : (drawn wanted : ℕ) → r.ending ≡ full drawn wanted → (drawn ≡ v.refusals.last.drawn) × (wanted ≡ v.refusals.last.wanted)
  pub cause : HasCause v.seen (direct_at v.seen name) r.ending

-- what storing a word asks
pub record MayStore (v : View) (name i value : ℕ) : Type 0 where
  pub drawn : contains v.hand.names name ≡ true
  pub word : i < 8
  pub fits : is_word_value i value ≡ true
  -- words 0 to 2 aren't stored once word 0 is
  pub once : i < 3 → word_at v.seen name 0 ≡ 0
  pub caller : (c : ℕ) → v.about.caller ≡ Some c → i ≡ 0 → caller_of_word value ≡ c
  pub ended : ends_row i ≡ true → is_ended_at (row_at (store_word v.seen name i value)) name ≡ true
  pub end : ends_row i ≡ true → (r : Row) × (row_at (store_word v.seen name i value) name ≡ Some r) × EndsWell v name r
  -- with the word the rows are legal, and where it ends a row its base was looked at
  pub legal : IsLegal (store_word v.seen name i value)
  pub roots : HasRoots (store_word v.seen name i value)
  pub plan : FollowsPlan v.about.plan (row_at (store_word v.seen name i value))
  pub plan_words : (events : List Event) → v.about.plan ≡ Some events → (e : Event) → event_of events name ≡ Some e → (i ≡ 1 → value ≡ e.base + 4294967296 * e.other) × (i ≡ 2 → value ≡ e.arg)

-- where the word begins the row, it stands in the world `w`
abbrev pub hand_stored : World → Hand → ℕ → ℕ → ℕ → Hand
hand_stored w h name i value = elim (begins_row i value) [ true ↦ hand_begun h name (due_at w name) (direct_at w name) | false ↦ elim (ends_row i) [ true ↦ hand_ended h name | false ↦ h ] ]

-- a row that ends full with the numbers of an add in vain takes them from the hand
abbrev pub has_numbers : Full → Ending → Bool
has_numbers f (full drawn wanted) = eqb f.drawn drawn && eqb f.wanted wanted
has_numbers f _ = false

abbrev pub vain_after : Bool → Option Row → Option Full → Option Full
vain_after ended row None = None
vain_after ended row (Some f) = cond (ended && is_some_and (λ (r : Row). has_numbers f r.ending) row) None (Some f)

-- the word was stored, and its row has begun or ended with it, or neither
pub record Stored (old new : View) (name i value : ℕ) : Type 0 where
  pub grows : Grows old.seen new.seen
  pub words : KeepsWords old.hand (store_word old.seen name i value) new.seen
  pub word : word_at new.seen name i ≡ value
  pub hand : new.hand ≡ hand_mine old.about.caller name i (record (hand_stored (store_word old.seen name i value) old.hand name i value) { vain = new.hand.vain })
  pub vain : new.hand.vain ≡ vain_after (ends_row i) (row_at (store_word old.seen name i value) name) old.hand.vain
  pub about : new.about ≡ old.about
  pub refusals : new.refusals ≡ old.refusals
  pub alone : old.about.alone ≡ true → (new.seen ≡ store_word old.seen name i value) × (new.drawn ≡ old.drawn) × (new.named ≡ old.named) × (new.hand ≡ hand_mine old.about.caller name i (hand_stored (store_word old.seen name i value) old.hand name i value))
