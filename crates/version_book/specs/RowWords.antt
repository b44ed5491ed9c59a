-- How the words of a row are stored, of which the steps on a row are made.
use Rattle.std.specs.Prelude.{◌≡◌, ◌≢◌, ℕ, ◌+◌, ◌*◌, ◌<◌, ◌≤◌, Bool, true, cond, Some, List}
use Rattle.lazy_rec.specs.declared.events.Event.{Event}
use Rattle.lazy_rec.specs.declared.events.Reply.{Reply}
use Rattle.lazy_rec.specs.History.{event_of}
use Rattle.heap_store.specs.World.{World}
use Rattle.heap_store.specs.Rows.{Row, not_ended, row_at, word_at}
use Rattle.heap_store.specs.Hand.{Hand, contains, hand_begun, hand_mine}
use Rattle.heap_store.specs.Budget.{due_at, direct_at}
use Rattle.heap_store.specs.RowCalls.{is_word_value}
use Rattle.heap_store.specs.View.{View}
use Rattle.version_book.specs.Words.{AreReplyWords}
use Rattle.version_book.specs.RowSteps.{OnRow}

-- where there is a plan, words 1 and 2 are those of the plan's event
abbrev pub IsPlannedWord : View → ℕ → ℕ → ℕ → Type 0
IsPlannedWord v name i value = (events : List Event) → v.about.plan ≡ Some events → (e : Event) → event_of events name ≡ Some e → (i ≡ 1 → value ≡ e.base + 4294967296 * e.other) × (i ≡ 2 → value ≡ e.arg)

-- what storing another word than the first and the end word asks, of a row that hasn't ended: words 1 and 2 come before word 0
pub record MayPut (v : View) (name i value : ℕ) : Type 0 where
  pub drawn : contains v.hand.names name ≡ true
  pub later : 1 ≤ i
  pub word : i < 8
  pub inner : i ≢ 5
  pub fits : is_word_value i value ≡ true
  pub open_yet : word_at v.seen name 5 ≡ 0
  pub once : i < 3 → word_at v.seen name 0 ≡ 0
  pub planned : IsPlannedWord v name i value

-- words of the row were stored that say nothing yet
pub record Unsaid (old new : View) (name : ℕ) : Type 0 where
  pub on : OnRow old new name
  pub row : row_at new.seen name ≡ row_at old.seen name
  pub hand : new.hand ≡ old.hand

-- one word was
pub record WordPut (old new : View) (name i value : ℕ) : Type 0 where
  pub unsaid : Unsaid old new name
  pub here : word_at new.seen name i ≡ value
  pub others : (j : ℕ) → j ≢ i → word_at new.seen name j ≡ word_at old.seen name j

-- the words of a reply were
pub record ReplyPut (old new : View) (name : ℕ) (reply : Reply) : Type 0 where
  pub unsaid : Unsaid old new name
  pub here : AreReplyWords (word_at new.seen name 4) (word_at new.seen name 7) reply
  pub others : (j : ℕ) → j ≢ 4 → j ≢ 7 → word_at new.seen name j ≡ word_at old.seen name j

-- the row of an event that hasn't ended: begun, or to be skipped
abbrev pub started_row : ℕ → Event → Bool → Row
started_row caller e begun = record { caller = caller; event = e; begun = begun; ending = not_ended }

-- the hand once such a row stands in the world `w`
abbrev pub hand_started : View → World → ℕ → Bool → Hand
hand_started v w name begun = hand_mine v.about.caller name 0 (cond begun (hand_begun v.hand name (due_at w name) (direct_at w name)) v.hand)

-- words 0 to 2 were stored, and no other
pub record RowStarted (old new : View) (caller name : ℕ) (e : Event) (begun : Bool) : Type 0 where
  pub on : OnRow old new name
  pub here : row_at new.seen name ≡ Some (started_row caller e begun)
  pub empty : (j : ℕ) → 3 ≤ j → word_at new.seen name j ≡ 0
  pub hand : new.hand ≡ hand_started old new.seen name begun
