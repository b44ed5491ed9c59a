-- What each kind of step tells: of the seat before, the number found and the seat after.
use Rattle.std.specs.Prelude.{◌≡◌, ◌≢◌, ℕ, suc, ◌+◌, ◌<◌, ◌≤◌, true, false, List, [], ◌∷◌, Some, None, length, slice_index, slice_set, bit_or}
use mathlib.Core.Option.{some}
use lib.ListN.{get_elem?}
use Rattle.atomic_table.specs.Table.{Me, Step}
use Rattle.lazy_rec.specs.declared.limits.TheConstants.{MOST_DRAWN}
use Rattle.lazy_rec.specs.declared.places.Ref.{Ref}
use Rattle.lazy_rec.specs.declared.records.Rec.{Rec}
use Rattle.lazy_rec.specs.declared.states.SuspState.{SuspState}
use Rattle.lazy_rec.specs.declared.states.SuspState.TheVariants.{Unforced, Claimed, Done}
use Rattle.lazy_rec.specs.Named.{Records}
use Rattle.lazy_rec.specs.Packed.{words_of, in_range}
use Rattle.lazy_rec.specs.States.{state_in_range, state_word, is_unforced}
use Rattle.heap_store.specs.World.{recs, state_at}
use Rattle.heap_store.specs.Growth.{Grows}
use Rattle.heap_store.specs.Rows.{row_at, word_at, store_word}
use Rattle.heap_store.specs.RowCalls.{hand_stored, vain_after, ends_row}
use Rattle.heap_store.specs.Hand.{Hand, KeepsWords, contains, holds_claim, hand_reserved, hand_refused, hand_put, hand_won, hand_completed, hand_given_up, hand_named, hand_mine}
use Rattle.heap_store.specs.Budget.{gain_at}
use Rattle.word_world.specs.Words.{world_of, state_word_at, record_word_at, row_word_at, state_of_word}
use Rattle.word_store.specs.declared.sight.Sight.{Sight}
use Rattle.word_store.specs.Rule.{seen_by}
use Rattle.word_store.specs.Sound.{IsSound, IsWhole}

-- a seat with what it has seen, as the table knows it. The table's slots aren't used
abbrev pub Sat : Type 0
Sat = Me ℕ Sight

-- ---- hands

abbrev pub put_hand : Sight → ℕ → Rec → Hand
put_hand v p r = hand_put (recs (seen_by v)) v.hand p r (gain_at (seen_by v) p r)

-- a claim leaves the hand: given back, or done
abbrev pub spent_hand : Records → Hand → ℕ → SuspState → Hand
spent_hand rs h s (Unforced _) = hand_given_up rs h s
spent_hand rs h s (Claimed _) = h
spent_hand rs h s (Done _ _ _) = hand_completed rs h s

-- a word of a row is stored, by this caller
abbrev pub row_hand : Sight → ℕ → ℕ → ℕ → ℕ → Hand
row_hand v caller name j x = hand_mine (Some caller) name j (record (hand_stored (store_word (seen_by v) name j x) v.hand name j x) { vain = vain_after (ends_row j) (row_at (store_word (seen_by v) name j x) name) v.hand.vain })

-- an add in vain leaves its numbers in the hand
abbrev pub vain_hand : Hand → ℕ → ℕ → Hand
vain_hand h drawn wanted = record h { vain = Some (record { drawn = drawn; wanted = wanted }) }

-- ---- steps

-- the seat after a step
abbrev pub sight_after : Sight → List ℕ → Hand → ℕ → Sight
sight_after v ws h n = record v { words = ws; told = []; hand = h; wasted = n }

-- what every step tells. A seat of all callers sees its own steps alone, and so the words `after`
pub record Goes (after : List ℕ) (m n : Sat) : Type 0 where
  pub is : n.0 ≡ sight_after m.0 n.0.words n.0.hand n.0.wasted
  pub slots : n.1 ≡ m.1
  pub grows : Grows (seen_by m.0) (seen_by n.0)
  pub names_up : slice_index m.0.words 1 ≤ slice_index n.0.words 1
  pub sound : IsSound n.0
  pub exact : length m.0.numbers ≡ m.0.callers → n.0.words ≡ after

-- a load tells a word of what is then seen
pub record Looked (st : Step ℕ) (m : Sat) (r : ℕ) (n : Sat) : Type 0 where
  pub goes : Goes m.0.words m n
  pub kept : KeepsWords m.0.hand (seen_by m.0) (seen_by n.0)
  pub hand : n.0.hand ≡ m.0.hand
  pub found : r ≡ slice_index n.0.words st.word
  -- the state of a claim in hand stays
  pub held : (p : ℕ) → holds_claim m.0.hand p ≡ true → slice_index n.0.words (state_word_at p) ≡ slice_index m.0.words (state_word_at p)

-- the load with which closing begins: a seat that took in others sees the words as they are, and so what each of them had seen
pub record LookedLast (m n : Sat) : Type 0 where
  pub is : n.0 ≡ sight_after m.0 n.0.words m.0.hand m.0.wasted
  pub slots : n.1 ≡ m.1
  pub grows : Grows (seen_by m.0) (seen_by n.0)
  pub told : (j : ℕ) (t : ℕ × ℕ × List ℕ) → get_elem? m.0.told j ≡ some t → Grows (world_of t.0 t.1 t.2) (seen_by n.0)
  pub sound : IsSound n.0
  pub whole : length m.0.numbers ≡ m.0.callers → IsWhole n.0

-- a load with which the rows that are worked on take note of a refusal
pub record Noted (st : Step ℕ) (m : Sat) (r : ℕ) (n : Sat) : Type 0 where
  pub goes : Goes m.0.words m n
  pub kept : KeepsWords m.0.hand (seen_by m.0) (seen_by n.0)
  pub hand : n.0.hand ≡ hand_refused m.0.hand

-- so many places came into the hand, or the number was added in vain
pub record Drew (st : Step ℕ) (m : Sat) (r : ℕ) (n : Sat) : Type 0 where
  pub goes : Goes (slice_set m.0.words 0 (r + st.first)) m n
  pub kept : KeepsWords m.0.hand (seen_by m.0) (seen_by n.0)
  pub low : r + st.first ≤ MOST_DRAWN
  pub least : slice_index m.0.words 0 ≤ r
  pub before : length m.0.numbers ≡ m.0.callers → slice_index m.0.words 0 ≡ r
  pub some : r + st.first ≤ m.0.nodes → n.0.hand ≡ hand_reserved m.0.hand (5 + r) st.first
  pub none : m.0.nodes < r + st.first → (m.0.hand.vain ≡ None) × (n.0.hand ≡ vain_hand m.0.hand r st.first)
  pub unheld : r + st.first ≤ m.0.nodes → (p : ℕ) → contains m.0.hand.reserved p ≡ true → p < 5 + r
  pub fresh : r + st.first ≤ m.0.nodes → (p : ℕ) (x : Rec) → recs (seen_by n.0) p ≡ Some x → p < 5 + r

-- a word of a place in hand is stored. The seat looks at nothing else
pub record Filled (st : Step ℕ) (m : Sat) (r : ℕ) (n : Sat) : Type 0 where
  pub is : n.0 ≡ record m.0 { words = slice_set m.0.words st.word st.first }
  pub slots : n.1 ≡ m.1

-- a record is published
pub record Published (st : Step ℕ) (m : Sat) (r : ℕ) (n : Sat) : Type 0 where
  pub goes : Goes (slice_set m.0.words st.word st.first) m n
  pub kept : KeepsWords m.0.hand (seen_by m.0) (seen_by n.0)
  pub hand : (p : ℕ) (x : Rec) → st.word ≡ record_word_at p 0
      → st.first ∷ slice_index m.0.words (record_word_at p 1) ∷ slice_index m.0.words (record_word_at p 2) ∷ slice_index m.0.words (record_word_at p 3) ∷ [] ≡ words_of x
      → in_range x ≡ true
      → (n.0.hand ≡ put_hand m.0 p x) × (recs (seen_by n.0) p ≡ Some x)

-- a claim was tried, where the state word was r
pub record Tried (st : Step ℕ) (m : Sat) (r : ℕ) (n : Sat) : Type 0 where
  pub goes : Goes (slice_set m.0.words st.word (bit_or r 1)) m n
  pub kept : KeepsWords m.0.hand (seen_by m.0) (seen_by n.0)
  pub proper : (state_in_range (state_of_word r) ≡ true) × (state_word (state_of_word r) ≡ r)
  pub before : length m.0.numbers ≡ m.0.callers → slice_index m.0.words st.word ≡ r
  pub won : (s : Ref) → st.word ≡ state_word_at s.0 → is_unforced (state_of_word r) ≡ true → n.0.hand ≡ hand_won (recs (seen_by m.0)) m.0.hand s
  pub lost : (s : ℕ) → st.word ≡ state_word_at s → is_unforced (state_of_word r) ≡ false → (n.0.hand ≡ m.0.hand) × (state_at (seen_by n.0) s ≡ Some (state_of_word r))

-- a claim is spent
pub record Spent (st : Step ℕ) (m : Sat) (r : ℕ) (n : Sat) : Type 0 where
  pub goes : Goes (slice_set m.0.words st.word st.first) m n
  pub kept : KeepsWords m.0.hand (seen_by m.0) (seen_by n.0)
  pub hand : (s : ℕ) → st.word ≡ state_word_at s → n.0.hand ≡ spent_hand (recs (seen_by m.0)) m.0.hand s (state_of_word st.first)
  pub state : (s : ℕ) → st.word ≡ state_word_at s → state_at (seen_by n.0) s ≡ Some (state_of_word st.first)

-- a name was drawn, or no name was left
pub record DrewName (st : Step ℕ) (m : Sat) (r : ℕ) (n : Sat) : Type 0 where
  pub goes : Goes (slice_set m.0.words 1 (r + 1)) m n
  pub kept : KeepsWords m.0.hand (seen_by m.0) (seen_by n.0)
  pub few : r < 9223372036854775808
  pub least : slice_index m.0.words 1 ≤ r
  pub before : length m.0.numbers ≡ m.0.callers → slice_index m.0.words 1 ≡ r
  pub some : r < m.0.rows → n.0.hand ≡ hand_named m.0.hand (suc r)
  pub none : m.0.rows ≤ r → n.0.hand ≡ m.0.hand
  pub unseen : (i j : ℕ) → word_at (seen_by m.0) i j ≢ 0 → i < suc r
  pub empty : (j : ℕ) → word_at (seen_by n.0) (suc r) j ≡ 0

-- a word of a row of a name in hand is stored
pub record StoredWord (st : Step ℕ) (m : Sat) (r : ℕ) (n : Sat) : Type 0 where
  pub goes : Goes (slice_set m.0.words st.word st.first) m n
  pub stored : (caller i j : ℕ) → m.0.numbers ≡ caller ∷ [] → j < 8 → i < m.0.rows → st.word ≡ row_word_at m.0.nodes i j
      → (KeepsWords m.0.hand (store_word (seen_by m.0) (suc i) j st.first) (seen_by n.0)) × (n.0.hand ≡ row_hand m.0 caller (suc i) j st.first) × (word_at (seen_by n.0) (suc i) j ≡ st.first)
