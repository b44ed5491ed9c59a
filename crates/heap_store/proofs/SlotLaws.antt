-- Slots of drawn places: what is read of one, and what a write shows.
use Rattle.std.proofs.Common.{◌≡◌, ℕ, zero, suc, ◌+◌, ◌-◌, ◌<◌, ◌≤◌, true, List, [], ◌∷◌, ◌++◌, length, map, replicate, Option, Some, None, refl, sym, ap, ◌∙◌, arith, ⊎_elim, is_some}
use Rattle.std.specs.Prelude.{option_map, slice_set, slice_index_or, sum_by}
use Rattle.std.proofs.lemmas.Bool.{cases_lt, true≢false}
use Rattle.std.proofs.lemmas.List.{length-map, map-append, map-set, get_or-map, length-append, length-replicate, length-set, replicate-append-replicate, append_assoc}
use Rattle.std.proofs.lemmas.List.Sums.{sum_by-cons}
use Rattle.lazy_rec.specs.declared.states.SuspState.{SuspState}
use Rattle.heap_store.specs.declared.nodes.Node.{Node}
use Rattle.heap_store.specs.declared.slots.Slot.{Slot}
use Rattle.heap_store.specs.declared.slots.SlotState.{SlotState}
use Rattle.heap_store.specs.declared.slots.SlotState.TheVariants.{Unforced}
use Rattle.heap_store.specs.declared.slots.TheConstants.{FREE}
use Rattle.heap_store.specs.Plain.{filled_up}
use Rattle.heap_store.specs.Budget.{node_count_of}
use Rattle.heap_store.specs.Slots.{state_in, node_in, shown_in, at_place, published_in}
use Rattle.heap_store.proofs.PlainLists.{filled-within, filled-beyond, filled-set, filled-more, length-filled}
use Rattle.heap_store.proofs.SumLaws.{sum-drawn, sum-shown}

pub length-shown : (slots : List Slot) (drawn : ℕ) → length slots ≤ drawn → length (shown_in slots drawn) ≡ drawn
length-shown slots drawn l = length-filled None drawn (map node_in slots) (rw length-map l)

-- the slot that an index reads
pub shown_at : (slots : List Slot) (drawn p : ℕ) (s : Slot) → p < length slots → s ≡ slice_index_or slots p s → at_place (shown_in slots drawn) p ≡ node_in s
shown_at slots drawn p s l is = filled-within None None drawn (map node_in slots) p (rw length-map l) ∙ (get_or-map node_in slots p s None l ∙ ap node_in (sym is))

pub shown_past : (slots : List Slot) (drawn p : ℕ) → length slots ≤ p → at_place (shown_in slots drawn) p ≡ None
shown_past slots drawn p l = filled-beyond None drawn (map node_in slots) p (rw length-map l)

-- what shows something has a slot
pub there : (slots : List Slot) (drawn p : ℕ) → is_some (at_place (shown_in slots drawn) p) ≡ true → p < length slots
there slots drawn p h = ⊎_elim (λ l. l) (λ l. absurd (true≢false (sym h ∙ ap is_some (shown_past slots drawn p l)))) (cases_lt p (length slots))

pub node_there : (o : Option Node) → is_some o ≡ true → (n : Node) × (o ≡ Some n)
node_there None h = absurd (true≢false (sym h))
node_there (Some n) h = (n, refl)

-- more drawn places
pub drawn_more : (slots : List Slot) (drawn k : ℕ) → length slots ≤ drawn → shown_in slots (drawn + k) ≡ shown_in slots drawn ++ replicate k None
drawn_more slots drawn k l =
    let xs = map node_in slots in
    let many : length xs ≡ length slots = length-map slots node_in in
    let more : drawn + k - length xs ≡ (drawn - length xs) + k = omega (arith, many) in
    ap (λ n. xs ++ replicate n None) more ∙ (ap (λ zs. xs ++ zs) (sym (replicate-append-replicate (drawn - length xs) k None)) ∙ sym (append_assoc xs (replicate (drawn - length xs) None) (replicate k None)))

map-free : (k : ℕ) → map node_in (replicate k FREE) ≡ replicate k None
map-free zero = refl
map-free (suc k) = ap (λ xs. None ∷ xs) (map-free k)

-- free slots show what was shown
pub filled_free : (slots : List Slot) (drawn k : ℕ) → length slots + k ≤ drawn → shown_in (slots ++ replicate k FREE) drawn ≡ shown_in slots drawn
filled_free slots drawn k l =
    ap (filled_up None drawn) (map-append node_in slots (replicate k FREE) ∙ ap (λ xs. map node_in slots ++ xs) (map-free k))
    ∙ filled-more None drawn k (map node_in slots) (rw length-map l)

-- a slot is written
pub slot_set : (slots : List Slot) (drawn p : ℕ) (s : Slot) → p < length slots → shown_in (slice_set slots p s) drawn ≡ slice_set (shown_in slots drawn) p (node_in s)
slot_set slots drawn p s l = ap (filled_up None drawn) (map-set node_in slots p s) ∙ sym (filled-set None drawn (map node_in slots) p (node_in s) (rw length-map l))

-- the next slot is pushed
set_last : (xs : List Slot) (s t : Slot) → slice_set (xs ++ s ∷ []) (length xs) t ≡ xs ++ t ∷ []
set_last [] s t = refl
set_last (x ∷ xs) s t = ap (λ ys. x ∷ ys) (set_last xs s t)

pub slot_pushed : (slots : List Slot) (drawn : ℕ) (s : Slot) → length slots < drawn → shown_in (slots ++ s ∷ []) drawn ≡ slice_set (shown_in slots drawn) (length slots) (node_in s)
slot_pushed slots drawn s l =
    let longer = slots ++ FREE ∷ [] in
    let many : length longer ≡ length slots + 1 = length-append slots (FREE ∷ []) in
    ap (λ xs. shown_in xs drawn) (sym (set_last slots FREE s))
    ∙ (slot_set longer drawn (length slots) s (omega (arith, many)) ∙ ap (λ xs. slice_set xs (length slots) (node_in s)) (filled_free slots drawn 1 (omega arith)))

-- a published place gets another state
some_same : (n : Node) (s : Slot) → node_in s ≡ Some n → n.rec ≡ s.rec
some_same n s h = go (state_in s) h
  where
    go : (t : Option SuspState) → option_map (λ (x : SuspState). record { rec = s.rec; state = x }) t ≡ Some n → n.rec ≡ s.rec
    go None h = cc
    go (Some x) h = let same : record { rec = s.rec; state = x } ≡ n = cc in sym (ap (λ (m : Node). m.rec) same)

pub state_set : (slots : List Slot) (drawn p : ℕ) (s : Slot) (state : SlotState) (x : SuspState) (n : Node) → p < length slots → s ≡ slice_index_or slots p s → at_place (shown_in slots drawn) p ≡ Some n → state_in (record { rec = n.rec; state = state }) ≡ Some x → shown_in (slice_set slots p (record s { state = state })) drawn ≡ slice_set (shown_in slots drawn) p (Some (record n { state = x }))
state_set slots drawn p s state x n l is here told =
    let old : n.rec ≡ s.rec = some_same n s (sym (shown_at slots drawn p s l is) ∙ here) in
    let same : node_in (record s { state = state }) ≡ node_in (record { rec = n.rec; state = state }) = ap (λ r. node_in (record { rec = r; state = state })) (sym old) in
    let new : node_in (record s { state = state }) ≡ Some (record n { state = x }) = same ∙ ap (option_map (λ (y : SuspState). record { rec = n.rec; state = y })) told in
    slot_set slots drawn p (record s { state = state }) l ∙ ap (λ o. slice_set (shown_in slots drawn) p o) new

-- free slots behind the others
length-behind : (slots : List Slot) (k : ℕ) → length (slots ++ replicate k FREE) ≡ length slots + k
length-behind slots k = length-append slots (replicate k FREE) ∙ ap (λ n. length slots + n) (length-replicate k FREE)

-- a slot is written behind free ones
pub slot_put : (slots : List Slot) (drawn p : ℕ) (s : Slot) → length slots ≤ drawn → p < drawn → shown_in (slice_set (slots ++ replicate (p + 1 - length slots) FREE) p s) drawn ≡ slice_set (shown_in slots drawn) p (node_in s)
slot_put slots drawn p s l h =
    let k = p + 1 - length slots in
    let longer = slots ++ replicate k FREE in
    let many = length-behind slots k in
    slot_set longer drawn p s (omega (arith, many)) ∙ ap (λ xs. slice_set xs p (node_in s)) (filled_free slots drawn k (omega arith))

pub put_within : (slots : List Slot) (drawn p : ℕ) (s : Slot) → length slots ≤ drawn → p < drawn → length (slice_set (slots ++ replicate (p + 1 - length slots) FREE) p s) ≤ drawn
put_within slots drawn p s l h =
    let k = p + 1 - length slots in
    omega (arith, length-behind slots k, length-set (slots ++ replicate k FREE) p s)

-- ---- how many places are published

-- no more than there are slots
counted : (places : List (Option Node)) → sum_by node_count_of places ≤ length places
counted [] = omega arith
counted (None ∷ places) = omega (arith, sum_by-cons node_count_of None places, counted places)
counted (Some n ∷ places) = omega (arith, sum_by-cons node_count_of (Some n) places, counted places)

published_slots : (slots : List Slot) (drawn : ℕ) → published_in (shown_in slots drawn) ≤ length slots
published_slots slots drawn = omega (arith, sum-drawn node_count_of refl (map node_in slots) (drawn - length (map node_in slots)), counted (map node_in slots), length-map slots node_in)

-- more places are drawn
pub published_more : (shown : List (Option Node)) (k : ℕ) → published_in (shown ++ replicate k None) ≡ published_in shown
published_more shown k = sum-drawn node_count_of refl shown k

-- the next place is published
pub next_published : (slots : List Slot) (drawn gaps : ℕ) (new : Slot) → length slots < drawn → gaps + published_in (shown_in slots drawn) ≡ length slots → node_count_of (node_in new) ≡ 1 → gaps + published_in (shown_in (slots ++ new ∷ []) drawn) ≡ length (slots ++ new ∷ [])
next_published slots drawn gaps new l counts one =
    let shown = shown_in slots drawn in
    let put = ap published_in (slot_pushed slots drawn new l) in
    let more = sum-shown node_count_of shown (length slots) None (node_in new) (omega (arith, length-shown slots drawn (omega arith), l)) (shown_past slots drawn (length slots) (omega arith)) in
    omega (arith, put, more, counts, one, length-append slots (new ∷ []))

-- a slot is written behind free ones, which are gaps from then on
record IsGapClosed (slots : List Slot) (drawn gaps gap : ℕ) : Type 0 where
  low : gap ≤ gaps
  counts : gaps - gap + published_in (shown_in slots drawn) ≡ length slots

module _ (slots : List Slot) (drawn p gaps gap before after : ℕ) (old : Slot) (l : length slots ≤ drawn) (h : p < drawn) (counts : gaps + published_in (shown_in slots drawn) ≡ length slots) (is : old ≡ slice_index_or (slots ++ replicate (p + 1 - length slots) FREE) p old) (old_one : gap + node_count_of (node_in old) ≡ 1) (is_before : before ≡ length slots) (is_after : after ≡ length (slots ++ replicate (p + 1 - length slots) FREE)) where
  closed : (new : Slot) → node_count_of (node_in new) ≡ 1 → IsGapClosed (slice_set (slots ++ replicate (p + 1 - length slots) FREE) p new) drawn (gaps + (after - before)) gap
  closed new one =
      let k = p + 1 - length slots in
      let longer = slots ++ replicate k FREE in
      let many = length-behind slots k in
      let low : p < length longer = omega (arith, many) in
      let same = ap published_in (filled_free slots drawn k (omega arith)) in
      let put = ap published_in (slot_set longer drawn p new low) in
      let more = sum-shown node_count_of (shown_in longer drawn) p (node_in old) (node_in new) (omega (arith, length-shown longer drawn (omega (arith, many)), h)) (shown_at longer drawn p old low is) in
      let most = published_slots (slice_set longer p new) drawn in
      let long : length (slice_set longer p new) ≡ length longer = length-set longer p new in
      record {
        low = omega (arith, counts, old_one, one, is_before, is_after, many, same, put, more, most, long);
        counts = omega (arith, counts, old_one, one, is_before, is_after, many, same, put, more, most, long);
      }

  pub gap_low : gap ≤ gaps + (after - before)
  gap_low = (closed (record { rec = old.rec; state = Unforced 0 }) refl).low

  pub gap_closed : (new : Slot) → node_count_of (node_in new) ≡ 1 → gaps + (after - before) - gap + published_in (shown_in (slice_set (slots ++ replicate (p + 1 - length slots) FREE) p new) drawn) ≡ length (slice_set (slots ++ replicate (p + 1 - length slots) FREE) p new)
  gap_closed new one = (closed new one).counts

-- a published place shows another node
pub published_same : (slots : List Slot) (drawn p : ℕ) (old new : Node) → length slots ≤ drawn → p < drawn → at_place (shown_in slots drawn) p ≡ Some old → published_in (slice_set (shown_in slots drawn) p (Some new)) ≡ published_in (shown_in slots drawn)
published_same slots drawn p old new l h here = omega (arith, sum-shown node_count_of (shown_in slots drawn) p (Some old) (Some new) (omega (arith, length-shown slots drawn l, h)) here)
