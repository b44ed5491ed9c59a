-- Storing a word of a row keeps the rule.
use Rattle.std.proofs.Common.{◌≡◌, ◌≢◌, ℕ, zero, suc, ◌+◌, ◌<◌, ◌≤◌, List, [], ◌∷◌, length, refl, sym, ap, ap₂, ◌∙◌, arith, subst, Bool, true, false, cond, Option, Some, None, eqb, ltb}
use Rattle.std.specs.Prelude.{slice_index, slice_set, option_map, option_and_then, min, is_some}
use Rattle.std.specs.List.{list_all}
use Rattle.std.proofs.lemmas.Bool.{true≢false, cases_eq, eq-eqb, eqb-true, or_left, or_right}
use Rattle.std.proofs.lemmas.List.{get_or-set_other, length-set}
use mathlib.Core.Logic.{⊎_elim}
use mathlib.Core.Option.{some}
use lib.ListN.{get_elem?}
use Rattle.lazy_rec.specs.History.{event_of}
use Rattle.heap_store.specs.declared.claims.Full.{Full}
use Rattle.heap_store.specs.World.{World, recs, is_published, is_claimed_at, fixed_places}
use Rattle.heap_store.specs.Rows.{Row, row_at, row_of, row_with, op_of_word, caller_of_word, words_at, word_at, word, store_word, is_ended_at}
use Rattle.heap_store.specs.RowCalls.{MayStore, begins_row, ends_row, hand_stored, vain_after}
use Rattle.heap_store.specs.Growth.{Grows, begun_of}
use Rattle.heap_store.specs.Legal.{IsLegal, FollowsPlan}
use Rattle.heap_store.specs.LookedAt.{HasRoots}
use Rattle.heap_store.specs.Hand.{Hand, IsLawfulHand, contains, all_distinct, claim_places, without, is_claim_well, is_marked_well}
use Rattle.heap_store.specs.Shared.{one_if}
use Rattle.heap_store.specs.Budget.{IsBalanced}
use Rattle.heap_store.specs.Plain.{is_ended_row}
use Rattle.lazy_rec.specs.Due as by_kind
use Rattle.heap_store.proofs.LawfulLaws.{lawful_names}
use Rattle.heap_store.proofs.PlainRows.{hand_if}
use Rattle.heap_store.proofs.OpenLaws.{hand_open}
use Rattle.heap_store.proofs.RowBudget.{EndedStay, row_same}
use Rattle.heap_store.proofs.ShowLaws.{one_value}
use Rattle.heap_store.proofs.WordLaws.{words-same, words-other, row-other}
use Rattle.word_world.specs.Words.{state_word_at, record_word_at, row_word_at, world_of, row_words}
use Rattle.word_world.specs.LawfulWords.{IsLawfulWords}
use Rattle.word_world.proofs.Tables.{tabulate-at, length-tabulate}
use Rattle.word_world.proofs.Worlds.{row_same as words_same}
use Rattle.word_world.proofs.Lifts.{without_other, without_same, without_in, distinct_filter}
use Rattle.word_world.proofs.Histories.{history_up, roots_up}
use Rattle.word_world.proofs.RowWords.{own_word, open_after, word5_after, stored_grows}
use Rattle.word_world.proofs.WordSteps.{stored_world, stored_lawful, stored_other}
use Rattle.word_store.specs.declared.sight.Sight.{Sight}
use Rattle.word_store.specs.declared.sight.Size.{Size}
use Rattle.word_store.specs.Rule.{IsKept, IsSeat, shows, seen_by, running, KnowsRows, plan_of}
use Rattle.word_store.specs.Sound.{IsSound}
use Rattle.word_store.specs.Views.{view_with}
use Rattle.word_store.specs.Plays.{sight_after, row_hand}
use Rattle.word_store.proofs.Sums.{one_true, terms_le}
use Rattle.word_store.proofs.Moves.{St, Move, Tells, sees_now}
use Rattle.word_store.proofs.Told.{tells_row}
use Rattle.word_store.proofs.Seats.{name_open, others_name}
use Rattle.word_store.proofs.Balances.{stored_balance, alike_balance}
use Rattle.word_store.proofs.PlaceSteps.{full_if, calm_if, few_if}

-- ---- the hand

module _ (b e : Bool) (w : World) (h : Hand) (name : ℕ) where
  if_claims : (hand_if b e w h name).claims ≡ h.claims
  if_claims = by b e
    where
      by : (b e : Bool) → (hand_if b e w h name).claims ≡ h.claims
      by true e = refl
      by false true = refl
      by false false = refl

  if_reserved : (hand_if b e w h name).reserved ≡ h.reserved
  if_reserved = by b e
    where
      by : (b e : Bool) → (hand_if b e w h name).reserved ≡ h.reserved
      by true e = refl
      by false true = refl
      by false false = refl

  if_mine : (hand_if b e w h name).mine ≡ h.mine
  if_mine = by b e
    where
      by : (b e : Bool) → (hand_if b e w h name).mine ≡ h.mine
      by true e = refl
      by false true = refl
      by false false = refl

  if_names : e ≡ false → (hand_if b e w h name).names ≡ h.names
  if_names = by b e
    where
      by : (b e : Bool) → e ≡ false → (hand_if b e w h name).names ≡ h.names
      by true e f = refl
      by false true f = absurd (true≢false f)
      by false false f = refl

-- a number of an add in vain isn't made by a word
vain_from : (ended : Bool) (row : Option Row) (o : Option Full) → is_some (vain_after ended row o) ≡ true → is_some o ≡ true
vain_from ended row None e = e
vain_from ended row (Some n) e = refl

-- ---- a row that a word shows

-- where word 0 isn't stored with it, the row was there, with the same caller
row_before : (name : ℕ) (xs ys : List ℕ) (r : Row) → word xs 0 ≡ word ys 0 → row_of name ys ≡ Some r → (t : Row) × (row_of name xs ≡ Some t) × (t.caller ≡ r.caller)
row_before name xs ys r same e = by (op_of_word (word ys 0)) refl e
  where
    by : (o : _) → op_of_word (word ys 0) ≡ o → option_map (row_with name ys) o ≡ Some r → (t : Row) × (row_of name xs ≡ Some t) × (t.caller ≡ r.caller)
    by None h g = cc
    by (Some op) h g = (
      row_with name xs op,
      ap (option_map (row_with name xs)) (ap op_of_word same ∙ h),
      ap caller_of_word same ∙ ap (λ (t : Row). t.caller) (one_value (row_with name ys op) r g),
    )

row_caller : (name : ℕ) (ys : List ℕ) (r : Row) → row_of name ys ≡ Some r → r.caller ≡ caller_of_word (word ys 0)
row_caller name ys r e = by (op_of_word (word ys 0)) e
  where
    by : (o : _) → option_map (row_with name ys) o ≡ Some r → r.caller ≡ caller_of_word (word ys 0)
    by None g = cc
    by (Some op) g = sym (ap (λ (t : Row). t.caller) (one_value (row_with name ys op) r g))

module _ (k : Size) (s : St) (o : IsKept k s) (id : ℕ) (v : Sight) (me : get_elem? s.views id ≡ some v) (caller : ℕ) (number : v.numbers ≡ caller ∷ []) (told : v.told ≡ []) (sound : IsSound v)
    (refused : ℕ) (last : Full) (drawn named i j x : ℕ) (may : MayStore (view_with v caller refused last drawn named) (suc i) j x) where
  f : IsSeat k s.words v
  f = o.seats id v me

  rights : 0 < length v.numbers
  rights = omega (arith, ap length number)

  sizes : (v.nodes ≡ k.nodes) × (v.rows ≡ k.rows) × (v.callers ≡ k.callers) × (v.plan ≡ (plan_of k))
  sizes = (o.seats id v me).size rights

  abbrev w : World
  w = shows k s.words

  abbrev a : World
  a = seen_by v

  abbrev ws : List ℕ
  ws = slice_set s.words (row_word_at k.nodes i j) x

  -- the world with the word, as it is and as it was seen
  abbrev w' : World
  w' = store_word w (suc i) j x

  abbrev a' : World
  a' = store_word a (suc i) j x

  seen_grows : Grows (seen_by v) (shows k s.words)
  seen_grows = subst (λ y. Grows y (shows k s.words)) (ap₂ (λ c d. world_of c d v.words) (sym sizes.0) (sym sizes.1)) f.seen

  mine : (is_ended_at (row_at (shows k s.words)) (suc i) ≡ false) × (i < slice_index s.words 1) × (i < k.rows)
  mine = name_open k s o id v me i may.drawn

  row_in : i < length (shows k s.words).rows
  row_in = omega (arith, mine.2, length-tabulate (row_words k.nodes s.words) 0 k.rows)

  row_seen : i < length (seen_by v).rows
  row_seen = omega (arith, mine.2, sizes.1, length-tabulate (row_words v.nodes v.words) 0 v.rows)

  row_at_words : (nodes rows : ℕ) (ws : List ℕ) → i < rows → words_at (world_of nodes rows ws) (suc i) ≡ row_words nodes ws i
  row_at_words nodes rows ws low = tabulate-at (row_words nodes ws) 0 rows i [] low ∙ ap (row_words nodes ws) {x = 0 + i} {y = i} (omega arith)

  -- the row is as it was seen
  same : words_at (shows k s.words) (suc i) ≡ words_at (seen_by v) (suc i)
  same = row_at_words k.nodes k.rows s.words mine.2 ∙ (words_same k.nodes s.words v.words i (λ q low. sym (f.row_words told i q may.drawn low))
      ∙ (ap (λ n. row_words n v.words i) (sym sizes.0) ∙ sym (row_at_words v.nodes v.rows v.words (omega (arith, mine.2, sizes.1)))))

  wide : length (words_at (shows k s.words) (suc i)) ≡ 8
  wide = ap length (row_at_words k.nodes k.rows s.words mine.2)

  here : words_at (store_word (shows k s.words) (suc i) j x) (suc i) ≡ words_at (store_word (seen_by v) (suc i) j x) (suc i)
  here = words-same (shows k s.words) i j x row_in ∙ (ap (λ r. slice_set r j x) same ∙ sym (words-same (seen_by v) i j x row_seen))

  row_here : row_at (store_word (shows k s.words) (suc i) j x) (suc i) ≡ row_at (store_word (seen_by v) (suc i) j x) (suc i)
  row_here = ap (row_of (suc i)) here

  once : j < 3 → word_at (shows k s.words) (suc i) 0 ≡ 0
  once l = ap (λ r. word r 0) same ∙ may.once l

  ends : ends_row j ≡ true → is_ended_at (row_at (store_word (shows k s.words) (suc i) j x)) (suc i) ≡ true
  ends e = ap is_ended_row row_here ∙ may.ended e

  word5 : word_at (shows k s.words) (suc i) 5 ≡ 0
  word5 = o.well.unended i mine.0

  now : shows k (slice_set s.words (row_word_at k.nodes i j) x) ≡ store_word (shows k s.words) (suc i) j x
  now = stored_world k.nodes k.rows (plan_of k) s.words o.wide o.well i j x mine.2 may.word mine.1

  grows : Grows (shows k s.words) (store_word (shows k s.words) (suc i) j x)
  grows = stored_grows (shows k s.words) i j x row_in wide may.word mine.0 once ends word5

  others : (w : World) → i < length w.rows → (n : ℕ) → n ≢ suc i → row_at (store_word w (suc i) j x) n ≡ row_at w n
  others w low zero ne = refl
  others w low (suc m) ne = row-other w i j x low m (λ e. ne (ap suc e))

  keeps_seen : EndedStay (store_word (seen_by v) (suc i) j x) (store_word (shows k s.words) (suc i) j x)
  keeps_seen n r e ended = ⊎_elim
      (λ eq. ap (row_at w') eq ∙ (row_here ∙ (ap (row_at a') (sym eq) ∙ e)))
      (λ ne. others w row_in n ne ∙ seen_grows.ended n r (sym (others a row_seen n ne) ∙ e) ended) (cases_eq n (suc i))

  legal : IsLegal (store_word (shows k s.words) (suc i) j x)
  legal = history_up (recs a) (recs w) (lawful_names sound.well.world) (lawful_names o.well.world) seen_grows.records (row_at a') (row_at w) (row_at w') (suc i) keeps_seen grows.ended row_here (others w row_in) may.legal o.well.legal

  roots : HasRoots (store_word (shows k s.words) (suc i) j x)
  roots =
      let t = roots_up a w (lawful_names sound.well.world) (lawful_names o.well.world) seen_grows (row_at a') (row_at w) (row_at w') (suc i) keeps_seen grows.ended row_here (others w row_in) may.legal o.well.legal
      (record { roots = may.roots.roots; looked = may.roots.looked }) o.well.roots in
      record { roots = t.roots; looked = t.looked }

  follows : FollowsPlan (plan_of k) (row_at (store_word (shows k s.words) (suc i) j x))
  follows events e n r h = ⊎_elim
      (λ eq. ap (event_of events) eq ∙ may.plan events (sizes.3 ∙ e) (suc i) r (sym row_here ∙ (ap (row_at w') (sym eq) ∙ h)))
      (λ ne. o.well.plan_kept events e n r (sym (others w row_in n ne) ∙ h)) (cases_eq n (suc i))

  not_last : ends_row j ≡ false → 5 ≡ j → ⊥
  not_last e eq = true≢false (sym (eq-eqb j 5 (sym eq)) ∙ e)

  well : IsLawfulWords k.nodes k.rows (plan_of k) (slice_set s.words (row_word_at k.nodes i j) x)
  well = stored_lawful k.nodes k.rows (plan_of k) s.words o.wide o.well i j x mine.2 may.word mine.1 legal roots follows (λ e. word5_after w i j x row_in wide may.word mine.0 once ends word5 (λ five. true≢false (sym (ends (eq-eqb j 5 (sym five))) ∙ e)))

  other : (n : ℕ) → (n ≡ row_word_at k.nodes i j → ⊥) → slice_index (slice_set s.words (row_word_at k.nodes i j) x) n ≡ slice_index s.words n
  other n ne = get_or-set_other s.words (row_word_at k.nodes i j) n x 0 ne

  -- ---- the rows

  row_stays : (m : ℕ) → m ≢ i → row_at (shows k (slice_set s.words (row_word_at k.nodes i j) x)) (suc m) ≡ row_at (shows k s.words) (suc m)
  row_stays = stored_other k.nodes k.rows (plan_of k) s.words o.wide o.well i j x mine.2 may.word mine.1

  ended_here : ends_row j ≡ true → is_ended_at (row_at (shows k (slice_set s.words (row_word_at k.nodes i j) x))) (suc i) ≡ true
  ended_here e = ap (λ y. is_ended_at (row_at y) (suc i)) now ∙ ends e

  open_here : ends_row j ≡ false → is_ended_at (row_at (shows k (slice_set s.words (row_word_at k.nodes i j) x))) (suc i) ≡ false
  open_here e = ap (λ y. is_ended_at (row_at y) (suc i)) now ∙ open_after w i j x row_in wide may.word mine.0 once ends word5 (not_last e)

  -- a row with a caller's number was there before, or is the one that is stored now
  row_known : (n : ℕ) (r : Row) → row_at (shows k (slice_set s.words (row_word_at k.nodes i j) x)) n ≡ Some r
      → (P : Type 0) → ((t : Row) → row_at (shows k s.words) n ≡ Some t → t.caller ≡ r.caller → P) → (n ≡ suc i → j ≡ 0 → r.caller ≡ caller → P) → P
  row_known zero r e P old new = cc
  row_known (suc m) r e P old new = ⊎_elim
      (λ eq. ⊎_elim
      (λ first. new (ap suc eq) first (row_caller (suc i) (words_at w' (suc i)) r (at eq)
      ∙ (ap caller_of_word (ap (λ z. word_at w' (suc i) z) (sym first) ∙ own_word w i j x row_in wide may.word mine.0 once ends word5) ∙ may.caller caller refl first)))
      (λ later. (let t = row_before (suc i) (words_at w (suc i)) (words_at w' (suc i)) r (sym (ap (λ ys. word ys 0) (words-same w i j x row_in) ∙ get_or-set_other (words_at w (suc i)) j 0 x 0 (λ z. later (sym z)))) (at eq) in
      old t.0 (ap (λ z. row_at w (suc z)) eq ∙ t.1) t.2))
      (cases_eq j 0))
      (λ ne. old r (sym (row_stays m ne) ∙ e) refl)
      (cases_eq m i)
    where
      at : m ≡ i → row_of (suc i) (words_at (store_word (shows k s.words) (suc i) j x) (suc i)) ≡ Some r
      at eq = ap (λ y. row_at y (suc i)) (sym now) ∙ (ap (λ z. row_at (shows k ws) (suc z)) (sym eq) ∙ e)

  -- ---- the hand

  abbrev h : Hand
  h = row_hand v caller (suc i) j x

  claims_kept : (row_hand v caller (suc i) j x).claims ≡ v.hand.claims
  claims_kept = if_claims (begins_row j x) (ends_row j) (store_word (seen_by v) (suc i) j x) v.hand (suc i)

  reserved_kept : (row_hand v caller (suc i) j x).reserved ≡ v.hand.reserved
  reserved_kept = if_reserved (begins_row j x) (ends_row j) (store_word (seen_by v) (suc i) j x) v.hand (suc i)

  -- the names, where the word isn't the last one, and where it is
  names_kept : ends_row j ≡ false → (row_hand v caller (suc i) j x).names ≡ v.hand.names
  names_kept e = if_names (begins_row j x) (ends_row j) (store_word (seen_by v) (suc i) j x) v.hand (suc i) e

  names_left : ends_row j ≡ true → (row_hand v caller (suc i) j x).names ≡ without (suc i) (suc i + 1) v.hand.names
  names_left e = subst (λ z. (row_hand v caller (suc i) z x).names ≡ without (suc i) (suc i + 1) v.hand.names) (sym (eqb-true j 5 e)) refl

  by_end : (P : Type 0) → (ends_row j ≡ true → P) → (ends_row j ≡ false → P) → P
  by_end P at_end before = by (ends_row j) refl
    where
      by : (b : Bool) → ends_row j ≡ b → P
      by true e = at_end e
      by false e = before e

  distinct : all_distinct (row_hand v caller (suc i) j x).names ≡ true
  distinct = by_end _ (λ e. ap all_distinct (names_left e) ∙ distinct_filter _ v.hand.names f.hand.names_once) (λ e. ap all_distinct (names_kept e) ∙ f.hand.names_once)

  -- a name that is left was in hand, and isn't that of the row that ended
  names_after : (m : ℕ) → contains (row_hand v caller (suc i) j x).names m ≡ true → (contains v.hand.names m ≡ true) × (m ≡ suc i → ends_row j ≡ true → ⊥)
  names_after m had = by_end _
      (λ e. (let t = without_in (suc i) m v.hand.names (ap (λ xs. contains xs m) (sym (names_left e)) ∙ had) in (t.1, (λ eq _. t.0 eq))))
      (λ e. (ap (λ xs. contains xs m) (sym (names_kept e)) ∙ had, (λ _ ended. true≢false (sym ended ∙ e))))

  -- a hand whose names are still open
  hand_with_names : (u h : Hand) → IsLawfulHand (shows k s.words) u → h.claims ≡ u.claims → h.reserved ≡ u.reserved → all_distinct h.names ≡ true
      → ((m : ℕ) → contains h.names m ≡ true → (contains u.names m ≡ true) × (m ≡ suc i → ends_row j ≡ true → ⊥)) → IsLawfulHand (shows k (slice_set s.words (row_word_at k.nodes i j) x)) h
  hand_with_names u h lawful claims reserved distinct names = subst (λ w. IsLawfulHand w h) (sym now) (record {
    claims = ap (list_all (is_claim_well (shows k s.words))) claims ∙ lawful.claims;
    marked = ap (list_all is_marked_well) claims ∙ lawful.marked;
    claims_once = ap (λ cs. all_distinct (claim_places cs)) claims ∙ lawful.claims_once;
    reserved = λ p had. lawful.reserved p (ap (λ xs. contains xs p) (sym reserved) ∙ had);
    reserved_once = ap all_distinct reserved ∙ lawful.reserved_once;
    names = each;
    names_once = distinct;
  })
    where
      each : (n : ℕ) → contains h.names n ≡ true → (1 ≤ n) × (is_ended_at (row_at (store_word (shows k s.words) (suc i) j x)) n ≡ false)
      each n had = let t = names n had in let u = lawful.names n t.0 in (
        u.0,
        ⊎_elim
            (λ eq. ap (is_ended_at (row_at w')) eq ∙ by_end _ (λ e. absurd (t.1 eq e)) (λ e. open_after w i j x row_in wide may.word mine.0 once ends word5 (not_last e)))
            (λ ne. ap is_ended_row (others w row_in n ne) ∙ u.1)
            (cases_eq n (suc i)),
      )

  counts : (m : ℕ) → one_if (contains (row_hand v caller (suc i) j x).names (suc m)) + one_if (is_ended_at (row_at (shows k (slice_set s.words (row_word_at k.nodes i j) x))) (suc m)) ≡ one_if (contains v.hand.names (suc m)) + one_if (is_ended_at (row_at (shows k s.words)) (suc m))
  counts m = ⊎_elim
      (λ eq. subst (λ z. one_if (contains (row_hand v caller (suc i) j x).names (suc z)) + one_if (is_ended_at (row_at (shows k ws)) (suc z)) ≡ one_if (contains v.hand.names (suc z)) + one_if (is_ended_at (row_at w) (suc z))) (sym eq) own)
      (λ ne. ap₂ (λ a b. one_if a + one_if b) (else_names m ne) (ap is_ended_row (row_stays m ne)))
      (cases_eq m i)
    where
      own : one_if (contains (row_hand v caller (suc i) j x).names (suc i)) + one_if (is_ended_at (row_at (shows k (slice_set s.words (row_word_at k.nodes i j) x))) (suc i)) ≡ one_if (contains v.hand.names (suc i)) + one_if (is_ended_at (row_at (shows k s.words)) (suc i))
      own = by_end _
          (λ e. omega (arith, ap one_if (ap (λ xs. contains xs (suc i)) (names_left e) ∙ without_same (suc i) v.hand.names), ap one_if (ended_here e), ap one_if may.drawn, ap one_if mine.0))
          (λ e. omega (arith, ap one_if (ap (λ xs. contains xs (suc i)) (names_kept e)), ap one_if (open_here e), ap one_if mine.0))

      else_names : (m : ℕ) → m ≢ i → contains (row_hand v caller (suc i) j x).names (suc m) ≡ contains v.hand.names (suc m)
      else_names m ne = by_end _
          (λ e. ap (λ xs. contains xs (suc m)) (names_left e) ∙ without_other (suc i) (suc m) v.hand.names (λ z. ne (omega (arith, z))))
          (λ e. ap (λ xs. contains xs (suc m)) (names_kept e))

  -- a row that the hand knew, or that it stores now
  mine_kept : (n : ℕ) → contains v.hand.mine n ≡ true → contains (row_hand v caller (suc i) j x).mine n ≡ true
  mine_kept n had = by (eqb j 0) (ap (λ xs. contains xs n) (if_mine (begins_row j x) (ends_row j) (store_word (seen_by v) (suc i) j x) v.hand (suc i)) ∙ had)
    where
      by : (b : Bool) → contains (hand_stored (store_word (seen_by v) (suc i) j x) v.hand (suc i) j x).mine n ≡ true → contains (cond b (suc i ∷ (hand_stored (store_word (seen_by v) (suc i) j x) v.hand (suc i) j x).mine) (hand_stored (store_word (seen_by v) (suc i) j x) v.hand (suc i) j x).mine) n ≡ true
      by true e = or_right (eqb (suc i) n) _ e
      by false e = e

  mine_new : j ≡ 0 → contains (row_hand v caller (suc i) j x).mine (suc i) ≡ true
  mine_new first = subst (λ b. contains (cond b (suc i ∷ (hand_stored (store_word (seen_by v) (suc i) j x) v.hand (suc i) j x).mine) (hand_stored (store_word (seen_by v) (suc i) j x) v.hand (suc i) j x).mine) (suc i) ≡ true) (sym (eq-eqb j 0 first)) (or_left (eqb (suc i) (suc i)) _ (eq-eqb (suc i) (suc i) refl))

  knows : KnowsRows (shows k (slice_set s.words (row_word_at k.nodes i j) x)) v.numbers (row_hand v caller (suc i) j x)
  knows n r e c = row_known n r e _
      (λ t was by. mine_kept n (f.mine n t was (ap (contains v.numbers) by ∙ c)))
      (λ eq first own. ap (contains (row_hand v caller (suc i) j x).mine) eq ∙ mine_new first)

  -- no other seat has this caller's rights
  others_know : (q : ℕ) (u : Sight) → q ≢ id → get_elem? s.views q ≡ some u → KnowsRows (shows k (slice_set s.words (row_word_at k.nodes i j) x)) u.numbers u.hand
  others_know q u ne at n r e c = row_known n r e _
      (λ t was by. (o.seats q u at).mine n t was (ap (contains u.numbers) by ∙ c))
      (λ eq first own. (let two = terms_le (λ (y : Sight). one_if (contains y.numbers caller)) s.views id q v u ne me at in
      let a = one_true _ (ap (λ ns. contains ns caller) number ∙ or_left (eqb caller caller) false (eq-eqb caller caller refl)) in
      let b = one_true _ (ap (contains u.numbers) (sym own) ∙ c) in
      absurd (omega (arith, two, a, b, o.callers_once caller))))

  balance : IsBalanced (running k (slice_set s.words (row_word_at k.nodes i j) x) (slice_set s.views id (sight_after v (slice_set s.words (row_word_at k.nodes i j) x) (row_hand v caller (suc i) j x) v.wasted))) o.lost
  balance =
      let plain : Sight = sight_after v ws (hand_stored a' v.hand (suc i) j x) v.wasted in
      let begun : option_and_then begun_of (row_at a' (suc i)) ≡ option_and_then begun_of (row_at w' (suc i)) = ap (option_and_then begun_of) (sym row_here) in
      alike_balance k s o id v me (shows k ws) plain (sight_after v ws h v.wasted) o.lost refl refl refl refl
      (stored_balance k s o id v me ws plain i j x a' now row_in (omega (arith, wide, may.word)) once legal grows.ended
      (row_same a' w' may.legal legal keeps_seen by_kind.due (suc i) begun) (row_same a' w' may.legal legal keeps_seen by_kind.direct (suc i) begun) refl)

  -- the rows that tell of adds in vain, with this one if it tells of its caller's
  told_now : (rows : List ℕ) × Tells (shows k s.words) (shows k (slice_set s.words (row_word_at k.nodes i j) x)) o.vain_rows rows v.wasted v.wasted v.hand.vain (row_hand v caller (suc i) j x).vain
  told_now = tells_row (subst (Grows w) (sym now) grows) o.told (suc i) mine.0 v.wasted (ends_row j) (row_at a' (suc i)) v.hand.vain (ap (λ y. row_at y (suc i)) now ∙ row_here)

  pub stores : Move k s o id v (slice_set s.words (row_word_at k.nodes i j) x) (slice_set s.words (row_word_at k.nodes i j) x) (row_hand v caller (suc i) j x) v.wasted
  stores =
      let full = full_if k s o id v me rights in
      let word0 : slice_index ws 0 ≡ slice_index s.words 0 = other 0 (λ z. omega (arith, z)) in
      let word1 : slice_index ws 1 ≡ slice_index s.words 1 = other 1 (λ z. omega (arith, z)) in
      record {
        long = length-set s.words (row_word_at k.nodes i j) x;
        well = well;
        grows = subst (Grows w) (sym now) grows;
        sees = sees_now k v ws h v.wasted (λ any. (let l = full any in omega (arith, l, word0)));
        places_up = omega (arith, word0);
        names_up = omega (arith, word1);
        given = o.given;
        room = o.room;
        drawn = omega (arith, word0);
        full = λ any. (let l = full any in omega (arith, l, word0));
        short = λ more. absurd (omega (arith, more));
        most = f.wasted_most;
        few = few_if k s o id v me rights ws h v.wasted word1;
        calm = λ one. (calm_if k s o id v me rights one, (let c = (o.calm one).1 in omega (arith, c, word1)));
        hand = hand_with_names v.hand h f.hand claims_kept reserved_kept distinct names_after;
        works = hand_open (begins_row j x) (ends_row j) (store_word (seen_by v) (suc i) j x) v.hand (suc i) may.drawn f.works;
        mine = knows;
        vain = λ some. f.vain (vain_from (ends_row j) (row_at a' (suc i)) v.hand.vain some);
        vain_rows = told_now.0;
        tells = told_now.1;
        hands = λ q u ne at. hand_with_names u.hand u.hand (o.seats q u at).hand refl refl (o.seats q u at).hand.names_once
            (λ m had. (had, (λ eq _. true≢false (sym may.drawn ∙ (others_name k s o id v me q u ne at i (ap (contains u.hand.names) (sym eq) ∙ had)).0))));
        others = others_know;
        claims = λ p. ap₂ (λ cs y. one_if (contains (claim_places cs) p) + one_if (is_claimed_at y p)) claims_kept (sym now);
        places = λ p. ap₂ (λ xs y. one_if (contains xs p) + one_if (is_published (recs y) p) + one_if (ltb p (fixed_places + o.given))) reserved_kept now;
        names = λ m. omega (arith, counts m, ap (λ z. one_if (ltb m (min z k.rows))) word1);
        lost = o.lost;
        balance = balance;
        records = λ p m low inside none unpublished. sym (other (record_word_at p m) (λ z. omega (arith, z, inside, low)));
        states = λ p inside none claimed. sym (other (state_word_at p) (λ z. omega (arith, z, inside)));
        row_words = λ m q none open_yet low few. sym (other (row_word_at k.nodes m q) (λ z. true≢false (sym may.drawn ∙ (ap (λ y. contains v.hand.names (suc y)) {x = i} {y = m} (omega (arith, z, few, may.word)) ∙ none))));
      }

  -- what the seat then sees
  pub stored_word : word_at (shows k (slice_set s.words (row_word_at k.nodes i j) x)) (suc i) j ≡ x
  stored_word = ap (λ y. word_at y (suc i) j) now ∙ own_word w i j x row_in wide may.word mine.0 once ends word5

  pub stored_words : (m : ℕ) → contains v.hand.names m ≡ true → words_at (shows k (slice_set s.words (row_word_at k.nodes i j) x)) m ≡ words_at (store_word (seen_by v) (suc i) j x) m
  stored_words zero had = refl
  stored_words (suc m) had = ap (λ y. words_at y (suc m)) now ∙ ⊎_elim
      (λ eq. subst (λ z. words_at w' (suc z) ≡ words_at a' (suc z)) (sym eq) here)
      (λ ne. words-other w i j x row_in m ne ∙ (same_row ∙ sym (words-other a i j x row_seen m ne)))
      (cases_eq m i)
    where
      inside : m < k.rows
      inside = (name_open k s o id v me m had).2

      same_row : words_at (shows k s.words) (suc m) ≡ words_at (seen_by v) (suc m)
      same_row = tabulate-at (row_words k.nodes s.words) 0 k.rows m [] inside ∙ (words_same k.nodes s.words v.words (0 + m) (λ q low. (ap (λ z. slice_index s.words (row_word_at k.nodes z q)) {x = 0 + m} {y = m} (omega arith) ∙ (sym (f.row_words told m q had low) ∙ ap (λ z. slice_index v.words (row_word_at k.nodes z q)) {x = m} {y = 0 + m} (omega arith))))
          ∙ (ap (λ n. row_words n v.words (0 + m)) (sym sizes.0) ∙ sym (tabulate-at (row_words v.nodes v.words) 0 v.rows m [] (omega (arith, inside, sizes.1)))))
