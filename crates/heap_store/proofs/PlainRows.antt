-- What the calls on names and rows do.
use Rattle.std.proofs.Common.{◌≡◌, ℕ, zero, suc, ◌+◌, ◌-◌, ◌<◌, ◌≤◌, Bool, true, false, List, [], ◌∷◌, ◌++◌, length, Option, refl, sym, ap, ◌∙◌, arith, subst, ⊎_elim, cond, eqb}
use Rattle.std.specs.Prelude.{slice_set, slice_index_or}
use Rattle.std.proofs.lemmas.Bool.{cases_eq, cases_lt, true≢false, eqb-true, eq-eqb}
use Rattle.std.proofs.lemmas.List.{length-set, length-append, get_or_default}
use Rattle.heap_store.specs.declared.nodes.Node.{Node}
use Rattle.heap_store.specs.declared.claims.HeldClaim.{HeldClaim}
use Rattle.heap_store.specs.declared.claims.OpenRow.{OpenRow}
use Rattle.heap_store.specs.declared.claims.Full.{Full}
use Rattle.heap_store.specs.World.{World}
use Rattle.heap_store.specs.Rows.{row_of, row_at, words_at, word_at, word, store_word, is_ended_at}
use Rattle.heap_store.specs.Hand.{Hand, without, rows_after_end, hand_begun, hand_ended, hand_named}
use Rattle.heap_store.specs.Budget.{due_at, direct_at}
use Rattle.heap_store.specs.RowCalls.{NameDrawn, MayStore, Stored, begins_row, ends_row, hand_stored}
use Rattle.heap_store.specs.Plain.{IsPlain, IsSeenWell, plain_world, held_things, with_budget, plain_hand, plain_view, filled_up, no_words, free_places, open_names, is_ended_row, rows_after_word}
use Rattle.heap_store.specs.Budget.{IsFunded, IsInBudget, alone_with, IsBalanced}
use Rattle.heap_store.proofs.GrowthLaws.{grows_refl}
use Rattle.heap_store.proofs.RowBudget.{EndedStay, stored_funded, stored_in_budget}
use Rattle.heap_store.proofs.BudgetKept.{stored_balanced}
use Rattle.heap_store.proofs.PlainBudget.{balanced_is}
use Rattle.heap_store.proofs.PlainLists.{filled-within, filled-set, filled-more, length-filled, open-append, open-same, open-ended}
use Rattle.heap_store.proofs.PlainWorlds.{rows_undrawn, zero_word, words-drawn, name_to, lawful_hand, plain_balanced}
use Rattle.heap_store.proofs.WordLaws.{words-same, own_word, ended_after, open_after, stored_seen, stored_grows}
use Rattle.heap_store.proofs.PlainSteps.{view-same}

-- ---- the fields

not_five : (j : ℕ) → (j ≡ 5 → ⊥) → eqb j 5 ≡ false
not_five j other = by (eqb j 5) refl
  where
    by : (b : Bool) → eqb j 5 ≡ b → eqb j 5 ≡ false
    by true f = absurd (other (eqb-true j 5 f))
    by false f = f

no_word : (i : ℕ) → word [] i ≡ 0
no_word i = refl

-- the hand after a word is stored
abbrev pub hand_if : Bool → Bool → World → Hand → ℕ → Hand
hand_if b e w h name = elim b [ true ↦ hand_begun h name (due_at w name) (direct_at w name) | false ↦ elim e [ true ↦ hand_ended h name | false ↦ h ] ]

hand_vain : (b e : Bool) (w : World) (h : Hand) (name : ℕ) → (hand_if b e w h name).vain ≡ h.vain
hand_vain true e w h name = refl
hand_vain false true w h name = refl
hand_vain false false w h name = refl

hand_with : Hand → List ℕ → List OpenRow → Hand
hand_with h names open_rows = record h { names = names; open_rows = open_rows }

module _ (capacity row_capacity : ℕ) (nodes : List (Option Node)) (claims : List HeldClaim) (rows : List (List ℕ)) (h : IsPlain capacity row_capacity nodes claims rows) (open_rows : List OpenRow) (refused : ℕ) (last : Full) where
  -- a word of a row is stored
  module _ (k i v : ℕ) (may : MayStore (plain_view nodes claims rows open_rows capacity row_capacity refused last) (suc k) i v) where
    abbrev now_world : World
    now_world = plain_world capacity row_capacity nodes rows

    abbrev now_hand : Hand
    now_hand = plain_hand (plain_world capacity row_capacity nodes rows) nodes claims rows open_rows

    abbrev new_world : World
    new_world = store_word (plain_world capacity row_capacity nodes rows) (suc k) i v

    pub drawn : k < length rows
    drawn = let t = name_to capacity row_capacity nodes claims rows h (suc k) may.drawn in omega (arith, t.2)

    open_yet : is_ended_at (row_at (plain_world capacity row_capacity nodes rows)) (suc k) ≡ false
    open_yet = (name_to capacity row_capacity nodes claims rows h (suc k) may.drawn).1

    in_world : k < length (plain_world capacity row_capacity nodes rows).rows
    in_world = rw (length-filled no_words row_capacity rows h.rows_fit) (omega (arith, drawn, h.rows_fit))

    stored_rows : List (List ℕ)
    stored_rows = slice_set rows k (slice_set (slice_index_or rows k []) i v)

    world-stored : plain_world capacity row_capacity nodes (slice_set rows k (slice_set (slice_index_or rows k []) i v)) ≡ store_word (plain_world capacity row_capacity nodes rows) (suc k) i v
    world-stored =
        let w = plain_world capacity row_capacity nodes rows in
        let e : slice_index_or w.rows k [] ≡ slice_index_or rows k [] = filled-within no_words [] row_capacity rows k drawn in
        let f : filled_up no_words row_capacity (slice_set rows k (slice_set (slice_index_or rows k []) i v)) ≡ slice_set w.rows k (slice_set (slice_index_or w.rows k []) i v) =
        sym (filled-set no_words row_capacity rows k (slice_set (slice_index_or rows k []) i v) drawn) ∙ ap (λ ws. slice_set w.rows k (slice_set ws i v)) (sym e) in
        ap (λ (rs : List (List ℕ)). record { nodes = w.nodes; rows = rs }) f

    inside : i < length (words_at (plain_world capacity row_capacity nodes rows) (suc k))
    inside = omega (arith, h.seen.wide k in_world, may.word)

    stay : EndedStay (plain_world capacity row_capacity nodes rows) (store_word (plain_world capacity row_capacity nodes rows) (suc k) i v)
    stay = (stored_grows now_world k i v in_world claims h.seen may.word may.fits open_yet may.once may.ended).ended

    -- the hand's numbers after the word
    balance : IsBalanced (alone_with (store_word (plain_world capacity row_capacity nodes rows) (suc k) i v) (hand_stored (store_word (plain_world capacity row_capacity nodes rows) (suc k) i v) (plain_hand (plain_world capacity row_capacity nodes rows) nodes claims rows open_rows) (suc k) i v)) 0
    balance = stored_balanced now_world h.seen.lawful now_hand (lawful_hand capacity row_capacity nodes claims rows h open_rows) h.seen.held (plain_balanced capacity row_capacity nodes claims rows h open_rows) k i v in_world inside may.once h.seen.legal may.legal stay

    pub stored_plain : IsPlain capacity row_capacity nodes claims (slice_set rows k (slice_set (slice_index_or rows k []) i v))
    stored_plain =
        let w = plain_world capacity row_capacity nodes rows in
        record {
          seen = subst (λ z. IsSeenWell z claims) (sym world-stored) (stored_seen w k i v in_world claims h.seen may.word may.fits open_yet may.once may.ended may.legal may.roots);
          marked = h.marked;
          once = h.once;
          funded = subst IsFunded (sym world-stored) (stored_funded w k i v in_world inside may.once h.seen.legal may.legal stay h.funded);
          budget = subst (λ z. IsInBudget (alone_with z (held_things claims (free_places 0 nodes) [] []))) (sym world-stored) (stored_in_budget w k i v in_world inside may.once h.seen.legal may.legal stay (held_things claims (free_places 0 nodes) [] []) h.budget);
          fits = h.fits;
          small = h.small;
          rows_fit = rw length-set h.rows_fit;
          rows_small = h.rows_small;
        }

    stored_view : (names : List ℕ) (open_rows' : List OpenRow) → open_names 1 (slice_set rows k (slice_set (slice_index_or rows k []) i v)) ≡ names → with_budget new_world (hand_with (plain_hand (plain_world capacity row_capacity nodes rows) nodes claims rows open_rows) names open_rows') ≡ with_budget new_world (hand_stored (store_word (plain_world capacity row_capacity nodes rows) (suc k) i v) (plain_hand (plain_world capacity row_capacity nodes rows) nodes claims rows open_rows) (suc k) i v)
        → Stored (plain_view nodes claims rows open_rows capacity row_capacity refused last) (plain_view nodes claims (slice_set rows k (slice_set (slice_index_or rows k []) i v)) open_rows' capacity row_capacity refused last) (suc k) i v
    unfolding hand_with
    stored_view names open_rows' names_are hand_is =
        let v0 = plain_view nodes claims rows open_rows capacity row_capacity refused last in
        let w = plain_world capacity row_capacity nodes rows in
        let same : plain_view nodes claims (slice_set rows k (slice_set (slice_index_or rows k []) i v)) open_rows' capacity row_capacity refused last ≡ record v0 { seen = store_word w (suc k) i v; hand = hand_stored new_world v0.hand (suc k) i v } =
        view-same capacity row_capacity refused last claims open_rows' _ (store_word w (suc k) i v) _ (free_places 0 nodes) _ names _ v0.drawn _ v0.named
        world-stored refl names_are refl (length-set rows k (slice_set (slice_index_or rows k []) i v))
        ∙ ap (λ (x : Hand). record v0 { seen = store_word w (suc k) i v; hand = x }) (hand_is ∙ balanced_is new_world (hand_stored new_world v0.hand (suc k) i v) balance) in
        subst (λ t. Stored v0 t (suc k) i v) (sym same) (record {
          grows = stored_grows w k i v in_world claims h.seen may.word may.fits open_yet may.once may.ended;
          words = λ i m. refl;
          word = own_word w k i v in_world claims h.seen may.word may.fits open_yet may.once may.ended;
          hand = refl;
          vain = hand_vain (begins_row i v) (ends_row i) new_world v0.hand (suc k);
          about = refl;
          refusals = refl;
          alone = λ _. (refl, refl, refl, refl);
        })

    row-drawn : words_at (store_word (plain_world capacity row_capacity nodes rows) (suc k) i v) (suc k) ≡ slice_set (slice_index_or rows k []) i v
    row-drawn = words-same (plain_world capacity row_capacity nodes rows) k i v in_world ∙ ap (λ ws. slice_set ws i v) (words-drawn capacity row_capacity nodes claims rows h k drawn)

    -- its names stay where the word is another than the last one
    names-open : (5 ≡ i → ⊥) → open_names 1 (slice_set rows k (slice_set (slice_index_or rows k []) i v)) ≡ open_names 1 rows
    names-open ne =
        let w = plain_world capacity row_capacity nodes rows in
        let one : suc k ≡ 1 + k = omega arith in
        let a : is_ended_row (row_of (suc k) (slice_set (slice_index_or rows k []) i v)) ≡ false = ap (λ ws. is_ended_row (row_of (suc k) ws)) (sym row-drawn) ∙ open_after w k i v in_world claims h.seen may.word may.fits open_yet may.once may.ended ne in
        let b : is_ended_row (row_of (suc k) (slice_index_or rows k [])) ≡ false = ap (λ ws. is_ended_row (row_of (suc k) ws)) (sym (words-drawn capacity row_capacity nodes claims rows h k drawn)) ∙ open_yet in
        open-same 1 k rows (slice_set (slice_index_or rows k []) i v) (subst (λ z. is_ended_row (row_of z (slice_set (slice_index_or rows k []) i v)) ≡ is_ended_row (row_of z (slice_index_or rows k []))) one (a ∙ sym b))

    names-ended : i ≡ 5 → open_names 1 (slice_set rows k (slice_set (slice_index_or rows k []) i v)) ≡ without (suc k) (suc k + 1) (open_names 1 rows)
    names-ended e =
        let w = plain_world capacity row_capacity nodes rows in
        let one : suc k ≡ 1 + k = omega arith in
        let a : is_ended_row (row_of (suc k) (slice_set (slice_index_or rows k []) i v)) ≡ true = ap (λ ws. is_ended_row (row_of (suc k) ws)) (sym row-drawn) ∙ ended_after w k i v in_world claims h.seen may.word may.fits open_yet may.once may.ended e in
        let b = open-ended 1 k rows (slice_set (slice_index_or rows k []) i v) drawn (subst (λ z. is_ended_row (row_of z (slice_set (slice_index_or rows k []) i v)) ≡ true) one a) in
        subst (λ z. open_names 1 (slice_set rows k (slice_set (slice_index_or rows k []) i v)) ≡ without z (z + 1) (open_names 1 rows)) (sym one) b

    begins_first : begins_row i v ≡ true → i ≡ 0
    begins_first = first i
      where
        first : (j : ℕ) → begins_row j v ≡ true → j ≡ 0
        first zero e = refl
        first (suc j) e = absurd (true≢false (sym e))

    -- the three outcomes
    stored_begun : begins_row i v ≡ true → Stored (plain_view nodes claims rows open_rows capacity row_capacity refused last) (plain_view nodes claims (slice_set rows k (slice_set (slice_index_or rows k []) i v)) (open_rows ++ record { name = suc k; refused = false } ∷ []) capacity row_capacity refused last) (suc k) i v
    unfolding hand_with
    stored_begun e = stored_view (open_names 1 rows) (open_rows ++ record { name = suc k; refused = false } ∷ []) (names-open (λ five. absurd (omega (arith, begins_first e, five)))) (sym (ap (λ b. with_budget new_world (hand_if b (eqb i 5) new_world (plain_hand (plain_world capacity row_capacity nodes rows) nodes claims rows open_rows) (suc k))) e))

    stored_ended : begins_row i v ≡ false → i ≡ 5 → Stored (plain_view nodes claims rows open_rows capacity row_capacity refused last) (plain_view nodes claims (slice_set rows k (slice_set (slice_index_or rows k []) i v)) (rows_after_end (suc k) open_rows) capacity row_capacity refused last) (suc k) i v
    unfolding hand_with
    stored_ended e five = stored_view (without (suc k) (suc k + 1) (open_names 1 rows)) (rows_after_end (suc k) open_rows) (names-ended five)
        (sym (ap (λ b. with_budget new_world (hand_if b (eqb i 5) new_world (plain_hand (plain_world capacity row_capacity nodes rows) nodes claims rows open_rows) (suc k))) e ∙ ap (λ b. with_budget new_world (hand_if false b new_world (plain_hand (plain_world capacity row_capacity nodes rows) nodes claims rows open_rows) (suc k))) (eq-eqb i 5 five)))

    stored_on : begins_row i v ≡ false → (i ≡ 5 → ⊥) → Stored (plain_view nodes claims rows open_rows capacity row_capacity refused last) (plain_view nodes claims (slice_set rows k (slice_set (slice_index_or rows k []) i v)) open_rows capacity row_capacity refused last) (suc k) i v
    unfolding hand_with
    stored_on e ne = stored_view (open_names 1 rows) open_rows (names-open (λ five. ne (sym five))) (sym (ap (λ b. with_budget new_world (hand_if b (eqb i 5) new_world (plain_hand (plain_world capacity row_capacity nodes rows) nodes claims rows open_rows) (suc k))) e ∙ ap (λ b. with_budget new_world (hand_if false b new_world (plain_hand (plain_world capacity row_capacity nodes rows) nodes claims rows open_rows) (suc k))) (not_five i ne)))

    stored : Stored (plain_view nodes claims rows open_rows capacity row_capacity refused last) (plain_view nodes claims (slice_set rows k (slice_set (slice_index_or rows k []) i v)) (rows_after_word (suc k) i v open_rows) capacity row_capacity refused last) (suc k) i v
    stored = by (begins_row i v) refl
      where
        with_row : (o : List OpenRow) → rows_after_word (suc k) i v open_rows ≡ o → Stored (plain_view nodes claims rows open_rows capacity row_capacity refused last) (plain_view nodes claims (slice_set rows k (slice_set (slice_index_or rows k []) i v)) o capacity row_capacity refused last) (suc k) i v → Stored (plain_view nodes claims rows open_rows capacity row_capacity refused last) (plain_view nodes claims (slice_set rows k (slice_set (slice_index_or rows k []) i v)) (rows_after_word (suc k) i v open_rows) capacity row_capacity refused last) (suc k) i v
        with_row o e s = subst (λ o. Stored (plain_view nodes claims rows open_rows capacity row_capacity refused last) (plain_view nodes claims (slice_set rows k (slice_set (slice_index_or rows k []) i v)) o capacity row_capacity refused last) (suc k) i v) (sym e) s

        by : (b : Bool) → begins_row i v ≡ b → Stored (plain_view nodes claims rows open_rows capacity row_capacity refused last) (plain_view nodes claims (slice_set rows k (slice_set (slice_index_or rows k []) i v)) (rows_after_word (suc k) i v open_rows) capacity row_capacity refused last) (suc k) i v
        by true e = with_row (open_rows ++ record { name = suc k; refused = false } ∷ []) (ap (λ b. cond b (open_rows ++ record { name = suc k; refused = false } ∷ []) (cond (ends_row i) (rows_after_end (suc k) open_rows) open_rows)) e) (stored_begun e)
        by false e = ⊎_elim
            (λ five. with_row (rows_after_end (suc k) open_rows) (ap (λ b. cond b (open_rows ++ record { name = suc k; refused = false } ∷ []) (cond (ends_row i) (rows_after_end (suc k) open_rows) open_rows)) e ∙ ap (λ b. cond b (rows_after_end (suc k) open_rows) open_rows) (eq-eqb i 5 five)) (stored_ended e five))
            (λ ne. with_row open_rows (ap (λ b. cond b (open_rows ++ record { name = suc k; refused = false } ∷ []) (cond (ends_row i) (rows_after_end (suc k) open_rows) open_rows)) e ∙ ap (λ b. cond b (rows_after_end (suc k) open_rows) open_rows) (not_five i ne)) (stored_on e ne))
            (cases_eq i 5)

  -- the same of what the code has at hand
  module _ (name i v : ℕ) (may : MayStore (plain_view nodes claims rows open_rows capacity row_capacity refused last) name i v) where
    named_low : 1 ≤ name
    named_low = (name_to capacity row_capacity nodes claims rows h name may.drawn).0

    pub name_low : 1 ≤ name
    name_low = named_low

    pub row_drawn : name - 1 < length rows
    row_drawn = let t = name_to capacity row_capacity nodes claims rows h name may.drawn in omega (arith, t.0, t.2)

    next_is : suc (name - 1) ≡ name
    next_is = let l = named_low in omega arith

    may_store : MayStore (plain_view nodes claims rows open_rows capacity row_capacity refused last) (suc (name - 1)) i v
    may_store = subst (λ z. MayStore (plain_view nodes claims rows open_rows capacity row_capacity refused last) z i v) (sym next_is) may

    module _ (ws : List ℕ) (read : ws ≡ slice_index_or rows (name - 1) ws) where
      words_are : ws ≡ slice_index_or rows (name - 1) []
      words_are = read ∙ sym (get_or_default rows (name - 1) [] ws row_drawn)

      pub stored_plain_at : IsPlain capacity row_capacity nodes claims (slice_set rows (name - 1) (slice_set ws i v))
      stored_plain_at = subst (λ z. IsPlain capacity row_capacity nodes claims (slice_set rows (name - 1) (slice_set z i v))) (sym words_are) (stored_plain (name - 1) i v may_store)

      pub stored_view_at : Stored (plain_view nodes claims rows open_rows capacity row_capacity refused last) (plain_view nodes claims (slice_set rows (name - 1) (slice_set ws i v)) (rows_after_word name i v open_rows) capacity row_capacity refused last) name i v
      stored_view_at =
          let s : Stored (plain_view nodes claims rows open_rows capacity row_capacity refused last) (plain_view nodes claims (slice_set rows (name - 1) (slice_set (slice_index_or rows (name - 1) []) i v)) (rows_after_word name i v open_rows) capacity row_capacity refused last) name i v =
          subst (λ z. Stored (plain_view nodes claims rows open_rows capacity row_capacity refused last) (plain_view nodes claims (slice_set rows (name - 1) (slice_set (slice_index_or rows (name - 1) []) i v)) (rows_after_word z i v open_rows) capacity row_capacity refused last) z i v) next_is (stored (name - 1) i v may_store) in
          subst (λ z. Stored (plain_view nodes claims rows open_rows capacity row_capacity refused last) (plain_view nodes claims (slice_set rows (name - 1) (slice_set z i v)) (rows_after_word name i v open_rows) capacity row_capacity refused last) name i v) (sym words_are) s

  -- a word is loaded
  pub loaded : (name i : ℕ) (ws : List ℕ) → 1 ≤ name → name - 1 < length rows → ws ≡ slice_index_or rows (name - 1) ws → word ws i ≡ word_at (plain_world capacity row_capacity nodes rows) name i
  loaded name i ws low l read =
      let next : suc (name - 1) ≡ name = omega arith in
      let e : word ws i ≡ word_at (plain_world capacity row_capacity nodes rows) (suc (name - 1)) i = ap (λ z. word z i) ((read ∙ sym (get_or_default rows (name - 1) [] ws l)) ∙ sym (words-drawn capacity row_capacity nodes claims rows h (name - 1) l)) in
      subst (λ z. word ws i ≡ word_at (plain_world capacity row_capacity nodes rows) z i) next e

  pub loaded_zero : (name i : ℕ) → 1 ≤ name → length rows ≤ name - 1 → 0 ≡ word_at (plain_world capacity row_capacity nodes rows) name i
  loaded_zero name i low l =
      let next : suc (name - 1) ≡ name = omega arith in
      let e : 0 ≡ word_at (plain_world capacity row_capacity nodes rows) (suc (name - 1)) i = ⊎_elim
      (λ f. sym (ap (λ z. word z i) f ∙ zero_word i))
      (λ f. sym (ap (λ z. word z i) f ∙ no_word i)) (rows_undrawn row_capacity (name - 1) rows l) in
      subst (λ z. 0 ≡ word_at (plain_world capacity row_capacity nodes rows) z i) next e

  -- a name is drawn
  module _ (room : length rows < row_capacity) where
    world-named : plain_world capacity row_capacity nodes (rows ++ no_words ∷ []) ≡ plain_world capacity row_capacity nodes rows
    world-named = ap (λ (rs : List (List ℕ)). record { nodes = (plain_world capacity row_capacity nodes rows).nodes; rows = rs }) (filled-more no_words row_capacity 1 rows (omega (arith, room)))

    length-named : length (rows ++ no_words ∷ []) ≡ length rows + 1
    length-named = length-append rows (no_words ∷ [])

    pub named_plain : IsPlain capacity row_capacity nodes claims (rows ++ no_words ∷ [])
    named_plain = record {
      seen = subst (λ z. IsSeenWell z claims) (sym world-named) h.seen;
      marked = h.marked;
      once = h.once;
      funded = subst IsFunded (sym world-named) h.funded;
      budget = subst (λ z. IsInBudget (alone_with z (held_things claims (free_places 0 nodes) [] []))) (sym world-named) h.budget;
      fits = h.fits;
      small = h.small;
      rows_fit = omega (arith, length-named, room);
      rows_small = h.rows_small;
    }

    pub named_view : (name : ℕ) → name ≡ length rows + 1 → NameDrawn (plain_view nodes claims rows open_rows capacity row_capacity refused last) (plain_view nodes claims (rows ++ no_words ∷ []) open_rows capacity row_capacity refused last) name
    named_view name e =
        let v0 = plain_view nodes claims rows open_rows capacity row_capacity refused last in
        let f : 1 + length rows ≡ name = omega (arith, e) in
        let names : open_names 1 (rows ++ no_words ∷ []) ≡ open_names 1 rows ++ name ∷ [] = open-append 1 rows ∙ ap (λ z. open_names 1 rows ++ z ∷ []) f in
        let same : plain_view nodes claims (rows ++ no_words ∷ []) open_rows capacity row_capacity refused last ≡ record v0 { hand = hand_named v0.hand name; named = name } =
        view-same capacity row_capacity refused last claims open_rows _ v0.seen _ (free_places 0 nodes) _ (open_names 1 rows ++ name ∷ []) _ v0.drawn _ name world-named refl names refl (length-named ∙ sym e) in
        subst (λ t. NameDrawn v0 t name) (sym same) (record {
          grows = grows_refl v0.seen;
          words = λ i m. refl;
          low = omega (arith, e);
          high = omega (arith, e, room);
          unseen = λ i j ne. ⊎_elim (λ l. omega (arith, l, e)) (λ l. absurd (ne (sym (loaded_zero i j (omega (arith, l)) (omega (arith, l)))))) (cases_lt i (length rows + 1));
          empty = λ j. sym (loaded_zero name j (omega (arith, e)) (omega (arith, e)));
          hand = refl;
          about = refl;
          refusals = refl;
          alone = λ _. (refl, refl, e, refl);
        })
