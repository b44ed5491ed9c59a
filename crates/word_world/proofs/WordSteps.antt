-- A word that is stored keeps the words lawful: the first one of a record, that of a state, and one of a row.
use Rattle.std.proofs.Common.{◌≡◌, ◌≢◌, ℕ, suc, ◌<◌, List, [], ◌∷◌, length, refl, sym, ap, ◌∙◌, arith, subst, true, false, Option, Some, None, ⊎_elim}
use Rattle.std.specs.Prelude.{slice_index, slice_set, option_map}
use Rattle.std.proofs.lemmas.Bool.{true≢false, cases_eq}
use Rattle.std.proofs.lemmas.List.{get_or-set_same, get_or-set_other}
use Rattle.lazy_rec.specs.declared.records.Rec.{Rec}
use Rattle.lazy_rec.specs.declared.events.Event.{Event}
use Rattle.lazy_rec.specs.declared.states.SuspState.{SuspState}
use Rattle.lazy_rec.specs.declared.states.SuspState.TheVariants.{Unforced}
use Rattle.lazy_rec.specs.Named.{at_record}
use Rattle.lazy_rec.specs.Packed.{words_of, in_range}
use Rattle.lazy_rec.specs.States.{state_word, state_in_range}
use Rattle.heap_store.specs.declared.nodes.Node.{Node}
use Rattle.heap_store.specs.World.{recs, node_at, show, is_published}
use Rattle.heap_store.specs.Rows.{row_at, word_at, is_ended_at, store_word, word}
use Rattle.heap_store.specs.Growth.{Grows}
use Rattle.heap_store.specs.Legal.{IsLegal, FollowsPlan}
use Rattle.heap_store.specs.Lawful.{IsLawful}
use Rattle.heap_store.specs.LookedAt.{HasRoots}
use Rattle.heap_store.specs.Budget.{IsFunded, is_settled, is_funded}
use Rattle.heap_store.specs.Plain.{is_ended_row}
use Rattle.heap_store.proofs.ShowLaws.{show_adds, put_grows, one_value, recs-show}
use Rattle.heap_store.proofs.LawfulLaws.{lawful_names}
use Rattle.heap_store.proofs.RowLaws.{legal_kept, roots_kept}
use Rattle.heap_store.proofs.BudgetKept.{put_funded, state_funded}
use Rattle.heap_store.proofs.GainLaws.{NamesThere}
use Rattle.heap_store.proofs.WordLaws.{lawful_rows, words-other, row-other}
use Rattle.word_world.specs.Words.{world_of, state_word_at, record_word_at, row_word_at, record_words, state_of_word, places_of, word_count, node_of_words, row_words}
use Rattle.word_world.specs.LawfulWords.{IsLawfulWords}
use Rattle.word_world.proofs.Tables.{length-tabulate}
use Rattle.word_world.proofs.Worlds.{publish_world, state_world, record_same, word_state}
use Rattle.word_world.proofs.RowWords.{row_world, world_inside}

module _ (nodes rows : ℕ) (plan : Option (List Event)) (ws : List ℕ) (wide : length ws ≡ word_count nodes rows) (o : IsLawfulWords nodes rows plan ws) where
  -- ---- a record is published

  module _ (p x : ℕ) (r : Rec) (inside : p < places_of nodes) (free : is_published (recs (world_of nodes rows ws)) p ≡ false)
      (words : ◌≡◌ {A = List ℕ} (x ∷ slice_index ws (record_word_at p 1) ∷ slice_index ws (record_word_at p 2) ∷ slice_index ws (record_word_at p 3) ∷ []) (words_of r)) (range : in_range r ≡ true) where
    pub published_world : world_of nodes rows (slice_set ws (record_word_at p 0) x) ≡ show (world_of nodes rows ws) p r (Unforced 0)
    published_world = publish_world nodes rows ws p x r inside wide range words (o.untouched p inside free)

    pub place_inside : p < length (world_of nodes rows ws).nodes
    place_inside = omega (arith, inside, length-tabulate (node_of_words ws) 0 (places_of nodes))

    pub place_bare : node_at (world_of nodes rows ws) p ≡ None
    place_bare = by (node_at (world_of nodes rows ws) p) free
      where
        by : (z : Option Node) → at_record false (λ _. true) (option_map (λ (n : Node). n.rec) z) ≡ false → z ≡ None
        by None e = refl
        by (Some n) e = absurd (true≢false e)

    other : (i : ℕ) → (i ≡ record_word_at p 0 → ⊥) → slice_index (slice_set ws (record_word_at p 0) x) i ≡ slice_index ws i
    other i ne = get_or-set_other ws (record_word_at p 0) i x 0 ne

    own_words : record_words (slice_set ws (record_word_at p 0) x) p ≡ words_of r
    own_words = four _ _ _ _ _ _ _ _ (get_or-set_same ws (record_word_at p 0) x 0 (omega (arith, wide, inside))) (other (record_word_at p 1) (λ z. omega arith)) (other (record_word_at p 2) (λ z. omega arith)) (other (record_word_at p 3) (λ z. omega arith)) ∙ words
      where
        four : (a b c d a' b' c' d' : ℕ) → a ≡ a' → b ≡ b' → c ≡ c' → d ≡ d' → ◌≡◌ {A = List ℕ} (a ∷ b ∷ c ∷ d ∷ []) (a' ∷ b' ∷ c' ∷ d' ∷ [])
        four a b c d a' b' c' d' e0 e1 e2 e3 = rw (e0, e1, e2, e3) refl

    pub published_grows : Grows (world_of nodes rows ws) (show (world_of nodes rows ws) p r (Unforced 0))
    published_grows = put_grows (world_of nodes rows ws) p r (Unforced 0) place_inside place_bare

    pub published_lawful : IsLawful (show (world_of nodes rows ws) p r (Unforced 0)) → NamesThere (recs (world_of nodes rows ws)) r → is_settled (world_of nodes rows ws) p r ≡ true → IsLawfulWords nodes rows plan (slice_set ws (record_word_at p 0) x)
    published_lawful lawful names settled =
        let w = world_of nodes rows ws in
        let vs : List ℕ = slice_set ws (record_word_at p 0) x in
        let b = show w p r (Unforced 0) in
        let adds = show_adds w p r (Unforced 0) place_inside place_bare in
        let now : world_of nodes rows vs ≡ b = published_world in
        let states : (q : ℕ) → slice_index vs (state_word_at q) ≡ slice_index ws (state_word_at q) = λ q. other (state_word_at q) (λ z. omega arith) in
        record {
          world = subst IsLawful (sym now) lawful;
          legal = subst IsLegal (sym now) (legal_kept w b.nodes (lawful_names o.world) published_grows o.legal);
          roots = subst HasRoots (sym now) (roots_kept w b.nodes (lawful_names o.world) published_grows o.roots);
          funded = subst IsFunded (sym now) (put_funded w p r place_inside place_bare o.world o.funded names settled);
          plan_kept = subst (λ w. FollowsPlan plan (row_at w)) (sym now) o.plan_kept;
          packed = λ q t e. (let e' = ap (λ w. recs w q) (sym now) ∙ e in ⊎_elim
              (λ eq. (let same : r ≡ t = one_value r t (sym adds.there ∙ (ap (recs b) (sym eq) ∙ e')) in ap (record_words vs) eq ∙ (own_words ∙ ap words_of same)))
              (λ ne. record_same vs ws q (λ i few. other (record_word_at q i) (λ z. ne (omega arith))) ∙ o.packed q t (sym (adds.others q ne) ∙ e')) (cases_eq q p));
          states = λ q l. subst (λ n. state_word (state_of_word n) ≡ n) (sym (states q)) (o.states q l);
          ranges = λ q l. subst (λ n. state_in_range (state_of_word n) ≡ true) (sym (states q)) (o.ranges q l);
          untouched = λ q l e. (let e' = ap (λ w. is_published (recs w) q) (sym now) ∙ e in states q ∙ ⊎_elim
              (λ eq. absurd (true≢false (sym (ap (at_record false (λ _. true)) adds.there) ∙ (ap (is_published (recs b)) (sym eq) ∙ e'))))
              (λ ne. o.untouched q l (sym (ap (at_record false (λ _. true)) (adds.others q ne)) ∙ e')) (cases_eq q p));
          undrawn = λ i j l. ap (λ w. word_at w (suc i) j) now ∙ o.undrawn i j (omega (arith, l, other 1 (λ z. omega arith)));
          unended = λ i e. ap (λ w. word_at w (suc i) 5) now ∙ o.unended i (ap (λ w. is_ended_at (row_at w) (suc i)) (sym now) ∙ e);
        }

  -- ---- a state changes

  module _ (p : ℕ) (r : Rec) (old new : SuspState) (inside : p < places_of nodes) (here : node_at (world_of nodes rows ws) p ≡ Some (record { rec = r; state = old })) (range : state_in_range new ≡ true) where
    pub state_inside : p < length (world_of nodes rows ws).nodes
    state_inside = omega (arith, inside, length-tabulate (node_of_words ws) 0 (places_of nodes))

    pub changed_world : world_of nodes rows (slice_set ws (state_word_at p) (state_word new)) ≡ show (world_of nodes rows ws) p r new
    changed_world = state_world nodes rows ws p (state_word new) r old new inside wide here (word_state new range)

    pub changed_lawful : Grows (world_of nodes rows ws) (show (world_of nodes rows ws) p r new) → is_funded (world_of nodes rows ws) p r ≡ true → IsLawful (show (world_of nodes rows ws) p r new)
        → IsLawfulWords nodes rows plan (slice_set ws (state_word_at p) (state_word new))
    changed_lawful grows paid lawful =
        let w = world_of nodes rows ws in let b = show w p r new in
        let vs : List ℕ = slice_set ws (state_word_at p) (state_word new) in
        let now : world_of nodes rows vs ≡ b = changed_world in
        let other : (i : ℕ) → (i ≡ state_word_at p → ⊥) → slice_index vs i ≡ slice_index ws i = λ i ne. get_or-set_other ws (state_word_at p) i (state_word new) 0 ne in
        let own : slice_index vs (state_word_at p) ≡ state_word new = get_or-set_same ws (state_word_at p) (state_word new) 0 (omega (arith, wide, inside)) in
        let elsewhere : (q : ℕ) → q ≢ p → slice_index vs (state_word_at q) ≡ slice_index ws (state_word_at q) = λ q ne. other (state_word_at q) (λ z. ne (omega arith)) in
        let back : (q : ℕ) → recs (world_of nodes rows vs) q ≡ recs w q = λ q. ap (λ w. recs w q) now ∙ recs-show w p r new state_inside old here q in
        let there : slice_index vs (state_word_at p) ≡ state_word new = own in
        record {
          world = subst IsLawful (sym now) lawful;
          legal = subst IsLegal (sym now) (legal_kept w b.nodes (lawful_names o.world) grows o.legal);
          roots = subst HasRoots (sym now) (roots_kept w b.nodes (lawful_names o.world) grows o.roots);
          funded = subst IsFunded (sym now) (state_funded w p r old new state_inside here o.world o.funded paid);
          plan_kept = subst (λ w. FollowsPlan plan (row_at w)) (sym now) o.plan_kept;
          packed = λ q t e. record_same vs ws q (λ i few. other (record_word_at q i) (λ z. omega arith)) ∙ o.packed q t (sym (back q) ∙ e);
          states = λ q l. ⊎_elim
              (λ eq. subst (λ n. state_word (state_of_word n) ≡ n) (sym (ap (λ z. slice_index vs (state_word_at z)) eq ∙ own)) (ap state_word (word_state new range)))
              (λ ne. subst (λ n. state_word (state_of_word n) ≡ n) (sym (elsewhere q ne)) (o.states q l)) (cases_eq q p);
          ranges = λ q l. ⊎_elim
              (λ eq. subst (λ n. state_in_range (state_of_word n) ≡ true) (sym (ap (λ z. slice_index vs (state_word_at z)) eq ∙ own)) (ap state_in_range (word_state new range) ∙ range))
              (λ ne. subst (λ n. state_in_range (state_of_word n) ≡ true) (sym (elsewhere q ne)) (o.ranges q l)) (cases_eq q p);
          untouched = λ q l e. (let e' : is_published (recs w) q ≡ false = ap (at_record false (λ _. true)) (sym (back q)) ∙ e in
              elsewhere q (λ eq. true≢false (sym (ap (at_record false (λ _. true)) (ap (option_map (λ (n : Node). n.rec)) (ap (node_at w) eq ∙ here))) ∙ e')) ∙ o.untouched q l e');
          undrawn = λ i j l. ap (λ w. word_at w (suc i) j) now ∙ o.undrawn i j (omega (arith, l, other 1 (λ z. omega arith)));
          unended = λ i e. ap (λ w. word_at w (suc i) 5) now ∙ o.unended i (ap (λ w. is_ended_at (row_at w) (suc i)) (sym now) ∙ e);
        }

  -- ---- a word of a row is stored

  module _ (i j x : ℕ) (few : i < rows) (low : j < 8) (drawn : i < slice_index ws 1) where
    pub row_inside : i < length (world_of nodes rows ws).rows
    row_inside = omega (arith, few, length-tabulate (row_words nodes ws) 0 rows)

    pub stored_world : world_of nodes rows (slice_set ws (row_word_at nodes i j) x) ≡ store_word (world_of nodes rows ws) (suc i) j x
    stored_world = row_world nodes rows ws i j x few low wide

    -- another name's row stays
    pub stored_other : (m : ℕ) → m ≢ i → row_at (world_of nodes rows (slice_set ws (row_word_at nodes i j) x)) (suc m) ≡ row_at (world_of nodes rows ws) (suc m)
    stored_other m ne = ap (λ w. row_at w (suc m)) stored_world ∙ row-other (world_of nodes rows ws) i j x row_inside m ne

    pub stored_lawful : IsLegal (store_word (world_of nodes rows ws) (suc i) j x) → HasRoots (store_word (world_of nodes rows ws) (suc i) j x) → FollowsPlan plan (row_at (store_word (world_of nodes rows ws) (suc i) j x))
        → (is_ended_at (row_at (store_word (world_of nodes rows ws) (suc i) j x)) (suc i) ≡ false → word_at (store_word (world_of nodes rows ws) (suc i) j x) (suc i) 5 ≡ 0) → IsLawfulWords nodes rows plan (slice_set ws (row_word_at nodes i j) x)
    stored_lawful legal roots follows unended =
        let w = world_of nodes rows ws in
        let vs : List ℕ = slice_set ws (row_word_at nodes i j) x in
        let now : world_of nodes rows vs ≡ store_word w (suc i) j x = stored_world in
        let other : (n : ℕ) → (n ≡ row_word_at nodes i j → ⊥) → slice_index vs n ≡ slice_index ws n = λ n ne. get_or-set_other ws (row_word_at nodes i j) n x 0 ne in
        let word1 : slice_index vs 1 ≡ slice_index ws 1 = other 1 (λ z. omega arith) in
        let stays : (m q : ℕ) → m ≢ i → word_at (world_of nodes rows vs) (suc m) q ≡ word_at w (suc m) q = λ m q ne. ap (λ w. word_at w (suc m) q) now ∙ ap (λ r. word r q) (words-other w i j x row_inside m ne) in
        record {
          world = subst IsLawful (sym now) (lawful_rows w _ o.world);
          legal = subst IsLegal (sym now) legal;
          roots = subst HasRoots (sym now) roots;
          funded = subst IsFunded (sym now) (record { taken = o.funded.taken; settled = o.funded.settled });
          plan_kept = subst (λ w. FollowsPlan plan (row_at w)) (sym now) follows;
          packed = λ p r e. (let e' : recs w p ≡ Some r = ap (λ w. recs w p) (sym now) ∙ e in
              let inside = world_inside nodes rows ws p r e' in
              record_same vs ws p (λ m four. other (record_word_at p m) (λ z. omega (arith, z, four, inside))) ∙ o.packed p r e');
          states = λ p l. subst (λ n. state_word (state_of_word n) ≡ n) (sym (other (state_word_at p) (λ z. omega (arith, z, l)))) (o.states p l);
          ranges = λ p l. subst (λ n. state_in_range (state_of_word n) ≡ true) (sym (other (state_word_at p) (λ z. omega (arith, z, l)))) (o.ranges p l);
          untouched = λ p l e. other (state_word_at p) (λ z. omega (arith, z, l)) ∙ o.untouched p l (ap (λ w. is_published (recs w) p) (sym now) ∙ e);
          undrawn = λ m q l. (let ne : m ≢ i = λ eq. omega (arith, eq, l, drawn, word1) in stays m q ne ∙ o.undrawn m q (omega (arith, l, word1)));
          unended = λ m e. ⊎_elim
              (λ eq. subst (λ z. word_at (world_of nodes rows vs) (suc z) 5 ≡ 0) (sym eq) (ap (λ w. word_at w (suc i) 5) now ∙ unended (ap (λ w. is_ended_at (row_at w) (suc i)) (sym now) ∙ (ap (λ z. is_ended_at (row_at (world_of nodes rows vs)) (suc z)) (sym eq) ∙ e))))
              (λ ne. stays m 5 ne ∙ o.unended m (ap is_ended_row (sym (stored_other m ne)) ∙ e)) (cases_eq m i);
        }
