-- What a stored word does to the world that the words show.
use Rattle.std.proofs.Common.{◌≡◌, ℕ, zero, suc, ◌+◌, ◌*◌, ◌<◌, ◌≤◌, List, [], ◌∷◌, ◌++◌, length, refl, sym, ap, ap₂, ◌∙◌, arith, subst, Bool, true, false, cond, ◌||◌, not, Option, Some, None, eqb, ltb}
use Rattle.std.specs.Prelude.{slice_index, slice_set, option_map}
use Rattle.std.proofs.lemmas.Bool.{true≢false, cases_lt, cases_eq, and_from, or_cases, or_left, or_right, eqb-true, eq-eqb, lt-ltb, le-ltb}
use Rattle.std.proofs.lemmas.List.{get_or-set_same, get_or-set_other}
use Rattle.std.proofs.lemmas.List.Folds.{list_any-append}
use mathlib.Core.Logic.{⊎_elim}
use Rattle.lazy_rec.specs.declared.records.Rec.{Rec}
use Rattle.lazy_rec.specs.Shown.{shown}
use Rattle.heap_store.specs.declared.nodes.Node.{Node}
use Rattle.heap_store.specs.World.{recs, node_at, is_published}
use Rattle.heap_store.specs.Hand.{contains, all_distinct, places_from}
use Rattle.heap_store.specs.Shared.{one_if}
use Rattle.word_world.specs.Words.{node_of_words, state_of_word, record_words, row_words, places_of, record_word_at, state_word_at, row_word_at, world_of}
use Rattle.word_world.specs.LawfulWords.{IsLawfulWords}
use Rattle.word_world.specs.Words.{word_count}
use Rattle.word_world.proofs.Tables.{tabulate-same, tabulate-at, tabulate-set}
use Rattle.lazy_rec.specs.declared.records.Rec.TheVariants.{Nil}
use Rattle.lazy_rec.specs.declared.states.SuspState.TheVariants.{Unforced, Claimed, Done}
use Rattle.lazy_rec.specs.declared.states.SuspState.{SuspState}
use Rattle.lazy_rec.specs.declared.places.Ref.{Ref}
use Rattle.lazy_rec.specs.States.{state_word, state_in_range, is_unforced}
use Rattle.std.proofs.Common.{◌%◌, ◌/◌, ◌^◌, bit_or, ne_eqb}
use Rattle.std.proofs.lemmas.Bool.{ltb-true, and_parts}
use lib.Bits.{or_shifted, or_block, or_comm, or_zero_l}
use Rattle.lazy_rec.specs.Packed.{words_of, in_range}
use Rattle.lazy_rec.proofs.Shown.{shown-words_of}
use Rattle.heap_store.specs.World.{show}

abbrev pub node_from : ℕ → ℕ → ℕ → ℕ → ℕ → Option Node
node_from a b c d st = cond (eqb a 0) None (Some (record { rec = shown (a ∷ b ∷ c ∷ d ∷ []); state = state_of_word st }))

pub node_words : (ws : List ℕ) (p : ℕ) → node_of_words ws p ≡ node_from (slice_index ws (record_word_at p 0)) (slice_index ws (record_word_at p 1)) (slice_index ws (record_word_at p 2)) (slice_index ws (record_word_at p 3)) (slice_index ws (state_word_at p))
unfolding node_of_words
node_words ws p = refl

from_same : (a b c d st a' b' c' d' st' : ℕ) → a ≡ a' → b ≡ b' → c ≡ c' → d ≡ d' → st ≡ st' → node_from a b c d st ≡ node_from a' b' c' d' st'
from_same a b c d st a' b' c' d' st' e0 e1 e2 e3 e4 = rw (e0, e1, e2, e3, e4) refl

-- a place shows the same where its words are the same
pub node_same : (ws vs : List ℕ) (p : ℕ) → ((j : ℕ) → j < 4 → slice_index ws (record_word_at p j) ≡ slice_index vs (record_word_at p j)) → slice_index ws (state_word_at p) ≡ slice_index vs (state_word_at p) → node_of_words ws p ≡ node_of_words vs p
node_same ws vs p e st = node_words ws p ∙ from_same _ _ _ _ _ _ _ _ _ _ (e 0 (omega arith)) (e 1 (omega arith)) (e 2 (omega arith)) (e 3 (omega arith)) st ∙ sym (node_words vs p)

-- a row shows the same where its words are the same
pub row_same : (nodes : ℕ) (ws vs : List ℕ) (i : ℕ) → ((j : ℕ) → j < 8 → slice_index ws (row_word_at nodes i j) ≡ slice_index vs (row_word_at nodes i j)) → row_words nodes ws i ≡ row_words nodes vs i
row_same nodes ws vs i e = tabulate-same _ _ 0 8 (λ j low high. e j (omega (arith, high)))

-- a word that is stored before those of places and rows
pub count_world : (nodes rows : ℕ) (ws : List ℕ) (i x : ℕ) → i < 2 → world_of nodes rows (slice_set ws i x) ≡ world_of nodes rows ws
count_world nodes rows ws i x low = ap₂ (λ (a : List (Option Node)) (b : List (List ℕ)). record { nodes = a; rows = b })
    (tabulate-same _ _ 0 (places_of nodes) (λ q l h. node_same (slice_set ws i x) ws q (λ j few. get_or-set_other ws i (record_word_at q j) x 0 (λ z. omega arith)) (get_or-set_other ws i (state_word_at q) x 0 (λ z. omega arith))))
    (tabulate-same _ _ 0 rows (λ q l h. row_same nodes (slice_set ws i x) ws q (λ j few. get_or-set_other ws i (row_word_at nodes q j) x 0 (λ z. omega arith))))

four_same : (a b c d a' b' c' d' : ℕ) → a ≡ a' → b ≡ b' → c ≡ c' → d ≡ d' → ◌≡◌ {A = List ℕ} (a ∷ b ∷ c ∷ d ∷ []) (a' ∷ b' ∷ c' ∷ d' ∷ [])
four_same a b c d a' b' c' d' e0 e1 e2 e3 = rw (e0, e1, e2, e3) refl

pub record_same : (ws vs : List ℕ) (p : ℕ) → ((j : ℕ) → j < 4 → slice_index ws (record_word_at p j) ≡ slice_index vs (record_word_at p j)) → record_words ws p ≡ record_words vs p
record_same ws vs p e = four_same _ _ _ _ _ _ _ _ (e 0 (omega arith)) (e 1 (omega arith)) (e 2 (omega arith)) (e 3 (omega arith))

-- other words that show the same world, with the same records and states
pub well_same : (nodes rows : ℕ) (plan : _) (ws vs : List ℕ) → world_of nodes rows ws ≡ world_of nodes rows vs
    → ((p : ℕ) → is_published (recs (world_of nodes rows vs)) p ≡ true → (j : ℕ) → j < 4 → slice_index ws (record_word_at p j) ≡ slice_index vs (record_word_at p j))
    → ((p : ℕ) → slice_index ws (state_word_at p) ≡ slice_index vs (state_word_at p)) → slice_index vs 1 ≤ slice_index ws 1 → IsLawfulWords nodes rows plan vs → IsLawfulWords nodes rows plan ws
well_same nodes rows plan ws vs same records states more o = record {
  world = rw same o.world;
  legal = rw same o.legal;
  roots = rw same o.roots;
  funded = rw same o.funded;
  plan_kept = rw same o.plan_kept;
  packed = λ p r e. (let e' = ap (λ w. recs w p) (sym same) ∙ e in record_same ws vs p (records p (there p r e')) ∙ o.packed p r e');
  states = λ p l. subst (λ n. Rattle.lazy_rec.specs.States.state_word (state_of_word n) ≡ n) (sym (states p)) (o.states p l);
  ranges = λ p l. subst (λ n. Rattle.lazy_rec.specs.States.state_in_range (state_of_word n) ≡ true) (sym (states p)) (o.ranges p l);
  untouched = λ p l e. states p ∙ o.untouched p l (ap (λ w. is_published (recs w) p) (sym same) ∙ e);
  undrawn = λ i j l. ap (λ w. Rattle.heap_store.specs.Rows.word_at w (suc i) j) same ∙ o.undrawn i j (omega (arith, l, more));
  unended = λ i e. ap (λ w. Rattle.heap_store.specs.Rows.word_at w (suc i) 5) same ∙ o.unended i (ap (λ w. Rattle.heap_store.specs.Rows.is_ended_at (Rattle.heap_store.specs.Rows.row_at w) (suc i)) (sym same) ∙ e);
}
  where
    there : (p : ℕ) (r : Rec) → recs (world_of nodes rows vs) p ≡ Some r → is_published (recs (world_of nodes rows vs)) p ≡ true
    there p r e = ap (Rattle.lazy_rec.specs.Named.at_record false (λ _. true)) e

-- ---- places of a run

pub contains-append : (xs ys : List ℕ) (p : ℕ) → contains (xs ++ ys) p ≡ (contains xs p || contains ys p)
contains-append xs ys p = list_any-append (λ x. eqb x p) xs ys

pub contains-run : (n k p : ℕ) → n ≤ p → p < n + k → contains (places_from n k) p ≡ true
contains-run n zero p low high = absurd (omega arith)
contains-run n (suc k) p low high = ⊎_elim (λ eq. or_left _ _ (eq-eqb n p eq)) (λ ne. or_right (eqb n p) _ (contains-run (suc n) k p (omega arith) (omega arith))) (cases_eq n p)

pub run-contains : (n k p : ℕ) → contains (places_from n k) p ≡ true → (n ≤ p) × (p < n + k)
run-contains n zero p h = absurd (true≢false (sym h))
run-contains n (suc k) p h = ⊎_elim (λ eq. (let e = eqb-true n p eq in (omega arith, omega arith))) (λ more. (let t = run-contains (suc n) k p more in (omega (arith, t.0), omega (arith, t.1)))) (or_cases (eqb n p) (contains (places_from (suc n) k) p) h)

false_by : (b : Bool) → (b ≡ true → ⊥) → b ≡ false
false_by true f = absurd (f refl)
false_by false f = refl

pub run_distinct : (n k : ℕ) → all_distinct (places_from n k) ≡ true
run_distinct n zero = refl
run_distinct n (suc k) = and_from (not (contains (places_from (suc n) k) n)) _ (ap not (false_by _ (λ h. (let t = run-contains (suc n) k n h in omega (arith, t.0))))) (run_distinct (suc n) k)

pub append_distinct : (xs ys : List ℕ) → all_distinct xs ≡ true → all_distinct ys ≡ true → ((p : ℕ) → contains xs p ≡ true → contains ys p ≡ false) → all_distinct (xs ++ ys) ≡ true
append_distinct [] ys a b apart = b
append_distinct (x ∷ xs) ys a b apart =
    let t = Rattle.std.proofs.lemmas.Bool.and_parts (not (contains xs x)) (all_distinct xs) a in
    and_from (not (contains (xs ++ ys) x)) _
    (rw (contains-append xs ys x, not_true _ t.0, apart x (or_left _ _ (eq-eqb x x refl))) refl)
    (append_distinct xs ys t.1 b (λ p h. apart p (or_right (eqb x p) _ h)))
  where
    not_true : (b : Bool) → not b ≡ true → b ≡ false
    not_true true e = absurd (true≢false (sym e))
    not_true false e = refl

-- the count of a run's places
pub run_counts : (xs : List ℕ) (n k p : ℕ) → ((q : ℕ) → contains xs q ≡ true → q < n) → one_if (contains (xs ++ places_from n k) p) + one_if (ltb p n) ≡ one_if (contains xs p) + one_if (ltb p (n + k))
run_counts xs n k p below = ⊎_elim low_case (λ high. ⊎_elim (inside_case high) (past_case high) (cases_lt p (n + k))) (cases_lt p n)
  where
    by : (b : Bool) (m : ℕ) → one_if (b || false) + m ≡ one_if b + m
    by true m = omega arith
    by false m = omega arith

    low_case : p < n → one_if (contains (xs ++ places_from n k) p) + one_if (ltb p n) ≡ one_if (contains xs p) + one_if (ltb p (n + k))
    low_case low =
        let a : contains (places_from n k) p ≡ false = false_by (contains (places_from n k) p) (λ h. (let t = run-contains n k p h in omega (arith, t.0))) in
        let l : p < n + k = omega arith in
        rw (contains-append xs (places_from n k) p, a, lt-ltb p n low, lt-ltb p (n + k) l) (by (contains xs p) 1)

    none_there : n ≤ p → contains xs p ≡ false
    none_there high = false_by (contains xs p) (λ h. omega (arith, below p h))

    inside_case : n ≤ p → p < n + k → one_if (contains (xs ++ places_from n k) p) + one_if (ltb p n) ≡ one_if (contains xs p) + one_if (ltb p (n + k))
    inside_case high inside = rw (contains-append xs (places_from n k) p, contains-run n k p high inside, none_there high, le-ltb p n high, lt-ltb p (n + k) inside) (omega arith)

    past_case : n ≤ p → n + k ≤ p → one_if (contains (xs ++ places_from n k) p) + one_if (ltb p n) ≡ one_if (contains xs p) + one_if (ltb p (n + k))
    past_case high past =
        let a : contains (places_from n k) p ≡ false = false_by (contains (places_from n k) p) (λ h. (let t = run-contains n k p h in omega (arith, t.1))) in
        rw (contains-append xs (places_from n k) p, a, none_there high, le-ltb p n high, le-ltb p (n + k) past) (omega arith)

-- ---- a place in hand

-- where nothing is published the first record word is 0
pub first_zero : (nodes rows : ℕ) (ws : List ℕ) (p : ℕ) → p < places_of nodes → is_published (recs (world_of nodes rows ws)) p ≡ false → slice_index ws (record_word_at p 0) ≡ 0
first_zero nodes rows ws p inside free = by (eqb (slice_index ws (record_word_at p 0)) 0) refl
  where
    at : node_at (world_of nodes rows ws) p ≡ node_from (slice_index ws (record_word_at p 0)) (slice_index ws (record_word_at p 1)) (slice_index ws (record_word_at p 2)) (slice_index ws (record_word_at p 3)) (slice_index ws (state_word_at p))
    at = tabulate-at (node_of_words ws) 0 (places_of nodes) p None inside ∙ ap (node_of_words ws) {x = 0 + p} {y = p} (omega arith) ∙ node_words ws p

    there : (n : Node) → node_at (world_of nodes rows ws) p ≡ Some n → ⊥
    there n e = true≢false (sym (ap (λ (o : Option Node). Rattle.lazy_rec.specs.Named.at_record false (λ _. true) (option_map (λ (m : Node). m.rec) o)) e) ∙ free)

    by : (b : Bool) → eqb (slice_index ws (record_word_at p 0)) 0 ≡ b → slice_index ws (record_word_at p 0) ≡ 0
    by true e = eqb-true _ _ e
    by false e = absurd (there (record { rec = shown (record_words ws p); state = state_of_word (slice_index ws (state_word_at p)) }) (at ∙ ap (λ b. cond b None (Some (record { rec = shown (record_words ws p); state = state_of_word (slice_index ws (state_word_at p)) }))) e))

pub none_from : (a b c d st : ℕ) → a ≡ 0 → node_from a b c d st ≡ None
none_from a b c d st e = rw e refl

-- a record word behind the first one, of a place that shows nothing
pub fill_world : (nodes rows : ℕ) (ws : List ℕ) (p j x : ℕ) → p < places_of nodes → 0 < j → j < 4 → is_published (recs (world_of nodes rows ws)) p ≡ false → world_of nodes rows (slice_set ws (record_word_at p j) x) ≡ world_of nodes rows ws
fill_world nodes rows ws p j x inside low high free = ap₂ (λ (a : List (Option Node)) (b : List (List ℕ)). record { nodes = a; rows = b })
    (tabulate-same _ _ 0 (places_of nodes) (λ q l h. ⊎_elim (λ eq. here q eq) (λ ne. elsewhere q ne) (cases_eq q p)))
    (tabulate-same _ _ 0 rows (λ q l h. row_same nodes (slice_set ws (record_word_at p j) x) ws q (λ i few. get_or-set_other ws (record_word_at p j) (row_word_at nodes q i) x 0 (λ z. omega arith))))
  where
    zero_first : slice_index ws (record_word_at p 0) ≡ 0
    zero_first = first_zero nodes rows ws p inside free

    bare : node_of_words (slice_set ws (record_word_at p j) x) p ≡ node_of_words ws p
    bare = node_words (slice_set ws (record_word_at p j) x) p ∙ none_from _ _ _ _ _ (get_or-set_other ws (record_word_at p j) (record_word_at p 0) x 0 (λ z. omega arith) ∙ zero_first) ∙ sym (node_words ws p ∙ none_from _ _ _ _ _ zero_first)

    here : (q : ℕ) → q ≡ p → node_of_words (slice_set ws (record_word_at p j) x) q ≡ node_of_words ws q
    here q eq = rw eq bare

    elsewhere : (q : ℕ) → (q ≡ p → ⊥) → node_of_words (slice_set ws (record_word_at p j) x) q ≡ node_of_words ws q
    elsewhere q ne = node_same (slice_set ws (record_word_at p j) x) ws q (λ i few. get_or-set_other ws (record_word_at p j) (record_word_at q i) x 0 (λ z. ne (omega arith))) (get_or-set_other ws (record_word_at p j) (state_word_at q) x 0 (λ z. omega arith))

-- the first word of a record isn't 0
pub first_word : (r : Rec) → in_range r ≡ true → slice_index (words_of r) 0 ≡ 0 → ⊥
first_word r range e =
    let is : shown (words_of r) ≡ r = shown-words_of r range in
    let tag : Rattle.lazy_rec.specs.Shown.at (words_of r) 0 0 6 ≡ 0 = omega (arith, e) in
    let nil : shown (words_of r) ≡ Nil = ap (λ t. Rattle.lazy_rec.specs.Shown.tagged t (words_of r)) tag in
    let same : r ≡ Nil = sym is ∙ nil in
    let one : slice_index (words_of r) 0 ≡ 1 = ap (λ z. slice_index (words_of z) 0) same in
    absurd (omega (arith, one, e))

pub zero_state : state_of_word 0 ≡ Unforced 0
unfolding state_of_word
zero_state = refl

some_from : (a b c d : ℕ) (r : Rec) → in_range r ≡ true → ◌≡◌ {A = List ℕ} (a ∷ b ∷ c ∷ d ∷ []) (words_of r) → node_from a b c d 0 ≡ Some (record { rec = r; state = Unforced 0 })
some_from a b c d r range e = by (eqb a 0) refl
  where
    by : (z : Bool) → eqb a 0 ≡ z → node_from a b c d 0 ≡ Some (record { rec = r; state = Unforced 0 })
    by true t = absurd (first_word r range (ap (λ ws. slice_index ws 0) (sym e) ∙ eqb-true a 0 t))
    by false t = ap (λ z. cond z None (Some (record { rec = shown (a ∷ b ∷ c ∷ d ∷ []); state = state_of_word 0 }))) t ∙ ap₂ (λ x y. Some (record { rec = x; state = y })) (ap shown e ∙ shown-words_of r range) zero_state

-- the first word of a place whose others are filled
pub publish_world : (nodes rows : ℕ) (ws : List ℕ) (p x : ℕ) (r : Rec) → p < places_of nodes → length ws ≡ word_count nodes rows → in_range r ≡ true
    → ◌≡◌ {A = List ℕ} (x ∷ slice_index ws (record_word_at p 1) ∷ slice_index ws (record_word_at p 2) ∷ slice_index ws (record_word_at p 3) ∷ []) (words_of r)
    → slice_index ws (state_word_at p) ≡ 0 → world_of nodes rows (slice_set ws (record_word_at p 0) x) ≡ show (world_of nodes rows ws) p r (Unforced 0)
publish_world nodes rows ws p x r inside wide range words untouched = ap₂ (λ (a : List (Option Node)) (b : List (List ℕ)). record { nodes = a; rows = b })
    (sym (tabulate-set (node_of_words ws) (node_of_words (slice_set ws (record_word_at p 0) x)) 0 (places_of nodes) p (Some (record { rec = r; state = Unforced 0 })) inside here elsewhere))
    (tabulate-same _ _ 0 rows (λ q l h. row_same nodes (slice_set ws (record_word_at p 0) x) ws q (λ i few. get_or-set_other ws (record_word_at p 0) (row_word_at nodes q i) x 0 (λ z. omega arith))))
  where
    put : List ℕ
    put = slice_set ws (record_word_at p 0) x

    other : (i : ℕ) → (i ≡ record_word_at p 0 → ⊥) → slice_index (slice_set ws (record_word_at p 0) x) i ≡ slice_index ws i
    other i ne = get_or-set_other ws (record_word_at p 0) i x 0 ne

    own : node_of_words (slice_set ws (record_word_at p 0) x) p ≡ Some (record { rec = r; state = Unforced 0 })
    own = node_words (slice_set ws (record_word_at p 0) x) p
        ∙ from_same _ _ _ _ _ x (slice_index ws (record_word_at p 1)) (slice_index ws (record_word_at p 2)) (slice_index ws (record_word_at p 3)) 0
        (get_or-set_same ws (record_word_at p 0) x 0 (omega (arith, wide, inside))) (other (record_word_at p 1) (λ z. omega arith)) (other (record_word_at p 2) (λ z. omega arith)) (other (record_word_at p 3) (λ z. omega arith)) (other (state_word_at p) (λ z. omega arith) ∙ untouched)
        ∙ some_from x (slice_index ws (record_word_at p 1)) (slice_index ws (record_word_at p 2)) (slice_index ws (record_word_at p 3)) r range words

    here : node_of_words (slice_set ws (record_word_at p 0) x) (0 + p) ≡ Some (record { rec = r; state = Unforced 0 })
    here = ap (node_of_words (slice_set ws (record_word_at p 0) x)) {x = 0 + p} {y = p} (omega arith) ∙ own

    elsewhere : (q : ℕ) → (q ≡ 0 + p → ⊥) → node_of_words (slice_set ws (record_word_at p 0) x) q ≡ node_of_words ws q
    elsewhere q ne = node_same (slice_set ws (record_word_at p 0) x) ws q (λ j few. other (record_word_at q j) (λ z. ne (omega arith))) (other (state_word_at q) (λ z. omega arith))

-- ---- states

state_by : (a b c d st y : ℕ) (r : Rec) (old new : SuspState) → state_of_word y ≡ new → node_from a b c d st ≡ Some (record { rec = r; state = old }) → node_from a b c d y ≡ Some (record { rec = r; state = new })
state_by a b c d st y r old new is e = by (eqb a 0) e
  where
    by : (z : Bool) → cond {A = Option Node} z None (Some (record { rec = shown (a ∷ b ∷ c ∷ d ∷ []); state = state_of_word st })) ≡ Some (record { rec = r; state = old })
        → cond {A = Option Node} z None (Some (record { rec = shown (a ∷ b ∷ c ∷ d ∷ []); state = state_of_word y })) ≡ Some (record { rec = r; state = new })
    by true k = cc
    by false k = ap₂ (λ x s. Some (record { rec = x; state = s })) (ap (elim [ None ↦ r | Some n ↦ n.rec ]) k) is

-- a state word of a place that shows something
pub state_world : (nodes rows : ℕ) (ws : List ℕ) (p y : ℕ) (r : Rec) (old new : SuspState) → p < places_of nodes → length ws ≡ word_count nodes rows
    → node_at (world_of nodes rows ws) p ≡ Some (record { rec = r; state = old }) → state_of_word y ≡ new → world_of nodes rows (slice_set ws (state_word_at p) y) ≡ show (world_of nodes rows ws) p r new
state_world nodes rows ws p y r old new inside wide here is = ap₂ (λ (a : List (Option Node)) (b : List (List ℕ)). record { nodes = a; rows = b })
    (sym (tabulate-set (node_of_words ws) (node_of_words (slice_set ws (state_word_at p) y)) 0 (places_of nodes) p (Some (record { rec = r; state = new })) inside (ap (node_of_words (slice_set ws (state_word_at p) y)) {x = 0 + p} {y = p} (omega arith) ∙ own) elsewhere))
    (tabulate-same _ _ 0 rows (λ q l h. row_same nodes (slice_set ws (state_word_at p) y) ws q (λ i few. get_or-set_other ws (state_word_at p) (row_word_at nodes q i) y 0 (λ z. omega arith))))
  where
    other : (i : ℕ) → (i ≡ state_word_at p → ⊥) → slice_index (slice_set ws (state_word_at p) y) i ≡ slice_index ws i
    other i ne = get_or-set_other ws (state_word_at p) i y 0 ne

    at : node_from (slice_index ws (record_word_at p 0)) (slice_index ws (record_word_at p 1)) (slice_index ws (record_word_at p 2)) (slice_index ws (record_word_at p 3)) (slice_index ws (state_word_at p)) ≡ Some (record { rec = r; state = old })
    at = sym (tabulate-at (node_of_words ws) 0 (places_of nodes) p None inside ∙ ap (node_of_words ws) {x = 0 + p} {y = p} (omega arith) ∙ node_words ws p) ∙ here

    own : node_of_words (slice_set ws (state_word_at p) y) p ≡ Some (record { rec = r; state = new })
    own = node_words (slice_set ws (state_word_at p) y) p
        ∙ from_same _ _ _ _ _ (slice_index ws (record_word_at p 0)) (slice_index ws (record_word_at p 1)) (slice_index ws (record_word_at p 2)) (slice_index ws (record_word_at p 3)) y
        (other (record_word_at p 0) (λ z. omega arith)) (other (record_word_at p 1) (λ z. omega arith)) (other (record_word_at p 2) (λ z. omega arith)) (other (record_word_at p 3) (λ z. omega arith)) (get_or-set_same ws (state_word_at p) y 0 (omega (arith, wide, inside)))
        ∙ state_by (slice_index ws (record_word_at p 0)) (slice_index ws (record_word_at p 1)) (slice_index ws (record_word_at p 2)) (slice_index ws (record_word_at p 3)) (slice_index ws (state_word_at p)) y r old new is at

    elsewhere : (q : ℕ) → (q ≡ 0 + p → ⊥) → node_of_words (slice_set ws (state_word_at p) y) q ≡ node_of_words ws q
    elsewhere q ne = node_same (slice_set ws (state_word_at p) y) ws q (λ j few. other (record_word_at q j) (λ z. omega arith)) (other (state_word_at q) (λ z. ne (omega arith)))

-- words of states

or_even : (x : ℕ) → x % 2 ≡ 0 → bit_or x 1 ≡ x + 1
or_even x e = ap (λ y. bit_or y 1) {x = x} {y = x / 2 * 2 ^ 1} (omega arith) ∙ (or_shifted (x / 2) 1 1 (omega arith) ∙ omega arith)

or_odd : (x : ℕ) → x % 2 ≡ 1 → bit_or x 1 ≡ x
or_odd x e = ap (λ y. bit_or y 1) {x = x} {y = x / 2 * 2 ^ 1 + 1} (omega arith) ∙ (or_block 1 (x / 2) 0 1 1 (omega arith) (omega arith) ∙ (ap (λ y. y * 2 ^ 1 + 1) (or_comm (x / 2) 0 ∙ or_zero_l (x / 2)) ∙ omega arith))

unforced_word : (x : ℕ) → x % 4 ≡ 0 → state_of_word x ≡ Unforced (x / 4 % 65536)
unfolding state_of_word
unforced_word x e = ap (λ b. cond b (Unforced (x / 4 % 65536)) (cond (eqb (x % 4) 1) (Claimed (x / 4 % 65536)) (Done (record { 0 = x / 1099511627776 % 4194304 }) (x / 262144 % 4194304) (x / 4 % 65536)))) (eq-eqb (x % 4) 0 e)

claimed_word : (x : ℕ) → x % 4 ≡ 1 → state_of_word x ≡ Claimed (x / 4 % 65536)
unfolding state_of_word
claimed_word x e = ap₂ (λ b c. cond b (Unforced (x / 4 % 65536)) (cond c (Claimed (x / 4 % 65536)) (Done (record { 0 = x / 1099511627776 % 4194304 }) (x / 262144 % 4194304) (x / 4 % 65536)))) (ne_eqb (x % 4) 0 (λ z. omega (arith, e, z))) (eq-eqb (x % 4) 1 e)

done_word : (x : ℕ) → 2 ≤ x % 4 → state_of_word x ≡ Done (record { 0 = x / 1099511627776 % 4194304 }) (x / 262144 % 4194304) (x / 4 % 65536)
unfolding state_of_word
done_word x e = ap₂ (λ b c. cond b (Unforced (x / 4 % 65536)) (cond c (Claimed (x / 4 % 65536)) (Done (record { 0 = x / 1099511627776 % 4194304 }) (x / 262144 % 4194304) (x / 4 % 65536)))) (ne_eqb (x % 4) 0 (λ z. omega (arith, e, z))) (ne_eqb (x % 4) 1 (λ z. omega (arith, e, z)))

-- the state of a word in range
pub word_state : (s : SuspState) → state_in_range s ≡ true → state_of_word (state_word s) ≡ s
word_state (Unforced g) h = let l = ltb-true g 65536 (and_parts (ltb g 65536) _ h).0 in unforced_word (state_word (Unforced g)) (omega arith) ∙ ap Unforced (omega (arith, l))
word_state (Claimed g) h = let l = ltb-true g 65536 (and_parts (ltb g 65536) _ h).0 in claimed_word (state_word (Claimed g)) (omega arith) ∙ ap Claimed (omega (arith, l))
word_state (Done place steps g) h =
    let k = and_parts (ltb g 65536) _ h in let m = and_parts (ltb steps 4194304) _ k.1 in let n = and_parts (ltb place.0 4194304) _ m.1 in
    let a = ltb-true g 65536 k.0 in let b = ltb-true steps 4194304 m.0 in let c = ltb-true place.0 4194304 n.0 in
    let w : ℕ = state_word (Done place steps g) in
    done_word w (omega arith) ∙ three (record { 0 = w / 1099511627776 % 4194304 }) place (w / 262144 % 4194304) steps (w / 4 % 65536) g (ap (λ (n : ℕ). record { 0 = n }) (omega (arith, a, b, c))) (omega (arith, a, b, c)) (omega (arith, a, b, c))
  where
    three : (p p' : Ref) (s s' n n' : ℕ) → p ≡ p' → s ≡ s' → n ≡ n' → Done p s n ≡ Done p' s' n'
    three p p' s s' n n' e f i = rw (e, f, i) refl

-- an unforced word becomes that of a claim with its lowest bit set, and others stay
pub claim_word : (x g : ℕ) → state_of_word x ≡ Unforced g → state_word (state_of_word x) ≡ x → g < 65536 → (bit_or x 1 ≡ state_word (Claimed g))
claim_word x g e proper small =
    let w : state_word (Unforced g) ≡ x = ap state_word (sym e) ∙ proper in
    or_even x (omega (arith, w)) ∙ omega (arith, w, small)

pub other_word : (x : ℕ) → is_unforced (state_of_word x) ≡ false → state_word (state_of_word x) ≡ x → bit_or x 1 ≡ x
other_word x no_longer proper = by (state_of_word x) refl proper
  where
    by : (s : SuspState) → state_of_word x ≡ s → state_word s ≡ x → bit_or x 1 ≡ x
    by (Unforced g) e w = absurd (true≢false (sym (ap is_unforced e) ∙ no_longer))
    by (Claimed g) e w = or_odd x (omega (arith, w))
    by (Done place steps g) e w = or_odd x (omega (arith, w))

-- ---- what a place shows, by its words

state_by_words : (ws : List ℕ) (s : ℕ) (m : Node) → node_of_words ws s ≡ Some m → m.state ≡ state_of_word (slice_index ws (state_word_at s))
unfolding node_of_words
state_by_words ws s m h = by (eqb (slice_index ws (record_word_at s 0)) 0) h
  where
    by : (b : Bool) → cond b None (Some (record { rec = shown (record_words ws s); state = state_of_word (slice_index ws (state_word_at s)) })) ≡ Some m → m.state ≡ state_of_word (slice_index ws (state_word_at s))
    by true k = cc
    by false k = sym (ap (elim [ None ↦ state_of_word (slice_index ws (state_word_at s)) | Some z ↦ z.state ]) k)

pub node_state : (nodes rows : ℕ) (ws : List ℕ) (p : ℕ) (m : Node) → p < places_of nodes → node_at (world_of nodes rows ws) p ≡ Some m → m.state ≡ state_of_word (slice_index ws (state_word_at p))
node_state nodes rows ws p m inside h = state_by_words ws p m (sym (tabulate-at (node_of_words ws) 0 (places_of nodes) p None inside ∙ ap (node_of_words ws) {x = 0 + p} {y = p} (omega arith)) ∙ h)
