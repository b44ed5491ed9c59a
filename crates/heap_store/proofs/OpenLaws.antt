-- The row that is worked on is one of the names in hand.
use Rattle.std.proofs.Common.{◌≡◌, ℕ, ◌+◌, ◌-◌, Bool, true, false, cond, eqb, List, [], ◌∷◌, ◌++◌, Option, refl, sym, ◌∙◌, arith, subst, length, leb, ltb, not, ◌&&◌, ⊎_elim}
use Rattle.std.specs.Prelude.{slice_set, slice_index_or, map}
use Rattle.std.specs.List.{list_all}
use Rattle.std.proofs.lemmas.Grind.{common_steps}
use Rattle.std.proofs.lemmas.Bool.{true≢false, eq-eqb, or_left, or_right, or_cases, and_parts, and_from}
use Rattle.heap_store.specs.declared.nodes.Node.{Node}
use Rattle.heap_store.specs.declared.claims.HeldClaim.{HeldClaim}
use Rattle.heap_store.specs.declared.claims.OpenRow.{OpenRow}
use Rattle.heap_store.specs.declared.claims.Full.{Full}
use Rattle.heap_store.specs.World.{World}
use Rattle.heap_store.specs.Rows.{store_word}
use Rattle.heap_store.specs.Hand.{Hand, contains, without, rows_after_end}
use Rattle.heap_store.specs.RowCalls.{MayStore, begins_row, ends_row, hand_stored}
use Rattle.heap_store.specs.Plain.{IsPlain, plain_view, no_words, open_names, rows_after_word}
use Rattle.heap_store.proofs.Steps.{contains-filter}
use Rattle.heap_store.proofs.PlainLists.{open-append}
use Rattle.heap_store.proofs.PlainRows.{hand_if, stored_view_at}

-- the rows that are worked on are names
abbrev pub AreOpenIn : List OpenRow → List ℕ → Type 0
AreOpenIn rows names = list_all (λ (o : OpenRow). contains names o.name) rows ≡ true

-- a refusal is noted
pub marked_open : (rows : List OpenRow) (names : List ℕ) → AreOpenIn rows names → AreOpenIn (map (λ (o : OpenRow). record o { refused = true }) rows) names
marked_open [] names h = refl
marked_open (o ∷ rows) names h = let k = and_parts (contains names o.name) _ h in and_from _ _ k.0 (marked_open rows names k.1)

-- a name is drawn
pub contains-more : (xs : List ℕ) (y x : ℕ) → contains xs x ≡ true → contains (xs ++ y ∷ []) x ≡ true
contains-more [] y x h = absurd (true≢false (sym h))
contains-more (z ∷ xs) y x h = ⊎_elim (λ e. or_left (eqb z x) _ e) (λ e. or_right (eqb z x) _ (contains-more xs y x e)) (or_cases (eqb z x) (contains xs x) h)

pub more_open : (rows : List OpenRow) (xs : List ℕ) (y : ℕ) → AreOpenIn rows xs → AreOpenIn rows (xs ++ y ∷ [])
more_open [] xs y h = refl
more_open (o ∷ rows) xs y h = let k = and_parts (contains xs o.name) _ h in and_from _ _ (contains-more xs y o.name k.0) (more_open rows xs y k.1)

pub named_open : (open_rows : List OpenRow) (rows rows' : List (List ℕ)) → rows' ≡ rows ++ no_words ∷ [] → AreOpenIn open_rows (open_names 1 rows) → AreOpenIn open_rows (open_names 1 rows')
named_open open_rows rows rows' e h = rw (e, open-append 1 rows) (more_open open_rows (open_names 1 rows) (1 + length rows) h)

-- a word is stored
outside_one : (name x : ℕ) → (x ≡ name → ⊥) → not (leb name x && ltb x (name + 1)) ≡ true
outside_one name x ne = grind (arith, common_steps, ne)

contains-without : (xs : List ℕ) (name x : ℕ) → (x ≡ name → ⊥) → contains xs x ≡ true → contains (without name (name + 1) xs) x ≡ true
contains-without xs name x ne h = contains-filter (λ p. not (leb name p && ltb p (name + 1))) xs x (outside_one name x ne) h

ended_open : (rows : List OpenRow) (xs : List ℕ) (name : ℕ) → AreOpenIn rows xs → AreOpenIn (rows_after_end name rows) (without name (name + 1) xs)
ended_open [] xs name h = refl
ended_open (o ∷ rows) xs name h = let k = and_parts (contains xs o.name) _ h in by (eqb o.name name) refl k.0 (ended_open rows xs name k.1)
  where
    by : (b : Bool) → eqb o.name name ≡ b → contains xs o.name ≡ true → AreOpenIn (rows_after_end name rows) (without name (name + 1) xs) → AreOpenIn (cond (not b) (o ∷ rows_after_end name rows) (rows_after_end name rows)) (without name (name + 1) xs)
    by true e m h = h
    by false e m h = and_from _ _ (contains-without xs name o.name (λ same. true≢false (sym (eq-eqb o.name name same) ∙ e)) m) h

begun_open : (rows : List OpenRow) (xs : List ℕ) (name : ℕ) → contains xs name ≡ true → AreOpenIn rows xs → AreOpenIn (rows ++ record { name = name; refused = false } ∷ []) xs
begun_open [] xs name own h = and_from _ _ own refl
begun_open (o ∷ rows) xs name own h = let k = and_parts (contains xs o.name) _ h in and_from _ _ k.0 (begun_open rows xs name own k.1)

pub hand_open : (b e : Bool) (w : World) (h : Hand) (name : ℕ) → contains h.names name ≡ true → AreOpenIn h.open_rows h.names → AreOpenIn (hand_if b e w h name).open_rows (hand_if b e w h name).names
hand_open true e w h name own k = begun_open h.open_rows h.names name own k
hand_open false true w h name own k = ended_open h.open_rows h.names name k
hand_open false false w h name own k = k

pub stored_open : (capacity row_capacity : ℕ) (nodes : List (Option Node)) (claims : List HeldClaim) (rows : List (List ℕ)) → IsPlain capacity row_capacity nodes claims rows → (open_rows : List OpenRow) (refused : ℕ) (last : Full) (name i v : ℕ)
    → MayStore (plain_view nodes claims rows open_rows capacity row_capacity refused last) name i v → (ws : List ℕ) → ws ≡ slice_index_or rows (name - 1) ws → AreOpenIn open_rows (open_names 1 rows)
    → AreOpenIn (rows_after_word name i v open_rows) (open_names 1 (slice_set rows (name - 1) (slice_set ws i v)))
stored_open capacity row_capacity nodes claims rows h open_rows refused last name i v may ws read k =
    let v0 = plain_view nodes claims rows open_rows capacity row_capacity refused last in
    let s = stored_view_at capacity row_capacity nodes claims rows h open_rows refused last name i v may ws read in
    let w = store_word v0.seen name i v in
    let own : AreOpenIn (hand_stored w v0.hand name i v).open_rows (hand_stored w v0.hand name i v).names = hand_open (begins_row i v) (ends_row i) w v0.hand name may.drawn k in
    subst (λ (x : Hand). AreOpenIn x.open_rows x.names) (sym (s.alone refl).3) own
