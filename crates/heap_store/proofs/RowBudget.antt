-- What storing a word of a row does to the dues and the events' own places: they rise where an event begins, by its own.
use Rattle.std.proofs.Common.{◌≡◌, ℕ, zero, suc, ◌<◌, ◌≤◌, ◌+◌, refl, sym, ap, ◌∙◌, arith, subst, eqb, ⊎_elim, Bool, true, false, cond, not, ◌&&◌, ◌||◌, Option, Some, None, List, [], ◌∷◌, length, take}
use Rattle.std.specs.Prelude.{option_and_then, slice_set, slice_index_or}
use Rattle.std.specs.List.{list_all}
use Rattle.std.proofs.lemmas.Bool.{true≢false, cases_lt, and_parts, eqb-true}
use Rattle.lazy_rec.specs.declared.events.Kind.{Kind}
use Rattle.lazy_rec.specs.declared.events.Kind.TheVariants as kinds
use Rattle.lazy_rec.specs.declared.events.Op.{Op}
use Rattle.lazy_rec.specs.declared.events.Op.TheVariants as ops
use Rattle.lazy_rec.specs.declared.events.Event.{Event}
use Rattle.lazy_rec.specs.Kinds.{bases_of, bases, uses_base, uses_other}
use Rattle.lazy_rec.specs.Due.{due, direct}
use Rattle.lazy_rec.specs.History.{event_name, kind_of}
use Rattle.lazy_rec.proofs.NumberLaws.{some_kind}
use Rattle.heap_store.specs.declared.versions.Version.{Version}
use Rattle.heap_store.specs.World.{World, recs}
use Rattle.heap_store.specs.Rows.{Row, is_ended, is_answered, is_without_base, row_of, row_at, version_at, events_of, words_at, word, word_at, store_word}
use Rattle.heap_store.specs.Growth.{begun_of}
use Rattle.heap_store.specs.LookedAt.{size_of}
use Rattle.heap_store.specs.Legal.{IsLegal}
use Rattle.heap_store.specs.Hand.{Hand}
use Rattle.heap_store.specs.RowCalls.{begins_row}
use Rattle.heap_store.specs.Budget.{of_based, of_event, of_row, sum_rows, room_of, IsFunded, IsInBudget, alone_with}
use Rattle.heap_store.proofs.HistoryLaws.{version_well, version_same, kind_at_same}
use Rattle.heap_store.proofs.WordLaws.{words-same, row-other, word-set_other, word-set_same, begun_with, begun-words, begun_none, begun_skipped, begun-same}

-- ---- the terms of an event

-- the kind of a version is that of its row's name
pub version_kind : (w : World) → IsLegal w → (n : ℕ) (v : Version) → version_at (row_at w) n ≡ Some v → kind_of (events_of (row_at w)) (event_name n) ≡ Some v.kind
version_kind w legal n v f = some_kind v.kind (kind_of (events_of (row_at w)) (event_name n)) (version_well (recs w) (row_at w) legal n v f).kind

-- the term of a begun event
abbrev pub of_begun : (Kind → Op → ℕ → ℕ → ℕ) → World → Option (ℕ × Event) → ℕ
of_begun table w None = 0
of_begun table w (Some e) = of_event table w e.1 e.1.op

row_begun : (table : Kind → Op → ℕ → ℕ → ℕ) (w : World) (o : Option Row) → of_row table w o ≡ of_begun table w (option_and_then begun_of o)
row_begun table w None = refl
row_begun table w (Some r) = by r.begun
  where
    by : (b : Bool) → cond b (of_event table w r.event r.event.op) 0 ≡ of_begun table w (cond b (Some (r.caller, r.event)) None)
    by true = refl
    by false = refl

-- the versions that a begun event uses are there
begun_bases : (w : World) → IsLegal w → (i : ℕ) (r : Row) → row_at w i ≡ Some r → r.begun ≡ true → list_all (is_answered (row_at w)) (bases r.event) ≡ true
begun_bases w legal i r e begun = by (is_without_base r.ending) (is_ended r.ending) r.begun begun _ _ (legal.begun i r e)
  where
    by : (x y z : Bool) → z ≡ true → (u v : Bool) → cond x (not z && u) (cond (y || z) (z && v) true) ≡ true → v ≡ true
    by true y true f u v h = absurd (true≢false (sym h))
    by false true true f u v h = h
    by false false true f u v h = h
    by x y false f u v h = absurd (true≢false (sym f))

-- an ended row stays as it is
abbrev pub EndedStay : World → World → Type 0
EndedStay a b = (i : ℕ) (r : Row) → row_at a i ≡ Some r → is_ended r.ending ≡ true → row_at b i ≡ Some r

module _ (a b : World) (legal_a : IsLegal a) (legal_b : IsLegal b) (stay : EndedStay a b) where
  pub record SameVersion (n : ℕ) : Type 0 where
    pub version : version_at (row_at a) n ≡ version_at (row_at b) n
    pub kind : kind_of (events_of (row_at a)) (event_name n) ≡ kind_of (events_of (row_at b)) (event_name n)

  same_version : (n : ℕ) → is_answered (row_at a) n ≡ true → SameVersion n
  same_version n h = record {
    version = version_same (row_at a) (row_at b) stay n h;
    kind = kind_at_same (row_at a) (row_at b) stay (recs a) legal_a n h;
  }

  -- the other version is there, or isn't used and 0
  other_version : (other : ℕ) (u : Bool) → list_all (is_answered (row_at a)) (cond u (other ∷ []) []) ≡ true → (u || eqb other 0) ≡ true → version_at (row_at a) other ≡ version_at (row_at b) other
  other_version other true h t = (same_version other (and_parts (is_answered (row_at a) other) _ h).0).version
  other_version other false h t = rw (eqb-true other 0 t) refl

  based_same : (table : Kind → Op → ℕ → ℕ → ℕ) (e : Event) (u : Bool) → list_all (is_answered (row_at a)) (e.base ∷ cond u (e.other ∷ []) []) ≡ true → (u || eqb e.other 0) ≡ true
      → of_based table a e (kind_of (events_of (row_at a)) (event_name e.base)) ≡ of_based table b e (kind_of (events_of (row_at b)) (event_name e.base))
  based_same table e u h t =
      let k = and_parts (is_answered (row_at a) e.base) _ h in
      let s = same_version e.base k.0 in
      rw s.kind (by (kind_of (events_of (row_at b)) (event_name e.base)) s.version (other_version e.other u k.1 t))
    where
      by : (o : Option Kind) → version_at (row_at a) e.base ≡ version_at (row_at b) e.base → version_at (row_at a) e.other ≡ version_at (row_at b) e.other → of_based table a e o ≡ of_based table b e o
      by None x y = refl
      by (Some k) x y = rw (x, y) refl

  event_same : (table : Kind → Op → ℕ → ℕ → ℕ) (e : Event) (op : Op) → list_all (is_answered (row_at a)) (bases_of op e.base e.other) ≡ true → (uses_other op || eqb e.other 0) ≡ true → of_event table a e op ≡ of_event table b e op
  event_same table e (ops.New k) h t = refl
  event_same table e op h t = based_same table e (uses_other op) h t

  -- a row of which as much is begun in both worlds counts as much
  pub row_same : (table : Kind → Op → ℕ → ℕ → ℕ) (i : ℕ) → option_and_then begun_of (row_at a i) ≡ option_and_then begun_of (row_at b i) → of_row table a (row_at a i) ≡ of_row table b (row_at b i)
  row_same table i same = row_begun table a (row_at a i) ∙ (by (row_at a i) refl ∙ (ap (of_begun table b) same ∙ sym (row_begun table b (row_at b i))))
    where
      by : (o : Option Row) → row_at a i ≡ o → of_begun table a (option_and_then begun_of o) ≡ of_begun table b (option_and_then begun_of o)
      by None e = refl
      by (Some r) e = own r.begun refl
        where
          own : (z : Bool) → r.begun ≡ z → of_begun table a (cond z (Some (r.caller, r.event)) None) ≡ of_begun table b (cond z (Some (r.caller, r.event)) None)
          own true f = event_same table r.event r.event.op (begun_bases a legal_a i r e f) (and_parts _ _ (and_parts _ _ (legal_a.trim i r e)).0).1
          own false f = refl

-- ---- the due of a row, by the versions that its event uses

-- an operation with no other version hangs on no size of one
pub due_other : (k : Kind) (op : Op) (n m m' : ℕ) → uses_other op ≡ false → due k op n m ≡ due k op n m'
due_other kinds.Stream ops.Append n m m' h = refl
due_other kinds.Bankq ops.Snoc n m m' h = refl
due_other kinds.Rtq ops.Snoc n m m' h = refl
due_other kinds.Heap ops.Meld n m m' h = absurd (true≢false h)
due_other kinds.Seq ops.Concat n m m' h = absurd (true≢false h)
due_other kinds.Prio ops.Meld n m m' h = absurd (true≢false h)
due_other kinds.Ord ops.Insert n m m' h = refl
due_other kinds.Cat ops.Append n m m' h = refl
due_other _ _ n m m' h = refl

pub direct_other : (k : Kind) (op : Op) (n m m' : ℕ) → direct k op n m ≡ direct k op n m'
direct_other kinds.Stream ops.Append n m m' = refl
direct_other kinds.Bankq ops.Snoc n m m' = refl
direct_other kinds.Rtq ops.Snoc n m m' = refl
direct_other kinds.Heap ops.Meld n m m' = refl
direct_other kinds.Seq ops.Concat n m m' = refl
direct_other kinds.Prio ops.Meld n m m' = refl
direct_other kinds.Ord ops.Insert n m m' = refl
direct_other kinds.Cat ops.Append n m m' = refl
direct_other _ _ n m m' = refl

-- a begun event that uses a base counts by its version
pub based_row : (table : Kind → Op → ℕ → ℕ → ℕ) (w : World) → IsLegal w → (i : ℕ) (r : Row) → row_at w i ≡ Some r → r.begun ≡ true → uses_base r.event.op ≡ true → (u : Version) → version_at (row_at w) r.event.base ≡ Some u
    → of_row table w (row_at w i) ≡ table u.kind r.event.op u.size (size_of (version_at (row_at w) r.event.other))
based_row table w legal i r e begun uses u f =
    ap (of_row table w) e ∙ (ap {B = ℕ} (λ b. cond b (of_event table w r.event r.event.op) 0) begun ∙ (by r.event.op uses ∙ (ap (of_based table w r.event) (version_kind w legal r.event.base u f) ∙ ap (λ o. table u.kind r.event.op (size_of o) (size_of (version_at (row_at w) r.event.other))) f)))
  where
    by : (op : Op) → uses_base op ≡ true → of_event table w r.event op ≡ of_based table w r.event (kind_of (events_of (row_at w)) (event_name r.event.base))
    by (ops.New k) h = absurd (true≢false (sym h))
    by _ h = refl

-- and one that makes an empty structure by its kind
pub new_row : (table : Kind → Op → ℕ → ℕ → ℕ) (w : World) (i : ℕ) (r : Row) (k : Kind) → row_at w i ≡ Some r → r.begun ≡ true → r.event.op ≡ ops.New k → of_row table w (row_at w i) ≡ table k (ops.New k) 0 0
new_row table w i r k e begun f = ap (of_row table w) e ∙ (ap {B = ℕ} (λ b. cond b (of_event table w r.event r.event.op) 0) begun ∙ by r.event.op f)
  where
    by : (op : Op) → op ≡ ops.New k → of_event table w r.event op ≡ table k (ops.New k) 0 0
    by op g = ap (of_event table w r.event) g ∙ ap (λ z. table k z 0 0) f

-- ---- sums over rows

one_on : (f g : ℕ → List ℕ → ℕ) (i m : ℕ) (x : List ℕ) → f (i + suc m) x ≡ g (i + suc m) x → f (suc i + m) x ≡ g (suc i + m) x
one_on f g i m x h = let e : i + suc m ≡ suc i + m = omega arith in subst (λ z. f z x ≡ g z x) e h

rows_same : (f g : ℕ → List ℕ → ℕ) (i : ℕ) (rows : List (List ℕ)) → ((m : ℕ) → f (i + m) (slice_index_or rows m []) ≡ g (i + m) (slice_index_or rows m [])) → sum_rows f i rows ≡ sum_rows g i rows
rows_same f g i [] h = refl
rows_same f g i (x ∷ rows) h =
    let e : i + 0 ≡ i = omega arith in
    let first : f i x ≡ g i x = subst (λ z. f z x ≡ g z x) e (h 0) in
    omega (arith, first, rows_same f g (suc i) rows (λ m. one_on f g i m (slice_index_or rows m []) (h (suc m))))

rows_changed : (f g : ℕ → List ℕ → ℕ) (new : List ℕ) (i k : ℕ) (rows : List (List ℕ)) → k < length rows → ((m : ℕ) → (m ≡ k → ⊥) → f (i + m) (slice_index_or rows m []) ≡ g (i + m) (slice_index_or rows m [])) → sum_rows g i (slice_set rows k new) + f (i + k) (slice_index_or rows k []) ≡ sum_rows f i rows + g (i + k) new
rows_changed f g new i k [] l h = absurd (omega arith)
rows_changed f g new i zero (x ∷ rows) l h =
    let e : i + 0 ≡ i = omega arith in
    let rest = rows_same f g (suc i) rows (λ m. one_on f g i m (slice_index_or rows m []) (h (suc m) (λ z. absurd (omega (arith, z))))) in
    omega (arith, rest, ap (λ z. f z x) e, ap (λ z. g z new) e)
rows_changed f g new i (suc k) (x ∷ rows) l h =
    let e : i + suc k ≡ suc i + k = omega arith in
    let z : i + 0 ≡ i = omega arith in
    let first : f i x ≡ g i x = subst (λ z. f z x ≡ g z x) z (h 0 (λ n. absurd (omega (arith, n)))) in
    let rest = rows_changed f g new (suc i) k rows (omega arith) (λ m ne. one_on f g i m (slice_index_or rows m []) (h (suc m) (λ n. ne (omega (arith, n))))) in
    omega (arith, rest, first, ap (λ z. f z (slice_index_or rows k [])) e, ap (λ z. g z new) e)

-- one row more
pub rows_more : (f : ℕ → List ℕ → ℕ) → ((j : ℕ) → f j [] ≡ 0) → (i k : ℕ) (rows : List (List ℕ)) → sum_rows f i (take (suc k) rows) ≡ sum_rows f i (take k rows) + f (i + k) (slice_index_or rows k [])
rows_more f none i zero [] = omega (arith, none (i + 0))
rows_more f none i (suc k) [] = omega (arith, none (i + suc k))
rows_more f none i zero (x ∷ rows) = let e : i + 0 ≡ i = omega arith in omega (arith, ap (λ z. f z x) e)
rows_more f none i (suc k) (x ∷ rows) =
    let e : suc i + k ≡ i + suc k = omega arith in
    omega (arith, rows_more f none (suc i) k rows, ap (λ z. f z (slice_index_or rows k [])) e)

-- a sum that is no greater row by row, where what is past the rows adds nothing
rows_le : (f g : ℕ → List ℕ → ℕ) (i : ℕ) (xs ys : List (List ℕ)) → ((j : ℕ) → g j [] ≡ 0) → ((m : ℕ) → f (i + m) (slice_index_or xs m []) ≤ g (i + m) (slice_index_or ys m [])) → sum_rows f i xs ≤ sum_rows g i ys
rows_le f g i [] ys none h = omega arith
rows_le f g i (x ∷ xs) [] none h =
    let e : i + 0 ≡ i = omega arith in
    let first : f i x ≤ g i [] = subst (λ z. f z x ≤ g z []) e (h 0) in
    omega (arith, first, none i, rows_le f g (suc i) xs [] none (λ m. later f g i m (slice_index_or xs m []) [] (h (suc m))))
  where
    later : (f g : ℕ → List ℕ → ℕ) (i m : ℕ) (x y : List ℕ) → f (i + suc m) x ≤ g (i + suc m) y → f (suc i + m) x ≤ g (suc i + m) y
    later f g i m x y h = let e : i + suc m ≡ suc i + m = omega arith in subst (λ z. f z x ≤ g z y) e h
rows_le f g i (x ∷ xs) (y ∷ ys) none h =
    let e : i + 0 ≡ i = omega arith in
    let first : f i x ≤ g i y = subst (λ z. f z x ≤ g z y) e (h 0) in
    omega (arith, first, rows_le f g (suc i) xs ys none (λ m. later f g i m (slice_index_or xs m []) (slice_index_or ys m []) (h (suc m))))
  where
    later : (f g : ℕ → List ℕ → ℕ) (i m : ℕ) (x y : List ℕ) → f (i + suc m) x ≤ g (i + suc m) y → f (suc i + m) x ≤ g (suc i + m) y
    later f g i m x y h = let e : i + suc m ≡ suc i + m = omega arith in subst (λ z. f z x ≤ g z y) e h

-- where begun events stay, the dues and the places of the events don't fall
module _ (a b : World) (legal_a : IsLegal a) (legal_b : IsLegal b) (stay : EndedStay a b) (begun : (i : ℕ) (x : ℕ × Event) → option_and_then begun_of (row_at a i) ≡ Some x → option_and_then begun_of (row_at b i) ≡ Some x) where
  row_le : (table : Kind → Op → ℕ → ℕ → ℕ) (i : ℕ) → of_row table a (row_at a i) ≤ of_row table b (row_at b i)
  row_le table i = by (option_and_then begun_of (row_at a i)) refl
    where
      by : (o : Option (ℕ × Event)) → option_and_then begun_of (row_at a i) ≡ o → of_row table a (row_at a i) ≤ of_row table b (row_at b i)
      by None e = omega (arith, row_begun table a (row_at a i), ap (of_begun table a) e)
      by (Some x) e = omega (arith, row_same a b legal_a legal_b stay table i (e ∙ sym (begun i x e)))

  sum_rises : (table : Kind → Op → ℕ → ℕ → ℕ) → sum_rows (λ i words. of_row table a (row_of i words)) 1 a.rows ≤ sum_rows (λ i words. of_row table b (row_of i words)) 1 b.rows
  sum_rises table = rows_le (λ i words. of_row table a (row_of i words)) (λ i words. of_row table b (row_of i words)) 1 a.rows b.rows (λ j. refl)
      (λ m. (let e : suc m ≡ 1 + m = omega arith in subst (λ z. of_row table a (row_of z (slice_index_or a.rows m [])) ≤ of_row table b (row_of z (slice_index_or b.rows m []))) e (row_le table (suc m))))

  pub room_rises : room_of a ≤ room_of b
  room_rises = omega (arith, sum_rises due, sum_rises direct)

-- ---- a word is stored

module _ (w : World) (k i v : ℕ) (there : k < length w.rows) (inside : i < length (words_at w (suc k))) (once : i < 3 → word_at w (suc k) 0 ≡ 0)
    (legal_a : IsLegal w) (legal_b : IsLegal (store_word w (suc k) i v)) (stay : EndedStay w (store_word w (suc k) i v)) where
  abbrev b : World
  b = store_word w (suc k) i v

  other_word : (j : ℕ) → (j ≡ i → ⊥) → word_at b (suc k) j ≡ word_at w (suc k) j
  other_word j ne = ap (λ ws. word ws j) (words-same w k i v there) ∙ word-set_other (words_at w (suc k)) i j v ne

  own_word : word_at b (suc k) i ≡ v
  own_word = ap (λ ws. word ws i) (words-same w k i v there) ∙ word-set_same (words_at w (suc k)) i v inside

  begun_a : option_and_then begun_of (row_at w (suc k)) ≡ begun_with (word_at w (suc k) 0) (word_at w (suc k) 1) (word_at w (suc k) 2)
  begun_a = begun-words (suc k) (words_at w (suc k))

  begun_b : option_and_then begun_of (row_at b (suc k)) ≡ begun_with (word_at b (suc k) 0) (word_at b (suc k) 1) (word_at b (suc k) 2)
  begun_b = begun-words (suc k) (words_at b (suc k))

  none_before : i < 3 → option_and_then begun_of (row_at w (suc k)) ≡ None
  none_before l = begun_a ∙ (begun-same _ _ _ _ _ _ (once l) refl refl ∙ begun_none (word_at w (suc k) 1) (word_at w (suc k) 2))

  -- another word than the first one of a begun row tells of no event
  same_begun : begins_row i v ≡ false → option_and_then begun_of (row_at w (suc k)) ≡ option_and_then begun_of (row_at b (suc k))
  same_begun h = by i refl h
    where
      by : (j : ℕ) → i ≡ j → begins_row j v ≡ false → option_and_then begun_of (row_at w (suc k)) ≡ option_and_then begun_of (row_at b (suc k))
      by zero e f = none_before (omega (arith, e)) ∙ sym (begun_b ∙ (begun-same _ _ _ _ _ _ (subst (λ z. word_at b (suc k) z ≡ v) e own_word) refl refl ∙ begun_skipped v (word_at b (suc k) 1) (word_at b (suc k) 2) f))
      by (suc j) e f = ⊎_elim
          (λ l. (let z : word_at b (suc k) 0 ≡ 0 = other_word 0 (λ n. absurd (omega (arith, n, e))) ∙ once l in
          none_before l ∙ sym (begun_b ∙ (begun-same _ _ _ _ _ _ z refl refl ∙ begun_none (word_at b (suc k) 1) (word_at b (suc k) 2)))))
          (λ high. begun_a ∙ sym (begun_b ∙ begun-same _ _ _ _ _ _ (other_word 0 (λ n. absurd (omega (arith, n, high)))) (other_word 1 (λ n. absurd (omega (arith, n, high)))) (other_word 2 (λ n. absurd (omega (arith, n, high))))))
          (cases_lt i 3)

  sum_stored : (table : Kind → Op → ℕ → ℕ → ℕ) → sum_rows (λ j words. of_row table b (row_of j words)) 1 b.rows + of_row table w (row_at w (suc k)) ≡ sum_rows (λ j words. of_row table w (row_of j words)) 1 w.rows + of_row table b (row_at b (suc k))
  sum_stored table =
      let new : List ℕ = slice_set (slice_index_or w.rows k []) i v in
      let f : ℕ → List ℕ → ℕ = λ j words. of_row table w (row_of j words) in
      let g : ℕ → List ℕ → ℕ = λ j words. of_row table b (row_of j words) in
      let e : 1 + k ≡ suc k = omega arith in
      omega (
        arith,
        rows_changed f g new 1 k w.rows there (λ m ne. (let n : suc m ≡ 1 + m = omega arith in subst (λ z. f z (slice_index_or w.rows m []) ≡ g z (slice_index_or w.rows m [])) n
            (row_same w b legal_a legal_b stay table (suc m) (ap (option_and_then begun_of) (sym (row-other w k i v there m ne))) ∙ ap (of_row table b) (row-other w k i v there m ne)))),
        ap (λ z. f z (slice_index_or w.rows k [])) e,
        ap (λ z. g z new) e,
        ap (λ ws. of_row table b (row_of (suc k) ws)) (words-same w k i v there),
      )

  pub stored_sum : (table : Kind → Op → ℕ → ℕ → ℕ) → begins_row i v ≡ false → sum_rows (λ j words. of_row table b (row_of j words)) 1 b.rows ≡ sum_rows (λ j words. of_row table w (row_of j words)) 1 w.rows
  stored_sum table h = omega (arith, sum_stored table, row_same w b legal_a legal_b stay table (suc k) (same_begun h))

  -- a begun row adds its own
  pub begun_sum : (table : Kind → Op → ℕ → ℕ → ℕ) → begins_row i v ≡ true → sum_rows (λ j words. of_row table b (row_of j words)) 1 b.rows ≡ sum_rows (λ j words. of_row table w (row_of j words)) 1 w.rows + of_row table b (row_at b (suc k))
  begun_sum table h = omega (arith, sum_stored table, row_begun table w (row_at w (suc k)), ap (of_begun table w) (none_before (first i h)))
    where
      first : (j : ℕ) → begins_row j v ≡ true → j < 3
      first zero f = omega arith
      first (suc j) f = absurd (true≢false (sym f))

  -- ---- the hand

  pub stored_funded : IsFunded w → IsFunded b
  stored_funded h = record { taken = h.taken; settled = h.settled }

  pub stored_in_budget : (h : Hand) → IsInBudget (alone_with w h) → IsInBudget (alone_with b h)
  stored_in_budget h budget = by (begins_row i v) refl
    where
      by : (x : Bool) → begins_row i v ≡ x → IsInBudget (alone_with b h)
      by true e = record { paid = omega (arith, budget.paid, begun_sum due e); places = omega (arith, budget.places, begun_sum direct e) }
      by false e = record { paid = omega (arith, budget.paid, stored_sum due e); places = omega (arith, budget.places, stored_sum direct e) }
