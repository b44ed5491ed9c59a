-- Histories that grow: an ended row stays, and so does what is said of the versions that are there.
use Rattle.std.proofs.Common.{◌≡◌, ℕ, ◌<◌, refl, sym, ap, subst, ◌∙◌, ltb, eqb, Bool, true, false, cond, not, ◌&&◌, ◌||◌, ⊎_elim, Option, Some, None, List, [], ◌∷◌, length}
use Rattle.std.specs.Prelude.{option_map, option_and_then, is_some}
use Rattle.std.specs.List.{AllByRecursion, list_all, list_any}
use Rattle.std.proofs.lemmas.Bool.{true≢false, and_parts, eqb-true, ltb-true, cases_eq}
use Rattle.lazy_rec.specs.declared.events.Event.{Event}
use Rattle.lazy_rec.specs.declared.events.Reply.{Reply}
use Rattle.lazy_rec.specs.Tests.{is_some_and, implies}
use Rattle.lazy_rec.specs.Named.{Records, is_pending}
use Rattle.lazy_rec.specs.Kinds.{bases, uses_base, uses_other, same_kind, is_trim, is_split}
use Rattle.lazy_rec.specs.Plain.{effect}
use Rattle.lazy_rec.specs.History.{Events, is_second, event_name, picked, lists_made, lists, plain, reply_to, kind_made, kind_of, has_smaller_bases, has_kind_of_base, is_of_its_kind, is_named_well}
use Rattle.lazy_rec.specs.Meaning.{means}
use Rattle.lazy_rec.proofs.ByPlaceLaws.{by_place_agree}
use Rattle.lazy_rec.proofs.HistoryLaws.{IsSmaller, smaller-lt, of_base, of_other, all_true, effect_same, kind_same, made_same, picked_same, lists_is, kind_is}
use Rattle.heap_store.specs.declared.versions.Version.{Version}
use Rattle.heap_store.specs.World.{holds}
use Rattle.heap_store.specs.Rows.{Row, NamedRows, Ending, not_ended, answered, full, memory, no_base, first_of, second_of, version_of, reply_of, is_ended, is_refused, is_without_base, version_at, is_answered, is_given_up, events_of}
use Rattle.heap_store.specs.Legal.{IsHistory, is_begun_well, row_in_range, in_order, is_version_well}
use Rattle.heap_store.proofs.GrowthLaws.{Up, and_up, or_up, same_up}
use Rattle.heap_store.proofs.CompletionLaws.{cond_up}
use Rattle.heap_store.proofs.ShowLaws.{one_value}

-- ---- answered rows

pub list_any_up : {X : Type 0} (f g : X → Bool) (xs : List X) → ((y : X) → Up (f y) (g y)) → Up (list_any f xs) (list_any g xs)
list_any_up f g [] up = same_up
list_any_up f g (x ∷ xs) up = or_up (up x) (list_any_up f g xs up)

pub list_all_up : {X : Type 0} (f g : X → Bool) (xs : List X) → ((y : X) → Up (f y) (g y)) → Up (list_all f xs) (list_all g xs)
list_all_up f g [] up = same_up
list_all_up f g (x ∷ xs) up = and_up (up x) (list_all_up f g xs up)

both : {X : Type 0} (P Q R : X → Type 0) → ((y : X) → P y → Q y → R y) → (xs : List X) → AllByRecursion P xs → AllByRecursion Q xs → AllByRecursion R xs
both P Q R f [] h k = tt
both P Q R f (x ∷ xs) h k = (f x h.0 k.0, both P Q R f xs h.1 k.1)

-- the row of a name is answered
pub record AnsweredRow (rows : NamedRows) (i : ℕ) : Type 0 where
  pub row : Row
  pub told : Reply
  pub first : Version
  pub second : Option Version
  pub here : rows i ≡ Some row
  pub ending_is : row.ending ≡ answered told first second
  pub ended : is_ended row.ending ≡ true

ending_answered : (rows : NamedRows) (i : ℕ) (r : Row) (e : Ending) → rows i ≡ Some r → r.ending ≡ e → is_some (reply_of e) ≡ true → AnsweredRow rows i
ending_answered rows i r (answered t v w) e f k = record { row = r; told = t; first = v; second = w; here = e; ending_is = f; ended = ap is_ended f }
ending_answered rows i r not_ended e f k = absurd (true≢false (sym k))
ending_answered rows i r (full _ _) e f k = absurd (true≢false (sym k))
ending_answered rows i r memory e f k = absurd (true≢false (sym k))
ending_answered rows i r no_base e f k = absurd (true≢false (sym k))

-- only an answered row has versions
with_version : (b : Bool) (e : Ending) → is_some_and (λ (_ : Version). true) (cond b (second_of e) (first_of e)) ≡ true → is_some (reply_of e) ≡ true
with_version b (answered _ _ _) k = refl
with_version true not_ended k = k
with_version false not_ended k = k
with_version true (full _ _) k = k
with_version false (full _ _) k = k
with_version true memory k = k
with_version false memory k = k
with_version true no_base k = k
with_version false no_base k = k

-- the row of a version that is there
pub answered_row : (rows : NamedRows) (n : ℕ) → is_answered rows n ≡ true → AnsweredRow rows (event_name n)
answered_row rows n h = go (rows (event_name n)) refl h
  where
    go : (o : Option Row) → rows (event_name n) ≡ o → is_some_and (λ _. true) (option_and_then (λ (r : Row). version_of n r.ending) o) ≡ true → AnsweredRow rows (event_name n)
    go None e k = absurd (true≢false (sym k))
    go (Some r) e k = ending_answered rows (event_name n) r r.ending e refl (with_version (is_second n) r.ending k)

pub refused_ended : (e : Ending) → is_refused e ≡ true → is_ended e ≡ true
refused_ended not_ended h = h
refused_ended (answered _ _ _) h = refl
refused_ended (full _ _) h = refl
refused_ended memory h = refl
refused_ended no_base h = refl

-- the versions that an answered row uses are there
pub answered_bases : (rows : NamedRows) (r : Row) → is_begun_well rows r ≡ true → is_some (reply_of r.ending) ≡ true → list_all (is_answered rows) (bases r.event) ≡ true
answered_bases rows r well k = from r.ending k well
  where
    from : (t : Ending) → is_some (reply_of t) ≡ true → cond (is_without_base t) (not r.begun && list_any (is_given_up rows) (bases r.event)) (cond (is_ended t || r.begun) (r.begun && list_all (is_answered rows) (bases r.event)) true) ≡ true → list_all (is_answered rows) (bases r.event) ≡ true
    from not_ended g j = absurd (true≢false (sym g))
    from (full _ _) g j = absurd (true≢false (sym g))
    from memory g j = absurd (true≢false (sym g))
    from no_base g j = absurd (true≢false (sym g))
    from (answered _ _ _) g j = (and_parts r.begun (list_all (is_answered rows) (bases r.event)) j).1

-- and so are those of a row that is begun
pub begun_bases : (rows : NamedRows) (r : Row) → is_begun_well rows r ≡ true → r.begun ≡ true → list_all (is_answered rows) (bases r.event) ≡ true
begun_bases rows r well b = by (is_without_base r.ending) (is_ended r.ending) r.begun b well
  where
    by : (x y z : Bool) → z ≡ true → cond x (not z && list_any (is_given_up rows) (bases r.event)) (cond (y || z) (z && list_all (is_answered rows) (bases r.event)) true) ≡ true → list_all (is_answered rows) (bases r.event) ≡ true
    by true y true e k = absurd (true≢false (sym k))
    by false true true e k = k
    by false false true e k = k
    by x y false e k = absurd (true≢false (sym e))

-- ---- growth

module _ (rows rows' : NamedRows) (keeps : (i : ℕ) (r : Row) → rows i ≡ Some r → is_ended r.ending ≡ true → rows' i ≡ Some r) where
  pub version_same : (n : ℕ) → is_answered rows n ≡ true → version_at rows n ≡ version_at rows' n
  version_same n h = let k = answered_row rows n h in ap (option_and_then (λ (r : Row). version_of n r.ending)) (k.here ∙ sym (keeps (event_name n) k.row k.here k.ended))

  pub answered_up : (n : ℕ) → Up (is_answered rows n) (is_answered rows' n)
  answered_up n h = rw (← version_same n h) h

  pub version_up : (n : ℕ) (v : Version) → version_at rows n ≡ Some v → version_at rows' n ≡ Some v
  version_up n v e = sym (version_same n (rw e refl)) ∙ e

  pub given_up_up : (n : ℕ) → Up (is_given_up rows n) (is_given_up rows' n)
  given_up_up n h = go (rows (event_name n)) refl h
    where
      go : (o : Option Row) → rows (event_name n) ≡ o → is_some_and (λ (r : Row). is_refused r.ending) o ≡ true → is_given_up rows' n ≡ true
      go None e k = absurd (true≢false (sym k))
      go (Some r) e k = rw (keeps (event_name n) r e (refused_ended r.ending k)) k

  pub begun_up : (r : Row) → Up (is_begun_well rows r) (is_begun_well rows' r)
  begun_up r = cond_up (is_without_base r.ending)
      (and_up same_up (list_any_up _ _ (bases r.event) given_up_up))
      (cond_up (is_ended r.ending || r.begun) (and_up same_up (list_all_up _ _ (bases r.event) answered_up)) same_up)

  module _ (rs : Records) (legal : IsHistory rs rows) where
    known_bases : (i : ℕ) (k : AnsweredRow rows i) → AllByRecursion (λ v. IsSmaller i v × (is_answered rows v ≡ true)) (bases k.row.event)
    known_bases i k = both _ _ _ (λ v h j. (h, j)) (bases k.row.event) (all_true _ (bases k.row.event) (legal.bases i k.row k.here))
        (all_true _ (bases k.row.event) (answered_bases rows k.row (legal.begun i k.row k.here) (ap (λ e. is_some (reply_of e)) k.ending_is)))

    event_same : (i : ℕ) (k : AnsweredRow rows i) → events_of rows i ≡ Some k.row.event
    event_same i k = ap (option_map (λ (r : Row). r.event)) k.here

    event_kept : (i : ℕ) (k : AnsweredRow rows i) → events_of rows' i ≡ Some k.row.event
    event_kept i k = ap (option_map (λ (r : Row). r.event)) (keeps i k.row k.here k.ended)

    -- the plain lists of an answered name stay, and its kind
    pub lists_same : (i : ℕ) → AnsweredRow rows i → lists (events_of rows) i ≡ lists (events_of rows') i
    unfolding lists
    lists_same = by_place_agree ([], []) _ _ (AnsweredRow rows) (λ i f g k same.
        let bs = known_bases i k in
        let e = k.row.event in
        let at : (v : ℕ) → IsSmaller i v × (is_answered rows v ≡ true) → picked f v ≡ picked g v = λ v h. picked_same f g v (same (event_name v) (smaller-lt i v h.0) (answered_row rows v h.1)) in
        ap (lists_made (picked f)) (event_same i k)
        ∙ made_same e (picked f) (picked g) (λ u. at e.base (of_base e.op e.base e.other _ bs u)) (λ u. at e.other (of_other e.op e.base e.other _ bs u))
        ∙ sym (ap (lists_made (picked g)) (event_kept i k)))

    pub plain_same : (n : ℕ) → is_answered rows n ≡ true → plain (events_of rows) n ≡ plain (events_of rows') n
    unfolding plain
    plain_same n is = picked_same (lists (events_of rows)) (lists (events_of rows')) n (lists_same (event_name n) (answered_row rows n is))

    pub kind_of_same : (i : ℕ) → AnsweredRow rows i → kind_of (events_of rows) i ≡ kind_of (events_of rows') i
    unfolding kind_of
    kind_of_same = by_place_agree None _ _ (AnsweredRow rows) (λ i f g k same.
        let bs = known_bases i k in
        let e = k.row.event in
        let at : (v : ℕ) → IsSmaller i v × (is_answered rows v ≡ true) → f (event_name v) ≡ g (event_name v) = λ v h. same (event_name v) (smaller-lt i v h.0) (answered_row rows v h.1) in
        ap (kind_made f) (event_same i k)
        ∙ kind_same e.op (f (event_name e.base)) (g (event_name e.base)) (λ u. at e.base (of_base e.op e.base e.other _ bs u))
        ∙ sym (ap (kind_made g) (event_kept i k)))

    pub kind_at_same : (n : ℕ) → is_answered rows n ≡ true → kind_of (events_of rows) (event_name n) ≡ kind_of (events_of rows') (event_name n)
    kind_at_same n is = kind_of_same (event_name n) (answered_row rows n is)

    -- an event of one kind whose versions are there stays one
    pub its_kind_up : (e : Event) → list_all (is_answered rows) (bases e) ≡ true → Up (is_of_its_kind (events_of rows) e) (is_of_its_kind (events_of rows') e)
    its_kind_up e known h = by (uses_base e.op) (uses_other e.op) known h
      where
        one : (is_answered rows e.base ≡ true) → (v : ℕ) → is_answered rows v ≡ true → Up (has_kind_of_base (events_of rows) e v) (has_kind_of_base (events_of rows') e v)
        one base v is k = rw (← kind_at_same e.base base, ← kind_at_same v is) k

        by : (x y : Bool) → list_all (is_answered rows) (cond x (e.base ∷ cond y (e.other ∷ []) []) []) ≡ true
            → Up (list_all (has_kind_of_base (events_of rows) e) (cond x (e.base ∷ cond y (e.other ∷ []) []) [])) (list_all (has_kind_of_base (events_of rows') e) (cond x (e.base ∷ cond y (e.other ∷ []) []) []))
        by false y ks = same_up
        by true false ks = let k = and_parts _ _ ks in and_up (one k.0 e.base k.0) same_up
        by true true ks = let k = and_parts _ _ ks in let j = and_parts _ _ k.1 in and_up (one k.0 e.base k.0) (and_up (one k.0 e.other j.0) same_up)

-- ---- a version of a legal history

pub record VersionWell (rs : Records) (rows : NamedRows) (n : ℕ) (v : Version) : Type 0 where
  pub kind : is_some_and (same_kind v.kind) (kind_of (events_of rows) (event_name n)) ≡ true
  pub size : v.size ≡ length (plain (events_of rows) n)
  pub range : v.size < 2147483648
  pub value : holds rs v.root.0 (λ r. not (is_pending r)) ≡ true

pub version_well : (rs : Records) (rows : NamedRows) → IsHistory rs rows → (n : ℕ) (v : Version) → version_at rows n ≡ Some v → VersionWell rs rows n v
version_well rs rows legal n v h =
    let kind : Bool = is_some_and (same_kind v.kind) (kind_of (events_of rows) (event_name n)) in
    let size : Bool = eqb v.size (length (plain (events_of rows) n)) in
    let p = and_parts (kind && size && ltb v.size 2147483648) (holds rs v.root.0 (λ r. not (is_pending r))) (legal.versions n v h) in
    let q = and_parts (kind && size) (ltb v.size 2147483648) p.0 in
    let r = and_parts kind size q.0 in
    record { kind = r.0; size = eqb-true v.size (length (plain (events_of rows) n)) r.1; range = ltb-true v.size 2147483648 q.1; value = p.1 }

-- it is there where its row is answered, and is one of a split where it is a second version
pub version_there : (rs : Records) (rows : NamedRows) → IsHistory rs rows → (n : ℕ) (k : AnsweredRow rows (event_name n)) → is_named_well (events_of rows) n ≡ true → is_answered rows n ≡ true
version_there rs rows legal n k named = rw k.here (by (is_second n) refl)
  where
    split : is_second n ≡ true → is_split k.row.event.op ≡ true
    split s = subst (λ (o : Option Event). is_some_and (λ (e : Event). is_split e.op) o ≡ true) (ap (option_map (λ (r : Row). r.event)) k.here) (subst (λ b. implies b (is_some_and (λ (e : Event). is_split e.op) (events_of rows (event_name n))) ≡ true) s named)

    some_there : {X : Type 0} (o : Option X) → is_some o ≡ true → is_some_and (λ _. true) o ≡ true
    some_there None h = h
    some_there (Some x) h = refl

    by : (b : Bool) → is_second n ≡ b → is_some_and (λ (_ : Version). true) (cond b (second_of k.row.ending) (first_of k.row.ending)) ≡ true
    by true s = some_there (second_of k.row.ending) (legal.seconds (event_name n) k.row k.here ∙ rw (ap first_of k.ending_is, split s) refl)
    by false s = rw (ap first_of k.ending_is) refl

-- ---- one row is set

-- the plain list that an event makes of a version
abbrev pub made : Events → Event → ℕ → List ℕ
made events e n = cond (is_second n) (lists_made (plain events) (Some e)).1 (lists_made (plain events) (Some e)).0

pub plain_made : (events : Events) (n i : ℕ) (e : Event) → event_name n ≡ i → events i ≡ Some e → has_smaller_bases i e ≡ true → plain events n ≡ made events e n
unfolding plain
plain_made events n i e named here small = ap (λ (pair : List ℕ × List ℕ). cond (is_second n) pair.1 pair.0) (ap (lists events) named ∙ lists_is events i e here small)

-- what the row r of the name i is to be, by the rows before
pub record RowWell (rs : Records) (rows : NamedRows) (i : ℕ) (r : Row) : Type 0 where
  pub range : row_in_range r ≡ true
  pub trim : is_trim r.event ≡ true
  pub smaller : has_smaller_bases i r.event ≡ true
  pub begun : is_begun_well rows r ≡ true
  pub kind : (not r.begun || is_of_its_kind (events_of rows) r.event) ≡ true
  pub second : is_some (second_of r.ending) ≡ is_some (first_of r.ending) && is_split r.event.op
  pub version : (n : ℕ) (v : Version) → version_of n r.ending ≡ Some v → (is_some_and (same_kind v.kind) (kind_made (kind_of (events_of rows)) (Some r.event)) && eqb v.size (length (made (events_of rows) r.event n)) && ltb v.size 2147483648 && holds rs v.root.0 (λ t. not (is_pending t))) ≡ true
  pub reply : (told : Reply) → reply_of r.ending ≡ Some told → told ≡ reply_to (events_of rows) r.event
  pub meaning : (n : ℕ) (v : Version) → version_of n r.ending ≡ Some v → in_order v.kind (means rs v.root.0) ≡ made (events_of rows) r.event n

-- a version of a row tells that it is answered
told_with : (n : ℕ) (e : Ending) (v : Version) → version_of n e ≡ Some v → is_some (reply_of e) ≡ true
told_with n e v f = with_version (is_second n) e (ap (is_some_and (λ (_ : Version). true)) f)

module _ (rs : Records) (rows rows' : NamedRows) (legal : IsHistory rs rows) (n : ℕ) (r : Row)
    (open_yet : (t : Row) → rows n ≡ Some t → is_ended t.ending ≡ false) (here : rows' n ≡ Some r) (others : (i : ℕ) → (i ≡ n → ⊥) → rows' i ≡ rows i) (well : RowWell rs rows n r) where
  pub set_keeps : (i : ℕ) (t : Row) → rows i ≡ Some t → is_ended t.ending ≡ true → rows' i ≡ Some t
  set_keeps i t e k = ⊎_elim
      (λ eq. (let z = open_yet t (ap rows (sym eq) ∙ e) in let y : true ≡ false = sym k ∙ z in absurd (true≢false y)))
      (λ ne. others i ne ∙ e) (cases_eq i n)

  pub either : (P : ℕ → Row → Type 0) → P n r → ((i : ℕ) (t : Row) → rows i ≡ Some t → P i t) → (i : ℕ) (t : Row) → rows' i ≡ Some t → P i t
  either P new old i t e = ⊎_elim
      (λ eq. (let same : t ≡ r = one_value t r (sym e ∙ ap rows' eq ∙ here) in rw (eq, same) new))
      (λ ne. old i t (sym (others i ne) ∙ e)) (cases_eq i n)

  pub either_version : (P : ℕ → Version → Type 0) → ((m : ℕ) → event_name m ≡ n → (v : Version) → version_of m r.ending ≡ Some v → P m v) → ((m : ℕ) (v : Version) → version_at rows m ≡ Some v → P m v) → (m : ℕ) (v : Version) → version_at rows' m ≡ Some v → P m v
  either_version P new old m v e = ⊎_elim
      (λ eq. new m eq v (sym (ap (option_and_then (λ (t : Row). version_of m t.ending)) (ap rows' eq ∙ here)) ∙ e))
      (λ ne. old m v (sym (ap (option_and_then (λ (t : Row). version_of m t.ending)) (others (event_name m) ne)) ∙ e)) (cases_eq (event_name m) n)

  kind_up : (t : Row) → is_begun_well rows t ≡ true → Up (not t.begun || is_of_its_kind (events_of rows) t.event) (not t.begun || is_of_its_kind (events_of rows') t.event)
  kind_up t b = by t.begun refl
    where
      by : (z : Bool) → t.begun ≡ z → Up (not z || is_of_its_kind (events_of rows) t.event) (not z || is_of_its_kind (events_of rows') t.event)
      by false e = same_up
      by true e = its_kind_up rows rows' set_keeps rs legal t.event (begun_bases rows t b e)

  -- what an answered row says of the versions that it uses, at the rows before and after
  pub base_known : (t : Row) → is_begun_well rows t ≡ true → is_some (reply_of t.ending) ≡ true → uses_base t.event.op ≡ true → is_answered rows t.event.base ≡ true
  base_known t b f = of_base t.event.op t.event.base t.event.other (λ j. is_answered rows j ≡ true) (all_true _ (bases t.event) (answered_bases rows t b f))

  pub other_known : (t : Row) → is_begun_well rows t ≡ true → is_some (reply_of t.ending) ≡ true → uses_other t.event.op ≡ true → is_answered rows t.event.other ≡ true
  other_known t b f = of_other t.event.op t.event.base t.event.other (λ j. is_answered rows j ≡ true) (all_true _ (bases t.event) (answered_bases rows t b f))

  outcome_same : (t : Row) → is_begun_well rows t ≡ true → is_some (reply_of t.ending) ≡ true
      → effect t.event.op (plain (events_of rows) t.event.base) (plain (events_of rows) t.event.other) t.event.arg ≡ effect t.event.op (plain (events_of rows') t.event.base) (plain (events_of rows') t.event.other) t.event.arg
  outcome_same t b f = effect_same t.event.op _ _ _ _ t.event.arg
      (λ u. plain_same rows rows' set_keeps rs legal t.event.base (base_known t b f u))
      (λ u. plain_same rows rows' set_keeps rs legal t.event.other (other_known t b f u))

  made_lists_same : (t : Row) → is_begun_well rows t ≡ true → is_some (reply_of t.ending) ≡ true → (m : ℕ) → made (events_of rows) t.event m ≡ made (events_of rows') t.event m
  made_lists_same t b f m = ap (λ (pair : List ℕ × List ℕ). cond (is_second m) pair.1 pair.0) (made_same t.event (plain (events_of rows)) (plain (events_of rows'))
      (λ u. plain_same rows rows' set_keeps rs legal t.event.base (base_known t b f u))
      (λ u. plain_same rows rows' set_keeps rs legal t.event.other (other_known t b f u)))

  made_kind_same : (t : Row) → is_begun_well rows t ≡ true → is_some (reply_of t.ending) ≡ true → kind_made (kind_of (events_of rows)) (Some t.event) ≡ kind_made (kind_of (events_of rows')) (Some t.event)
  made_kind_same t b f = kind_same t.event.op _ _ (λ u. kind_at_same rows rows' set_keeps rs legal t.event.base (base_known t b f u))

  abbrev event_here : Type 0
  event_here = events_of rows' n ≡ Some r.event

  is_here : event_here
  is_here = ap (option_map (λ (t : Row). t.event)) here

  kind_here : (m : ℕ) → event_name m ≡ n → kind_of (events_of rows') (event_name m) ≡ kind_made (kind_of (events_of rows')) (Some r.event)
  kind_here m eq = ap (kind_of (events_of rows')) eq ∙ kind_is (events_of rows') n r.event is_here well.smaller

  -- the rows with the new one are a legal history
  pub history_set : IsHistory rs rows'
  history_set = record {
    ranges = either (λ i t. row_in_range t ≡ true) well.range legal.ranges;
    trim = either (λ i t. is_trim t.event ≡ true) well.trim legal.trim;
    bases = either (λ i t. has_smaller_bases i t.event ≡ true) well.smaller legal.bases;
    begun = either (λ i t. is_begun_well rows' t ≡ true) (begun_up rows rows' set_keeps r well.begun) (λ i t e. begun_up rows rows' set_keeps t (legal.begun i t e));
    kinds = either (λ i t. (not t.begun || is_of_its_kind (events_of rows') t.event) ≡ true) (kind_up r well.begun well.kind) (λ i t e. kind_up t (legal.begun i t e) (legal.kinds i t e));
    seconds = either (λ i t. is_some (second_of t.ending) ≡ is_some (first_of t.ending) && is_split t.event.op) well.second legal.seconds;
    versions = either_version (λ m v. is_version_well rs rows' m v ≡ true)
        (λ m eq v f. (let k = told_with m r.ending v f in
        rw (kind_here m eq, plain_made (events_of rows') m n r.event eq is_here well.smaller, ← made_kind_same r well.begun k, ← made_lists_same r well.begun k m) (well.version m v f)))
        (λ m v f. (let is : is_answered rows m ≡ true = ap (is_some_and (λ _. true)) f in
        rw (← kind_at_same rows rows' set_keeps rs legal m is, ← plain_same rows rows' set_keeps rs legal m is) (legal.versions m v f)));
    replies = either (λ i t. (told : Reply) → reply_of t.ending ≡ Some told → told ≡ reply_to (events_of rows') t.event)
        (λ told f. well.reply told f ∙ ap (λ (p : List ℕ × Reply). p.1) (outcome_same r well.begun (ap is_some f)))
        (λ i t e told f. legal.replies i t e told f ∙ ap (λ (p : List ℕ × Reply). p.1) (outcome_same t (legal.begun i t e) (ap is_some f)));
    meanings = either_version (λ m v. in_order v.kind (means rs v.root.0) ≡ plain (events_of rows') m)
        (λ m eq v f. well.meaning m v f ∙ made_lists_same r well.begun (told_with m r.ending v f) m ∙ sym (plain_made (events_of rows') m n r.event eq is_here well.smaller))
        (λ m v f. (let is : is_answered rows m ≡ true = ap (is_some_and (λ _. true)) f in
        legal.meanings m v f ∙ plain_same rows rows' set_keeps rs legal m is));
  }
