-- Streams: what one may be, what of it waits, and its first cell.
use Rattle.std.proofs.Common.{◌≡◌, ℕ, ◌<◌, eqb, refl, sym, ap, ◌∙◌, Bool, true, false, ◌&&◌, cond, Some, None}
use Rattle.std.proofs.lemmas.Bool.{true≢false, and_parts, and_from, eqb-true}
use Rattle.lazy_rec.specs.declared.places.Ref.{Ref}
use Rattle.lazy_rec.specs.declared.records.Rec.{Rec}
use Rattle.lazy_rec.specs.declared.records.Rec.TheVariants.{Nil, Cons, Append, Reverse}
use Rattle.lazy_rec.specs.declared.records.Sort.TheVariants as sorts
use Rattle.lazy_rec.specs.ByPlace.{below, by_place}
use Rattle.lazy_rec.specs.Named.{Records, sort_of, same_sort, at_record, is_pending}
use Rattle.heap_store.specs.World.{World, recs, holds, value_at}
use Rattle.heap_store.specs.Values.{is_stream_part}
use Rattle.heap_store.specs.Completion.{is_plain, plain_of, same_bool, is_cell, on_cell, next_append}
use Rattle.heap_store.specs.Lawful.{IsLawful, has_items, stream_of, is_stream}
use Rattle.heap_store.specs.Jobs.{IsWork}
use Rattle.lazy_rec.proofs.ByPlaceLaws.{from_lower}
use Rattle.heap_store.proofs.NameLaws.{IsPublished, IsNamedWell}
use Rattle.heap_store.proofs.GrowthLaws.{at_true}
use Rattle.heap_store.proofs.MeaningLaws.{by_record_is}
use Rattle.heap_store.proofs.RecordLaws.{stream_look}
use Rattle.heap_store.proofs.LawfulLaws.{lawful_names}
use Rattle.heap_store.proofs.ReadLaws.{holds_at, holds_from, place_there}
use Rattle.heap_store.proofs.ValueLaws.{done_of_value}
use Rattle.heap_store.proofs.CellLaws.{plain_is, plain_there, first_item, FirstCell, first_cell}
use Rattle.lazy_stream.specs.Stream.{is_stream_work}

-- ---- streams

-- what a record is, from what it names
pub stream_is : {w : World} → IsLawful w → (p : ℕ) (r : Rec) → recs w p ≡ Some r → is_stream (recs w) p ≡ stream_of (is_stream (recs w)) r
unfolding is_stream
stream_is {w} law = by_record_is false stream_of stream_look (recs w) (lawful_names law)

pub stream_there : (rs : Records) (p : ℕ) → is_stream rs p ≡ true → IsPublished rs p
unfolding is_stream by_place
stream_there rs p h = place_there rs p (stream_of (below false (λ lower q. at_record false (stream_of lower) (rs q)) p)) h

stream_record : (f : ℕ → Bool) (r : Rec) → stream_of f r ≡ true → sort_of r ≡ sorts.Stream
stream_record f Nil h = refl
stream_record f (Cons _ _ _) h = refl
stream_record f (Append _ _ _ _ _) h = refl
stream_record f (Reverse _ _) h = refl
stream_record f _ h = absurd (true≢false (sym h))

pub stream_sort : {w : World} → IsLawful w → (p : ℕ) (r : Rec) → recs w p ≡ Some r → is_stream (recs w) p ≡ true → sort_of r ≡ sorts.Stream
stream_sort {w} law p r e h = stream_record (is_stream (recs w)) r (sym (stream_is law p r e) ∙ h)

pub stream_part : {w : World} → IsLawful w → (p : ℕ) → is_stream (recs w) p ≡ true → holds (recs w) p is_stream_part ≡ true
stream_part {w} law p h = let is = stream_there (recs w) p h in holds_from (recs w) p is_stream_part is.0 is.1 (ap (λ s. same_sort s sorts.Stream) (stream_sort law p is.0 is.1 h))

-- a stream below a place is what it may name as one
pub stream_named : {w : World} → IsLawful w → (p q : ℕ) → is_stream (recs w) q ≡ true → q < p → IsNamedWell (recs w) p (q, sorts.Stream)
stream_named {w} law p q h low = let is = stream_there (recs w) q h in (low, is.0, is.1, stream_sort law q is.0 is.1 h)

-- what of a stream waits is an append or a reversal
waiting : (f : ℕ → Bool) (r : Rec) → stream_of f r ≡ true → is_pending r ≡ true → is_stream_work r ≡ true
waiting f (Append _ _ _ _ _) h pend = refl
waiting f (Reverse _ _) h pend = refl
waiting f Nil h pend = absurd (true≢false (sym pend))
waiting f (Cons _ _ _) h pend = absurd (true≢false (sym pend))
waiting f _ h pend = absurd (true≢false (sym h))

pub record WaitingStream (w : World) (p : ℕ) : Type 0 where
  pub rec : Rec
  pub here : recs w p ≡ Some rec
  pub is_work : is_stream_work rec ≡ true
  pub work : IsWork is_stream_work w p

pub waiting_stream : {w : World} → IsLawful w → (p : ℕ) → is_stream (recs w) p ≡ true → holds (recs w) p is_pending ≡ true → WaitingStream w p
waiting_stream {w} law p h pend =
    let t = at_true is_pending (recs w p) pend in
    let k = waiting (is_stream (recs w)) t.0 (sym (stream_is law p t.0 t.1) ∙ h) t.2 in
    record { rec = t.0; here = t.1; is_work = k; work = rw t.1 (and_from (is_pending t.0) (is_stream_work t.0) t.2 k) }

-- plain cells are a stream
pub plain_stream : {w : World} → IsLawful w → (p : ℕ) → is_plain (recs w) p ≡ true → is_stream (recs w) p ≡ true
plain_stream {w} law = from_lower (λ p. is_plain (recs w) p ≡ true → is_stream (recs w) p ≡ true) (λ p ih h. let is = plain_there (recs w) p h in step p is.0 is.1 (sym (plain_is law p is.0 is.1) ∙ h) ih)
  where
    step : (p : ℕ) (r : Rec) → recs w p ≡ Some r → plain_of (is_plain (recs w)) r ≡ true → ((q : ℕ) → q < p → is_plain (recs w) q ≡ true → is_stream (recs w) q ≡ true) → is_stream (recs w) p ≡ true
    step p Nil e h ih = stream_is law p Nil e
    step p (Cons c v rest) e h ih = stream_is law p (Cons c v rest) e ∙ ih rest.0 (lawful_names law p (Cons c v rest) e).0.0 h
    step p _ e h ih = absurd (true≢false (sym h))

-- ---- what an append says of what it names

-- both sides of an append are streams
pub append_stream : {w : World} → IsLawful w → (p : ℕ) (xs ys : Ref) (left : ℕ) (o : Ref) (off : ℕ) → recs w p ≡ Some (Append xs ys left o off) → is_stream (recs w) xs.0 && is_stream (recs w) ys.0 ≡ true
append_stream {w} law p xs ys left o off e =
    let rs = recs w in
    let u = and_parts (is_stream rs xs.0 && is_stream rs ys.0 && has_items rs xs.0) (has_items rs ys.0) (law.each p _ e).unmixed in
    (and_parts (is_stream rs xs.0 && is_stream rs ys.0) (has_items rs xs.0) u.0).0

-- ---- what comes after the first cell

next_is : (w : World) (rest ys left o off : ℕ) (r : Rec) → next_append w rest ys left o off r ≡ true → (x : Ref) × (y : Ref) × (n : ℕ) × (q : Ref) × (i : ℕ) × (r ≡ Append x y n q i)
next_is w rest ys left o off (Append x y n q i) h = (x, y, n, q, i, refl)
next_is w rest ys left o off _ h = absurd (true≢false (sym h))

module _ (w : World) (law : IsLawful w) (p v : ℕ) (rest : Ref) (h : value_at w p ≡ Some (Cons false v rest)) where
  -- after the first cell of a done append stands the other side, or the next append
  after_append : (xs ys : Ref) (left : ℕ) (o : Ref) (off : ℕ) → recs w p ≡ Some (Append xs ys left o off) → is_stream (recs w) rest.0 ≡ true
  after_append xs ys left o off e =
      let d = done_of_value w p _ _ e refl h in
      let made = (law.done p _ e d.0 d.1).made in
      let t = at_true (on_cell (test d.0.0)) (value_at w xs.0) made in
      by_cell d.0.0 d.2 t.0 t.2
    where
      after : ℕ → ℕ → Bool
      after next made = cond (eqb left 1) (eqb ys.0 made) (holds (recs w) made (next_append w next ys.0 left o.0 off))

      test : ℕ → Bool → ℕ → ℕ → Bool
      test q c u next = holds (recs w) q (is_cell c u (after next))

      by_rest : (next : ℕ) (b : Bool) → cond b (eqb ys.0 rest.0) (holds (recs w) rest.0 (next_append w next ys.0 left o.0 off)) ≡ true → is_stream (recs w) rest.0 ≡ true
      by_rest next true k = let same = eqb-true ys.0 rest.0 k in rw same at (and_parts (is_stream (recs w) xs.0) (is_stream (recs w) ys.0) (append_stream law p xs ys left o off e)).1
      by_rest next false k =
          let t = at_true (next_append w next ys.0 left o.0 off) (recs w rest.0) k in
          let f = next_is w next ys.0 left o.0 off t.0 t.2 in
          let e' : recs w rest.0 ≡ Some (Append f.0 f.1 f.2 f.3 f.4) = t.1 ∙ ap Some f.5 in
          stream_is law rest.0 _ e' ∙ append_stream law rest.0 f.0 f.1 f.2 f.3 f.4 e'

      by_cell : (q : ℕ) → recs w q ≡ Some (Cons false v rest) → (r : Rec) → on_cell (test q) r ≡ true → is_stream (recs w) rest.0 ≡ true
      by_cell q here (Cons c u next) k =
          let t = holds_at (recs w) q (is_cell c u (after next.0)) (Cons false v rest) k here in
          by_rest next.0 (eqb left 1) (and_parts (same_bool c false && eqb u v) (after next.0 rest.0) t).1
      by_cell q here _ k = absurd (true≢false (sym k))

  -- after that of a done reversal stand plain cells
  after_reversal : (xs : Ref) (left : ℕ) → recs w p ≡ Some (Reverse xs left) → is_stream (recs w) rest.0 ≡ true
  after_reversal xs left e =
      let d = done_of_value w p _ _ e refl h in
      plain_stream law rest.0 (sym (plain_is law d.0.0 (Cons false v rest) d.2) ∙ (law.done p _ e d.0 d.1).made)

  after_first : (r : Rec) → recs w p ≡ Some r → is_stream (recs w) p ≡ true → is_stream (recs w) rest.0 ≡ true
  after_first (Append xs ys left o off) e s = after_append xs ys left o off e
  after_first (Reverse xs left) e s = after_reversal xs left e
  after_first (Cons c u next) e s =
      let same : Some (Cons c u next) ≡ Some (Cons false v rest) = (let own : value_at w p ≡ Some (Cons c u next) = rw e refl in sym own ∙ h) in
      let here : recs w p ≡ Some (Cons false v rest) = e ∙ same in
      sym (stream_is law p (Cons false v rest) here) ∙ s
  after_first Nil e s = absurd (let own : value_at w p ≡ Some Nil = rw e refl in let z : Some Nil ≡ Some (Cons false v rest) = sym own ∙ h in no_nil z)
    where
      no_nil : Some Nil ≡ Some (Cons false v rest) → ⊥
      no_nil z = true≢false (ap (elim [ None ↦ false | Some r ↦ is_nil_record r ]) z)
        where
          is_nil_record : Rec → Bool
          is_nil_record Nil = true
          is_nil_record _ = false
  after_first r e s = absurd (true≢false (sym (sym (stream_is law p r e) ∙ s)))

-- the first cell of a stream of items that is known
pub record StreamCell (w : World) (p v : ℕ) (rest : Ref) : Type 0 where
  pub cell : FirstCell w p false v rest
  pub stream : is_stream (recs w) rest.0 ≡ true
  pub items : has_items (recs w) rest.0 ≡ true

pub stream_cell : {w : World} → IsLawful w → (p v : ℕ) (rest : Ref) → is_stream (recs w) p ≡ true → has_items (recs w) p ≡ true → value_at w p ≡ Some (Cons false v rest) → StreamCell w p v rest
stream_cell {w} law p v rest stream items h =
    let cell = first_cell law p false v rest h in
    let is = stream_there (recs w) p stream in
    record {
      cell = cell;
      stream = after_first w law p v rest h is.0 is.1 stream;
      items = (first_item (recs w) p rest.0 false v items cell.cells_are).others;
    }
