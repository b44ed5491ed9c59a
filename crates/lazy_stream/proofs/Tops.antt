-- What the top of a stream says, and what its put asks.
use Rattle.std.proofs.Common.{◌≡◌, ℕ, ◌+◌, ◌<◌, ◌≤◌, refl, sym, ap, ◌∙◌, arith, true, Some, length}
use Rattle.std.proofs.lemmas.Bool.{and_parts, and_from, eqb-true, eq-eqb}
use Rattle.lazy_rec.specs.declared.places.Ref.{Ref}
use Rattle.lazy_rec.specs.declared.records.Rec.TheVariants.{Nil, StreamTop}
use Rattle.lazy_rec.specs.declared.records.Sort.TheVariants as sorts
use Rattle.lazy_rec.specs.Meaning.{cells, means}
use Rattle.heap_store.specs.World.{World, recs, Keeps}
use Rattle.heap_store.specs.Values.{is_stream_part, items_in}
use Rattle.heap_store.specs.Lawful.{IsLawful, is_stream, has_items}
use Rattle.heap_store.specs.Hand.{contains, brings}
use Rattle.heap_store.specs.View.{View, IsLawfulView, Fits}
use Rattle.heap_store.proofs.LawfulLaws.{lawful_names}
use Rattle.heap_store.proofs.MeaningLaws.{cells_is, cells_kept, means_is}
use Rattle.heap_store.proofs.ToldLaws.{laws_told}
use Rattle.heap_store.proofs.UnitLaws.{free}
use Rattle.heap_store.proofs.RangeLaws.{range_fields, range_from}
use Rattle.heap_store.proofs.WellNamed.{name_well}
use Rattle.heap_store.proofs.EntryLaws.{items_means, items_in-length}
use Rattle.heap_store.proofs.ReadLaws.{holds_at}
use Rattle.heap_store.proofs.CellLaws.{stream_means}
use Rattle.heap_store.proofs.FixedPlaces.{fixed_records}
use Rattle.heap_store.proofs.PutLaws.{place_fits, fits_value}
use Rattle.lazy_stream.specs.Stream.{IsStreamOf}
use Rattle.lazy_stream.proofs.Streams.{stream_is, stream_there, stream_part, stream_named}

-- ---- what a top says

pub stream_of_top : {w : World} → IsLawful w → (p : ℕ) (front : Ref) (n : ℕ) → recs w p ≡ Some (StreamTop front n) → IsStreamOf w front.0 n p
stream_of_top {w} law p front n e =
    let rs = recs w in
    let h = law.each p _ e in
    let u = and_parts (is_stream rs front.0) (has_items rs front.0) h.unmixed in
    record {
      stream = u.0;
      items = u.1;
      count = sym (eqb-true n (length (cells rs front.0)) h.sizes);
      most = (range_fields (StreamTop front n) h.range).1.1.0;
      low = (lawful_names law p _ e).0.0;
    }

-- the same below a later place
pub below : {w : World} {front n p q : ℕ} → IsStreamOf w front n p → p ≤ q → IsStreamOf w front n q
below s le = record { stream = s.stream; items = s.items; count = s.count; most = s.most; low = omega (arith, s.low, le) }

-- a stream of items means those
stream_items : {w : World} → IsLawful w → (p : ℕ) → is_stream (recs w) p ≡ true → has_items (recs w) p ≡ true → means (recs w) p ≡ items_in (cells (recs w) p)
stream_items {w} law p h items =
    let rs = recs w in
    let is = stream_there rs p h in
    means_is rs (lawful_names law) p is.0 is.1 ∙ (stream_means rs (means rs) p is.0 (holds_at rs p is_stream_part is.0 (stream_part law p h) is.1) ∙ items_means (means rs) (cells rs p) items)

-- a top means the items of its cells
pub top_means : {w : World} → IsLawful w → (p : ℕ) (front : Ref) (n : ℕ) → recs w p ≡ Some (StreamTop front n) → means (recs w) p ≡ items_in (cells (recs w) front.0)
top_means {w} law p front n e =
    let rs = recs w in
    let s = stream_of_top law p front n e in
    means_is rs (lawful_names law) p (StreamTop front n) e ∙ stream_items law front.0 s.stream s.items

-- as many as it says
pub top_length : {w : World} → IsLawful w → (p : ℕ) (front : Ref) (n : ℕ) → recs w p ≡ Some (StreamTop front n) → length (means (recs w) p) ≡ n
top_length {w} law p front n e =
    let s = stream_of_top law p front n e in
    ap length (top_means law p front n e) ∙ (items_in-length (cells (recs w) front.0) s.items ∙ s.count)

-- ---- what its put asks

pub fits_top : {v : View} → IsLawfulView v → (p : ℕ) → contains v.hand.reserved p ≡ true → (front : Ref) (n : ℕ) → IsStreamOf v.seen front.0 n p → Fits v p (StreamTop front n)
fits_top {v} law p held front n s =
    let rs = recs v.seen in
    let low = place_fits law p held in
    fits_value p (StreamTop front n) refl (laws_told law p held (StreamTop front n) (record {
      range = range_from (StreamTop front n) (omega arith, (omega (arith, s.low, low), (s.most, tt))) refl;
      names = and_from _ true (name_well rs rs (λ q r e. e) p (front.0, sorts.Stream) (stream_named law.world p front.0 s.stream s.low)) refl;
      sizes = eq-eqb n (length (cells rs front.0)) (sym s.count);
      unmixed = and_from (is_stream rs front.0) (has_items rs front.0) s.stream s.items;
      bank_queue = refl;
      rt_queue = refl;
      heap = refl;
      cat = refl;
      finger = refl;
      heights = refl;
    })) (free v.seen p (StreamTop front n) (v.hand.credits + brings (recs v.seen) v.hand.claims) refl)

-- the empty stream stands at the first fixed place
pub empty_stream : {w : World} → IsLawful w → (place : ℕ) → 0 < place → IsStreamOf w 0 0 place
empty_stream {w} law place low =
    let nil = (fixed_records law).nil in
    let none = cells_is (recs w) (lawful_names law) 0 Nil nil in
    record { stream = stream_is law 0 Nil nil; items = rw none refl; count = ap length none; most = omega arith; low = low }

-- a top that was put means the cells over which it was put
pub put_means : {a b : World} → IsLawful a → IsLawful b → Keeps (recs a) (recs b) → (p : ℕ) (front : Ref) (n : ℕ) {place : ℕ} → recs b p ≡ Some (StreamTop front n) → IsStreamOf a front.0 n place → means (recs b) p ≡ items_in (cells (recs a) front.0)
put_means {a} {b} law law2 keeps p front n e s =
    top_means law2 p front n e ∙ ap items_in (sym (cells_kept (recs a) (recs b) (lawful_names law) keeps front.0 (stream_there (recs a) front.0 s.stream)))
