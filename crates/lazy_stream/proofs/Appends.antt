-- What an append says of what it names, and what its put asks.
use Rattle.std.proofs.Common.{◌≡◌, ℕ, suc, ◌+◌, ◌-◌, ◌<◌, ◌≤◌, eqb, ltb, refl, sym, ap, ◌∙◌, arith, true, false, ◌&&◌, Some, List, [], ◌∷◌, length}
use Rattle.std.proofs.lemmas.Bool.{and_parts, and_from, or_left, eqb-true, ltb-true, eq-eqb, lt-ltb, ne_eqb, cond-false}
use Rattle.lazy_rec.specs.declared.places.Ref.{Ref}
use Rattle.lazy_rec.specs.declared.records.Rec.TheVariants.{Cons, Append}
use Rattle.lazy_rec.specs.declared.records.Sort.TheVariants as sorts
use Rattle.lazy_rec.specs.Named.{at_record}
use Rattle.lazy_rec.specs.Meaning.{cells}
use Rattle.heap_store.specs.declared.claims.HeldClaim.{HeldClaim}
use Rattle.heap_store.specs.World.{World, recs, value_at, same_place}
use Rattle.heap_store.specs.Completion.{on_cell, is_append, next_append, is_next}
use Rattle.heap_store.specs.Lawful.{IsLawful, HasLaws, is_stream, has_items, height}
use Rattle.heap_store.specs.Hand.{contains, newest_makes, brings}
use Rattle.heap_store.specs.View.{View, IsLawfulView, Fits}
use Rattle.heap_store.specs.Jobs.{IsNewest}
use Rattle.heap_store.proofs.NameLaws.{IsNamedWell}
use Rattle.heap_store.proofs.LawfulLaws.{lawful_names}
use Rattle.heap_store.proofs.ToldLaws.{laws_told}
use Rattle.heap_store.proofs.UnitLaws.{free}
use Rattle.heap_store.proofs.RangeLaws.{range_fields, range_from}
use Rattle.heap_store.proofs.WellNamed.{name_well}
use Rattle.heap_store.proofs.HeightLaws.{height_is, height_most, origin_most}
use Rattle.heap_store.proofs.PutLaws.{place_fits}
use Rattle.lazy_stream.specs.Stream.{IsStreamOf}
use Rattle.lazy_stream.proofs.Streams.{stream_there, stream_named, stream_cell}
use Rattle.lazy_stream.proofs.AppendFamilies.{append_first, append_gain, later_shows_none}

-- ---- what an append says

-- of what it names, an append at p or one that is put there
pub record AppendWell (w : World) (p : ℕ) (xs ys : Ref) (left : ℕ) (o : Ref) (off : ℕ) : Type 0 where
  pub xs_named : IsNamedWell (recs w) p (xs.0, sorts.Stream)
  pub ys_named : IsNamedWell (recs w) p (ys.0, sorts.Stream)
  pub xs_fits : xs.0 < 4194304
  pub ys_fits : ys.0 < 4194304
  pub left_fits : left < 2147483648
  pub o_fits : o.0 < 4194304
  pub off_fits : off < 2147483648
  pub xs_cells : length (cells (recs w) xs.0) ≡ left
  pub some : 0 < left
  pub xs_stream : is_stream (recs w) xs.0 ≡ true
  pub ys_stream : is_stream (recs w) ys.0 ≡ true
  pub xs_items : has_items (recs w) xs.0 ≡ true
  pub ys_items : has_items (recs w) ys.0 ≡ true
  pub xs_low : height (recs w) xs.0 < o.0
  pub ys_low : height (recs w) ys.0 < o.0

pub append_well : {w : World} → IsLawful w → (p : ℕ) (xs ys : Ref) (left : ℕ) (o : Ref) (off : ℕ) → recs w p ≡ Some (Append xs ys left o off) → AppendWell w p xs ys left o off
append_well {w} law p xs ys left o off e =
    let rs = recs w in
    let h = law.each p _ e in
    let n = lawful_names law p _ e in
    let range = range_fields (Append xs ys left o off) h.range in
    let size = and_parts (eqb left (length (cells rs xs.0))) (ltb 0 left) h.sizes in
    let u = and_parts (is_stream rs xs.0 && is_stream rs ys.0 && has_items rs xs.0) (has_items rs ys.0) h.unmixed in
    let u2 = and_parts (is_stream rs xs.0 && is_stream rs ys.0) (has_items rs xs.0) u.0 in
    let u3 = and_parts (is_stream rs xs.0) (is_stream rs ys.0) u2.0 in
    let low = and_parts (ltb (height rs xs.0) o.0) (ltb (height rs ys.0) o.0 && true) h.heights in
    record {
      xs_named = n.0;
      ys_named = n.1.0;
      xs_fits = range.1.0;
      ys_fits = range.1.1.0;
      left_fits = range.1.1.1.0;
      o_fits = range.1.1.1.1.0;
      off_fits = range.1.1.1.1.1.0;
      xs_cells = sym (eqb-true left (length (cells rs xs.0)) size.0);
      some = ltb-true 0 left size.1;
      xs_stream = u3.0;
      ys_stream = u3.1;
      xs_items = u2.1;
      ys_items = u.1;
      xs_low = ltb-true (height rs xs.0) o.0 low.0;
      ys_low = ltb-true (height rs ys.0) o.0 (and_parts (ltb (height rs ys.0) o.0) true low.1).0;
    }

pub append_height : {w : World} → IsLawful w → (p : ℕ) (xs ys : Ref) (left : ℕ) (o : Ref) (off : ℕ) → recs w p ≡ Some (Append xs ys left o off) → height (recs w) p ≡ o.0
append_height law p xs ys left o off e = height_is law p (Append xs ys left o off) e

-- what is left and the offset are together no more than a size: those of the family's first append
pub append_most : {w : World} → IsLawful w → (p : ℕ) (xs ys : Ref) (left : ℕ) (o : Ref) (off : ℕ) → recs w p ≡ Some (Append xs ys left o off) → left + off < 2147483648
append_most {w} law p xs ys left o off e =
    let f = append_first law off p xs ys left o e in
    (append_well law o.0 f.xs f.ys (left + off) f.origin 0 f.here).left_fits

-- ---- what its put asks

append_laws : {w : World} (p : ℕ) (xs ys : Ref) (left : ℕ) (o : Ref) (off : ℕ) → AppendWell w p xs ys left o off → HasLaws w p (Append xs ys left o off)
append_laws {w} p xs ys left o off k =
    let rs = recs w in
    record {
      range = range_from (Append xs ys left o off) (omega arith, (k.xs_fits, (k.ys_fits, (k.left_fits, (k.o_fits, (k.off_fits, tt)))))) refl;
      names = and_from _ _ (name_well rs rs (λ q r e. e) p (xs.0, sorts.Stream) k.xs_named) (and_from _ true (name_well rs rs (λ q r e. e) p (ys.0, sorts.Stream) k.ys_named) refl);
      sizes = and_from (eqb left (length (cells rs xs.0))) (ltb 0 left) (eq-eqb left (length (cells rs xs.0)) (sym k.xs_cells)) (lt-ltb 0 left k.some);
      unmixed = rw (k.xs_stream, k.ys_stream, k.xs_items, k.ys_items) refl;
      bank_queue = refl;
      rt_queue = refl;
      heap = refl;
      cat = refl;
      finger = refl;
      heights = and_from (ltb (height rs xs.0) o.0) (ltb (height rs ys.0) o.0 && true) (lt-ltb (height rs xs.0) o.0 k.xs_low) (and_from (ltb (height rs ys.0) o.0) true (lt-ltb (height rs ys.0) o.0 k.ys_low) refl);
    }

-- an append is the next one of its arguments
pub same_append : (w : World) (xs ys : Ref) (left : ℕ) (o : Ref) (off : ℕ) → is_append w xs.0 ys.0 left o.0 (suc off) (Append xs ys left o (off + 1)) ≡ true
same_append w xs ys left o off =
    and_from (same_place w xs.0 xs.0 && same_place w ys.0 ys.0 && eqb left left && eqb o.0 o.0) (eqb (suc off) (off + 1))
    (and_from (same_place w xs.0 xs.0 && same_place w ys.0 ys.0 && eqb left left) (eqb o.0 o.0)
    (and_from (same_place w xs.0 xs.0 && same_place w ys.0 ys.0) (eqb left left)
    (and_from (same_place w xs.0 xs.0) (same_place w ys.0 ys.0) (self xs.0) (self ys.0))
    (eq-eqb left left refl)) (eq-eqb o.0 o.0 refl)) (eq-eqb (suc off) (off + 1) (omega arith))
  where
    self : (p : ℕ) → same_place w p p ≡ true
    self p = or_left (eqb p p) _ (eq-eqb p p refl)

-- the next suspension of the newest claim's append
next_made : (w : World) (s : Ref) (claims : List HeldClaim) → IsNewest s claims → (xs ys : Ref) (left : ℕ) (o : Ref) (off : ℕ) → recs w s.0 ≡ Some (Append xs ys left o off) → 1 < left → (value : ℕ) (rest : Ref) → value_at w xs.0 ≡ Some (Cons false value rest)
    → newest_makes w claims o.0 (suc off) (Append rest ys (left - 1) o (off + 1)) ≡ true
next_made w s [] new xs ys left o off e more value rest h = absurd new
next_made w s (c ∷ cs) new xs ys left o off e more value rest h = rw (new, e) (
    and_from (eqb o.0 o.0 && eqb (suc off) (suc off)) (is_next w (Append xs ys left o off) (Append rest ys (left - 1) o (off + 1))) (and_from (eqb o.0 o.0) (eqb (suc off) (suc off)) (eq-eqb o.0 o.0 refl) (eq-eqb (suc off) (suc off) refl))
    (and_from (ltb 1 left) (at_record false (on_cell (λ k u tail. next_append w tail ys.0 left o.0 off (Append rest ys (left - 1) o (off + 1)))) (value_at w xs.0)) (lt-ltb 1 left more) (rw h (same_append w rest ys (left - 1) o off))))

-- the next append, over the rest of its first stream
pub fits_next : {v : View} → IsLawfulView v → (p : ℕ) → contains v.hand.reserved p ≡ true → (s : Ref) (xs ys : Ref) (left : ℕ) (o : Ref) (off : ℕ) → recs v.seen s.0 ≡ Some (Append xs ys left o off) → 1 < left
    → (value : ℕ) (rest : Ref) → value_at v.seen xs.0 ≡ Some (Cons false value rest) → s.0 < p → rest.0 < p → IsNewest s v.hand.claims → Fits v p (Append rest ys (left - 1) o (off + 1))
fits_next {v} law p held s xs ys left o off e more value rest h s_low rest_low new =
    let k = append_well law.world s.0 xs ys left o off e in
    let m = append_most law.world s.0 xs ys left o off e in
    let c = stream_cell law.world xs.0 value rest k.xs_stream k.xs_items h in
    let l : length (cells (recs v.seen) xs.0) ≡ suc (length (cells (recs v.seen) rest.0)) = ap length c.cell.cells_are in
    record {
      laws = laws_told law p held (Append rest ys (left - 1) o (off + 1)) (append_laws p rest ys (left - 1) o (off + 1) (record {
        xs_named = stream_named law.world p rest.0 c.stream rest_low;
        ys_named = stream_named law.world p ys.0 k.ys_stream (omega (arith, k.ys_named.0, s_low));
        xs_fits = c.cell.fits.place;
        ys_fits = k.ys_fits;
        left_fits = omega (arith, k.left_fits);
        o_fits = k.o_fits;
        off_fits = omega (arith, m, more);
        xs_cells = omega (arith, l, k.xs_cells);
        some = omega (arith, more);
        xs_stream = c.stream;
        ys_stream = k.ys_stream;
        xs_items = c.items;
        ys_items = k.ys_items;
        xs_low = omega (arith, c.cell.low, k.xs_low);
        ys_low = k.ys_low;
      }));
      origin = cond-false (eqb (off + 1) 0) (eqb o.0 p) (ltb o.0 p) (ne_eqb (off + 1) 0 (λ z. omega (arith, z))) ∙ lt-ltb o.0 p (omega (arith, origin_most s.0 (Append xs ys left o off) (law.world.origins s.0 _ e), s_low));
      follows = λ i f. (let z : off + 1 ≡ suc i = f in let y : i ≡ off = omega (arith, z) in rw y (next_made v.seen s v.hand.claims new xs ys left o off e more value rest h));
      settled = refl;
      paid = free v.seen p (Append rest ys (left - 1) o (off + 1)) (v.hand.credits + brings (recs v.seen) v.hand.claims) (later_shows_none v.seen p rest ys (left - 1) o off);
    }

-- the first append of a family, which shows the units of all
pub fits_first : {v : View} → IsLawfulView v → (p : ℕ) → contains v.hand.reserved p ≡ true → (xs ys : Ref) (n m : ℕ) (o : Ref) → IsStreamOf v.seen xs.0 n p → IsStreamOf v.seen ys.0 m p → 0 < n → o.0 ≡ p → n ≤ v.hand.credits → Fits v p (Append xs ys n o 0)
fits_first {v} law p held xs ys n m o a b some same enough =
    let low = place_fits law p held in
    let rs = recs v.seen in
    record {
      laws = laws_told law p held (Append xs ys n o 0) (append_laws p xs ys n o 0 (record {
        xs_named = stream_named law.world p xs.0 a.stream a.low;
        ys_named = stream_named law.world p ys.0 b.stream b.low;
        xs_fits = omega (arith, a.low, low);
        ys_fits = omega (arith, b.low, low);
        left_fits = a.most;
        o_fits = omega (arith, same, low);
        off_fits = omega arith;
        xs_cells = a.count;
        some = some;
        xs_stream = a.stream;
        ys_stream = b.stream;
        xs_items = a.items;
        ys_items = b.items;
        xs_low = omega (arith, height_most law.world xs.0 (stream_there rs xs.0 a.stream), a.low, same);
        ys_low = omega (arith, height_most law.world ys.0 (stream_there rs ys.0 b.stream), b.low, same);
      }));
      origin = eq-eqb o.0 p same;
      follows = λ i e. absurd (let z : 0 ≡ suc i = e in omega (arith, z));
      settled = refl;
      paid = omega (arith, append_gain v.seen p xs ys n o, enough);
    }
