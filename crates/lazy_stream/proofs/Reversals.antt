-- What a reversal says of what it names, what its put asks, and the cells that its prepare passes.
use Rattle.std.proofs.Common.{◌≡◌, ℕ, suc, ◌<◌, ◌≤◌, eqb, ltb, refl, sym, ap, ◌∙◌, arith, ⊎_elim, Bool, true, false, not, ◌&&◌, Option, Some, None, length}
use Rattle.std.proofs.lemmas.Bool.{true≢false, and_parts, and_from, or_cases, or_right, eqb-true, ltb-true, eq-eqb, lt-ltb, cases_eq}
use Rattle.lazy_rec.specs.declared.places.Ref.{Ref}
use Rattle.lazy_rec.specs.declared.records.Rec.TheVariants.{Reverse}
use Rattle.lazy_rec.specs.declared.records.Sort.TheVariants as sorts
use Rattle.lazy_rec.specs.Tests.{is_some_and}
use Rattle.lazy_rec.specs.Named.{sort_of, same_sort, is_pending}
use Rattle.lazy_rec.specs.Meaning.{cells}
use Rattle.heap_store.specs.declared.jobs.Cursor.{Cursor}
use Rattle.heap_store.specs.declared.jobs.Prep.TheVariants.{Need}
use Rattle.heap_store.specs.World.{World, recs, holds, is_value, value_at}
use Rattle.heap_store.specs.Values.{value_place, is_stream_part}
use Rattle.heap_store.specs.Lawful.{IsLawful, is_stream, has_items, walk, height}
use Rattle.heap_store.specs.Hand.{contains}
use Rattle.heap_store.specs.View.{View, IsLawfulView, Fits, Quiet}
use Rattle.heap_store.specs.Jobs.{IsReady, IsNeed, cursor_fits, cursor_fits_record}
use Rattle.heap_store.proofs.NameLaws.{IsNamedWell}
use Rattle.heap_store.proofs.GrowthLaws.{at_true}
use Rattle.heap_store.proofs.LawfulLaws.{lawful_names}
use Rattle.heap_store.proofs.ReadLaws.{holds_at, holds_from}
use Rattle.heap_store.proofs.ToldLaws.{laws_told}
use Rattle.heap_store.proofs.RangeLaws.{range_fields, range_from}
use Rattle.heap_store.proofs.WellNamed.{name_well}
use Rattle.heap_store.proofs.ValueLaws.{Waits, value_known, value_self, value_place_is}
use Rattle.heap_store.proofs.HeightLaws.{height_is, height_most}
use Rattle.heap_store.proofs.PutLaws.{place_fits}
use Rattle.heap_store.specs.OneStage.{nothing_told}
use Rattle.lazy_stream.specs.Stream.{is_stream_work, goes_on_at, IsStreamOf}
use Rattle.lazy_stream.proofs.Streams.{stream_there, stream_sort, stream_named}
use Rattle.lazy_stream.proofs.AppendFamilies.{reversal_gain}
use Rattle.lazy_stream.proofs.AppendWork.{stream_need}
use Rattle.lazy_stream.proofs.Walks.{reached, cells_known, cell_needed}

-- ---- what a reversal says

pub record ReversalWell (w : World) (p : ℕ) (xs : Ref) (left : ℕ) : Type 0 where
  pub xs_named : IsNamedWell (recs w) p (xs.0, sorts.Stream)
  pub left_fits : left < 2147483648
  pub xs_cells : length (cells (recs w) xs.0) ≡ left
  pub some : 0 < left
  pub xs_stream : is_stream (recs w) xs.0 ≡ true
  pub xs_items : has_items (recs w) xs.0 ≡ true
  pub xs_low : height (recs w) xs.0 < p

pub reversal_well : {w : World} → IsLawful w → (p : ℕ) (xs : Ref) (left : ℕ) → recs w p ≡ Some (Reverse xs left) → ReversalWell w p xs left
reversal_well {w} law p xs left e =
    let rs = recs w in
    let h = law.each p _ e in
    let size = and_parts (eqb left (length (cells rs xs.0))) (ltb 0 left) h.sizes in
    let u = and_parts (is_stream rs xs.0) (has_items rs xs.0) h.unmixed in
    record {
      xs_named = (lawful_names law p _ e).0;
      left_fits = (range_fields (Reverse xs left) h.range).1.1.0;
      xs_cells = sym (eqb-true left (length (cells rs xs.0)) size.0);
      some = ltb-true 0 left size.1;
      xs_stream = u.0;
      xs_items = u.1;
      xs_low = ltb-true (height rs xs.0) p (and_parts (ltb (height rs xs.0) p) true h.heights).0;
    }

pub reversal_height : {w : World} → IsLawful w → (p : ℕ) (xs : Ref) (left : ℕ) → recs w p ≡ Some (Reverse xs left) → height (recs w) p ≡ p
reversal_height law p xs left e = height_is law p (Reverse xs left) e

-- ---- what its put asks

pub fits_reversal : {v : View} → IsLawfulView v → (p : ℕ) → contains v.hand.reserved p ≡ true → (xs : Ref) (n : ℕ) → IsStreamOf v.seen xs.0 n p → 0 < n → n ≤ v.hand.credits → Fits v p (Reverse xs n)
fits_reversal {v} law p held xs n a some enough =
    let low = place_fits law p held in
    let rs = recs v.seen in
    let below : height rs xs.0 < p = omega (arith, height_most law.world xs.0 (stream_there rs xs.0 a.stream), a.low) in
    record {
      laws = laws_told law p held (Reverse xs n) (record {
        range = range_from (Reverse xs n) (omega arith, (omega (arith, a.low, low), (a.most, tt))) refl;
        names = and_from _ true (name_well rs rs (λ q r e. e) p (xs.0, sorts.Stream) (stream_named law.world p xs.0 a.stream a.low)) refl;
        sizes = and_from (eqb n (length (cells rs xs.0))) (ltb 0 n) (eq-eqb n (length (cells rs xs.0)) (sym a.count)) (lt-ltb 0 n some);
        unmixed = and_from (is_stream rs xs.0) (has_items rs xs.0) a.stream a.items;
        bank_queue = refl;
        rt_queue = refl;
        heap = refl;
        cat = refl;
        finger = refl;
        heights = and_from (ltb (height rs xs.0) p) true (lt-ltb (height rs xs.0) p below) refl;
      });
      origin = eq-eqb p p refl;
      follows = λ i e. absurd (let z : 0 ≡ suc i = e in omega (arith, z));
      settled = refl;
      paid = omega (arith, reversal_gain v.seen p xs n, enough);
    }

-- ---- the cells that a prepare passes

-- it has passed so many cells and stands at a place
pub record Passing (old now : View) (xs place i : ℕ) : Type 0 where
  pub quiet : Quiet old now
  pub at : walk now.seen i xs ≡ Some place

-- where a cursor stands
pub cursor_stands : (w : World) (s : ℕ) (xs : Ref) (left : ℕ) (c : Cursor) → recs w s ≡ Some (Reverse xs left) → cursor_fits w s c ≡ true → (place : Ref) → (c.passed ≡ 0 → place ≡ xs) → (0 < c.passed → place ≡ c.place) → walk w c.passed xs.0 ≡ Some place.0
cursor_stands w s xs left c e fits place first later = ⊎_elim
    (λ z. let same = first z in rw (z, same) refl)
    (λ ne. (
    let h = holds_at (recs w) s (cursor_fits_record w c) (Reverse xs left) fits e in
    let same = later (omega (arith, ne)) in
    let k : is_some_and (eqb c.place.0) (walk w c.passed xs.0) ≡ true = ⊎_elim (λ z. absurd (ne (eqb-true c.passed 0 z))) (λ k. k) (or_cases (eqb c.passed 0) _ h) in
    rw same (go (walk w c.passed xs.0) refl k)))
    (cases_eq c.passed 0)
  where
    go : (o : Option ℕ) → walk w c.passed xs.0 ≡ o → is_some_and (eqb c.place.0) o ≡ true → walk w c.passed xs.0 ≡ Some c.place.0
    go None e h = absurd (true≢false (sym h))
    go (Some q) e h = let same = eqb-true c.place.0 q h in e ∙ ap Some (sym same)

pub cursor_at : (w : World) (s : ℕ) (xs : Ref) (left : ℕ) (place : Ref) (i : ℕ) → recs w s ≡ Some (Reverse xs left) → walk w i xs.0 ≡ Some place.0 → cursor_fits w s (record { place = place; passed = i }) ≡ true
cursor_at w s xs left place i e h = holds_from (recs w) s (cursor_fits_record w (record { place = place; passed = i })) (Reverse xs left) e (or_right (eqb i 0) _ (rw h (eq-eqb place.0 place.0 refl)))

pub cursor_goes_on : (w : World) (xs : Ref) (left : ℕ) (place t : Ref) (i : ℕ) → walk w i xs.0 ≡ Some t.0 → goes_on_at w (Reverse xs left) (record { place = place; passed = i }) (Need t) ≡ true
cursor_goes_on w xs left place t i h = rw h (eq-eqb t.0 t.0 refl)

-- the stream that is left where a prepare stands
pub record Standing (w : World) (place : ℕ) : Type 0 where
  pub stream : is_stream (recs w) place ≡ true
  pub items : has_items (recs w) place ≡ true
  pub some : 0 < length (cells (recs w) place)

pub standing : {w : World} → IsLawful w → (s : ℕ) (xs : Ref) (left place i : ℕ) → recs w s ≡ Some (Reverse xs left) → walk w i xs.0 ≡ Some place → i < left → Standing w place
standing law s xs left place i e h low =
    let k = reversal_well law s xs left e in
    let r = reached law xs.0 k.xs_stream k.xs_items i place h in
    record { stream = r.stream; items = r.items; some = omega (arith, r.count, k.xs_cells, low) }

-- where the value of that stream stands
pub record StandingValue (w : World) (place q : ℕ) : Type 0 where
  pub stream : holds (recs w) q is_stream_part ≡ true
  pub known : is_value w q ≡ true
  pub some : 0 < length (cells (recs w) q)
  pub same : value_at w place ≡ value_at w q

pub standing_value : {w : World} → IsLawful w → (place q : ℕ) → Standing w place → value_place w place ≡ Some q → StandingValue w place q
standing_value {w} law place q s h =
    let k = value_place_is law place q h in
    let t = at_true (λ r. not (is_pending r) && same_sort (sort_of r) (sort_of k.rec)) (recs w q) k.sort in
    let parts = and_parts (not (is_pending t.0)) (same_sort (sort_of t.0) (sort_of k.rec)) t.2 in
    let waits = no_work (is_pending t.0) parts.0 in
    let sort = stream_sort law place k.rec k.here s.stream in
    record {
      stream = holds_from (recs w) q is_stream_part t.0 t.1 (ap (λ z. same_sort (sort_of t.0) z) (sym sort) ∙ parts.1);
      known = value_known w q t.0 t.1 waits;
      some = rw k.cells s.some;
      same = k.value ∙ (t.1 ∙ sym (value_self w q t.0 t.1 waits));
    }
  where
    no_work : (b : Bool) → not b ≡ true → b ≡ false
    no_work true h = absurd (true≢false (sym h))
    no_work false h = refl

-- no more cells are passed than there are
pub passed_most : {w : World} → IsLawful w → (s : ℕ) (xs : Ref) (left place i : ℕ) → recs w s ≡ Some (Reverse xs left) → walk w i xs.0 ≡ Some place → i ≤ left
passed_most law s xs left place i e h =
    let k = reversal_well law s xs left e in
    let r = reached law xs.0 k.xs_stream k.xs_items i place h in
    omega (arith, r.count, k.xs_cells)

pub reversal_need : {w : World} → IsLawful w → (s : ℕ) (xs : Ref) (left place i : ℕ) → recs w s ≡ Some (Reverse xs left) → walk w i xs.0 ≡ Some place → i < left → Waits w place → IsNeed is_stream_work w s place
reversal_need {w} law s xs left place i e h low waits =
    let k = reversal_well law s xs left e in
    let r = reached law xs.0 k.xs_stream k.xs_items i place h in
    stream_need law s (Reverse xs left) e place (cell_needed w i left xs.0 place h low) (omega (arith, r.low, k.xs_low, reversal_height law s xs left e)) r.stream waits

pub reversal_ready : {w : World} → IsLawful w → (s : ℕ) (xs : Ref) (left place : ℕ) → recs w s ≡ Some (Reverse xs left) → walk w left xs.0 ≡ Some place → IsReady nothing_told w s left
reversal_ready law s xs left place e h = record {
  rec = Reverse xs left;
  here = e;
  needs = cells_known law left xs.0 place h;
  told = tt;
  exact = λ _. refl;
  most = omega arith;
}
