-- What the top of a queue says, and what its put asks.
use Rattle.std.proofs.Common.{◌≡◌, ℕ, ◌+◌, ◌*◌, ◌<◌, ◌≤◌, eqb, ltb, leb, refl, sym, ap, ◌∙◌, arith, subst, Bool, true, false, cond, ◌&&◌, Some, [], ◌++◌, length, reverse}
use Rattle.std.proofs.lemmas.List.{append-nil, take_all, length-append, length-reverse}
use Rattle.std.proofs.lemmas.Bool.{and_parts, and_from, or_left, eqb-true, ltb-true, leb-true, eq-eqb, lt-ltb, le-leb, lt-leb, cond-true, cond-false}
use Rattle.lazy_rec.specs.declared.places.Ref.{Ref}
use Rattle.lazy_rec.specs.declared.records.Rec.TheVariants.{Nil, LNil, BankTop, BankRot}
use Rattle.lazy_rec.specs.declared.records.Sort.TheVariants as sorts
use Rattle.lazy_rec.specs.declared.states.SuspState.TheVariants.{Unforced}
use Rattle.lazy_rec.specs.Named.{Records, sort_of}
use Rattle.lazy_rec.specs.Meaning.{cells, means}
use Rattle.lazy_rec.specs.Packed.{in_range}
use Rattle.heap_store.specs.World.{World, recs, holds, show, Keeps}
use Rattle.heap_store.specs.Values.{is_list, items_in}
use Rattle.heap_store.specs.Completion.{is_plain}
use Rattle.heap_store.specs.Lawful.{IsLawful, has_items, is_any_bank_rotation, is_bank_front, is_rotated, is_bank_queue}
use Rattle.heap_store.specs.Span.{Span}
use Rattle.heap_store.specs.Hand.{contains, IsInHand}
use Rattle.heap_store.specs.Budget.{gain_at}
use Rattle.heap_store.specs.View.{View, IsLawfulView, Fits}
use Rattle.heap_store.proofs.NameLaws.{IsPublished, IsNamedWell}
use Rattle.heap_store.proofs.GrowthLaws.{at_true, sorts_agree}
use Rattle.heap_store.proofs.RecordLaws.{bank_front_kept, rotated_up}
use Rattle.heap_store.proofs.LawfulLaws.{lawful_names}
use Rattle.heap_store.proofs.MeaningLaws.{cells_is, cells_kept, means_is}
use Rattle.heap_store.proofs.UnitLaws.{free}
use Rattle.heap_store.proofs.RangeLaws.{range_fields, range_from}
use Rattle.heap_store.proofs.CellLaws.{list_length}
use Rattle.heap_store.proofs.EntryLaws.{are_items, items_means}
use Rattle.heap_store.proofs.FixedPlaces.{fixed_records, nil_plain, above_fixed}
use Rattle.heap_store.proofs.PutLaws.{place_fits, put_keeps, put_names, fits_value}
use Rattle.bank_queue.specs.declared.queue.Top.{Top}
use Rattle.bank_queue.specs.Front.{is_front}
use Rattle.bank_queue.specs.Queue.{top_record, top_places, top_gain, IsRotatable, IsNearQueue}
use Rattle.bank_queue.proofs.Fronts.{plain_front, front_there, front_sort}
use Rattle.heap_store.proofs.QueueEntries.{queued, queued-items}
use Rattle.bank_queue.proofs.RotatedFronts.{front_bank, bank_front, rotated_of, rotated_from, rotated_front, rotated_fits}
use Rattle.bank_queue.proofs.TopsShown.{first_gain}

-- ---- what a top says

pub record TopWell (w : World) (p : ℕ) (t : Top) : Type 0 where
  pub front_named : IsNamedWell (recs w) p (t.front.0, sorts.Stream)
  pub rear_named : IsNamedWell (recs w) p (t.rear.0, sorts.List)
  pub front : is_front (recs w) t.front.0 ≡ true
  pub front_cells : length (cells (recs w) t.front.0) ≡ t.lenf
  pub rear_cells : length (cells (recs w) t.rear.0) ≡ t.lenr
  pub front_items : has_items (recs w) t.front.0 ≡ true
  pub rear_items : has_items (recs w) t.rear.0 ≡ true
  pub range : in_range (top_record t) ≡ true

-- what a top in the world says
pub record OldTop (w : World) (p : ℕ) (t : Top) : Type 0 where
  pub well : TopWell w p t
  pub rear_list : holds (recs w) t.rear.0 is_list ≡ true
  pub near : t.lenr ≤ t.lenf
  pub lenf_fits : t.lenf < 2147483648
  pub lenr_fits : t.lenr < 2147483648
  pub tails_fits : t.tails < 2147483648
  pub rotation : 0 < t.lenf → (t.rotated ≡ true) × (t.origin.0 < p) × (is_rotated (recs w) t.front.0 t.lenf t.origin.0 t.n t.tails ≡ true)

pub old_top : {w : World} → IsLawful w → (p : ℕ) (t : Top) → recs w p ≡ Some (top_record t) → OldTop w p t
old_top {w} law p t e =
    let h = law.each p _ e in
    let rs = recs w in
    let n = lawful_names law p _ e in
    let sizes = and_parts (eqb t.lenf (length (cells rs t.front.0))) (eqb t.lenr (length (cells rs t.rear.0))) h.sizes in
    let u = and_parts (is_bank_front rs t.front.0 && has_items rs t.front.0) (has_items rs t.rear.0) h.unmixed in
    let u2 = and_parts (is_bank_front rs t.front.0) (has_items rs t.front.0) u.0 in
    let q = and_parts (leb t.lenr t.lenf) (cond t.rotated (ltb t.origin.0 p && is_rotated rs t.front.0 t.lenf t.origin.0 t.n t.tails) (eqb t.lenf 0 && eqb t.lenr 0)) h.bank_queue in
    let front_cells = sym (eqb-true t.lenf (length (cells rs t.front.0)) sizes.0) in
    let range = range_fields (top_record t) h.range in
    record {
      well = record {
        front_named = n.0;
        rear_named = n.1.0;
        front = front t.rotated q.1 u2.0 (n.0.1, n.0.2) front_cells;
        front_cells = front_cells;
        rear_cells = sym (eqb-true t.lenr (length (cells rs t.rear.0)) sizes.1);
        front_items = u2.1;
        rear_items = u.1;
        range = h.range;
      };
      rear_list = rw (n.1.0.2, n.1.0.3) refl;
      near = leb-true t.lenr t.lenf q.0;
      lenf_fits = range.1.1.0;
      lenr_fits = range.1.1.1.1.0;
      tails_fits = range.1.1.1.1.1.1.1.1.0;
      rotation = λ pos. rotation t.rotated refl q.1 pos;
    }
  where
    rotation : (b : Bool) → t.rotated ≡ b → cond b (ltb t.origin.0 p && is_rotated (recs w) t.front.0 t.lenf t.origin.0 t.n t.tails) (eqb t.lenf 0 && eqb t.lenr 0) ≡ true → 0 < t.lenf → (t.rotated ≡ true) × (t.origin.0 < p) × (is_rotated (recs w) t.front.0 t.lenf t.origin.0 t.n t.tails ≡ true)
    rotation true z h pos = let k = and_parts (ltb t.origin.0 p) (is_rotated (recs w) t.front.0 t.lenf t.origin.0 t.n t.tails) h in (z, ltb-true t.origin.0 p k.0, k.1)
    rotation false z h pos = absurd (let k = eqb-true t.lenf 0 (and_parts (eqb t.lenf 0) (eqb t.lenr 0) h).0 in omega (arith, k, pos))

    front : (b : Bool) → cond b (ltb t.origin.0 p && is_rotated (recs w) t.front.0 t.lenf t.origin.0 t.n t.tails) (eqb t.lenf 0 && eqb t.lenr 0) ≡ true → is_bank_front (recs w) t.front.0 ≡ true → IsPublished (recs w) t.front.0 → length (cells (recs w) t.front.0) ≡ t.lenf → is_front (recs w) t.front.0 ≡ true
    front true h u is len = rotated_front law t.front.0 t.lenf t.origin.0 t.n t.tails (rotated_of law t.front.0 t.lenf t.origin.0 t.n t.tails (and_parts (ltb t.origin.0 p) (is_rotated (recs w) t.front.0 t.lenf t.origin.0 t.n t.tails) h).1)
    front false h u is len = bank_front law t.front.0 u is (omega (arith, len, eqb-true t.lenf 0 (and_parts (eqb t.lenf 0) (eqb t.lenr 0) h).0))

-- the items of a queue
pub top_means : {w : World} → IsLawful w → (p : ℕ) (t : Top) → recs w p ≡ Some (top_record t) → means (recs w) p ≡ items_in (queued (cells (recs w) t.front.0) (cells (recs w) t.rear.0))
top_means {w} law p t e =
    let k = (old_top law p t e).well in
    means_is (recs w) (lawful_names law) p _ e ∙ items_means (means (recs w)) (queued (cells (recs w) t.front.0) (cells (recs w) t.rear.0)) (queued-items (cells (recs w) t.front.0) (cells (recs w) t.rear.0) k.front_items k.rear_items)

-- the entries of a queue that an earlier world shows
pub kept_queue : {a b : World} → IsLawful a → IsLawful b → Keeps (recs a) (recs b) → (front rear : ℕ) → IsPublished (recs a) front → IsPublished (recs a) rear → queued (cells (recs b) front) (cells (recs b) rear) ≡ queued (cells (recs a) front) (cells (recs a) rear)
kept_queue {a} {b} law law2 keeps front rear f r = rw (← cells_kept (recs a) (recs b) (lawful_names law) keeps front f, ← cells_kept (recs a) (recs b) (lawful_names law) keeps rear r) refl

-- ---- what its put asks

fits_top : {v : View} → IsLawfulView v → (p : ℕ) → contains v.hand.reserved p ≡ true → (t : Top) → TopWell v.seen p t → ((b : Records) → Keeps (recs v.seen) b → is_bank_queue b p (top_record t) ≡ true) → gain_at v.seen p (top_record t) ≤ v.hand.credits → Fits v p (top_record t)
fits_top {v} law p held t k queue gain =
    let a = recs v.seen in
    let b = recs (show v.seen p (top_record t) (Unforced 0)) in
    let keeps = put_keeps law p held (top_record t) in
    let names = lawful_names law.world in
    let front_is : IsPublished a t.front.0 = (k.front_named.1, k.front_named.2) in
    let rear_is : IsPublished a t.rear.0 = (k.rear_named.1, k.rear_named.2) in
    let front_kept = cells_kept a b names keeps t.front.0 front_is in
    let rear_kept = cells_kept a b names keeps t.rear.0 rear_is in
    fits_value p (top_record t) refl (record {
      range = k.range;
      names = put_names law p held (top_record t) (k.front_named, (k.rear_named, tt));
      sizes = and_from (eqb t.lenf (length (cells b t.front.0))) (eqb t.lenr (length (cells b t.rear.0))) (eq-eqb t.lenf (length (cells b t.front.0)) (sym (sym (ap length front_kept) ∙ k.front_cells))) (eq-eqb t.lenr (length (cells b t.rear.0)) (sym (sym (ap length rear_kept) ∙ k.rear_cells)));
      unmixed = and_from (is_bank_front b t.front.0 && has_items b t.front.0) (has_items b t.rear.0) (and_from (is_bank_front b t.front.0) (has_items b t.front.0) (sym (bank_front_kept a b names keeps t.front.0 front_is) ∙ front_bank law.world t.front.0 k.front) (rw front_kept at k.front_items)) (rw rear_kept at k.rear_items);
      bank_queue = queue b keeps;
      rt_queue = refl;
      heap = refl;
      cat = refl;
      finger = refl;
      heights = refl;
    }) (omega (arith, gain))

rotated_range : (t : Top) → t.rotated ≡ true → t.front.0 < 4194304 → t.lenf < 2147483648 → t.rear.0 < 4194304 → t.lenr < 2147483648 → t.origin.0 < 4194304 → t.n < 2147483648 → t.tails < 2147483648 → in_range (top_record t) ≡ true
rotated_range t z a b c d e f g = range_from (top_record t) (omega arith, (a, (b, (c, (d, (rw z (omega arith), (e, (f, (g, tt))))))))) (rw z refl)

-- a top over what is left of a rotation
fits_rotated : {v : View} → IsLawfulView v → (p : ℕ) → contains v.hand.reserved p ≡ true → (t : Top) → t.rotated ≡ true → t.origin.0 < p → is_rotated (recs v.seen) t.front.0 t.lenf t.origin.0 t.n t.tails ≡ true
    → t.lenr ≤ t.lenf → is_front (recs v.seen) t.front.0 ≡ true → has_items (recs v.seen) t.front.0 ≡ true → length (cells (recs v.seen) t.front.0) ≡ t.lenf → t.front.0 < p
    → holds (recs v.seen) t.rear.0 is_list ≡ true → has_items (recs v.seen) t.rear.0 ≡ true → length (cells (recs v.seen) t.rear.0) ≡ t.lenr → t.rear.0 < p → gain_at v.seen p (top_record t) ≤ v.hand.credits → Fits v p (top_record t)
fits_rotated {v} law p held t z o rotated near front front_items front_cells front_low rear rear_items rear_cells rear_low gain =
    let is = front_there (recs v.seen) t.front.0 front in
    let r = at_true is_list (recs v.seen t.rear.0) rear in
    let low = place_fits law p held in
    let k = rotated_fits law.world t.front.0 t.lenf t.origin.0 t.n t.tails (rotated_of law.world t.front.0 t.lenf t.origin.0 t.n t.tails rotated) in
    fits_top law p held t (record {
      front_named = (front_low, is.0, is.1, front_sort law.world t.front.0 front is.0 is.1);
      rear_named = (rear_low, r.0, r.1, sorts_agree (sort_of r.0) sorts.List r.2);
      front = front;
      front_cells = front_cells;
      rear_cells = rear_cells;
      front_items = front_items;
      rear_items = rear_items;
      range = rotated_range t z (omega (arith, front_low, low)) k.lenf_fits (omega (arith, rear_low, low)) (omega (arith, near, k.lenf_fits)) (omega (arith, o, low)) k.n_fits k.tails_fits;
    }) (λ b keeps. and_from (leb t.lenr t.lenf) (cond t.rotated (ltb t.origin.0 p && is_rotated b t.front.0 t.lenf t.origin.0 t.n t.tails) (eqb t.lenf 0 && eqb t.lenr 0)) (le-leb t.lenr t.lenf near)
    (cond-true t.rotated (ltb t.origin.0 p && is_rotated b t.front.0 t.lenf t.origin.0 t.n t.tails) (eqb t.lenf 0 && eqb t.lenr 0) z ∙ and_from (ltb t.origin.0 p) (is_rotated b t.front.0 t.lenf t.origin.0 t.n t.tails) (lt-ltb t.origin.0 p o) (rotated_up (recs v.seen) b (lawful_names law.world) keeps t.front.0 t.lenf t.origin.0 t.n t.tails is rotated))) gain

pub one_place : (lenf lenr : ℕ) → lenr ≤ lenf → top_places lenf lenr ≡ 1
one_place lenf lenr h = cond-true (leb lenr lenf) 1 2 (le-leb lenr lenf h)

-- what the put of a top discharges, by whether it rotates
pub gain_kept : (w : World) (place : ℕ) (t : Top) → t.lenr ≤ t.lenf → top_gain w place t ≡ gain_at w place (top_record t)
gain_kept w place t h = cond-true (leb t.lenr t.lenf) (gain_at w place (top_record t)) 1 (le-leb t.lenr t.lenf h)

pub gain_new : (w : World) (place : ℕ) (t : Top) → t.lenf < t.lenr → top_gain w place t ≡ 1
gain_new w place t h = cond-false (leb t.lenr t.lenf) (gain_at w place (top_record t)) 1 (lt-leb t.lenr t.lenf h)

-- a top that needs no rotation
pub fits_near : {v : View} → IsLawfulView v → (run : Span) (t : Top) → IsInHand v.hand run → IsNearQueue v.seen t run.next → run.next + top_places t.lenf t.lenr ≡ run.end → top_gain v.seen run.next t ≤ v.hand.credits → t.lenr ≤ t.lenf → Fits v run.next (top_record t)
fits_near {v} law run t held k size credits near =
    let r = k.rotated near in
    fits_rotated law run.next (held.each run.next (omega arith) (omega (arith, size, one_place t.lenf t.lenr near))) t r.0 r.1 r.2 near k.front_there k.front_items k.front_length k.front_low k.rear_there k.rear_items k.rear_length k.rear_low (omega (arith, credits, gain_kept v.seen run.next t near))

-- a rotation's cells are those of the queue that it rotates
rotation_cells : {a b : World} → IsLawful a → IsLawful b → Keeps (recs a) (recs b) → (front rear : Ref) (n place : ℕ) → IsRotatable a front.0 n rear.0 place → (p : ℕ) (o : Ref) → recs b p ≡ Some (BankRot front rear n o 0) → cells (recs b) p ≡ queued (cells (recs a) front.0) (cells (recs a) rear.0)
rotation_cells {a} {b} law law2 keeps front rear n place k p o e =
    let f = front_there (recs a) front.0 k.front_there in
    let t = at_true is_list (recs a rear.0) k.rear_there in
    let fk = cells_kept (recs a) (recs b) (lawful_names law) keeps front.0 f in
    let rk = cells_kept (recs a) (recs b) (lawful_names law) keeps rear.0 (t.0, t.1) in
    cells_is (recs b) (lawful_names law2) p _ e ∙ rw (← fk, ← rk) (ap (λ xs. xs ++ reverse (cells (recs a) rear.0)) (take_all n (cells (recs a) front.0) (omega (arith, k.front_length))))

-- the first numbers of a rotation
pub record NewFits (n : ℕ) (rear : ℕ) : Type 0 where
  pub small : n + 1 ≤ rear
  pub n_fits : n < 4194304

pub new_fits : {v : View} → IsLawfulView v → (p : ℕ) → contains v.hand.reserved p ≡ true → (front n rear : ℕ) → IsRotatable v.seen front n rear p → NewFits n rear
new_fits {v} law p held front n rear k =
    let m = list_length law.world rear k.rear_there in
    record { small = omega (arith, m, k.rear_length); n_fits = omega (arith, m, k.rear_length, k.rear_low, place_fits law p held) }

-- the top of a new rotation
pub fits_new : {a : World} {v : View} → IsLawful a → IsLawfulView v → Keeps (recs a) (recs v.seen) → (p : ℕ) → contains v.hand.reserved p ≡ true → (front rear : Ref) (n place : ℕ) → IsRotatable a front.0 n rear.0 place
    → (rotation o : Ref) → o.0 ≡ rotation.0 → rotation.0 < p → 1 < p → recs v.seen rotation.0 ≡ Some (BankRot front rear n o 0) → 1 ≤ v.hand.credits → Fits v p (BankTop true rotation (2 * n + 1) (record { 0 = 1 }) 0 o n 0)
fits_new {a} {v} law0 law keeps p held front rear n place k rotation o same low one e credits =
    let rs = recs v.seen in
    let c = rotation_cells law0 law.world keeps front rear n place k rotation.0 o e in
    let count : length (cells rs rotation.0) ≡ 2 * n + 1 = ap length c ∙ (rw (length-append, length-reverse) (omega (arith, k.front_length, k.rear_length))) in
    let its : has_items rs rotation.0 ≡ true = ap are_items c ∙ queued-items (cells (recs a) front.0) (cells (recs a) rear.0) k.front_items k.rear_items in
    let o_is : recs v.seen o.0 ≡ Some (BankRot front rear n o 0) = subst (λ q. recs v.seen q ≡ Some (BankRot front rear n o 0)) (sym same) e in
    let nil = cells_is rs (lawful_names law.world) 1 LNil (fixed_records law.world).list_nil in
    fits_rotated law p held (record { front = rotation; lenf = 2 * n + 1; rear = record { 0 = 1 }; lenr = 0; rotated = true; origin = o; n = n; tails = 0 }) refl (omega (arith, same, low))
    (rotated_from rs rotation.0 (2 * n + 1) o.0 n 0 (rw o_is (and_from (eqb n n) (eqb 0 0) (eq-eqb n n refl) refl)) (omega arith) (rw same refl)
    (cond-true (leb 0 n) _ _ (le-leb 0 n (omega arith)) ∙ rw e (and_from (eqb o.0 o.0) (eqb 0 0) (eq-eqb o.0 o.0 refl) refl)))
    (omega arith) (or_left (holds rs rotation.0 is_any_bank_rotation) (is_plain rs rotation.0) (rw e refl)) its count low
    (rw (fixed_records law.world).list_nil refl) (rw nil refl) (rw nil refl) one
    (omega (arith, credits, first_gain v.seen p (record { front = rotation; lenf = 2 * n + 1; rear = record { 0 = 1 }; lenr = 0; rotated = true; origin = o; n = n; tails = 0 }) refl refl refl))

-- the empty queue
pub fits_empty : {v : View} → IsLawfulView v → (p : ℕ) → contains v.hand.reserved p ≡ true → Fits v p (BankTop false (record { 0 = 0 }) 0 (record { 0 = 1 }) 0 (record { 0 = 0 }) 0 0)
fits_empty {v} law p held =
    let five = above_fixed law p held in
    let rs = recs v.seen in
    let names = lawful_names law.world in
    let nil = cells_is rs names 0 Nil (fixed_records law.world).nil in
    let list_nil = cells_is rs names 1 LNil (fixed_records law.world).list_nil in
    fits_top law p held (record { front = record { 0 = 0 }; lenf = 0; rear = record { 0 = 1 }; lenr = 0; rotated = false; origin = record { 0 = 0 }; n = 0; tails = 0 }) (record {
      front_named = (omega (arith, five), Nil, (fixed_records law.world).nil, refl);
      rear_named = (omega (arith, five), LNil, (fixed_records law.world).list_nil, refl);
      front = plain_front rs 0 (nil_plain law.world);
      front_cells = rw nil refl;
      rear_cells = rw list_nil refl;
      front_items = rw nil refl;
      rear_items = rw list_nil refl;
      range = refl;
    }) (λ b keeps. refl) (free v.seen p (BankTop false (record { 0 = 0 }) 0 (record { 0 = 1 }) 0 (record { 0 = 0 }) 0 0) v.hand.credits refl)

pub empty_means : {w : World} → IsLawful w → (p : ℕ) → recs w p ≡ Some (BankTop false (record { 0 = 0 }) 0 (record { 0 = 1 }) 0 (record { 0 = 0 }) 0 0) → means (recs w) p ≡ []
empty_means {w} law p e =
    let names = lawful_names law in
    let nil = cells_is (recs w) names 0 Nil (fixed_records law).nil in
    let list_nil = cells_is (recs w) names 1 LNil (fixed_records law).list_nil in
    top_means law p (record { front = record { 0 = 0 }; lenf = 0; rear = record { 0 = 1 }; lenr = 0; rotated = false; origin = record { 0 = 0 }; n = 0; tails = 0 }) e ∙ rw (nil, list_nil) refl

-- the items of a queue after a rotation
pub new_means : {a w : World} → IsLawful a → IsLawful w → Keeps (recs a) (recs w) → (front rear : Ref) (n place : ℕ) → IsRotatable a front.0 n rear.0 place → (rotation o : Ref) → recs w rotation.0 ≡ Some (BankRot front rear n o 0)
    → (p : ℕ) → recs w p ≡ Some (BankTop true rotation (2 * n + 1) (record { 0 = 1 }) 0 o n 0) → means (recs w) p ≡ items_in (queued (cells (recs a) front.0) (cells (recs a) rear.0))
new_means {a} {w} law law2 keeps front rear n place k rotation o e p h =
    let c = rotation_cells law law2 keeps front rear n place k rotation.0 o e in
    let nil = cells_is (recs w) (lawful_names law2) 1 LNil (fixed_records law2).list_nil in
    let all : queued (cells (recs w) rotation.0) (cells (recs w) 1) ≡ queued (cells (recs a) front.0) (cells (recs a) rear.0) = rw (c, nil) (append-nil _) in
    top_means law2 p (record { front = rotation; lenf = 2 * n + 1; rear = record { 0 = 1 }; lenr = 0; rotated = true; origin = o; n = n; tails = 0 }) h ∙ ap items_in all
