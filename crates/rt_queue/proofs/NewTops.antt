-- The tops that puts make: what they name, and which entries they have.
use Rattle.std.proofs.Common.{◌≡◌, ℕ, ◌+◌, ◌*◌, ◌<◌, ◌≤◌, refl, ap, ◌∙◌, arith, ⊎_elim, Bool, true, Some, [], length, take}
use Rattle.std.proofs.lemmas.List.{append-nil, take_all}
use Rattle.std.proofs.lemmas.Bool.{and_from, cases_lt}
use Rattle.lazy_rec.specs.declared.places.Ref.{Ref}
use Rattle.lazy_rec.specs.declared.records.Rec.TheVariants.{Nil, Cons, LNil, RtRot}
use Rattle.lazy_rec.specs.declared.records.Sort.TheVariants as sorts
use Rattle.lazy_rec.specs.declared.events.Kind.TheVariants as kinds
use Rattle.lazy_rec.specs.Named.{sort_of}
use Rattle.lazy_rec.specs.Meaning.{cells, means}
use Rattle.heap_store.specs.World.{World, recs, holds, value_at}
use Rattle.heap_store.specs.Values.{is_list, items_in}
use Rattle.heap_store.specs.Lawful.{IsLawful, has_items, is_root}
use Rattle.heap_store.specs.Hand.{contains, brings}
use Rattle.heap_store.specs.View.{View, IsLawfulView, Fits}
use Rattle.heap_store.proofs.GrowthLaws.{at_true, sorts_agree, grows_refl}
use Rattle.heap_store.proofs.LawfulLaws.{lawful_names}
use Rattle.heap_store.proofs.MeaningLaws.{cells_is, means_is}
use Rattle.heap_store.proofs.UnitLaws.{free}
use Rattle.heap_store.proofs.CellLaws.{first_cell}
use Rattle.heap_store.proofs.EntryLaws.{are_items, items_means}
use Rattle.heap_store.proofs.FixedPlaces.{fixed_records, nil_plain, above_fixed}
use Rattle.rt_queue.specs.declared.queue.Top.{Top}
use Rattle.rt_queue.specs.Queue.{top_record, IsNearQueue, IsMoved, IsRotated, IsTopMade}
use Rattle.heap_store.proofs.QueueEntries.{queued, queued-items}
use Rattle.rt_queue.proofs.Fronts.{front_named, plain_front, plain_schedule, rotation_front, rotation_schedule, rotation_length, schedule_rest}
use Rattle.rt_queue.proofs.Tops.{TopWell, fits_top}
use Rattle.rt_queue.proofs.Schedules.{empty_free}

-- ---- the tops

-- with the schedule one cell on
pub moved_top : {w : World} → IsLawful w → (t : Top) (place : ℕ) → IsNearQueue w t place → t.lenr ≤ t.lenf → (c : Bool) (v : ℕ) (rest : Ref) → value_at w t.sched.0 ≡ Some (Cons c v rest) → TopWell w place (record t { sched = rest })
moved_top {w} law t place k near c v rest h =
    let r = at_true is_list (recs w t.rear.0) k.rear_there in
    let n = (first_cell law t.sched.0 c v rest h).rest_named in
    record {
      front_named = front_named law place t.front.0 k.front_there k.front_low;
      rear_named = (k.rear_low, r.0, r.1, sorts_agree (sort_of r.0) sorts.List r.2);
      sched_named = (k.rest_low c v rest h, n.1, n.2, n.3);
      front_cells = k.front_length;
      rear_cells = k.rear_length;
      near = near;
      walked = k.behind near ∙ rw h refl;
      front = k.front_there;
      sched = schedule_rest law t.sched.0 c v rest k.sched_there h;
    }

-- over a new rotation
pub rotated_top : {w : World} → IsLawful w → (place : ℕ) (rotation xs rear acc : Ref) (n : ℕ) (o : Ref) → recs w rotation.0 ≡ Some (RtRot xs rear acc n o 0) → rotation.0 < place → 1 < place → TopWell w place (record { front = rotation; lenf = 2 * n + 1; rear = record { 0 = 1 }; lenr = 0; sched = rotation })
rotated_top {w} law place rotation xs rear acc n o e low one = record {
  front_named = (low, RtRot xs rear acc n o 0, e, refl);
  rear_named = (one, LNil, (fixed_records law).list_nil, refl);
  sched_named = (low, RtRot xs rear acc n o 0, e, refl);
  front_cells = omega (arith, rotation_length law rotation.0 xs rear acc n o 0 e);
  rear_cells = ap length (cells_is (recs w) (lawful_names law) 1 LNil (fixed_records law).list_nil);
  near = omega arith;
  walked = refl;
  front = rotation_front law rotation.0 xs rear acc n o 0 e;
  sched = rotation_schedule (recs w) rotation.0 xs rear acc n o 0 e;
}

-- of the empty queue
abbrev pub empty_top : Top
empty_top = record { front = record { 0 = 0 }; lenf = 0; rear = record { 0 = 1 }; lenr = 0; sched = record { 0 = 0 } }

pub fits_empty : {v : View} → IsLawfulView v → (p : ℕ) → contains v.hand.reserved p ≡ true → Fits v p (top_record empty_top)
fits_empty {v} law p held =
    let five = above_fixed law p held in
    let names = lawful_names law.world in
    let fixed = fixed_records law.world in
    let plain = nil_plain law.world in
    fits_top law.world (grows_refl v.seen) law p held empty_top (record {
      front_named = (omega (arith, five), Nil, fixed.nil, refl);
      rear_named = (omega (arith, five), LNil, fixed.list_nil, refl);
      sched_named = (omega (arith, five), Nil, fixed.nil, refl);
      front_cells = ap length (cells_is (recs v.seen) names 0 Nil fixed.nil);
      rear_cells = ap length (cells_is (recs v.seen) names 1 LNil fixed.list_nil);
      near = omega arith;
      walked = refl;
      front = plain_front law.world 0 plain;
      sched = plain_schedule (recs v.seen) 0 plain;
    }) (free v.seen p (top_record empty_top) (v.hand.credits + brings (recs v.seen) v.hand.claims) (empty_free law.world p empty_top plain))

-- ---- their items

-- a top of items, front and rear
pub record HasItems (w : World) (t : Top) : Type 0 where
  pub front_items : has_items (recs w) t.front.0 ≡ true
  pub rear_items : has_items (recs w) t.rear.0 ≡ true

pub top_root : (w : World) (p : ℕ) (t : Top) → recs w p ≡ Some (top_record t) → HasItems w t → holds (recs w) p (is_root (recs w) kinds.Rtq p) ≡ true
top_root w p t e k = rw e (and_from (has_items (recs w) t.front.0) (has_items (recs w) t.rear.0) k.front_items k.rear_items)

pub top_means : {w : World} → IsLawful w → (p : ℕ) (t : Top) → recs w p ≡ Some (top_record t) → HasItems w t → means (recs w) p ≡ items_in (queued (cells (recs w) t.front.0) (cells (recs w) t.rear.0))
top_means {w} law p t e k = means_is (recs w) (lawful_names law) p _ e ∙ items_means (means (recs w)) (queued (cells (recs w) t.front.0) (cells (recs w) t.rear.0)) (queued-items (cells (recs w) t.front.0) (cells (recs w) t.rear.0) k.front_items k.rear_items)

empty_items : {w : World} → IsLawful w → HasItems w empty_top
empty_items {w} law =
    let nil = cells_is (recs w) (lawful_names law) 0 Nil (fixed_records law).nil in
    let list_nil = cells_is (recs w) (lawful_names law) 1 LNil (fixed_records law).list_nil in
    record { front_items = rw nil refl; rear_items = rw list_nil refl }

pub empty_root : {w : World} → IsLawful w → (p : ℕ) → recs w p ≡ Some (top_record empty_top) → holds (recs w) p (is_root (recs w) kinds.Rtq p) ≡ true
empty_root {w} law p e = top_root w p empty_top e (empty_items law)

pub empty_means : {w : World} → IsLawful w → (p : ℕ) → recs w p ≡ Some (top_record empty_top) → means (recs w) p ≡ []
empty_means {w} law p e =
    let nil = cells_is (recs w) (lawful_names law) 0 Nil (fixed_records law).nil in
    let list_nil = cells_is (recs w) (lawful_names law) 1 LNil (fixed_records law).list_nil in
    top_means law p empty_top e (empty_items law) ∙ rw (nil, list_nil) refl

-- ---- a top that a put made has the entries of its front and its rear

pub record MadeTop (w : World) (t : Top) (made : ℕ) : Type 0 where
  pub top : Top
  pub here : recs w made ≡ Some (top_record top)
  pub entries : queued (cells (recs w) top.front.0) (cells (recs w) top.rear.0) ≡ queued (cells (recs w) t.front.0) (cells (recs w) t.rear.0)
  pub items : HasItems w t → HasItems w top

of_rotated : {w : World} → IsLawful w → (t : Top) → length (cells (recs w) t.front.0) ≡ t.lenf → (made : ℕ) → IsRotated w t.front t.lenf t.rear made → MadeTop w t made
of_rotated {w} law t count made k =
    let rs = recs w in
    let names = lawful_names law in
    let nil = cells_is rs names 0 Nil (fixed_records law).nil in
    let list_nil = cells_is rs names 1 LNil (fixed_records law).list_nil in
    let front : take t.lenf (cells rs t.front.0) ≡ cells rs t.front.0 = take_all t.lenf (cells rs t.front.0) (omega (arith, count)) in
    let all : cells rs k.rotation.0 ≡ queued (cells rs t.front.0) (cells rs t.rear.0) = cells_is rs names k.rotation.0 _ k.there ∙ rw (front, nil) (append-nil (queued (cells rs t.front.0) (cells rs t.rear.0))) in
    record {
      top = record { front = k.rotation; lenf = 2 * t.lenf + 1; rear = record { 0 = 1 }; lenr = 0; sched = k.rotation };
      here = k.here;
      entries = rw list_nil (append-nil (cells rs k.rotation.0)) ∙ all;
      items = λ h. record { front_items = ap are_items all ∙ queued-items (cells rs t.front.0) (cells rs t.rear.0) h.front_items h.rear_items; rear_items = rw list_nil refl };
    }

of_moved : {w : World} (t : Top) (made : ℕ) → IsMoved w t made → MadeTop w t made
of_moved t made k = record { top = record t { sched = k.rest }; here = k.here; entries = refl; items = λ h. record { front_items = h.front_items; rear_items = h.rear_items } }

pub made_top : {w : World} → IsLawful w → (t : Top) → length (cells (recs w) t.front.0) ≡ t.lenf → (made : ℕ) → IsTopMade w t made → MadeTop w t made
made_top law t count made k = ⊎_elim
    (λ (less : t.lenf < t.lenr). of_rotated law t count made (k.rotated less))
    (λ (most : t.lenr ≤ t.lenf). of_moved t made (k.moved most))
    (cases_lt t.lenf t.lenr)
