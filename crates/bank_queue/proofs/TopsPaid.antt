-- What a top shows as discharged: the law of the banker's queue.
use Rattle.std.proofs.Common.{◌≡◌, ℕ, ◌+◌, ◌-◌, ◌*◌, ◌<◌, ◌≤◌, eqb, leb, refl, ap, ◌∙◌, arith, ⊎_elim, Bool, true, false, cond, ◌⊎◌, ◌&&◌, Some, length}
use Rattle.std.proofs.lemmas.Bool.{and_parts, eqb-true, cases_lt, cases_Bool}
use Rattle.lazy_rec.specs.declared.places.Ref.{Ref}
use Rattle.lazy_rec.specs.declared.records.Rec.{Rec}
use Rattle.lazy_rec.specs.declared.records.Rec.TheVariants.{BankRot}
use Rattle.lazy_rec.specs.Meaning.{cells}
use Rattle.lazy_rec.specs.Units.{cost}
use Rattle.heap_store.specs.World.{World, recs, holds}
use Rattle.heap_store.specs.Completion.{is_plain}
use Rattle.heap_store.specs.Lawful.{IsLawful, is_any_bank_rotation, is_bank_rotation_of}
use Rattle.heap_store.specs.Budget.{all_discharged, gain_at, is_funded}
use Rattle.heap_store.proofs.UnitLaws.{run_in}
use Rattle.bank_queue.specs.declared.queue.Top.{Top}
use Rattle.bank_queue.specs.Front.{is_paid_front}
use Rattle.bank_queue.specs.Queue.{top_record, top_gain}
use Rattle.bank_queue.proofs.Fronts.{rotation_fields, no_plain_rotation}
use Rattle.bank_queue.proofs.RotationLaws.{rotation_length}
use Rattle.bank_queue.proofs.PaidFronts.{paid_value, family_paid, funded_below}
use Rattle.bank_queue.proofs.TopsShown.{shown_by, shown, top_gains}
use Rattle.bank_queue.proofs.RotatedFronts.{Rotated, rotated_of}
use Rattle.bank_queue.proofs.Tops.{OldTop, old_top, gain_kept, gain_new}

-- ---- the front of a top

-- where the front is a rotation, it is that at the offset of the tails
record AtTails (t : Top) (left : ℕ) (o : Ref) (off : ℕ) : Type 0 where
  origin : o.0 ≡ t.origin.0
  off_is : off ≡ t.tails
  count : left + off ≡ t.n

at_tails : {w : World} → IsLawful w → (t : Top) → Rotated w t.front.0 t.lenf t.origin.0 t.n t.tails → length (cells (recs w) t.front.0) ≡ t.lenf → (xs rear : Ref) (left : ℕ) (o : Ref) (off : ℕ) → recs w t.front.0 ≡ Some (BankRot xs rear left o off) → AtTails t left o off
at_tails {w} law t k len xs rear left o off e = go (leb t.tails t.n) k.there
  where
    go : (b : Bool) → cond b (holds (recs w) t.front.0 (is_bank_rotation_of t.origin.0 t.tails)) (is_plain (recs w) t.front.0) ≡ true → AtTails t left o off
    go true h =
        let test : (eqb o.0 t.origin.0 && eqb off t.tails) ≡ true = rw e at h in
        let same = and_parts (eqb o.0 t.origin.0) (eqb off t.tails) test in
        let off_is = eqb-true off t.tails same.1 in
        record { origin = eqb-true o.0 t.origin.0 same.0; off_is = off_is; count = omega (arith, rotation_length law t.front.0 xs rear left o off e, len, k.count, off_is) }
    go false h = absurd (no_plain_rotation law t.front.0 _ e refl h)

-- how far the units of the front reach among those that the top shows
cost_shown : (t : Top) (xs rear : Ref) (left : ℕ) (o : Ref) (off : ℕ) → AtTails t left o off → off + cost (BankRot xs rear left o off) ≤ shown_by t
cost_shown t xs rear left o off k = go (eqb left 0) refl
  where
    go : (b : Bool) → eqb left 0 ≡ b → off + (cond b (off + 1) 1 + 0) ≤ shown_by t
    go true e = omega (arith, k.off_is, k.count, eqb-true left 0 e)
    go false e = omega (arith, k.off_is, k.count)

-- a top's front that is a rotation is paid for
pub front_funded : {w : World} → IsLawful w → (root : ℕ) (t : Top) → recs w root ≡ Some (top_record t) → 0 < t.lenf → (r : Rec) → recs w t.front.0 ≡ Some r → is_any_bank_rotation r ≡ true → is_funded w t.front.0 r ≡ true
front_funded {w} law root t e some r here rotation =
    let top = old_top law root t e in
    let z = top.rotation some in
    let f = rotation_fields r rotation in
    let front : recs w t.front.0 ≡ Some (BankRot f.xs f.rear f.left f.origin f.off) = here ∙ ap Some f.is in
    let k = at_tails law t (rotated_of law t.front.0 t.lenf t.origin.0 t.n t.tails z.2) top.well.front_cells f.xs f.rear f.left f.origin f.off front in
    rw f.is (funded_below w t.front.0 f.xs f.rear f.left f.origin f.off (shown_by t) (λ j low. rw k.origin (shown w root t e z.0 j low)) (cost_shown t f.xs f.rear f.left f.origin f.off k))

-- the front of a queue whose rear is as long is paid: before a new rotation all units of the old family are discharged
pub front_paid : {w : World} → IsLawful w → (root : ℕ) (t : Top) → recs w root ≡ Some (top_record t) → t.lenr ≡ t.lenf → is_paid_front w t.front.0 ≡ true
front_paid {w} law root t e even =
    let top = old_top law root t e in
    go top top.well.front_named.1 top.well.front_named.2 (cases_Bool (is_any_bank_rotation top.well.front_named.1))
  where
    rotation : OldTop w root t → (xs rear : Ref) (left : ℕ) (o : Ref) (off : ℕ) → recs w t.front.0 ≡ Some (BankRot xs rear left o off) → is_paid_front w t.front.0 ≡ true
    rotation top xs rear left o off here =
        let some : 0 < t.lenf = omega (arith, rotation_length law t.front.0 xs rear left o off here, top.well.front_cells) in
        let z = top.rotation some in
        let m = rotated_of law t.front.0 t.lenf t.origin.0 t.n t.tails z.2 in
        let k = at_tails law t m top.well.front_cells xs rear left o off here in
        family_paid w t.front.0 _ here (run_in (all_discharged w) o.0 0 (2 * (left + off) + 1) (λ j low high. rw k.origin (shown w root t e z.0 j (omega (arith, high, even, k.count, m.count)))))

    go : OldTop w root t → (r : Rec) → recs w t.front.0 ≡ Some r → (is_any_bank_rotation r ≡ true) ⊎ (is_any_bank_rotation r ≡ false) → is_paid_front w t.front.0 ≡ true
    go top r here h = ⊎_elim
        (λ is. (let f = rotation_fields r is in rotation top f.xs f.rear f.left f.origin f.off (here ∙ ap Some f.is)))
        (λ value. paid_value w t.front.0 r here value)
        h

-- ---- what the put of a top discharges

top_gain_less : (w : World) (place : ℕ) (t : Top) (k : ℕ) → 1 ≤ k → (t.lenr ≤ t.lenf → gain_at w place (top_record t) ≤ k) → top_gain w place t ≤ k
top_gain_less w place t k one h = ⊎_elim
    (λ (below : t.lenf < t.lenr). (let z = gain_new w place t below in omega (arith, z, one)))
    (λ (above : t.lenr ≤ t.lenf). (let z = gain_kept w place t above in let k = h above in omega (arith, z, k)))
    (cases_lt t.lenf t.lenr)

-- a snoc adds at most one unit
pub snoc_gain : {w : World} → IsLawful w → (root place : ℕ) (t : Top) → recs w root ≡ Some (top_record t) → (rear : Ref) → top_gain w place (record t { rear = rear; lenr = t.lenr + 1 }) ≤ 1
snoc_gain {w} law root place t e rear = top_gain_less w place (record t { rear = rear; lenr = t.lenr + 1 }) 1 (omega arith) (λ le. (
    let near : t.lenr + 1 ≤ t.lenf = le in
    let z = (old_top law root t e).rotation (omega (arith, near)) in
    let k = top_gains w root place t (record t { rear = rear; lenr = t.lenr + 1 }) e z.0 z.0 refl in
    omega (arith, k)))

-- a tail at most two
pub tail_gain : {w : World} → IsLawful w → (root place : ℕ) (t : Top) → recs w root ≡ Some (top_record t) → 0 < t.lenf → (rest : Ref) → top_gain w place (record t { front = rest; lenf = t.lenf - 1; tails = t.tails + 1 }) ≤ 2
tail_gain {w} law root place t e some rest = top_gain_less w place (record t { front = rest; lenf = t.lenf - 1; tails = t.tails + 1 }) 2 (omega arith) (λ le. (
    let z = (old_top law root t e).rotation some in
    let k = top_gains w root place t (record t { front = rest; lenf = t.lenf - 1; tails = t.tails + 1 }) e z.0 z.0 refl in
    omega (arith, k)))
