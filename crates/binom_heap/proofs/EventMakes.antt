-- What the inserts and the melds of heaps make.
use Rattle.std.proofs.Common.{◌≡◌, ℕ, suc, ◌+◌, ◌<◌, ◌≤◌, eqb, leb, refl, sym, ap, ◌∙◌, arith, Some, List, ◌++◌, length}
use Rattle.std.proofs.lemmas.List.{length-append}
use Rattle.std.proofs.lemmas.Bool.{or_left, cond-true, cond-false, eq-eqb, ne_eqb, le-leb, lt-leb}
use Rattle.lazy_rec.specs.declared.places.Ref.{Ref}
use Rattle.lazy_rec.specs.declared.places.Item.{Item}
use Rattle.lazy_rec.specs.declared.records.Rec.TheVariants.{HeapInsert}
use Rattle.lazy_rec.specs.declared.events.Kind.TheVariants as kinds
use Rattle.lazy_rec.specs.declared.events.Op.TheVariants as ops
use Rattle.lazy_rec.specs.declared.events.Reply.TheVariants as replies
use Rattle.lazy_rec.specs.Named.{is_pending}
use Rattle.lazy_rec.specs.Numbers.{bits, trailing_ones}
use Rattle.lazy_rec.specs.Meaning.{means}
use Rattle.lazy_rec.specs.Plain.{insert_rising, rising, effect}
use Rattle.lazy_rec.proofs.PlainLaws.{length-insert_rising, length-rising}
use Rattle.heap_store.specs.declared.jobs.Stage.TheVariants.{Start}
use Rattle.heap_store.specs.declared.jobs.EventJob.{EventJob}
use Rattle.heap_store.specs.Span.{Span}
use Rattle.heap_store.specs.World.{World, recs, holds}
use Rattle.heap_store.specs.Growth.{Grows}
use Rattle.heap_store.specs.Forest.{is_tree_list}
use Rattle.heap_store.specs.Lawful.{IsLawful, insert_steps}
use Rattle.heap_store.specs.Stages.{due_now}
use Rattle.heap_store.specs.Hand.{IsInHand}
use Rattle.heap_store.specs.Budget.{gain_at}
use Rattle.heap_store.specs.View.{View, IsLawfulView, Put, Fits}
use Rattle.heap_store.specs.Jobs.{IsEnd, Filled}
use Rattle.heap_store.proofs.LawfulLaws.{lawful_names}
use Rattle.heap_store.proofs.MeaningLaws.{means_is, means_kept}
use Rattle.heap_store.proofs.FillLaws.{Filled_trans}
use Rattle.binom_heap.specs.declared.heap.Top.{Top}
use Rattle.binom_heap.specs.Laying.{Puts}
use Rattle.binom_heap.specs.Heap.{top_record, owed_after, start_places, IsNewTop, Melded}
use Rattle.binom_heap.proofs.BinaryLaws.{owed_next}
use Rattle.binom_heap.proofs.ListValues.{ListAt}
use Rattle.binom_heap.proofs.RunLaws.{puts_none, puts_put, next_held}
use Rattle.binom_heap.proofs.Tops.{old_top, at_order, new_top, insert_steps_is, fits_insert}
use Rattle.binom_heap.proofs.TopGains.{insert_gain}
use Rattle.binom_heap.proofs.Melds.{list_raise, means_up}
use Rattle.binom_heap.proofs.EventTops.{heap_end}

-- ---- an insert

insert_effect : (v ws : List ℕ) (x : ℕ) → length v < 2147483647 → effect ops.Insert v ws x ≡ (insert_rising x v, replies.Ok)
insert_effect v ws x h = cond-true (leb (length (insert_rising x v)) 2147483647) _ _ (le-leb (length (insert_rising x v)) 2147483647 (rw (length-insert_rising x v) (omega (arith, h))))

full_effect : (v ws : List ℕ) (x : ℕ) → length v ≡ 2147483647 → effect ops.Insert v ws x ≡ (v, replies.TooLong)
full_effect v ws x h = cond-false (leb (length (insert_rising x v)) 2147483647) _ _ (lt-leb (length (insert_rising x v)) 2147483647 (rw (length-insert_rising x v) (omega (arith, h))))

root_length : {w : World} → IsLawful w → (p : ℕ) (t : Top) → recs w p ≡ Some (top_record t) → length (means (recs w) p) ≡ t.size
root_length {w} law p t e = let o = old_top law p t e in ap length o.means_are ∙ sym o.list.size_is

pub full_end : {w : World} → IsLawful w → (job : EventJob) → job.base.kind ≡ kinds.Heap → job.other.kind ≡ kinds.Heap → job.op ≡ ops.Insert → (t : Top) → recs w job.base.root.0 ≡ Some (top_record t) → job.base.size ≡ t.size → job.base.size ≡ 2147483647 → IsEnd w job job.base.root.0 job.base.size replies.TooLong
full_end {w} law job kind other op t e size full =
    let n = root_length law job.base.root.0 t e in
    heap_end job kind other ops.Insert op job.base.root (rw e refl) job.base.size replies.TooLong (means (recs w) job.base.root.0) refl (full_effect (means (recs w) job.base.root.0) (means (recs w) job.other.root.0) job.arg (omega (arith, n, size, full))) (omega (arith, n, size)) refl

pub size_end : {w : World} → IsLawful w → (job : EventJob) → job.base.kind ≡ kinds.Heap → job.other.kind ≡ kinds.Heap → job.op ≡ ops.Size → (t : Top) → recs w job.base.root.0 ≡ Some (top_record t) → job.base.size ≡ t.size → IsEnd w job job.base.root.0 job.base.size (replies.Number job.base.size)
size_end {w} law job kind other op t e size =
    let n : job.base.size ≡ length (means (recs w) job.base.root.0) = omega (arith, root_length law job.base.root.0 t e, size) in
    heap_end job kind other ops.Size op job.base.root (rw e refl) job.base.size (replies.Number job.base.size) (means (recs w) job.base.root.0) refl (rw (← n) refl) n (rw e refl)

pub insert_nodes : (job : EventJob) → job.op ≡ ops.Insert → (job.base.size ≡ 2147483647 → ⊥) → start_places job.op job.base.size job.other.size ≡ 2
insert_nodes job op few = rw op (cond-false (eqb job.base.size 2147483647) 0 2 (ne_eqb job.base.size 2147483647 few))

pub full_nodes : (job : EventJob) → job.op ≡ ops.Insert → job.base.size ≡ 2147483647 → start_places job.op job.base.size job.other.size ≡ 0
full_nodes job op full = rw op (cond-true (eqb job.base.size 2147483647) 0 2 (eq-eqb job.base.size 2147483647 full))

module _ {v : View} (law : IsLawfulView v) (run : Span) (held : IsInHand v.hand run) (root : ℕ) (t : Top) (e : recs v.seen root ≡ Some (top_record t)) (low : root < run.next) (item : Item) where
  insert_at : ListAt v.seen run.next t.list.0 t.size
  insert_at = list_raise (omega (arith, low)) (old_top law.world root t e).list

  pub list_fits : run.next < run.end → item.0 < 18446744073709551616 → Fits v run.next (HeapInsert item t.list t.size)
  list_fits left fits = fits_insert law run.next (next_held held left) item t.list t.size fits insert_at

  module _ {v1 : View} (law1 : IsLawfulView v1) (run1 : Span) (list : Ref) (p : Put v v1 run.next (HeapInsert item t.list t.size)) (at1 : run1 ≡ record run { next = run.next + 1 }) (list_is : list.0 ≡ run.next) (few : t.size < 2147483647) (owed : ℕ) (owed_is : owed ≡ owed_after t.owed t.size) where
    abbrev longer : Top
    longer = record { list = list; size = t.size + 1; owed = owed }

    pub list_puts : Puts v v1 run run1 1
    list_puts = puts_put (puts_none v run held) p at1 refl

    list_here : recs v1.seen list.0 ≡ Some (HeapInsert item t.list t.size)
    list_here = rw list_is p.here

    list_means : means (recs v1.seen) list.0 ≡ insert_rising item.0 (means (recs v.seen) t.list.0)
    list_means =
        let m = means_up law.world p.grows insert_at in
        means_is (recs v1.seen) (lawful_names law1.world) list.0 _ list_here ∙ rw m (ap (insert_rising item.0) (at_order law.world insert_at))

    pub longer_new : IsNewTop v1.seen longer run1.next
    longer_new =
        let h = list_here in
        let old = old_top law1.world root t (p.grows.records root _ e) in
        let n : length (means (recs v1.seen) list.0) ≡ suc (length (means (recs v.seen) t.list.0)) = ap length list_means ∙ length-insert_rising item.0 (means (recs v.seen) t.list.0) in
        let s : insert_steps (recs v1.seen) list.0 ≡ (trailing_ones t.size + 1) + insert_steps (recs v1.seen) t.list.0 = insert_steps_is (recs v1.seen) (lawful_names law1.world) list.0 _ list_here in
        new_top (record { named = (rw (at1, list_is) (omega arith), HeapInsert item t.list t.size, h, refl); list_is = or_left (holds (recs v1.seen) list.0 is_pending) (is_tree_list (recs v1.seen) list.0) (rw h refl); size_is = omega (arith, n, insert_at.size_is); fits = omega (arith, few) })
        (omega (arith, owed_is, owed_next t.size t.owed (omega (arith, few)) old.owed)) (omega (arith, owed_is, s, old.newest))

    pub longer_pays : gain_at v1.seen run1.next (top_record longer) ≤ 2
    longer_pays = let o = owed_is in rw o (insert_gain law1.world run1.next root t.list list item t.size (t.size + 1) t.owed (p.grows.records root _ e) list_here)

    pub insert_filled : {v2 : View} → run1.next + 1 ≡ run1.end → Filled v1 v2 run1.next run1.end → Filled v v2 run.next run.end
    insert_filled whole filled =
        let all = Filled_trans (omega (arith, list_puts.next)) (omega (arith, whole)) list_puts.filled filled in
        let same = list_puts.same_end in
        rw same at all

    pub insert_end : {v2 : View} → IsLawfulView v2 → Grows v1.seen v2.seen → (job : EventJob) → job.base.kind ≡ kinds.Heap → job.other.kind ≡ kinds.Heap → job.op ≡ ops.Insert → job.base.root.0 ≡ root → job.base.size ≡ t.size → job.arg ≡ item.0 → (made : Ref) → recs v2.seen made.0 ≡ Some (top_record longer) → IsEnd v2.seen job made.0 (job.base.size + 1) replies.Ok
    insert_end {v2} law2 x job kind other op root_is size arg made f =
        let base : recs v2.seen job.base.root.0 ≡ Some (top_record t) = rw root_is (x.records root _ (p.grows.records root _ e)) in
        let old = old_top law2.world job.base.root.0 t base in
        let kept = means_kept (recs v1.seen) (recs v2.seen) (lawful_names law1.world) x.records list.0 (HeapInsert item t.list t.size, list_here) in
        let up = means_up law.world p.grows insert_at in
        let up2 = means_kept (recs v1.seen) (recs v2.seen) (lawful_names law1.world) x.records t.list.0 (let i = insert_at.named in (i.1, p.grows.records t.list.0 i.1 i.2)) in
        let n = root_length law2.world job.base.root.0 t base in
        let items : means (recs v2.seen) made.0 ≡ insert_rising job.arg (means (recs v2.seen) job.base.root.0) = (old_top law2.world made.0 longer f).means_are ∙ (sym kept ∙ (list_means ∙ rw (arg, old.means_are, ← up2, up) refl)) in
        heap_end job kind other ops.Insert op made (rw f refl) (job.base.size + 1) replies.Ok (insert_rising job.arg (means (recs v2.seen) job.base.root.0)) items (insert_effect (means (recs v2.seen) job.base.root.0) (means (recs v2.seen) job.other.root.0) job.arg (omega (arith, n, few))) (rw (length-insert_rising job.arg (means (recs v2.seen) job.base.root.0)) (omega (arith, n, size))) (rw base refl)

pub insert_due : (job : EventJob) → job.base.kind ≡ kinds.Heap → job.op ≡ ops.Insert → job.stage ≡ Start → due_now job ≡ 2
insert_due job kind op stage = rw (kind, op, stage) refl

-- ---- a meld

meld_effect : (v ws : List ℕ) (x : ℕ) → length v + length ws ≤ 2147483647 → effect ops.Meld v ws x ≡ (rising (v ++ ws), replies.Ok)
meld_effect v ws x h = cond-true (leb (length (rising (v ++ ws))) 2147483647) _ _ (le-leb (length (rising (v ++ ws))) 2147483647 (rw (length-rising (v ++ ws), length-append v ws) h))

long_effect : (v ws : List ℕ) (x : ℕ) → 2147483647 < length v + length ws → effect ops.Meld v ws x ≡ (v, replies.TooLong)
long_effect v ws x h = cond-false (leb (length (rising (v ++ ws))) 2147483647) _ _ (lt-leb (length (rising (v ++ ws))) 2147483647 (rw (length-rising (v ++ ws), length-append v ws) h))

pub long_end : {w : World} → IsLawful w → (job : EventJob) → job.base.kind ≡ kinds.Heap → job.other.kind ≡ kinds.Heap → job.op ≡ ops.Meld → (t u : Top) → recs w job.base.root.0 ≡ Some (top_record t) → recs w job.other.root.0 ≡ Some (top_record u) → job.base.size ≡ t.size → job.other.size ≡ u.size → 2147483647 < job.base.size + job.other.size → IsEnd w job job.base.root.0 job.base.size replies.TooLong
long_end {w} law job kind other op t u e f size size' many =
    let n = root_length law job.base.root.0 t e in
    let m = root_length law job.other.root.0 u f in
    heap_end job kind other ops.Meld op job.base.root (rw e refl) job.base.size replies.TooLong (means (recs w) job.base.root.0) refl (long_effect (means (recs w) job.base.root.0) (means (recs w) job.other.root.0) job.arg (omega (arith, n, m, size, size', many))) (omega (arith, n, size)) refl

pub meld_end : {v v1 : View} → IsLawfulView v → IsLawfulView v1 → (job : EventJob) → job.base.kind ≡ kinds.Heap → job.other.kind ≡ kinds.Heap → job.op ≡ ops.Meld → (t u : Top) → recs v.seen job.base.root.0 ≡ Some (top_record t) → recs v.seen job.other.root.0 ≡ Some (top_record u) → job.base.size ≡ t.size → job.other.size ≡ u.size → job.base.size + job.other.size ≤ 2147483647
    → (run run' : Span) (made : Ref) → Melded v v1 run run' t u made.0 → IsEnd v1.seen job made.0 (job.base.size + job.other.size) replies.Ok
meld_end {v} {v1} law law1 job kind other op t u e f size size' few run run' made m =
    let x = m.filled.grows in
    let e1 = x.records _ _ e in
    let f1 = x.records _ _ f in
    let n = root_length law1.world job.base.root.0 t e1 in
    let k = root_length law1.world job.other.root.0 u f1 in
    let up1 : means (recs v.seen) t.list.0 ≡ means (recs v1.seen) job.base.root.0 = sym (means_up law.world x (old_top law.world job.base.root.0 t e).list) ∙ sym (old_top law1.world job.base.root.0 t e1).means_are in
    let up2 : means (recs v.seen) u.list.0 ≡ means (recs v1.seen) job.other.root.0 = sym (means_up law.world x (old_top law.world job.other.root.0 u f).list) ∙ sym (old_top law1.world job.other.root.0 u f1).means_are in
    let made_is = rising (means (recs v1.seen) job.base.root.0 ++ means (recs v1.seen) job.other.root.0) in
    heap_end job kind other ops.Meld op made m.root (job.base.size + job.other.size) replies.Ok made_is (m.items ∙ rw (up1, up2) refl) (meld_effect (means (recs v1.seen) job.base.root.0) (means (recs v1.seen) job.other.root.0) job.arg (omega (arith, n, k, size, size', few)))
    (rw (length-rising (means (recs v1.seen) job.base.root.0 ++ means (recs v1.seen) job.other.root.0), length-append (means (recs v1.seen) job.base.root.0) (means (recs v1.seen) job.other.root.0)) (omega (arith, n, k, size, size'))) (rw e1 refl)

pub meld_due : (job : EventJob) → job.base.kind ≡ kinds.Heap → job.op ≡ ops.Meld → job.stage ≡ Start → due_now job ≡ bits job.base.size + bits job.other.size + 1
meld_due job kind op stage = rw (kind, op, stage) refl
