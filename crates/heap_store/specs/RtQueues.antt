-- The real-time queue: its front and its schedule, what a rotation makes, and a queue's snoc and tail (Okasaki, 7.2).
use Rattle.std.specs.Prelude.{ℕ, suc, ◌+◌, ◌-◌, eqb, leb, ltb, Bool, true, false, cond, ◌&&◌, ◌||◌, length, is_some}
use Rattle.lazy_rec.specs.declared.records.Rec.{Rec}
use Rattle.lazy_rec.specs.declared.records.Rec.TheVariants.{Nil, Cons, RtTop, RtRot}
use Rattle.lazy_rec.specs.Tests.{is_some_and}
use Rattle.lazy_rec.specs.Named.{Records}
use Rattle.lazy_rec.specs.Meaning.{by_record, cells}
use Rattle.heap_store.specs.World.{World, recs, holds, same_place}
use Rattle.heap_store.specs.Streams.{on_list_cell, is_cell, first_cell, is_nil, is_list_nil, is_plain, walk}

-- ---- what a rotation makes

-- the suspension with these arguments, where the rear and what is turned round pass tests
abbrev pub is_rt_rotation : World → ℕ → (ℕ → Bool) → (ℕ → Bool) → ℕ → ℕ → ℕ → Rec → Bool
is_rt_rotation w xs rear acc left origin off (RtRot xs' rear' acc' left' origin' off') = same_place w xs xs'.0 && rear rear'.0 && acc acc'.0 && eqb left left' && eqb origin origin'.0 && eqb off off'
is_rt_rotation w _ _ _ _ _ _ _ = false

-- the next suspension over the rest of xs: the first of the rear goes in front of acc
abbrev pub next_rt_rotation : World → ℕ → ℕ → ℕ → ℕ → ℕ → ℕ → Rec → Bool
next_rt_rotation w rest rear acc left origin off s = holds (recs w) rear (on_list_cell (λ c v rear'.
    is_rt_rotation w rest (same_place w rear') (λ acc'. holds (recs w) acc' (is_cell c v (same_place w acc))) (left - 1) origin (suc off) s))

-- ---- the queue

-- the cells and suspensions that a front is made of
abbrev pub rt_front_of : (ℕ → Bool) → Rec → Bool
rt_front_of lower Nil = true
rt_front_of lower (Cons _ _ rest) = lower rest.0
rt_front_of lower (RtRot xs _ acc _ _ _) = lower xs.0 && lower acc.0
rt_front_of lower _ = false

unfoldable pub is_rt_front : Records → ℕ → Bool
is_rt_front = by_record false rt_front_of

abbrev pub is_any_rt_rotation : Rec → Bool
is_any_rt_rotation (RtRot _ _ _ _ _ _) = true
is_any_rt_rotation _ = false

-- a real-time queue's schedule is as far behind its front as its rear is long (Okasaki, 7.2)
abbrev pub is_rt_queue : World → ℕ → Rec → Bool
is_rt_queue w p (RtTop front lenf rear lenr sched) = leb lenr lenf && is_some_and (eqb sched.0) (walk w lenr front.0) && (holds (recs w) sched.0 is_any_rt_rotation || is_plain (recs w) sched.0)
is_rt_queue w p (RtRot xs rear acc left _ off) = is_some (walk w left xs.0) && eqb (length (cells (recs w) rear.0)) (left + 1) && eqb (length (cells (recs w) acc.0)) off && is_plain (recs w) acc.0
is_rt_queue w p _ = true

-- ---- a queue with one entry more, or one less

abbrev pub on_rt_queue : (ℕ → ℕ → ℕ → ℕ → ℕ → Bool) → Rec → Bool
on_rt_queue test (RtTop front lenf rear lenr sched) = test front.0 lenf rear.0 lenr sched.0
on_rt_queue _ _ = false

-- a top over a front, a rear that passes a test, and a schedule
abbrev pub is_queue : World → ℕ → ℕ → (ℕ → Bool) → ℕ → ℕ → Rec → Bool
is_queue w front lenf rear lenr sched = on_rt_queue (λ front' lenf' rear' lenr' sched'.
    same_place w front front' && eqb lenf lenf' && rear rear' && eqb lenr lenr' && same_place w sched sched')

-- a top whose front and schedule is a first rotation of n cells with a rear that passes a test
abbrev pub is_new_rotation : World → ℕ → ℕ → (ℕ → Bool) → Rec → Bool
is_new_rotation w xs n rear = on_rt_queue (λ front lenf rear' lenr sched.
    eqb lenf (n + suc n) && eqb lenr 0 && eqb sched front && holds (recs w) rear' is_list_nil
    && holds (recs w) front (is_rt_rotation w xs rear (λ acc. holds (recs w) acc is_nil) n front 0))

-- the queue with an entry put behind it
abbrev pub is_queue_with : World → Rec → (Bool → ℕ → Bool) → Rec → Bool
is_queue_with w q is_entry s = on_rt_queue (λ front lenf rear lenr sched.
    let put : ℕ → Bool = λ rear'. holds (recs w) rear' (on_list_cell (λ c v rest. is_entry c v && same_place w rear rest)) in
    cond (ltb lenr lenf)
    (first_cell w sched (λ _ _ sched'. is_queue w front lenf put (suc lenr) sched' s))
    (is_new_rotation w front lenf put s)) q

-- the queue without its first entry
abbrev pub is_queue_after : World → Rec → Rec → Bool
is_queue_after w q s = on_rt_queue (λ front lenf rear lenr sched. first_cell w front (λ _ _ front'.
    cond (ltb lenr lenf)
    (first_cell w sched (λ _ _ sched'. is_queue w front' (lenf - 1) (same_place w rear) lenr sched' s))
    (is_new_rotation w front' (lenf - 1) (same_place w rear) s))) q
