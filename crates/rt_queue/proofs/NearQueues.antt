-- A queue with one cell more on its rear, or one less in front: what the put of its top asks.
use Rattle.std.proofs.Common.{◌≡◌, ℕ, suc, ◌+◌, ◌-◌, ◌<◌, ◌≤◌, refl, sym, ap, ◌∙◌, arith, subst, Bool, true, Some, length}
use Rattle.std.specs.Prelude.{is_some, option_and_then}
use Rattle.lazy_rec.specs.declared.places.Ref.{Ref}
use Rattle.lazy_rec.specs.declared.records.Rec.TheVariants.{Cons, LCons}
use Rattle.lazy_rec.specs.Meaning.{cells}
use Rattle.heap_store.specs.World.{World, recs, is_value, value_at}
use Rattle.heap_store.specs.Lawful.{IsLawful, rest_of, walk}
use Rattle.heap_store.proofs.WellNamed.{named_sort}
use Rattle.heap_store.proofs.CellLaws.{first_cell, list_cells}
use Rattle.rt_queue.specs.declared.queue.Top.{Top}
use Rattle.rt_queue.specs.Queue.{top_record, IsNearQueue}
use Rattle.heap_store.proofs.WalkLaws.{walk_end, walk_rest, some_walk}
use Rattle.rt_queue.proofs.Fronts.{front_rest}
use Rattle.rt_queue.proofs.Tops.{top_well, sched_cells}
use Rattle.rt_queue.proofs.Schedules.{sched_paid}

-- what is known of a place when a run is reserved: its value, and that what comes after its first cell is below the run
pub record SeenBelow (w : World) (p next : ℕ) : Type 0 where
  pub known : is_value w p ≡ true
  pub rest_low : (c : Bool) (v : ℕ) (rest : Ref) → value_at w p ≡ Some (Cons c v rest) → rest.0 < next

pub raise_seen : {w : World} {p next more : ℕ} → next ≤ more → SeenBelow w p next → SeenBelow w p more
raise_seen le k = record { known = k.known; rest_low = λ c v rest h. (let z = k.rest_low c v rest h in omega (arith, z, le)) }

-- an entry put on the rear
pub near_snoc : {w : World} → IsLawful w → (root : ℕ) (t : Top) → recs w root ≡ Some (top_record t) → (place : ℕ) → SeenBelow w t.sched.0 place → root < place → (c : Bool) (x : ℕ) (rear : Ref) → recs w rear.0 ≡ Some (LCons c x t.rear) → rear.0 < place
    → IsNearQueue w (record t { rear = rear; lenr = t.lenr + 1 }) place
near_snoc {w} law root t e place seen low c x rear h rear_low =
    let k = top_well law root t e in
    let l : length (cells (recs w) rear.0) ≡ suc (length (cells (recs w) t.rear.0)) = ap length (list_cells law rear.0 c x t.rear h) in
    let one : t.lenr + 1 ≡ suc t.lenr = omega arith in
    record {
      front_there = k.front;
      front_length = k.front_cells;
      front_low = omega (arith, k.front_named.0, low);
      rear_there = rw h refl;
      rear_length = omega (arith, l, k.rear_cells);
      rear_low = rear_low;
      sched_there = k.sched;
      sched_length = omega (arith, sched_cells law root t e);
      sched_known = seen.known;
      sched_paid = sched_paid w root t e;
      rest_low = seen.rest_low;
      behind = λ _. rw one (walk_end w t.lenr t.front.0 t.sched.0 k.walked);
      known = λ (below : t.lenf < t.lenr + 1). (let same : t.lenr ≡ t.lenf = omega (arith, below, k.near) in subst (λ n. is_some (walk w n t.front.0) ≡ true) same (some_walk w t.lenr t.front.0 t.sched.0 k.walked));
    }

-- an entry taken off the front
pub near_tail : {w : World} → IsLawful w → (root : ℕ) (t : Top) → recs w root ≡ Some (top_record t) → (place : ℕ) → SeenBelow w t.sched.0 place → root < place → (c : Bool) (v : ℕ) (rest : Ref) → value_at w t.front.0 ≡ Some (Cons c v rest) → rest.0 < place
    → IsNearQueue w (record t { front = rest; lenf = t.lenf - 1 }) place
near_tail {w} law root t e place seen low c v rest h rest_low =
    let k = top_well law root t e in
    let l : length (cells (recs w) t.front.0) ≡ suc (length (cells (recs w) rest.0)) = ap length (first_cell law t.front.0 c v rest h).cells_are in
    let next : walk w t.lenr rest.0 ≡ option_and_then rest_of (value_at w t.sched.0) = sym (walk_rest w t.lenr t.front.0 c v rest h) ∙ walk_end w t.lenr t.front.0 t.sched.0 k.walked in
    record {
      front_there = front_rest law t.front.0 c v rest k.front h;
      front_length = omega (arith, l, k.front_cells);
      front_low = rest_low;
      rear_there = named_sort (recs w) root _ k.rear_named;
      rear_length = k.rear_cells;
      rear_low = omega (arith, k.rear_named.0, low);
      sched_there = k.sched;
      sched_length = omega (arith, sched_cells law root t e, l, k.front_cells);
      sched_known = seen.known;
      sched_paid = sched_paid w root t e;
      rest_low = seen.rest_low;
      behind = λ _. next;
      known = λ (below : t.lenf - 1 < t.lenr). (
          let same : t.lenr ≡ suc (t.lenf - 1) = omega (arith, below, k.near, l, k.front_cells) in
          let all = subst (λ n. walk w n t.front.0 ≡ Some t.sched.0) same k.walked in
          some_walk w (t.lenf - 1) rest.0 t.sched.0 (sym (walk_rest w (t.lenf - 1) t.front.0 c v rest h) ∙ all));
    }
