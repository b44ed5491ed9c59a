use Rattle.std.proofs.Common.{◌≡◌, ◌<◌, ◌+◌, ap, arith, refl, sym, Some}
use Rattle.lazy_rec.specs.declared.events.Op.TheVariants as ops
use Rattle.heap_store.specs.World.{recs}
use Rattle.lazy_rec.specs.declared.places.Item.{Item}
use Rattle.heap_store.specs.Hand.{Hand, IsInHand}
use Rattle.binom_heap.specs.Laying.{Puts}
use Rattle.binom_heap.proofs.RunLaws.{puts_none, puts_put}
use Rattle.heap_store.proofs.Steps.{Quiet_refl, quiet_Filled}
use Rattle.binom_heap.specs.Heap.{top_record}
use Rattle.binom_heap.proofs.Tops.{old_top, top_of_root}
use Rattle.binom_heap.proofs.EventTops.{BuildTop, first_stage, other_kind, build_root, build_top, start_nodes, no_nodes, built_same, same_root}
use Rattle.binom_heap.proofs.EventMakes.{full_end, full_nodes, insert_nodes, insert_due, list_fits, longer_new, longer_pays, insert_filled, insert_end}
use Rattle.binom_heap.proofs.events.insert.Goals as goal
use Rattle.binom_heap.proofs.events.insert.Goals.{After-read_top-top, After-put-list, After-owed_after}

pub returns-then-job-eq-MOST_ITEMS : goal.returns-then-job-eq-MOST_ITEMS
returns-then-job-eq-MOST_ITEMS g c =
    let b = c.requires.build in
    let job = c.args.job.now in
    let t = top_of_root (g.H.Heap.view c.args.h.now).seen job.base.root.0 (build_root b job.base b.base_job.base c.requires.kind) in
    let k = build_top b job.base b.base_job.base c.requires.kind t.0 t.1 in
    record {
      base = λ _. same_root _ _ _ c.at_base.result c.at_base.ensures;
      built = built_same (Quiet_refl (g.H.Heap.view c.args.h.now)) (no_nodes b (first_stage job b.base_job c.requires.kind ops.Insert c.requires.op refl) (full_nodes job c.requires.op c.if-job-eq-MOST_ITEMS.true)) job.base.root job.base.size _
          (full_end (g.met.H.Heap.lawful c.args.h.now).world job c.requires.kind (other_kind job b.base_job c.requires.kind) c.requires.op t.0 t.1 k.size c.if-job-eq-MOST_ITEMS.true) c.at_base.result c.at_base.ensures;
    }

pub read_top-top-requires : goal.read_top-top-requires
read_top-top-requires g c = build_root c.requires.build c.args.job.now.base c.requires.build.base_job.base c.requires.kind

-- ---- after the base's top was read

top : (g : _) (c : After-read_top-top g) → BuildTop (g.H.Heap.view c.args.h.now).seen c.args.job.now.base c.args.run.now c.read_top-top.result
top g c = build_top c.requires.build c.args.job.now.base c.requires.build.base_job.base c.requires.kind c.read_top-top.result c.read_top-top.ensures.top

held : (g : _) (c : After-read_top-top g) → IsInHand (g.H.Heap.view c.read_top-top.new.h).hand c.args.run.now
held g c = let q = c.read_top-top.ensures.quiet.hand in rw q c.requires.build.held

here : (g : _) (c : After-read_top-top g) → recs (g.H.Heap.view c.read_top-top.new.h).seen c.args.job.now.base.root.0 ≡ Some (top_record c.read_top-top.result)
here g c = c.read_top-top.ensures.quiet.grows.records _ _ c.read_top-top.ensures.top

room : (g : _) (c : After-read_top-top g) → c.args.run.now.next + 2 ≡ c.args.run.now.end
room g c = omega (arith, c.requires.build.size, start_nodes c.requires.build (first_stage c.args.job.now c.requires.build.base_job c.requires.kind ops.Insert c.requires.op refl), insert_nodes c.args.job.now c.requires.op c.if-job-eq-MOST_ITEMS.false)

pub put-list-requires : goal.put-list-requires
put-list-requires g c =
    let d = (goal.at.put-list-requires g c).After-read_top-top in
    let left : c.args.run.now.next < c.args.run.now.end = omega (arith, room g d) in
    record { held = held g d; left = left; fits = list_fits (g.met.H.Heap.lawful c.read_top-top.new.h) c.args.run.now (held g d) c.args.job.now.base.root.0 c.read_top-top.result (here g d) (top g d).low (record { 0 = c.argument.result }) left (omega (arith, c.argument.ensures.same, c.argument.ensures.small)) }

pub overflow_add-longer : goal.overflow_add-longer
overflow_add-longer g c = omega (arith, (top g (goal.at.overflow_add-longer g c).After-read_top-top).most)

pub owed_after-requires : goal.owed_after-requires
owed_after-requires g c =
    let d = (goal.at.owed_after-requires g c).After-read_top-top in
    record { owed = (old_top (g.met.H.Heap.lawful c.read_top-top.new.h).world c.args.job.now.base.root.0 c.read_top-top.result (here g d)).owed; size = omega (arith, (top g d).most, (top g d).size, c.if-job-eq-MOST_ITEMS.false) }

few : (g : _) (c : After-read_top-top g) → c.read_top-top.result.size < 2147483647
few g c = omega (arith, (top g c).most, (top g c).size, c.if-job-eq-MOST_ITEMS.false)

-- ---- after the insert was suspended

puts : (g : _) (c : After-owed_after g) → Puts (g.H.Heap.view c.read_top-top.new.h) (g.H.Heap.view c.put-list.new.self) c.args.run.now c.put-list.new.run 1
puts g c =
    let p = c.put-list.ensures in
    puts_put (puts_none (g.H.Heap.view c.read_top-top.new.h) c.args.run.now (let q = c.read_top-top.ensures.quiet.hand in rw q c.requires.build.held)) p.put p.run refl

pub put_top-root-requires : goal.put_top-root-requires
put_top-root-requires g c =
    let d = (goal.at.put_top-root-requires g c).After-read_top-top in
    let n = puts g (goal.at.put_top-root-requires g c).After-owed_after in
    let law = g.met.H.Heap.lawful c.read_top-top.new.h in
    let law1 = g.met.H.Heap.lawful c.put-list.new.self in
    let p = c.put-list.ensures in
    let x : Item = record { 0 = c.argument.result } in
    let pays = longer_pays law c.args.run.now (held g d) c.args.job.now.base.root.0 c.read_top-top.result (here g d) (top g d).low x law1 c.put-list.new.run c.put-list.result p.put p.run p.place (few g d) c.owed_after.result c.owed_after.ensures in
    let same : (g.H.Heap.view c.read_top-top.new.h).hand.credits ≡ (g.H.Heap.view c.args.h.now).hand.credits = ap (λ (h : Hand). h.credits) c.read_top-top.ensures.quiet.hand in
    let due = insert_due c.args.job.now c.requires.kind c.requires.op (first_stage c.args.job.now c.requires.build.base_job c.requires.kind ops.Insert c.requires.op refl) in
    record {
      top = longer_new law c.args.run.now (held g d) c.args.job.now.base.root.0 c.read_top-top.result (here g d) (top g d).low x law1 c.put-list.new.run c.put-list.result p.put p.run p.place (few g d) c.owed_after.result c.owed_after.ensures;
      held = n.held;
      size = omega (arith, room g d, n.next, n.same_end);
      credits = omega (arith, pays, n.credits, same, due, c.requires.build.credits);
    }

pub returns : goal.returns
returns g c =
    let job = c.args.job.now in
    let b = c.requires.build in
    let d = (goal.at.returns g c).After-read_top-top in
    let n = puts g (goal.at.returns g c).After-owed_after in
    let k = top g d in
    let law = g.met.H.Heap.lawful c.read_top-top.new.h in
    let law1 = g.met.H.Heap.lawful c.put-list.new.self in
    let law2 = g.met.H.Heap.lawful c.put_top-root.new.h in
    let p = c.put-list.ensures in
    let r = c.put_top-root.ensures in
    let x : Item = record { 0 = c.argument.result } in
    let pays = longer_pays law c.args.run.now (held g d) job.base.root.0 c.read_top-top.result (here g d) k.low x law1 c.put-list.new.run c.put-list.result p.put p.run p.place (few g d) c.owed_after.result c.owed_after.ensures in
    let whole : c.put-list.new.run.next + 1 ≡ c.put-list.new.run.end = omega (arith, room g d, n.next, n.same_end) in
    let same : (g.H.Heap.view c.read_top-top.new.h).hand.credits ≡ (g.H.Heap.view c.args.h.now).hand.credits = ap (λ (h : Hand). h.credits) c.read_top-top.ensures.quiet.hand in
    let due = insert_due job c.requires.kind c.requires.op (first_stage job b.base_job c.requires.kind ops.Insert c.requires.op refl) in
    record {
      base = λ e. absurd (omega (arith, e, room g d));
      built = record {
        filled = quiet_Filled c.read_top-top.ensures.quiet (insert_filled law c.args.run.now (held g d) job.base.root.0 c.read_top-top.result (here g d) k.low x law1 c.put-list.new.run c.put-list.result p.put p.run p.place (few g d) c.owed_after.result c.owed_after.ensures whole r.filled);
        spent = r.spent;
        made = insert_end law c.args.run.now (held g d) job.base.root.0 c.read_top-top.result (here g d) k.low x law1 c.put-list.new.run c.put-list.result p.put p.run p.place (few g d) c.owed_after.result c.owed_after.ensures law2 r.filled.grows job c.requires.kind (other_kind job b.base_job c.requires.kind) c.requires.op refl k.size (sym c.argument.ensures.same) c.put_top-root.result r.top;
        credits = omega (arith, r.credits, pays, n.credits, same, due);
      };
    }
