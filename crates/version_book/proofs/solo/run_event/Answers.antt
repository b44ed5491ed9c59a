use Rattle.std.proofs.Common.{◌≡◌, true, subst, rules}
use Rattle.kind_table.specs.Kinds.{is_built}
use Rattle.lazy_rec.specs.Kinds.{uses_base}
use Rattle.heap_store.specs.Legal.{IsLegal}
use Rattle.version_book.specs.Calls.{IsFound, Shown}
use Rattle.version_book.specs.Pass.{Pass}
use Rattle.version_book.specs.Solo.{IsSolo, ComesNext}
use Rattle.version_book.proofs.InOrder.{same_pass, base_range, lost_base_of, uses_ended, built_on, not_new}
use Rattle.version_book.proofs.solo.run_event.Goals as goal
use Rattle.version_book.proofs.solo.run_event.Goals.{After-lookup, In-Found}

pub lookup-requires : goal.lookup-requires
lookup-requires g c =
    let e = c.args.event.now in
    let range = base_range c.args.pass.now e (uses_ended c.args.pass.now e c.requires.next (not_new e.op c.in_default.not-New)) in
    record { low = range.0; high = range.1 }

-- a look changes nothing on a pass whose store no other works on
looked : (g : _) (c : After-lookup g) → c.lookup.new.self ≡ c.args.pass.now
looked g c = same_pass c.requires.solo c.lookup.ensures.quiet c.lookup.ensures.same

-- what the base's events ask, whatever its kind
found : (g : _) (c : In-Found g) → IsSolo c.lookup.new.self × ComesNext c.lookup.new.self c.args.event.now × (uses_base c.args.event.now.op ≡ true) × IsFound c.lookup.new.self.view.seen c.args.event.now.base c.in-Found.base
found g c =
    let same = same_pass c.requires.solo c.lookup.ensures.quiet c.lookup.ensures.same in
    (rw same c.requires.solo, rw same c.requires.next, not_new c.args.event.now.op c.in_default.not-New, rw c.in-Found.is at c.lookup.ensures.look)

pub run_lost-requires : goal.run_lost-requires
run_lost-requires g c =
    let p = c.args.pass.now in
    let e = c.args.event.now in
    let same = looked g (goal.at.run_lost-requires g c).After-lookup in
    let uses = uses_ended p e c.requires.next (not_new e.op c.in_default.not-New) in
    let shown = subst (λ (q : Pass). Shown q.view.seen e.base c.lookup.result) same c.lookup.ensures.look in
    record {
      solo = rw same c.requires.solo;
      next = rw same c.requires.next;
      lost = rw same (lost_base_of p e uses c.lookup.result (subst (λ (q : Pass). IsLegal q.view.seen) same c.lookup.ensures.lawful.legal) shown c.in_default-lookup.not-Found);
    }

pub returns-in_default-lookup : goal.returns-in_default-lookup
returns-in_default-lookup g c = rw (looked g (goal.at.returns-in_default-lookup g c).After-lookup) at c.run_lost.ensures

pub run_on-requires : goal.run_on-requires
run_on-requires g c =
    let f = found g (goal.at.run_on-requires g c).In-Found in
    record { solo = f.0; next = f.1; based = f.2; base = f.3; kind = c.in-Stream.is }

pub returns-in-Stream : goal.returns-in-Stream
returns-in-Stream g c = rw (looked g (goal.at.returns-in-Stream g c).After-lookup) at c.run_on.ensures

pub run_on-requires-in-Bankq : goal.run_on-requires-in-Bankq
run_on-requires-in-Bankq g c =
    let f = found g (goal.at.run_on-requires-in-Bankq g c).In-Found in
    record { solo = f.0; next = f.1; based = f.2; base = f.3; kind = c.in-Bankq.is }

pub returns-in-Bankq : goal.returns-in-Bankq
returns-in-Bankq g c = rw (looked g (goal.at.returns-in-Bankq g c).After-lookup) at c.run_on-in-Bankq.ensures

pub run_on-requires-in-Rtq : goal.run_on-requires-in-Rtq
run_on-requires-in-Rtq g c =
    let f = found g (goal.at.run_on-requires-in-Rtq g c).In-Found in
    record { solo = f.0; next = f.1; based = f.2; base = f.3; kind = c.in-Rtq.is }

pub returns-in-Rtq : goal.returns-in-Rtq
returns-in-Rtq g c = rw (looked g (goal.at.returns-in-Rtq g c).After-lookup) at c.run_on-in-Rtq.ensures

pub run_on-requires-in-Heap : goal.run_on-requires-in-Heap
run_on-requires-in-Heap g c =
    let f = found g (goal.at.run_on-requires-in-Heap g c).In-Found in
    record { solo = f.0; next = f.1; based = f.2; base = f.3; kind = c.in-Heap.is }

pub returns-in-Heap : goal.returns-in-Heap
returns-in-Heap g c = rw (looked g (goal.at.returns-in-Heap g c).After-lookup) at c.run_on-in-Heap.ensures

pub run_on-requires-in-Seq : goal.run_on-requires-in-Seq
run_on-requires-in-Seq g c =
    let f = found g (goal.at.run_on-requires-in-Seq g c).In-Found in
    record { solo = f.0; next = f.1; based = f.2; base = f.3; kind = c.in-Seq.is }

pub returns-in-Seq : goal.returns-in-Seq
returns-in-Seq g c = rw (looked g (goal.at.returns-in-Seq g c).After-lookup) at c.run_on-in-Seq.ensures

pub unreachable-requires : goal.unreachable-requires
unreachable-requires g c =
    let p = c.args.pass.now in
    let e = c.args.event.now in
    let same = looked g (goal.at.unreachable-requires g c).After-lookup in
    let f = found g (goal.at.unreachable-requires g c).In-Found in
    let built : is_built c.in-Found.base.kind e.op ≡ true = built_on p e c.in-Found.base (subst (λ (q : Pass). IsLegal q.view.seen) same c.lookup.ensures.lawful.legal) c.requires.next f.2 (rw same at f.3) in
    search rules
