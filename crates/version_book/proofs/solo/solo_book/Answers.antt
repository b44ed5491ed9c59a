use Rattle.std.proofs.Common.{◌≡◌, ℕ, ◌∙◌, length, refl, subst, sym, ap}
use Rattle.heap_store.specs.View.{View, IsLawfulView}
use Rattle.heap_store.specs.World.{World}
use Rattle.heap_store.specs.Opened.{opened_view}
use Rattle.version_book.specs.Pass.{Pass, pass_of}
use Rattle.version_book.specs.RowSteps.{IsCaller}
use Rattle.version_book.specs.Calls.{IsIdle}
use Rattle.version_book.specs.Closed.{IsBook}
use Rattle.version_book.specs.Solo.{IsSolo, AreRun}
use Rattle.version_book.proofs.Books.{opened_idle, opened_caller, book-of, whole-of, charged-of}
use Rattle.version_book.proofs.solo.solo_book.Goals as goal
use Rattle.version_book.proofs.solo.solo_book.Goals.{After-new-pass, After-into_heap}

pub new-pass-requires : goal.new-pass-requires
new-pass-requires c = record {
  idle = subst IsIdle (sym c.in_ok-heap.ensures) (opened_idle c.args.nodes (length c.args.events.now));
  caller = subst (λ (v : View). IsCaller v 0) (sym c.in_ok-heap.ensures) (opened_caller c.args.nodes (length c.args.events.now));
  stack = c.in_ok-stack.ensures;
}

-- the pass over the store that was just opened
fresh : (c : After-new-pass) → c.new-pass.result ≡ pass_of (opened_view c.args.nodes (length c.args.events.now)) 0
fresh c = c.new-pass.ensures ∙ ap (λ (v : View). pass_of v 0) c.in_ok-heap.ensures

pub run_events-charged-requires : goal.run_events-charged-requires
run_events-charged-requires c =
    let k = (goal.at.run_events-charged-requires c).After-new-pass in
    let at = sym (fresh k) in
    let law = subst IsLawfulView c.in_ok-heap.ensures c.in_ok-heap.heap.law in
    record {
      solo = subst IsSolo at (record { alone = refl; plan = refl; caller = refl });
      lawful = subst (λ (p : Pass). IsLawfulView p.view) at law;
      fresh = subst (λ (p : Pass). p.view.named ≡ 0) at refl;
      rows = subst (λ (p : Pass). p.view.about.rows ≡ length c.args.events.now) at refl;
      script = c.requires.script;
      built = c.requires.built;
    }

-- all events were run, on a store of so many places
run : (c : After-into_heap) → AreRun c.args.nodes c.args.events.now (length c.args.events.now) c.run_events-charged.new.pass
run c =
    let k : c.new-pass.result.view.about.capacity ≡ c.args.nodes = ap (λ (p : Pass). p.view.about.capacity) (c.new-pass.ensures ∙ ap (λ (v : View). pass_of v 0) c.in_ok-heap.ensures) in
    subst (λ (n : ℕ). AreRun n c.args.events.now (length c.args.events.now) c.run_events-charged.new.pass) k c.run_events-charged.ensures.run

pub of-requires : goal.of-requires
of-requires c =
    let k = (goal.at.of-requires c).After-into_heap in
    record {
      whole = whole-of c.args.nodes c.args.events.now c.into_heap.result c.run_events-charged.new.pass c.into_heap.ensures.heap c.into_heap.ensures.idle (run k);
      charged = charged-of c.args.nodes c.args.events.now c.into_heap.result c.run_events-charged.new.pass c.into_heap.ensures.heap c.into_heap.ensures.idle (run k) c.run_events-charged.result c.run_events-charged.ensures.charged;
    }

pub returns : goal.returns
returns c = subst (λ (w : World). IsBook w c.args.nodes c.args.events.now) (sym c.of.ensures)
    (book-of c.args.nodes c.args.events.now c.into_heap.result c.run_events-charged.new.pass c.into_heap.ensures.heap c.into_heap.ensures.idle (run (goal.at.returns c).After-into_heap))
