use Rattle.std.proofs.Common.{◌≡◌, ℕ, ◌+◌, arith, length, subst}
use Rattle.std.proofs.lemmas.Option.{slice_get-get_or}
use Rattle.version_book.specs.Solo.{AreRun, dues_to}
use Rattle.version_book.proofs.Books.{none-run, comes-next, one-more}
use Rattle.version_book.proofs.Charges.{none_charged, one_charged}
use Rattle.version_book.proofs.solo.run_events.Goals as goal

pub loop-event-init : goal.loop-event-init
loop-event-init g c = record {
  run = none-run c.args.events.now c.args.pass.now c.requires.solo c.requires.lawful c.requires.fresh c.requires.rows;
  charged = none_charged c.args.pass.now.view.seen;
  few = omega arith;
}

pub run_event-charged-requires-clause-solo : goal.run_event-charged-requires-clause-solo
run_event-charged-requires-clause-solo g c = c.loop-event.invariant.run.solo

pub run_event-charged-requires-clause-next : goal.run_event-charged-requires-clause-next
run_event-charged-requires-clause-next g c =
    comes-next c.args.pass.now.view.about.capacity c.args.events.now c.requires.script c.requires.built c.loop-event.event-index c.loop-event.pass c.loop-event.invariant.run _
    (slice_get-get_or c.args.events.now c.loop-event.event-index _ c.loop-event-test.true) c.loop-event-test.true

pub overflow_add-charged : goal.overflow_add-charged
overflow_add-charged g c = omega (arith, c.loop-event.invariant.few, c.run_event-charged.ensures.small, c.requires.script.few, c.loop-event-test.true)

pub loop-event-preserved : goal.loop-event-preserved
loop-event-preserved g c =
    let i = c.loop-event.event-index in
    let p = c.loop-event.pass in
    let k = c.loop-event.invariant in
    let ran = c.run_event-charged.ensures.ran in
    record {
      run = one-more c.args.pass.now.view.about.capacity c.args.events.now c.requires.script c.requires.built i p k.run c.run_event-charged.new.pass c.run_event-charged.ensures.lawful _ (i + 1) (omega arith) (slice_get-get_or c.args.events.now i _ c.loop-event-test.true) ran;
      charged = one_charged p c.run_event-charged.new.pass _ i c.loop-event.charged c.run_event-charged.result k.run.lawful.legal c.run_event-charged.ensures.lawful.legal ran k.run.named k.charged c.run_event-charged.ensures.charged;
      few = omega (arith, k.few, c.run_event-charged.ensures.small);
    }

pub returns : goal.returns
returns g c =
    let last : c.loop-event.event-index ≡ length c.args.events.now = omega (arith, c.loop-event-test.false, c.loop-event.auto.event-index-end) in
    record {
      run = subst (λ (n : ℕ). AreRun c.args.pass.now.view.about.capacity c.args.events.now n c.loop-event.pass) last c.loop-event.invariant.run;
      charged = subst (λ (n : ℕ). c.loop-event.charged ≡ dues_to c.loop-event.pass.view.seen n) last c.loop-event.invariant.charged;
    }
