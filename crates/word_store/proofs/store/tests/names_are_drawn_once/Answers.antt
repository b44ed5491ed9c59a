use Rattle.std.proofs.Common.{arith}
use Rattle.word_store.proofs.store.tests.names_are_drawn_once.Goals as goal

pub pass-requires-3 : goal.pass-requires-3
pass-requires-3 g c = record {
  left = omega (arith, c.in_ok-store.ensures.callers_are, c.in_ok-store.ensures.first, c.in_ok-pass.ensures.next, c.in_ok-pass.ensures.store.callers, c.in_ok-pass-2.ensures.next, c.in_ok-pass-2.ensures.store.callers);
}

pub pass-requires-4 : goal.pass-requires-4
pass-requires-4 g c = record {
  left = omega (
    arith,
    c.in_ok-store.ensures.callers_are,
    c.in_ok-store.ensures.first,
    c.in_ok-pass.ensures.next,
    c.in_ok-pass.ensures.store.callers,
    c.in_ok-pass-2.ensures.next,
    c.in_ok-pass-2.ensures.store.callers,
    c.in_ok-pass-3.ensures.next,
    c.in_ok-pass-3.ensures.store.callers,
  );
}
