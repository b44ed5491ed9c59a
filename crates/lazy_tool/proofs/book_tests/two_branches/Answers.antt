use Rattle.std.proofs.Common.{◌≡◌, refl, sym, ap, ◌∙◌, subst}
use Rattle.heap_store.specs.View.{View}
use Rattle.heap_store.specs.Opened.{view_of, opened_view}
use Rattle.version_book.specs.Pass.{Pass, pass_of}
use Rattle.version_book.specs.Solo.{IsSolo}
use Rattle.version_book.proofs.Extending.{seen_later}
use Rattle.lazy_tool.proofs.book_tests.two_branches.Goals as goal

-- a pass over a store that was just opened works alone
opened_solo : (p : Pass) (v : View) → p ≡ pass_of v 0 → v ≡ opened_view 1000 100 → IsSolo p
opened_solo p v new opened = subst IsSolo (sym (new ∙ ap (λ (w : View). pass_of w 0) opened)) (record { alone = refl; plan = refl; caller = refl })

pub three_items-requires-clause-solo : goal.three_items-requires-clause-solo
three_items-requires-clause-solo g c = opened_solo c.new-pass.result (view_of c.in_ok-heap.heap) c.new-pass.ensures c.in_ok-heap.ensures

pub extended-requires-2-clause-seen : goal.extended-requires-2-clause-seen
extended-requires-2-clause-seen g c = seen_later c.three_items.new.pass c.extended.new.pass c.in_ok-three.three c.extended.ensures.grows c.in_ok-three.ensures.seen

pub extended-requires-3-clause-seen : goal.extended-requires-3-clause-seen
extended-requires-3-clause-seen g c = seen_later c.extended.new.pass c.extended-2.new.pass c.in_ok-longer.field-0.version c.extended-2.ensures.grows c.in_ok-longer.ensures.seen

pub extended-requires-4-clause-seen : goal.extended-requires-4-clause-seen
extended-requires-4-clause-seen g c = seen_later c.extended-2.new.pass c.extended-3.new.pass c.in_ok-shorter.field-0.version c.extended-3.ensures.grows c.in_ok-shorter.ensures.seen
