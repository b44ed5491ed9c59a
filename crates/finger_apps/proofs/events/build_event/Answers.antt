use Rattle.std.proofs.Common.{◌≡◌, ℕ, ltb, sym, ap, ◌∙◌, arith, true, false, ◌&&◌}
use Rattle.std.proofs.lemmas.Bool.{ltb-false}
use Rattle.lazy_rec.specs.declared.events.Op.{Op}
use Rattle.finger_apps.specs.Sequence.{is_pop, drops}
use Rattle.heap_store.specs.OneStage.{is_end}
use Rattle.finger_apps.proofs.Bases.{given, same_root}
use Rattle.finger_apps.proofs.Looks.{size_built}
use Rattle.finger_apps.proofs.Readiness.{only_size}
use Rattle.finger_apps.proofs.events.build_event.Goals as goal

-- a pop that takes nothing off is one of an empty sequence
nothing_off : (op : Op) (size : ℕ) → is_pop op ≡ true → drops op size ≡ false → size ≡ 0
nothing_off op size pops h = omega (arith, ltb-false 0 size (sym (ap (λ b. b && ltb 0 size) pops) ∙ h))

pub returns-in-Popl-clause-base : goal.returns-in-Popl-clause-base
returns-in-Popl-clause-base g c = λ none _. c.pop.ensures.base (nothing_off c.args.job.now.op c.args.job.now.base.size (ap is_pop c.in-Popl.is) none)

pub returns-in-Popr-clause-base : goal.returns-in-Popr-clause-base
returns-in-Popr-clause-base g c = λ none _. c.pop-in-Popr.ensures.base (nothing_off c.args.job.now.op c.args.job.now.base.size (ap is_pop c.in-Popr.is) none)

pub returns-in_default : goal.returns-in_default
returns-in_default g c =
    let law = (g.met.H.Heap.lawful c.args.h.now).world in
    let d = c.in_default in
    let op = only_size c.args.job.now.op c.requires.op d.not-Popl d.not-Popr d.not-Pushl d.not-Pushr d.not-First d.not-Last in
    record {
      built = size_built law (given law c.requires.kind c.requires.build) c.requires.kind op c.at_base.result (rw c.from.ensures at c.at_base.ensures);
      base = λ _ _. same_root c.args.job.now _ _ c.at_base.result c.at_base.ensures;
      ends = ap is_end c.at_base.ensures;
    }
