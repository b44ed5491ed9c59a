use Rattle.std.proofs.Common.{◌≡◌, subst}
use Rattle.heap_store.specs.Legal.{IsLegal}
use Rattle.version_book.specs.Calls.{Shown}
use Rattle.version_book.specs.Pass.{Pass}
use Rattle.version_book.proofs.InOrder.{same_pass, other_range, lost_other_of}
use Rattle.version_book.proofs.solo.named_other.Goals as goal
use Rattle.version_book.proofs.solo.named_other.Goals.{After-lookup}

-- a look changes nothing on a pass whose store no other works on
same : (g : _) (c : After-lookup g) → c.lookup.new.self ≡ c.args.pass.now
same g c = same_pass c.requires.solo c.lookup.ensures.quiet c.lookup.ensures.same

shown : (g : _) (c : After-lookup g) → Shown c.args.pass.now.view.seen c.args.event.now.other c.lookup.result
shown g c = subst (λ (p : Pass). Shown p.view.seen c.args.event.now.other c.lookup.result) (same g c) c.lookup.ensures.look

pub lookup-requires : goal.lookup-requires
lookup-requires g c =
    let range = other_range c.args.pass.now c.args.event.now c.requires.uses c.requires.other in
    record { low = range.0; high = range.1 }

pub returns-in-Found : goal.returns-in-Found
returns-in-Found g c =
    let k = (goal.at.returns-in-Found g c).After-lookup in
    record { same = same g k; found = rw c.in-Found.is at (shown g k); lost = tt }

pub returns-in_default : goal.returns-in_default
returns-in_default g c =
    let k = (goal.at.returns-in_default g c).After-lookup in
    record {
      same = same g k;
      found = tt;
      lost = lost_other_of c.args.pass.now c.args.event.now c.requires.uses c.lookup.result (subst (λ (p : Pass). IsLegal p.view.seen) (same g k) c.lookup.ensures.lawful.legal) c.requires.other (shown g k) c.in_default.not-Found;
    }
