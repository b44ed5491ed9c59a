use Rattle.std.proofs.Common.{refl, sym, ap, ◌∙◌}
use Rattle.heap_store.specs.Hand.{holds_claim}
use Rattle.word_store.specs.Passes.{view_of}
use Rattle.word_store.proofs.PassClaims.{complete_may, completed_view, quiet_completed, held_rec, h, some_claimed}
use Rattle.word_store.proofs.claims.PassClaims.complete.Goals as goal

pub spend-requires-clause-may : goal.spend-requires-clause-may
spend-requires-clause-may c = let e = c.count_given_up-given_up.ensures in
    complete_may c.args.self.now c.count_given_up-given_up.new.self c.args.s.0 c.args.place c.args.steps c.count_given_up-given_up.result e.quiet c.requires.held e.now c.count_given_up-given_up.type_inv c.requires.small c.requires.value

pub returns-clause-completed : goal.returns-clause-completed
returns-clause-completed c = let e = c.count_given_up-given_up.ensures in let p = c.args.self.now in let q = c.count_given_up-given_up.new.self in let r = c.spend.new.self in
    let held = ap (λ x. holds_claim x c.args.s.0) e.quiet.hand ∙ c.requires.held in
    let may = complete_may p q c.args.s.0 c.args.place c.args.steps c.count_given_up-given_up.result e.quiet c.requires.held e.now c.count_given_up-given_up.type_inv c.requires.small c.requires.value in
    let k = c.spend.ensures.play in
    quiet_completed (view_of p) (view_of q) (view_of r) c.args.s.0 c.args.place.0 c.args.steps e.quiet (held_rec p q c.args.s.0 e.quiet c.requires.held)
    (completed_view q r c.args.s.0 _ k c.spend.ensures.stays held may.range c.args.place c.args.steps c.count_given_up-given_up.result refl
    (some_claimed c.count_given_up-given_up.result (h q r c.args.s.0 _ k c.spend.ensures.stays held may.range).count (sym e.now ∙ (h q r c.args.s.0 _ k c.spend.ensures.stays held may.range).state)))
