use Rattle.std.proofs.Common.{◌≡◌, ℕ, ◌+◌, ◌*◌, ◌<◌, ◌≤◌, refl, sym, ap, ◌∙◌, arith, subst, true}
use Rattle.lazy_rec.specs.declared.states.SuspState.TheVariants.{Unforced}
use Rattle.heap_store.specs.Hand.{holds_claim}
use Rattle.heap_store.proofs.PlainReads.{unbuilt_held}
use Rattle.word_store.specs.Passes.{sight_of, view_of}
use Rattle.word_store.proofs.PassClaims.{give_up_may, given_up_view, quiet_given_up, held_rec, h, some_claimed}
use Rattle.word_store.proofs.claims.PassClaims.give_up.Goals as goal

pub count_given_up-requires : goal.count_given_up-requires
count_given_up-requires c = record { held = unbuilt_held (sight_of c.args.self.now).hand.claims c.args.s.0 c.requires.unbuilt }

pub spend-requires-clause-held : goal.spend-requires-clause-held
spend-requires-clause-held c = ap (λ x. holds_claim x c.args.s.0) c.count_given_up.ensures.quiet.hand ∙ unbuilt_held (sight_of c.args.self.now).hand.claims c.args.s.0 c.requires.unbuilt

pub spend-requires-clause-may : goal.spend-requires-clause-may
spend-requires-clause-may c = let e = c.count_given_up.ensures in
    give_up_may c.args.self.now c.count_given_up.new.self c.args.s.0 c.count_given_up.result c.saturating_add-given_up.result e.quiet e.now c.count_given_up.type_inv c.saturating_add-given_up.ensures c.requires.unbuilt c.requires.places

pub returns-clause-given_up : goal.returns-clause-given_up
returns-clause-given_up c = let e = c.count_given_up.ensures in let p = c.args.self.now in let q = c.count_given_up.new.self in let r = c.spend.new.self in
    let mine = unbuilt_held (sight_of p).hand.claims c.args.s.0 c.requires.unbuilt in
    let held = ap (λ x. holds_claim x c.args.s.0) e.quiet.hand ∙ mine in
    let may = give_up_may p q c.args.s.0 c.count_given_up.result c.saturating_add-given_up.result e.quiet e.now c.count_given_up.type_inv c.saturating_add-given_up.ensures c.requires.unbuilt c.requires.places in
    let k = c.spend.ensures.play in
    let count = some_claimed c.count_given_up.result (h q r c.args.s.0 (Unforced c.saturating_add-given_up.result) k c.spend.ensures.stays held may.range).count (sym e.now ∙ (h q r c.args.s.0 (Unforced c.saturating_add-given_up.result) k c.spend.ensures.stays held may.range).state) in
    quiet_given_up (view_of p) (view_of q) (view_of r) c.args.s.0 e.quiet (held_rec p q c.args.s.0 e.quiet mine)
    (λ g f. e.now ∙ ap (λ z. Rattle.std.proofs.Common.Some (Rattle.lazy_rec.specs.declared.states.SuspState.TheVariants.Claimed z)) (some_claimed c.count_given_up.result g (sym e.before ∙ f)))
    (given_up_view q r c.args.s.0 (Unforced c.saturating_add-given_up.result) k c.spend.ensures.stays held may.range c.saturating_add-given_up.result refl (omega (arith, c.saturating_add-given_up.ensures, count)))
