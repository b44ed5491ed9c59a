use Rattle.std.proofs.Common.{sym, ◌∙◌}
use Rattle.word_store.proofs.PassClaims.{won_view, found_claimed, found_done}
use Rattle.word_store.proofs.claims.PassClaims.claim.Goals as goal

pub returns-in-Unforced-clause-answer : goal.returns-in-Unforced-clause-answer
returns-in-Unforced-clause-answer c = won_view c.args.self.now c.attempt.new.self c.args.s c.attempt.result c.attempt.ensures.play c.attempt.ensures.stays c.requires.pending c.in-Unforced.given_up (sym c.state_of.ensures ∙ c.in-Unforced.is)

pub returns-in-Claimed-clause-answer : goal.returns-in-Claimed-clause-answer
returns-in-Claimed-clause-answer c = found_claimed c.args.self.now c.attempt.new.self c.args.s c.attempt.result c.attempt.ensures.play c.attempt.ensures.stays c.requires.pending c.in-Claimed.given_up (sym c.state_of.ensures ∙ c.in-Claimed.is)

pub returns-in-Done-clause-answer : goal.returns-in-Done-clause-answer
returns-in-Done-clause-answer c = found_done c.args.self.now c.attempt.new.self c.args.s c.attempt.result c.attempt.ensures.play c.attempt.ensures.stays c.requires.pending c.in-Done.place c.in-Done.steps c.in-Done.given_up (sym c.state_of.ensures ∙ c.in-Done.is)
