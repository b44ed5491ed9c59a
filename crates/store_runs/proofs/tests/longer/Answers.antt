use Rattle.std.proofs.Common.{refl}
use Rattle.std.proofs.lemmas.Bool.{true≢false}
use Rattle.lazy_rec.specs.declared.events.Op.TheVariants.{Snoc}
use Rattle.heap_store.proofs.GrowthLaws.{grows_trans}
use Rattle.store_runs.proofs.Extending.{may_extend_drawn}
use Rattle.store_runs.proofs.tests.longer.Goals as goal

pub extend-requires-clause-may : goal.extend-requires-clause-may
extend-requires-clause-may g c = may_extend_drawn c.args.pass.now c.draw.new.self c.in_ok-ticket.ticket.name Snoc c.args.base 7 c.requires.free c.in_ok-ticket.ensures.ok c.requires.seen (rw c.requires.kind refl) refl refl (λ none. absurd (true≢false none))

pub returns-in_err-entry-clause-grows : goal.returns-in_err-entry-clause-grows
returns-in_err-entry-clause-grows g c = grows_trans c.in_ok-ticket.ensures.ok.grows c.extend.ensures.ended.called.grows

pub returns-clause-grows : goal.returns-clause-grows
returns-clause-grows g c = grows_trans c.in_ok-ticket.ensures.ok.grows c.extend.ensures.ended.called.grows
