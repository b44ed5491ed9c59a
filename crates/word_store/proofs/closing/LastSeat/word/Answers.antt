use Rattle.std.proofs.Common.{sym, ap, ◌∙◌, arith}
use Rattle.word_store.proofs.Allowed.{look_allowed}
use Rattle.word_store.proofs.closing.LastSeat.word.Goals as goal

pub load-requires : goal.load-requires
load-requires c = let p = c.args.self.now in let e = p.tied ∙ ap (λ t. t.shared.table_id) (sym c.deref.ensures) in
    (e, omega (arith, c.requires.inside, p.long, ap (λ t. t.words) e), look_allowed c.deref.result.now.shared.key c.deref.result.now.shared.table_id.slots p.seat.id p.seat.me c.args.i c.requires.last.some c.requires.last.told)
