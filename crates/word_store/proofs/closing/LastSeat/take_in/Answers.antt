use Rattle.std.proofs.Common.{sym, ap, ◌∙◌, arith}
use Rattle.word_store.proofs.Gathering.{joins_allowed}
use Rattle.word_store.proofs.closing.LastSeat.take_in.Goals as goal

pub join_seat-requires : goal.join_seat-requires
join_seat-requires c = let p = c.args.self.now in let q = c.args.pass in let d = sym c.deref.ensures in let e = p.tied ∙ ap (λ t. t.shared.table_id) d in
    let nodes = ap (λ t. t.shared.key.nodes) d in let rows = ap (λ t. t.shared.key.rows) d in (
      e,
      c.requires.store ∙ e,
      q.bare,
      omega (arith, p.long, ap (λ t. t.words) e),
      joins_allowed c.deref.result.now.shared.key p.seat.id q.seat.id q.caller p.seat.me.0 q.seat.me.0
          (p.sized.0 ∙ (sym p.keyed.0 ∙ nodes), p.sized.1 ∙ (sym p.keyed.1 ∙ rows), p.sized.2 ∙ ap (λ t. t.shared.key.callers) d, p.sized.3)
          (omega (arith, p.wide, p.keyed.0, p.keyed.1, nodes, rows)) q.number c.requires.idle c.requires.closable,
    )
