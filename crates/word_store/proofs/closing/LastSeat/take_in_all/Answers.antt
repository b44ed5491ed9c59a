use Rattle.std.proofs.Common.{◌∷◌, ◌++◌, length, map, sym, ap, ◌∙◌, subst}
use Rattle.word_store.specs.declared.sight.Sight.{Sight}
use Rattle.word_store.specs.Passes.{sight_of}
use Rattle.word_store.specs.Joined.{MayClose, joined}
use Rattle.word_store.proofs.Gathering.{joined_idle, taken, taken_at}
use Rattle.word_store.proofs.closing.LastSeat.take_in_all.Goals as goal

pub take_in-requires-clause-closable : goal.take_in-requires-clause-closable
take_in-requires-clause-closable g c = let i = c.loop-named.invariant in
    c.requires.closable (length c.pop.new.self.items) c.in-Some.named.pass
    (taken_at (λ q. q.pass) c.pop.new.self.items c.in-Some.named i.3.0 _ (ap (λ l. map (λ q. q.pass) l ++ i.3.0) (sym c.in-Some.ensures.items) ∙ i.3.1))

pub loop-named-preserved : goal.loop-named-preserved
loop-named-preserved g c = let i = c.loop-named.invariant in let q = c.in-Some.named.pass in let now = c.take_in.ensures.joined in
    let e = ap (λ l. map (λ q. q.pass) l ++ i.3.0) (sym c.in-Some.ensures.items) ∙ i.3.1 in
    let may : MayClose (sight_of q).hand = c.requires.closable (length c.pop.new.self.items) q (taken_at (λ q. q.pass) c.pop.new.self.items c.in-Some.named i.3.0 _ e) in (
      c.take_in.ensures.store ∙ i.0,
      c.take_in.ensures.layout ∙ i.1,
      subst (λ (v : Sight). MayClose v.hand) (sym now) (joined_idle c.loop-named.self.seat.me.0.hand (sight_of q).hand i.2 may),
      (q ∷ i.3.0, taken (λ q. q.pass) c.pop.new.self.items c.in-Some.named i.3.0 _ e, now ∙ ap (λ (v : Sight). joined v (sight_of q)) i.3.2),
    )
