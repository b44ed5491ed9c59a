use Rattle.std.proofs.Common.{◌≡◌, refl, ap, arith, subst}
use Rattle.heap_store.specs.declared.claims.Full.{Full}
use Rattle.heap_store.specs.View.{Refused, risen}
use Rattle.word_store.specs.Passes.{view_of}
use Rattle.word_store.specs.Views.{view_with}
use Rattle.word_store.proofs.Views.{view_lawful}
use Rattle.word_store.proofs.PassViews.{noted_refused}
use Rattle.word_store.proofs.pass.Pass.refuse.Goals as goal

pub returns-clause-refused : goal.returns-clause-refused
returns-clause-refused c = let p = c.args.self.now in let q = c.note-self.new.self in
    let full : Full = record { drawn = c.args.drawn; wanted = c.args.k } in
    let count : risen p.refused ≡ c.saturating_add-self.result = omega (arith, c.saturating_add-self.ensures, c.note-self.ensures.stays.refused) in
    subst (λ n. Refused (view_of p) (view_with q.seat.me.0 q.caller n full q.drawn q.named) c.args.k full) count
    (noted_refused p q _ c.note-self.result c.args.k full c.note-self.ensures.play c.note-self.ensures.stays refl c.requires.asked c.requires.no_room c.requires.low c.requires.now)

pub invariant_of-self : goal.invariant_of-self
invariant_of-self c = let p = c.args.self.now in let q = c.note-self.new.self in record {
  tied = q.tied;
  sized = q.sized;
  long = q.long;
  number = q.number;
  bare = q.bare;
  sound = q.sound;
  law = view_lawful q.seat.me.0 q.caller c.saturating_add-self.result (record { drawn = c.args.drawn; wanted = c.args.k }) q.drawn q.named q.number q.sound
      (λ _. record { asked = c.requires.asked; no_room = omega (arith, c.requires.no_room, q.sized.0, ap (λ l. l.nodes) c.note-self.ensures.stays.layout); low = c.requires.low });
}
