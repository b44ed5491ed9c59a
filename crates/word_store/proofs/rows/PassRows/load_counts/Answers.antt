use Rattle.heap_store.proofs.Steps.{Quiet_trans}
use Rattle.word_store.proofs.Views.{view_lawful}
use Rattle.word_store.proofs.PassViews.{looked_quiet, counts_quiet}
use Rattle.word_store.proofs.PassRows.{number_found, number_kept}
use Rattle.word_store.proofs.rows.PassRows.load_counts.Goals as goal

pub returns-clause-quiet : goal.returns-clause-quiet
returns-clause-quiet c = let p = c.args.self.now in let q = c.look-names.new.self in let r = c.look-places.new.self in
    counts_quiet p r c.look-places.result c.look-names.result (Quiet_trans (looked_quiet p q _ c.look-names.result c.look-names.ensures.play c.look-names.ensures.stays) (looked_quiet q r _ c.look-places.result c.look-places.ensures.play c.look-places.ensures.stays))

pub returns-clause-names : goal.returns-clause-names
returns-clause-names c = number_kept c.look-names.new.self c.look-places.new.self _ c.look-places.result 1 c.look-names.result c.look-places.ensures.play c.look-names.ensures.play.found

pub returns-clause-places : goal.returns-clause-places
returns-clause-places c = number_found c.look-places.new.self.seat.me.0 0 c.look-places.result c.look-places.ensures.play.found

pub invariant_of-self : goal.invariant_of-self
invariant_of-self c = let q = c.look-places.new.self in record {
  tied = q.tied;
  sized = q.sized;
  long = q.long;
  number = q.number;
  bare = q.bare;
  sound = q.sound;
  law = view_lawful q.seat.me.0 q.caller q.refused q.last c.look-places.result c.look-names.result q.number q.sound q.law.refused;
}
