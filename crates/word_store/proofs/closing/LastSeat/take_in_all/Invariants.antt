use Rattle.std.specs.Prelude.{◌≡◌, List, ◌++◌, map}
use Rattle.word_store.specs.declared.pass.Pass.{Pass}
use Rattle.word_store.specs.Passes.{sight_of}
use Rattle.word_store.specs.Joined.{MayClose, gathered}
use Rattle.word_store.proofs.closing.LastSeat.take_in_all.Given as goal

abbrev pub invariant-loop-named : goal.invariant-loop-named
invariant-loop-named g l =
    (l.self.seat.table_id ≡ l.fn.self.seat.table_id) × (l.self.layout ≡ l.fn.self.layout) × MayClose l.self.seat.me.0.hand
    × ((done : List Pass) × (map (λ q. q.pass) l.passes.items ++ done ≡ map (λ q. q.pass) l.fn.passes.items) × (l.self.seat.me.0 ≡ gathered l.fn.self.seat.me.0 (map sight_of done)))

abbrev pub decreases-loop-named : goal.decreases-loop-named
decreases-loop-named g l = goal.left-loop-named g l
