use Rattle.std.specs.Prelude.{◌≡◌, ℕ, ◌-◌, ◌<◌, ◌≤◌, length, slice_index}
use Rattle.word_store.specs.Joined.{IsLastSeat}
use Rattle.word_store.proofs.closing.LastSeat.copy.Given as goal

abbrev pub invariant-loop-i : goal.invariant-loop-i
invariant-loop-i l =
    (l.i ≤ length l.words.items) × (length l.words.items ≡ length l.fn.words.items) × (l.self.layout ≡ l.fn.self.layout) × IsLastSeat l.self.seat.me.0 × (l.self.seat.me.0.words ≡ l.fn.self.seat.me.0.words)
    × ((j : ℕ) → j < l.i → slice_index l.words.items j ≡ slice_index l.fn.self.seat.me.0.words j)

abbrev pub decreases-loop-i : goal.decreases-loop-i
decreases-loop-i l = length l.words.items - l.i
