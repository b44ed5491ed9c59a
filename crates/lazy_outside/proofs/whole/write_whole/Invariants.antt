use Rattle.std.proofs.Common.{◌≡◌, length, ◌-◌, ◌≤◌, take}
use Rattle.std.specs.Io.KnownBytes.{Appends}
use Rattle.lazy_outside.proofs.whole.write_whole.Given as goal

abbrev pub invariant-loop-given : goal.invariant-loop-given
invariant-loop-given g l =
    record {
      within : l.given ≤ length l.text;
      front : Appends (g.K.Sink.holds l.initial.sink) (g.K.Sink.holds l.sink) (take l.given l.text);
      never_falls : g.K.Sink.faults l.initial.sink ≤ g.K.Sink.faults l.sink;
      still : g.K.Sink.faults l.sink ≡ g.K.Sink.faults l.initial.sink;
    }

abbrev pub decreases-loop-given : goal.decreases-loop-given
decreases-loop-given g l = length l.text - l.given
