use Rattle.std.proofs.Common.{◌≡◌, ◌-◌, ◌≤◌, take, vec_len}
use Rattle.lazy_outside.proofs.whole.make_room.Given as goal

abbrev pub invariant-loop-bytes : goal.invariant-loop-bytes
invariant-loop-bytes l =
    record {
      kept : take l.filled l.bytes.items ≡ take l.filled l.initial.bytes.items;
      filled : l.filled ≤ vec_len l.bytes;
      within : vec_len l.bytes ≤ 16777217;
    }

abbrev pub decreases-loop-bytes : goal.decreases-loop-bytes
decreases-loop-bytes l = 16777217 - vec_len l.bytes
