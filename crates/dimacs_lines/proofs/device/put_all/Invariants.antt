use Rattle.std.proofs.Common.{◌≡◌, ◌≤◌, ◌-◌, length, take}
use Rattle.dimacs_lines.specs.Devices.{after_piece}
use Rattle.dimacs_lines.proofs.device.put_all.Given as goal

abbrev pub invariant-loop-done : goal.invariant-loop-done
invariant-loop-done g l = record {
  within : l.done ≤ length l.bytes;
  taken : (g.S.Sink.seen l.sink).accepted ≡ after_piece (g.S.Sink.seen l.fn.sink).accepted (take l.done l.bytes);
  sound : (g.S.Sink.seen l.sink).faults ≡ (g.S.Sink.seen l.fn.sink).faults;
}

abbrev pub decreases-loop-done : goal.decreases-loop-done
decreases-loop-done g l = length l.bytes - l.done
