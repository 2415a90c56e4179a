use Rattle.std.proofs.Common.{◌≡◌, ◌+◌, ◌*◌, ◌≤◌, ◌++◌, length, take}
use Rattle.std.specs.List.{flat_map}
use Rattle.dimacs_lines.specs.OutputBuffers.{number_field}
use Rattle.dimacs_lines.proofs.output_buffer.OutputBuffer.append_line.Given as goal

-- the first n numbers are written
abbrev pub invariant-loop-n : goal.invariant-loop-n
invariant-loop-n l = record {
  kept : l.self.kept ≡ l.initial.self.kept ++ flat_map number_field (take l.n-index l.numbers);
  short : length l.self.kept ≤ length l.initial.self.kept + 21 * l.n-index;
  failed : l.self.failed ≡ l.initial.self.failed;
}
