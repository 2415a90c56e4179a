use Rattle.std.proofs.Common.{ℕ, List, ◌≤◌}
use Rattle.dimacs_lines.specs.OutputBuffers.{Appends}
use Rattle.dimacs_records.specs.{declared.records.Record.{Record}, Canonical.{AreLines, canonical_text}}
use Rattle.dimacs_records.proofs.canonical.write_lines.Given as goal

-- the lines of the numbers so far were written
abbrev pub invariant-loop-i : goal.invariant-loop-i
invariant-loop-i g l = record {
  within : l.i ≤ l.count;
  written : (below : ℕ → List Record) → AreLines (goal.F-post g l.line) l.count below → Appends (canonical_text (below l.i)) (g.S.Sink.seen l.fn.sink) l.fn.output (g.S.Sink.seen l.sink) l.output;
}
