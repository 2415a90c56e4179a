use Rattle.std.proofs.Common.{ℕ, List, ◌≤◌, ◌-◌}
use Rattle.dimacs_lines.specs.OutputBuffers.{Appends}
use Rattle.dimacs_records.specs.{declared.records.Record.{Record}, Canonical.{AreLines, SkipsNone, canonical_text}}
use Rattle.dimacs_records.proofs.canonical.write_sparse_lines.Given as goal

-- the lines of the numbers so far were written
abbrev pub invariant-loop-i : goal.invariant-loop-i
invariant-loop-i g l = record {
  within : l.i ≤ l.count;
  written : (below : ℕ → List Record) → AreLines (goal.F-post g l.line) l.count below → SkipsNone (goal.N-post g l.next) below → Appends (canonical_text (below l.i)) (g.S.Sink.seen l.fn.sink) l.fn.output (g.S.Sink.seen l.sink) l.output;
}

abbrev pub decreases-loop-i : goal.decreases-loop-i
decreases-loop-i g l = l.count - l.i
