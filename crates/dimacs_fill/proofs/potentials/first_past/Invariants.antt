use Rattle.std.proofs.Common.{ℕ, ◌<◌, ◌+◌}
use Rattle.dimacs_lines.specs.Limits.{IsNode}
use Rattle.dimacs_records.specs.Ranges.{IsWhole}
use Rattle.dimacs_claims.specs.Potentials.{potential_of}
use Rattle.dimacs_fill.proofs.potentials.first_past.Given as goal

-- those so far fit
abbrev pub invariant-loop-i : goal.invariant-loop-i
invariant-loop-i l = (v : ℕ) → IsNode l.potentials.nodes v → v < l.i + 1 → IsWhole (potential_of l.potentials v)
