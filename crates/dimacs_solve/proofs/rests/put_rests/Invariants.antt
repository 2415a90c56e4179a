use Rattle.std.proofs.Common.{◌≡◌, ℕ, ◌<◌, ◌≤◌, ◌+ℤ◌}
use Rattle.dimacs_judging.specs.{Rows.{amount_at}, Tests.{ClearBelow}}
use Rattle.dimacs_solve.specs.inside.Rests.{rest_row}
use Rattle.dimacs_solve.proofs.rests.put_rests.Given as goal

-- the arcs so far have their rests, and the others don't
abbrev pub invariant-loop-arc : goal.invariant-loop-arc
invariant-loop-arc l = record {
  put : (k : ℕ) → k < l.arc → amount_at l.amounts k ≡ amount_at l.initial.amounts k +ℤ amount_at l.rests k;
  left : (k : ℕ) → l.arc ≤ k → amount_at l.amounts k ≡ amount_at l.initial.amounts k;
  fits : ClearBelow (rest_row l.initial.amounts l.rests) l.arc;
}
