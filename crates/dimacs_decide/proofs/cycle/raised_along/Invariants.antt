use Rattle.std.proofs.Common.{◌≡◌, ℕ, ◌<◌, ◌-◌, length}
use Rattle.std.specs.Prelude.{slice_index}
use Rattle.dimacs_network.specs.Tables.{value_of}
use Rattle.dimacs_decide.specs.inside.Cycles.{residual_at}
use Rattle.dimacs_decide.proofs.CycleLemmas.{residual_by}
use Rattle.dimacs_decide.proofs.cycle.raised_along.Given as goal

abbrev pub invariant-loop-k : goal.invariant-loop-k
invariant-loop-k g l = record {
  long : length l.residuals.items ≡ l.k;
  outcome : (i : ℕ) → i < l.k → residual_at l.residuals.items i ≡ residual_by (value_of l.labels (slice_index l.cycle.path.items (l.last - i - 1)));
}
