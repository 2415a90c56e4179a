use Rattle.std.proofs.Common.{ℕ, ◌<◌, ◌^◌, ◌-◌, get_or, pos}
use Rattle.std.specs.Prelude.{neg_ℤ}
use Rattle.dimacs_claims.specs.Labels.{no_label}
use Rattle.dimacs_judging.specs.Distances.{Fits}
use Rattle.dimacs_judging.proofs.node_labels.fit_64_bits.Given as goal

-- the labels so far
abbrev pub invariant-loop-i : goal.invariant-loop-i
invariant-loop-i l = (k : ℕ) → k < l.i → Fits (neg_ℤ (pos (2 ^ 63))) (pos (2 ^ 63 - 1)) (get_or l.labels k no_label).dist
