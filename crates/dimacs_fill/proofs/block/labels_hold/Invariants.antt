use Rattle.std.proofs.Common.{ℕ, ◌<◌, get_or}
use Rattle.dimacs_claims.specs.Labels.{IsItem, no_label}
use Rattle.dimacs_fill.proofs.block.labels_hold.Given as goal

-- the distances so far can be items
abbrev pub invariant-loop-i : goal.invariant-loop-i
invariant-loop-i l = (k : ℕ) → k < l.i → IsItem (get_or l.labels k no_label).dist
