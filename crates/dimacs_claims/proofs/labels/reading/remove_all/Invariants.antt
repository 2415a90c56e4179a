use Rattle.std.proofs.Common.{◌≡◌, ℕ, drop, true}
use Rattle.std.specs.{Prelude.{is_some}, FinSet.{contains}}
use Rattle.dimacs_claims.specs.Labels.{distance_in}
use Rattle.dimacs_claims.proofs.labels.reading.remove_all.Given as goal

-- the nodes that are left have labels further on
abbrev pub invariant-loop-place : goal.invariant-loop-place
invariant-loop-place l = (id : ℕ) → contains l.nodes id ≡ true → is_some (distance_in (drop l.place l.labels) id) ≡ true
