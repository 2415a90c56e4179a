use Rattle.std.proofs.Common.{neg_ℤ}
use Rattle.dimacs_claims.specs.Potentials.{potential_of}
use Rattle.dimacs_facts.proofs.OppositeLemmas.{SlackBelow}
use Rattle.dimacs_facts.proofs.opposite.are_opposite.Given as goal

abbrev pub invariant-loop-i : goal.invariant-loop-i
invariant-loop-i g l = SlackBelow (λ v. neg_ℤ (potential_of l.potentials v)) (g.N.Network.list l.network) l.flow l.i
