use Rattle.std.proofs.Common.{ℕ}
use Rattle.dimacs_network.specs.Tables.{value_of}
use Rattle.dimacs_judging.proofs.StepLemmas.{IsBalanceOf}
use Rattle.dimacs_judging.proofs.balances.Balances.new.Given as goal

-- each sum is the balance over the arcs so far, and at most their number times 2^64
abbrev pub invariant-loop-i : goal.invariant-loop-i
invariant-loop-i g l = (v : ℕ) → IsBalanceOf (g.N.Network.list l.network) l.flow l.i v (value_of l.sums v)
