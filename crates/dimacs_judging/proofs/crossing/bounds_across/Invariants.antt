use Rattle.dimacs_judging.proofs.CrossLemmas.{IsBoundOf}
use Rattle.dimacs_judging.specs.Cuts.{members}
use Rattle.dimacs_judging.proofs.crossing.bounds_across.Given as goal

-- the bounds over the arcs so far
abbrev pub invariant-loop-i : goal.invariant-loop-i
invariant-loop-i g l = record {
  most : IsBoundOf (λ a. a.cap) (λ a. a.low) (g.N.Network.list l.network) (members l.set) l.i l.crossing.most;
  least : IsBoundOf (λ a. a.low) (λ a. a.cap) (g.N.Network.list l.network) (members l.set) l.i l.crossing.least;
}
