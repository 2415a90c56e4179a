use Rattle.dimacs_solve.proofs.spread.spread_min.Goals as goal

pub returns-clause-tested : goal.returns-clause-tested
returns-clause-tested g c = rw c.network.ensures.arcs at c.spread.ensures.tested

pub returns-clause-refused : goal.returns-clause-refused
returns-clause-refused g c = rw c.network.ensures.arcs at c.spread.ensures.refused
