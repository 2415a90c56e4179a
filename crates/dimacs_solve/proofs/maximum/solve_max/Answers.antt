use Rattle.dimacs_solve.proofs.maximum.solve_max.Goals as goal

pub max_solution-requires : goal.max_solution-requires
max_solution-requires g c = let outcome = rw c.in-Optimal.is at c.in_ok-flow.ensures in outcome.1.feasible

pub returns-in_ok-solution-in-Optimal : goal.returns-in_ok-solution-in-Optimal
returns-in_ok-solution-in-Optimal g c =
    let outcome = rw c.in-Optimal.is at c.in_ok-flow.ensures in
    let (entries, claim) = c.in_ok-solution-in-Optimal.ensures in
    (outcome.0, (entries, (c.in-Optimal.flow, record { claim = claim; nodes_are = outcome.3; tight = outcome.2 }, outcome.1)))
