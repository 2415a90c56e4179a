use Rattle.dimacs_solve.proofs.descend.solve_min_flow.Goals as goal

pub returns-in-Some : goal.returns-in-Some
returns-in-Some g c = (rw c.in-Some.is at c.in_ok-end.ensures) c.args.limit c.if-limit-gt0.true
