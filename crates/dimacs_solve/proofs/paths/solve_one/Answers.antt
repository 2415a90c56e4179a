use Rattle.dimacs_solve.proofs.paths.solve_one.Goals as goal

pub push-requires-clause-source : goal.push-requires-clause-source
push-requires-clause-source g c = c.requires.new c.in_ok-block.block c.in_ok-block.ensures.tree.from
