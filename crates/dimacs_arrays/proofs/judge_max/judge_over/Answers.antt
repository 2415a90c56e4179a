use Rattle.dimacs_arrays.proofs.judge_max.judge_over.Goals as goal

pub returns : goal.returns
returns g c = rw (c.in_ok-flow.ensures, c.in_ok-cut.ensures.members) at c.judge_max_flow.ensures
