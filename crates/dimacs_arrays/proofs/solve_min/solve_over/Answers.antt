use Rattle.dimacs_judging.specs.InfeasibleJudge.{ShowsNoFlow}
use Rattle.dimacs_solve.specs.{Descending.{Descends}, declared.answer.MinFlowAnswer.TheVariants.{Optimal}}
use Rattle.dimacs_arrays.proofs.SolveLemmas.{infeasible_by}
use Rattle.dimacs_arrays.proofs.solve_min.solve_over.Goals as goal

pub returns-in_ok-least_by-in-Optimal : goal.returns-in_ok-least_by-in-Optimal
returns-in_ok-least_by-in-Optimal g c =
    let outcome : Descends c.args.instance.now c.args.limit (Optimal c.in-Optimal.flow c.in-Optimal.potentials) = rw c.in-Optimal.is at c.in_ok-flow.ensures in
    c.in_ok-least_by-in-Optimal.ensures c.args.limit outcome.3

pub returns-in_ok-bytes_of-in-Infeasible : goal.returns-in_ok-bytes_of-in-Infeasible
returns-in_ok-bytes_of-in-Infeasible g c =
    let outcome : ShowsNoFlow c.args.instance.now c.in-Infeasible.set = rw c.in-Infeasible.is at c.in_ok-flow.ensures in
    let bytes = c.in_ok-bytes_of-in-Infeasible in
    infeasible_by c.args.instance.now c.in-Infeasible.set bytes.field-0.items outcome bytes.ensures.one_each bytes.ensures.marked bytes.ensures.bits
