use Rattle.std.proofs.{Common.{Err, is_some, sym, ap, ◌∙◌}, lemmas.Result.{err_from_is_err_and}}
use Rattle.dimacs_judging.proofs.RowLemmas.{weights_tests}
use Rattle.dimacs_judging.proofs.node_labels.test_weights_for.Goals as goal

pub returns-in_err-weights_hold-in-Untested-clause-tests : goal.returns-in_err-weights_hold-in-Untested-clause-tests
returns-in_err-weights_hold-in-Untested-clause-tests g c =
    let p = err_from_is_err_and c.from_residual.result c.from_residual.ensures.1 in
    let some = ap is_some (sym c.radius.ensures) ∙ c.if-is_none.ensures in
    rw (p.1, p.2) (weights_tests (g.N.Network.list c.args.network.now) c.args.block.now some (Err c.in_err-weights_hold-in-Untested.field-0.0) c.in_err-weights_hold-in-Untested.ensures)
