use Rattle.std.proofs.Common.{sym}
use Rattle.dimacs_records.proofs.OrderLemmas.{first_allowed, first_missing}
use Rattle.dimacs_records.proofs.counted.test_first.Goals as goal

pub returns-then-is_problem-clause-allowed : goal.returns-then-is_problem-clause-allowed
returns-then-is_problem-clause-allowed c = first_allowed c.args.rec (sym c.if-is_problem.ensures)

pub returns-else-is_problem-clause-refused : goal.returns-else-is_problem-clause-refused
returns-else-is_problem-clause-refused c = λ needs. rw c.refused.ensures (first_missing c.args.rec (sym c.if-is_problem.ensures) needs)
