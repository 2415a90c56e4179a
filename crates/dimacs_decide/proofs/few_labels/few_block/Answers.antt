use Rattle.dimacs_decide.proofs.few_labels.few_block.Goals.{in-Some+in_ok-found-in-Some, in-None+in_ok-found-in-None}
use Rattle.dimacs_decide.proofs.few_labels.few_block.Goals as goal

pub returns-clause-block : goal.returns-clause-block
returns-clause-block g c =
    rw c.in_ok-block.ensures.block (elim c.match-lightest-2.branch [
      | in-Some+in_ok-found-in-Some w ↦ rw (← w.found-is, c.in-Some-found.is) at w.in_ok-found-in-Some.ensures.block
      | in-None+in_ok-found-in-None w ↦ rw (← w.found-is, c.in-Some-found.is) at w.in_ok-found-in-None.ensures.block
    ])
