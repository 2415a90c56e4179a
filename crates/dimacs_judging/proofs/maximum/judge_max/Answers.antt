use Rattle.dimacs_claims.specs.SolutionTexts.{claimed}
use Rattle.dimacs_judging.proofs.maximum.judge_max.Goals as goal

pub returns : goal.returns
returns g c = c.judge_max_placed.ensures (claimed c.args.solution.now) c.in_ok-placed.ensures.placed
