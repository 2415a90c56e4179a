use Rattle.dimacs_claims.specs.SolutionTexts.{claimed}
use Rattle.dimacs_judging.proofs.least.judge_min.Goals as goal

pub returns : goal.returns
returns g c = c.judge_min_placed.ensures (claimed c.args.solution.now) c.in_ok-placed.ensures.placed
