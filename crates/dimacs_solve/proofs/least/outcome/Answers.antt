use Rattle.std.proofs.Common.{List, ℤ, subst}
use Rattle.dimacs_claims.specs.SolutionTexts.{claimed}
use Rattle.dimacs_judging.specs.Claims.{Carries}
use Rattle.dimacs_decide.specs.Entries.{IsMinSolutionOf}
use Rattle.dimacs_solve.proofs.least.outcome.Goals as goal

pub min_solution-requires : goal.min_solution-requires
min_solution-requires g c = c.requires.least.feasible

pub returns : goal.returns
returns g c = λ limit kept.
    let outcome : IsMinSolutionOf c.args.instance.now c.args.flow.now (claimed c.in-Some.solution) = rw c.in-Some.is at c.in_ok-solution.ensures.some in (
      outcome.0,
      (c.args.flow.now, record { claim = outcome.1; nodes_are = c.requires.nodes; slack = c.requires.slack }, c.requires.least),
      λ none. subst (λ (y : List ℤ). Carries c.args.instance.now.arcs c.in-Some.solution.entries.items y) (kept none) outcome.1.carries,
    )
