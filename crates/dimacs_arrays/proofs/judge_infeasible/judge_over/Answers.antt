use Rattle.std.proofs.Common.{◌∙◌, ℕ, Bool, subst}
use Rattle.dimacs_arrays.specs.MinArrays.{JudgesInfeasible}
use Rattle.dimacs_arrays.proofs.InfeasibleLemmas.{judged_alone}
use Rattle.dimacs_arrays.proofs.judge_infeasible.judge_over.Goals as goal

pub returns : goal.returns
returns g c =
    let i = c.args.instance.now in
    let nodes = c.in_ok-set.ensures.nodes ∙ c.nodes.ensures ∙ c.network.ensures.nodes in
    subst (λ (set : ℕ → Bool). JudgesInfeasible i set c.judge_infeasible.result) c.in_ok-set.ensures.members (judged_alone i c.in_ok-set.set nodes c.judge_infeasible.result c.judge_infeasible.ensures.judges)
