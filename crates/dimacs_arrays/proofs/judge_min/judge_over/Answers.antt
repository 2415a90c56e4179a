use Rattle.std.proofs.Common.{ℕ, List, ℤ, subst}
use Rattle.dimacs_claims.specs.Potentials.{potential_of}
use Rattle.dimacs_arrays.specs.MinArrays.{JudgesMinFlow}
use Rattle.dimacs_arrays.proofs.judge_min.judge_over.Goals as goal

pub returns : goal.returns
returns g c =
    let i = c.args.instance.now in
    let result = c.judge_min_flow.result in
    let of_flow = subst (λ (x : List ℤ). JudgesMinFlow i x (potential_of c.in_ok-potentials.potentials) result) c.in_ok-flow.ensures c.judge_min_flow.ensures in
    subst (λ (p : ℕ → ℤ). JudgesMinFlow i c.args.flows.now p result) c.in_ok-potentials.ensures.numbers of_flow
