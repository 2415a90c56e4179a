use Rattle.std.proofs.Common.{refl, inl, inr}
use Rattle.dimacs_judging.specs.{Cuts.{members}, InfeasibleJudge.{infeasible_rows}, Tests.{AllClear}}
use Rattle.dimacs_judging.proofs.Duality.{violated_has_no_flow}
use Rattle.dimacs_judging.proofs.InfeasibleJudge.{infeasible_passes, infeasible_judged}
use Rattle.dimacs_judging.proofs.infeasible.judge_infeasible.Goals as goal

pub returns-in_err-nodes_agree-clause-judges : goal.returns-in_err-nodes_agree-clause-judges
returns-in_err-nodes_agree-clause-judges g c =
    let outcome = rw (c.nodes.ensures, c.network.ensures.nodes, c.nodes-2.ensures) at c.in_err-nodes_agree.ensures in
    infeasible_judged c.args.instance.now c.args.set.now _ (inl outcome) _ c.from_residual.ensures.1

pub returns-in_err-set_is_violated-clause-judges : goal.returns-in_err-set_is_violated-clause-judges
returns-in_err-set_is_violated-clause-judges g c =
    let nodes = rw (c.nodes.ensures, c.network.ensures.nodes, c.nodes-2.ensures) at c.in_ok-nodes_agree.ensures in
    infeasible_judged c.args.instance.now c.args.set.now _ (inr (nodes, inl c.in_err-set_is_violated.ensures)) _ c.from_residual-in_err-set_is_violated.ensures.1

pub returns-clause-judges : goal.returns-clause-judges
returns-clause-judges g c =
    let i = c.args.instance.now in
    let set = c.args.set.now in
    let clear : AllClear (infeasible_rows i set) = (rw (c.nodes.ensures, c.network.ensures.nodes, c.nodes-2.ensures) at c.in_ok-nodes_agree.ensures, (c.in_ok-set_is_violated.ensures, tt)) in
    let passes = infeasible_passes i set clear in
    (clear, (passes, violated_has_no_flow i c.network.ensures.lawful.joined (members set) passes.violated), refl)
