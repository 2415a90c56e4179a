use Rattle.std.proofs.Common.{◌∙◌, List, Some, ap, subst}
use Rattle.dimacs_network.specs.declared.network.ArcView.{ArcView}
use Rattle.dimacs_arrays.specs.SolutionArrays.{ClaimsOver}
use Rattle.dimacs_arrays.proofs.SolutionLemmas.{out_of_memory, read_claims, read_fault}
use Rattle.dimacs_arrays.proofs.solution.read_over.Goals as goal

pub returns-in_err-places : goal.returns-in_err-places
returns-in_err-places g c = out_of_memory c.args.text.now c.args.graph.now.arcs _ c.from_residual.ensures.1

pub returns-in-Ok : goal.returns-in-Ok
returns-in-Ok g c =
    let same = c.in-Ok.ensures.fixed ∙ c.in_ok-places.ensures.network ∙ c.network.ensures.arcs in
    read_claims _ c.args.text.now c.args.graph.now.arcs c.in-Ok.placed _ (c.in-Ok.ensures.reads c.args.text.now (ap Some c.new-2.ensures))
    (λ s placed. subst (λ (arcs : List ArcView). ClaimsOver arcs s c.claimed_flow.result) same (c.claimed_flow.ensures s placed))

pub returns-in-Err : goal.returns-in-Err
returns-in-Err g c = rw c.refusal.ensures (read_fault _ c.args.text.now c.args.graph.now.arcs c.in-Err.error (c.in-Err.ensures.reads c.args.text.now (ap Some c.new-2.ensures)))
