use Rattle.std.proofs.{Common.{Some, ◌∙◌, ap, rules, w64}, lemmas.Int.{to_z-of_z}}
use Rattle.std.specs.Int.{w128}
use Rattle.dimacs_judging.proofs.NodeLabelLemmas.{fault_between}
use Rattle.dimacs_judging.proofs.relaxing.arc_fault.Goals as goal

pub returns : goal.returns
returns g c =
    let value = g.D.Distance.value in
    fault_between c.args.block.now.radius _ _ _ _ _ _ c.relax_fault_from.result (ap (λ d. Some d) (to_z-of_z w128 c.in_ok-from.from (search rules)) ∙ (c.in_ok-from.ensures ∙ ap (λ m. value m.dist) c.get.ensures.value))
    (c.distance_in-to.ensures ∙ ap (λ m. value m.dist) c.get-2.ensures.value) (to_z-of_z w64 c.args.weight (search rules)) (rw c.radius.ensures at c.relax_fault_from.ensures)
