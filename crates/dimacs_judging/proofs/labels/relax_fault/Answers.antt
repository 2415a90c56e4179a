use Rattle.std.proofs.{Common.{Some, ◌∙◌, ap, rules, w64}, lemmas.Int.{to_z-of_z}}
use Rattle.std.specs.Int.{w128}
use Rattle.dimacs_judging.proofs.NodeLabelLemmas.{fault_between}
use Rattle.dimacs_judging.proofs.labels.relax_fault.Goals as goal

pub returns : goal.returns
returns c =
    fault_between c.args.radius _ _ _ _ _ _ c.relax_fault_from.result (ap (λ d. Some d) (to_z-of_z w128 c.in_ok-from.from (search rules)) ∙ c.in_ok-from.ensures.label) c.label-2.ensures.label (to_z-of_z w64 c.args.arc.cost (search rules)) c.relax_fault_from.ensures
