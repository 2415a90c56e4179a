use Rattle.std.proofs.{Common.{◌∙◌, rules, subst}, lemmas.Int.{to_z-of_z}, lemmas.Slice.Zip.{AllZip-long}}
use Rattle.std.specs.Int.{w128}
use Rattle.dimacs_claims.specs.Cuts.{CutValue, IsCut}
use Rattle.dimacs_arrays.proofs.CertifyLemmas.{max_by}
use Rattle.dimacs_arrays.proofs.solve_max.solve_over.Goals as goal

pub bytes_of-requires : goal.bytes_of-requires
bytes_of-requires g c = subst (λ (k : CutValue). IsCut k) c.cut.view_is c.cut.invariant.0

pub value_of-requires : goal.value_of-requires
value_of-requires g c = let outcome = rw c.in-Optimal.is at c.in_ok-flow.ensures in AllZip-long _ c.args.instance.now.arcs c.in-Optimal.flow outcome.1.feasible.within

pub returns-in_ok-inside-in-Optimal : goal.returns-in_ok-inside-in-Optimal
returns-in_ok-inside-in-Optimal g c =
    let outcome = rw c.in-Optimal.is at c.in_ok-flow.ensures in
    let bytes = c.in_ok-inside-in-Optimal in
    (outcome.0, max_by c.args.instance.now c.in-Optimal.flow c.in-Optimal.cut _ bytes.inside.items outcome.1 outcome.2 outcome.3 (to_z-of_z w128 c.value_of.result (search rules) ∙ c.value_of.ensures) bytes.ensures.one_each bytes.ensures.marked bytes.ensures.bits)
