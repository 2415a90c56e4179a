use Rattle.std.proofs.{Common.{◌∙◌, ap, List, ℤ, subst, rules}, lemmas.Int.{to_z-of_z}}
use Rattle.std.specs.Int.{w128}
use Rattle.dimacs_claims.specs.Cuts.{CutValue, IsCut}
use Rattle.dimacs_judging.specs.{Feasible.{FeasibleMax, value}, FlowTests.{feasible_max_rows}, Tests.{Refutes}}
use Rattle.dimacs_judging.proofs.Settling.{refuted_settles}
use Rattle.dimacs_decide.specs.{declared.maximum.MaxDecision.{MaxDecision}, MaxDecision.{DecidesMax}}
use Rattle.dimacs_decide.specs.declared.maximum.MaxDecision.TheVariants.{Optimal}
use Rattle.dimacs_arrays.specs.MaxArrays.{CertifiesMaxFlow}
use Rattle.dimacs_arrays.proofs.CertifyLemmas.{max_by, max_feasible}
use Rattle.dimacs_arrays.proofs.certify_max.certify_over.Goals as goal

pub returns-in_err-feasible_max : goal.returns-in_err-feasible_max
returns-in_err-feasible_max g c =
    let i = c.args.instance.now in
    let outcome = subst (λ (y : List ℤ). Refutes (λ (done : Unit {0}). FeasibleMax i y) (feasible_max_rows i y) c.in_err-feasible_max.field-0.0) c.in_ok-flow.ensures c.in_err-feasible_max.ensures in
    refuted_settles (λ (done : Unit {0}). FeasibleMax i _) (CertifiesMaxFlow i _) (feasible_max_rows i _) (max_feasible i _) _ outcome _ c.from_residual-in_err-feasible_max.ensures.1

pub bytes_of-requires : goal.bytes_of-requires
bytes_of-requires g c = subst (λ (k : CutValue). IsCut k) c.cut.view_is c.cut.invariant.0

pub returns : goal.returns
returns g c =
    let i = c.args.instance.now in
    let outcome = subst (λ (d : MaxDecision). DecidesMax i c.in_ok-flow.flow d) c.in-Optimal.is c.in_ok-better.ensures in
    let decided = subst (λ (y : List ℤ). DecidesMax i y (Optimal c.in-Optimal.cut)) c.in_ok-flow.ensures outcome in
    let bytes = c.in_ok-bytes_of-in-Optimal in
    let total = to_z-of_z w128 c.value_of.result (search rules) ∙ c.value_of.ensures ∙ ap (value i) c.in_ok-flow.ensures in
    max_by i c.args.flows.now c.in-Optimal.cut _ bytes.field-0.items decided.0 decided.1 decided.2 total bytes.ensures.one_each bytes.ensures.marked bytes.ensures.bits
