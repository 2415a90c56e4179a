use Rattle.std.proofs.Common.{[], refl, subst}
use Rattle.dimacs_instance.specs.MinFlows.{MinValue, IsMin}
use Rattle.dimacs_judging.specs.Tests.{Settles}
use Rattle.dimacs_arrays.specs.declared.certify_infeasible.InfeasibleCertified.{InfeasibleCertified}
use Rattle.dimacs_arrays.specs.declared.min.MinArrays.{MinArrays}
use Rattle.dimacs_arrays.specs.MinArrays.{CertifiesInfeasible, min_lengths, min_limits, min_spelled}
use Rattle.dimacs_arrays.proofs.{AnswerLemmas.{Call, call_tells, call_tells_limit}, MinLemmas.{min_clear, min_one_way}}
use Rattle.dimacs_arrays.proofs.certify_infeasible.certify_infeasible_arrays.Goals as goal

abbrev call : MinArrays → Call InfeasibleCertified MinValue
call a = record { lengths = min_lengths a; claim_lengths = []; limits = min_limits a; spelled = min_spelled a; lawful = IsMin; answers = λ i. Settles (CertifiesInfeasible i) [] }

pub returns-in_err-instance : goal.returns-in_err-instance
returns-in_err-instance c =
    call_tells_limit (call c.args.arrays.now) c.in_ok-lengths_hold.ensures refl (min_one_way c.args.arrays.now) (min_clear c.args.arrays.now) _ c.in_err-instance.ensures _ c.from_residual-in_err-instance.ensures.1

pub returns : goal.returns
returns c =
    let law : IsMin c.in_ok-instance.instance = subst (λ (m : MinValue). IsMin m) c.instance-2.view_is c.instance-2.invariant in
    call_tells (call c.args.arrays.now) c.in_ok-lengths_hold.ensures refl c.in_ok-instance.instance c.in_ok-instance.ensures law _ c.in_ok-certify_over.ensures
