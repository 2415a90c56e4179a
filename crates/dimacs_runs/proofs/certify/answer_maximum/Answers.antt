use Rattle.std.proofs.{Common.{rules}, lemmas.Int.{to_z-of_z}, lemmas.Result.{err_from_is_err_and}}
use Rattle.std.specs.Int.{w128}
use Rattle.dimacs_decide.specs.{declared.maximum.MaxDecision.TheVariants.{Better, Optimal}, CertifiedMax.{CertifiesMax}}
use Rattle.dimacs_runs.proofs.CertifyingLemmas.{cut_certifies, maximum_error}
use Rattle.dimacs_runs.proofs.certify.answer_maximum.Goals as goal

-- a better flow is feasible, whichever solution was placed
pub refuse_maximum-requires : goal.refuse_maximum-requires
refuse_maximum-requires g c =
    let (s, placed, lawful) = c.requires.placed in
    let decided : CertifiesMax c.args.instance.now s (Better c.in-Better.flow) = rw c.in-Better.is at (c.in_ok-cut.ensures s placed) in
    let (x, improved) = decided in
    record { lawful = c.requires.lawful; feasible = improved.feasible }

pub returns-in-Optimal-clause-certifies : goal.returns-in-Optimal-clause-certifies
returns-in-Optimal-clause-certifies g c = λ s placed.
    let decided : CertifiesMax c.args.instance.now s (Optimal c.in-Optimal.cut) = rw c.in-Optimal.is at (c.in_ok-cut.ensures s placed) in
    rw (c.certified.ensures.outcome, to_z-of_z w128 c.args.placed.now.value (search rules)) (cut_certifies c.args.instance.now c.requires.lawful s c.in-Optimal.cut c.args.placed.now.value placed.value_is decided c.certified.ensures.readable)

pub returns-in-Better-clause-certifies : goal.returns-in-Better-clause-certifies
returns-in-Better-clause-certifies g c = λ s placed.
    let decided : CertifiesMax c.args.instance.now s (Better c.in-Better.flow) = rw c.in-Better.is at (c.in_ok-cut.ensures s placed) in
    let (x, improved) = decided in
    c.refuse_maximum.ensures.certifies s x improved placed.line_is

pub returns-in_err-cut-clause-certifies : goal.returns-in_err-cut-clause-certifies
returns-in_err-cut-clause-certifies g c = λ s placed.
    let (stop, is, same) = err_from_is_err_and c.from_residual.result c.from_residual.ensures.1 in
    rw (is, same) (maximum_error c.args.instance.now c.requires.lawful s _ (c.in_err-cut.ensures s placed))
