use Rattle.std.proofs.{Common.{rules}, lemmas.Int.{to_z-of_z}, lemmas.Result.{err_from_is_err_and}}
use Rattle.std.specs.Int.{w128}
use Rattle.dimacs_decide.specs.{declared.least.MinDecision.TheVariants.{Better, Optimal}, CertifiedMin.{CertifiesMin}}
use Rattle.dimacs_runs.proofs.CertifyingLemmas.{least_error, potentials_certify}
use Rattle.dimacs_runs.proofs.certify.answer_least.Goals as goal

-- a better flow is feasible, whichever solution was placed
pub refuse_least-requires : goal.refuse_least-requires
refuse_least-requires g c =
    let (s, placed, lawful) = c.requires.placed in
    let decided : CertifiesMin c.args.instance.now s (Better c.in-Better.flow) = rw c.in-Better.is at (c.in_ok-potentials.ensures s placed) in
    let (x, improved) = decided in
    improved.feasible

pub returns-in-Optimal-clause-certifies : goal.returns-in-Optimal-clause-certifies
returns-in-Optimal-clause-certifies g c = λ s placed.
    let decided : CertifiesMin c.args.instance.now s (Optimal c.in-Optimal.potentials) = rw c.in-Optimal.is at (c.in_ok-potentials.ensures s placed) in
    rw (c.certified.ensures.outcome, to_z-of_z w128 c.args.placed.now.value (search rules)) (potentials_certify c.args.instance.now s c.in-Optimal.potentials c.args.placed.now.value placed.value_is decided c.certified.ensures.readable)

pub returns-in-Better-clause-certifies : goal.returns-in-Better-clause-certifies
returns-in-Better-clause-certifies g c = λ s placed.
    let decided : CertifiesMin c.args.instance.now s (Better c.in-Better.flow) = rw c.in-Better.is at (c.in_ok-potentials.ensures s placed) in
    let (x, improved) = decided in
    c.refuse_least.ensures.certifies s x improved placed.line_is

pub returns-in_err-potentials-clause-certifies : goal.returns-in_err-potentials-clause-certifies
returns-in_err-potentials-clause-certifies g c = λ s placed.
    let (stop, is, same) = err_from_is_err_and c.from_residual.result c.from_residual.ensures.1 in
    rw (is, same) (least_error c.args.instance.now s _ (c.in_err-potentials.ensures s placed))
