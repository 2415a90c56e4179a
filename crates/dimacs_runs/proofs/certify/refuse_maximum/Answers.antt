use Rattle.std.proofs.{Common.{arith, refl}, lemmas.Int.{ints}}
use Rattle.dimacs_claims.specs.SolutionTexts.{canonical_solution, claimed}
use Rattle.dimacs_runs.specs.Certified.{IsGreaterText}
use Rattle.dimacs_runs.proofs.CertifyingLemmas.{greater_certifies}
use Rattle.dimacs_runs.proofs.certify.refuse_maximum.Goals as goal

pub returns-clause-certifies : goal.returns-clause-certifies
returns-clause-certifies g c = λ s x improved line.
    let i = c.args.instance.now in
    let solution = c.in_ok-solution.solution in
    let says : IsGreaterText i s (canonical_solution (claimed solution)) = (
      x,
      c.improve_max-flow.result,
      record { claim = improved.claim; not_maximum = improved.not_maximum; feasible = c.improve_max-flow.ensures.feasible; greater = omega (arith, ints, improved.greater, c.improve_max-flow.ensures.value) },
      claimed solution,
      c.in_ok-solution.ensures,
      refl,
    ) in
    rw c.with_text.ensures (greater_certifies i c.requires.lawful s solution c.at_value.result (rw (c.at_value.ensures, line) refl) says)
