use Rattle.std.proofs.Common.{refl, inl, inr}
use Rattle.dimacs_claims.specs.SolutionTexts.{claimed}
use Rattle.dimacs_decide.specs.Entries.{IsMinSolutionOf}
use Rattle.dimacs_judging.specs.FlowTests.{LeavesCostRange}
use Rattle.dimacs_runs.proofs.CertifyingLemmas.{cheaper_certifies, no_solution_certifies}
use Rattle.dimacs_runs.proofs.certify.refuse_least.Goals.{in-Some, in-None}
use Rattle.dimacs_runs.proofs.certify.refuse_least.Goals as goal

pub returns-clause-certifies : goal.returns-clause-certifies
returns-clause-certifies g c = λ s x improved line.
    let i = c.args.instance.now in
    let y = c.args.flow.now in
    elim c.match-branch-2.branch [
      | in-Some w ↦
          let solution = w.in-Some.solution in
          let claims : IsMinSolutionOf i y (claimed solution) = rw w.in-Some.is at c.in_ok-solution.ensures.some in
          rw (c.with_text.ensures, w.text-is) (cheaper_certifies i s solution c.at_value.result (rw (c.at_value.ensures, line) refl) (x, y, improved, inl (claimed solution, claims, refl)))
      | in-None w ↦
          let beyond : LeavesCostRange i.arcs y = rw w.in-None.is at c.in_ok-solution.ensures.none in
          rw (c.with_text.ensures, w.text-is) (no_solution_certifies i s c.at_value.result (rw (c.at_value.ensures, line) refl) (x, y, improved, inr (beyond, refl)))
    ]
