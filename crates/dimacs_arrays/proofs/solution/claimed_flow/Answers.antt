use Rattle.std.proofs.{Common.{ℤ, subst, rules}, lemmas.Int.{to_z-of_z}}
use Rattle.std.specs.Int.{w128}
use Rattle.dimacs_records.specs.Ranges.{IsWhole}
use Rattle.dimacs_arrays.proofs.SolutionLemmas.{entry_refused, value_refused}
use Rattle.dimacs_arrays.proofs.solution.claimed_flow.Goals as goal

pub returns-in_err-flow : goal.returns-in_err-flow
returns-in_err-flow g c = λ s placed.
    entry_refused c.args.placed.now.place.arcs s _ _ (c.in_err-flow.ensures.first s.entries placed.entries) _ c.from_residual.ensures.1

pub returns-in-None : goal.returns-in-None
returns-in-None g c = λ s placed.
    let off = subst (λ (v : ℤ). ¬ IsWhole v) placed.value_is (rw (to_z-of_z w128 c.args.placed.now.value (search rules)) at c.in-None.ensures.none) in
    rw (c.past_64_bits.ensures, placed.line_is) (value_refused c.args.placed.now.place.arcs s _ (c.in_ok-flow.ensures.carried s.entries placed.entries) off)
