use Rattle.std.proofs.{Common.{Ok, SFits, refl, rules}, lemmas.Int.{to_z-of_z}, lemmas.Result.{err_from_is_err_and}}
use Rattle.std.specs.Int.{w128}
use Rattle.dimacs_claims.specs.SolutionTexts.{SolutionValue}
use Rattle.dimacs_runs.specs.inside.Outcomes.{DealsOut}
use Rattle.dimacs_runs.proofs.SpreadLemmas.{refusal_spreads, solution_alike}
use Rattle.dimacs_runs.proofs.spread.answer_spread.Goals as goal

pub returns-in_err-flow-clause-spreads : goal.returns-in_err-flow-clause-spreads
returns-in_err-flow-clause-spreads g c = λ kind s value deals.
    let (stop, is, same) = err_from_is_err_and c.from_residual.result c.from_residual.ensures.1 in
    rw (is, same) (refusal_spreads (g.N.Network.list c.args.network.now) s kind _ (rw c.in_err-flow.was at deals))

pub returns-clause-spreads : goal.returns-clause-spreads
returns-clause-spreads g c = λ kind s value deals.
    let entries = c.in_ok-entries in
    let arcs = g.N.Network.list c.args.network.now in
    let dealt : DealsOut kind arcs s (Ok c.in_ok-flow.flow) = rw c.in_ok-flow.was at deals in
    let solution : SolutionValue = record { value = c.args.value; value_line = 1; entries = entries.entries.items } in
    let fits : SFits w128 c.args.value = search rules in
    rw (c.with_text.ensures, to_z-of_z w128 c.args.value fits) (solution_alike arcs s kind _
    (dealt.0, (c.in_ok-flow.flow, dealt.1, dealt.2, solution, record { value = value; all_arcs = record { value_first = refl; all_arcs = entries.ensures.all }; flows = entries.ensures.flows }, refl)))
