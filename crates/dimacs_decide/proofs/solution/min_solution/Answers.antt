use Rattle.std.proofs.{Common.{rules, ◌≡◌, refl, sym}, lemmas.Int.{to_z-of_z}, lemmas.Slice.Zip.{AllZip-long}}
use Rattle.std.specs.Int.{w128}
use Rattle.dimacs_judging.specs.{Claims.{Carries}, Flows.{cost}, FlowTests.{cost_row}, Tests.{Clear}}
use Rattle.dimacs_decide.specs.Entries.{AreEntriesOf}
use Rattle.dimacs_judging.proofs.Passing.{costs_wide}
use Rattle.dimacs_decide.proofs.SolutionLemmas.{carried}
use Rattle.dimacs_decide.proofs.solution.min_solution.Goals as goal

pub cost_within-requires : goal.cost_within-requires
cost_within-requires g c = record { one_each = rw c.network-network.ensures.arcs (AllZip-long _ c.args.instance.now.arcs c.args.flow.now c.requires.within) }

pub entries_for-requires-clause-one_each : goal.entries_for-requires-clause-one_each
entries_for-requires-clause-one_each g c = rw c.network-network.ensures.arcs (AllZip-long _ c.args.instance.now.arcs c.args.flow.now c.requires.within)

pub returns-clause-some : goal.returns-clause-some
returns-clause-some g c =
    let i = c.args.instance.now in
    let x = c.args.flow.now in
    let es = c.in_ok-entries.entries.items in
    let outcome : (c.in-Ok.value ≡ cost i.arcs x) × Clear (cost_row i.arcs x) = rw c.network-network.ensures.arcs at c.in-Ok.ensures in
    let all : AreEntriesOf i.arcs es = rw c.network-network.ensures.arcs at c.in_ok-entries.ensures.all in
    let carries : Carries i.arcs es x = rw (← c.in_ok-entries.ensures.flows) (carried i.arcs es all) in
    rw (to_z-of_z w128 c.in-Ok.value (search rules)) (
      record { value_first = refl; all_arcs = all },
      record { carries = carries; feasible = c.requires; costs_wide = costs_wide i.arcs x outcome.1; cost_is = sym outcome.0 },
    )
