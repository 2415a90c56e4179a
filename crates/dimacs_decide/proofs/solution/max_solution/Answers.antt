use Rattle.std.proofs.{Common.{rules, refl, sym}, lemmas.Int.{to_z-of_z}, lemmas.Slice.Zip.{AllZip-long}}
use Rattle.std.specs.Int.{w128}
use Rattle.dimacs_judging.specs.Claims.{Carries}
use Rattle.dimacs_decide.specs.Entries.{AreEntriesOf}
use Rattle.dimacs_decide.proofs.SolutionLemmas.{carried}
use Rattle.dimacs_decide.proofs.solution.max_solution.Goals as goal

pub value_of-value-requires : goal.value_of-value-requires
value_of-value-requires g c = AllZip-long _ c.args.instance.now.arcs c.args.flow.now c.requires.within

pub entries_for-requires-clause-one_each : goal.entries_for-requires-clause-one_each
entries_for-requires-clause-one_each g c = rw c.network.ensures.arcs (AllZip-long _ c.args.instance.now.arcs c.args.flow.now c.requires.within)

pub returns : goal.returns
returns g c =
    let i = c.args.instance.now in
    let x = c.args.flow.now in
    let es = c.in_ok-entries.entries.items in
    let all : AreEntriesOf i.arcs es = rw c.network.ensures.arcs at c.in_ok-entries.ensures.all in
    let carries : Carries i.arcs es x = rw (← c.in_ok-entries.ensures.flows) (carried i.arcs es all) in
    rw (to_z-of_z w128 c.value_of-value.result (search rules)) (
      record { value_first = refl; all_arcs = all },
      record { carries = carries; feasible = c.requires; value_is = sym c.value_of-value.ensures },
    )
