use Rattle.std.proofs.{Common.{rules, ◌≡◌, ◌∙◌, sym, true, false}, lemmas.Int.{to_z-of_z}}
use Rattle.std.specs.Int.{w128}
use Rattle.dimacs_judging.specs.{Cuts.{members}, Feasible.{value}, inside.OnePass.{indicator}}
use Rattle.dimacs_judging.proofs.{OnePass.{tight_if_slack}, Passing.{feasible_max_holds, potentials_slack}}
use Rattle.dimacs_judging.proofs.totals.value_if_shown.Goals as goal

pub returns : goal.returns
returns g c =
    let i = c.args.instance.now in
    let x = c.args.flow.now in
    let set = members c.args.cut.now in
    let passed = rw (c.network.ensures.nodes, c.network.ensures.arcs) at c.in_ok-totals.ensures in
    let inside : set i.source ≡ true = rw c.source-source.ensures at (sym c.contains.ensures ∙ c.if-not-contains.false) in
    let outside : set i.sink ≡ false = rw c.sink.ensures at (sym c.contains-2.ensures ∙ c.if-contains.false) in
    let total = c.in_ok-totals.totals.balance in
    let is_value : total ≡ value i x = rw c.source-source.ensures at passed.balance_is in
    let slack = potentials_slack i.arcs (indicator set) x c.requires passed.clear.1.1.1.0 in (
      to_z-of_z w128 total (search rules) ∙ is_value,
      record {
        feasible = feasible_max_holds i x c.network.ensures.lawful c.requires (passed.clear.0, (passed.clear.1.0, tt));
        tight = record { source_inside = inside; sink_outside = outside; tight = tight_if_slack set i.arcs x c.network.ensures.lawful.capacities slack };
      },
    )
