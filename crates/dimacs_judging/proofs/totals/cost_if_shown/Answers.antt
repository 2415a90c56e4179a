use Rattle.std.proofs.{Common.{rules, ◌∙◌, SFits}, lemmas.Int.{to_z-of_z}}
use Rattle.std.specs.Int.{w128}
use Rattle.dimacs_claims.specs.Potentials.{potential_of}
use Rattle.dimacs_judging.proofs.Passing.{costs_wide, feasible_min_holds, potentials_slack}
use Rattle.dimacs_judging.proofs.totals.cost_if_shown.Goals as goal

pub returns : goal.returns
returns g c =
    let passed = rw (c.network.ensures.nodes, c.network.ensures.arcs) at c.in_ok-totals.ensures in
    let fits : SFits w128 c.in_ok-totals.totals.cost = search rules in (
      to_z-of_z w128 c.in_ok-totals.totals.cost fits ∙ passed.cost_is,
      record {
        feasible = feasible_min_holds _ _ c.requires (passed.clear.0, (passed.clear.1.0, tt));
        costs_wide = costs_wide c.args.instance.now.arcs _ passed.clear.1.1.0;
        slack = potentials_slack c.args.instance.now.arcs (potential_of c.args.potentials.now) _ c.requires passed.clear.1.1.1.0;
      },
    )
