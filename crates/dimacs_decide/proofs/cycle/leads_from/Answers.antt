use Rattle.std.proofs.Common.{rules, ◌≡◌, ◌<◌, pos, length, arith, ap, w64, ◌<ℤ◌, sym, ◌∙◌}
use Rattle.std.proofs.{lemmas.Int.{ints, to_z-of_z}, lemmas.Option.{get_or_from_slice_get}}
use Rattle.dimacs_network.specs.{AdjacencyLists.{end_of}, Arcs.{arc_at, no_arc}}
use Rattle.dimacs_decide.proofs.cycle.leads_from.Goals as goal

pub residual_capacity_from-requires-clause-arc_index : goal.residual_capacity_from-requires-clause-arc_index
residual_capacity_from-requires-clause-arc_index g c = omega (arith, c.if-residual-arcs.false, c.arcs.ensures)

pub returns-then-end_of-from : goal.returns-then-end_of-from
returns-then-end_of-from g c =
    let arcs = g.N.Network.list c.args.network.now in
    let r = c.args.residual in
    let within : r.arc < length arcs = omega (arith, c.if-residual-arcs.false, c.arcs.ensures) in
    let is : arc_at arcs r.arc ≡ c.arc.result = get_or_from_slice_get arcs r.arc c.arc.result no_arc c.arc.ensures in
    rw (to_z-of_z w64 c.residual_capacity_from.result (search rules)) (λ some. record {
      within = within;
      begins = ap (end_of r.side) is ∙ sym c.end_of.ensures ∙ c.if-end_of-from.true;
      residual_capacity = let more : pos 0 <ℤ c.residual_capacity_from.result = search rules in omega (arith, ints, more, c.residual_capacity_from.ensures);
    })
