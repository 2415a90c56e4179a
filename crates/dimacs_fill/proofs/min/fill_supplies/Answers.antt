use Rattle.std.proofs.Common.{◌∙◌, map}
use Rattle.std.specs.List.{range_with_len}
use Rattle.dimacs_instance.specs.MinFlows.{supply_of}
use Rattle.dimacs_fill.proofs.FillLemmas.{each_node}
use Rattle.dimacs_fill.proofs.min.fill_supplies.Goals as goal

pub returns : goal.returns
returns g c =
    let supply = supply_of c.args.instance.now in
    c.fill.ensures (map supply (range_with_len 1 c.args.instance.now.nodes)) (each_node supply _ _ c.args.instance.now.nodes (c.nodes.ensures ∙ c.network.ensures.nodes) (λ i x within e. e))
