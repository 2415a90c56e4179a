use Rattle.dimacs_fill.specs.CutFilled.{byte_of, inside_of}
use Rattle.dimacs_fill.proofs.FillLemmas.{each_node}
use Rattle.dimacs_fill.proofs.cut.fill_inside.Goals as goal

pub returns : goal.returns
returns c = c.fill.ensures (inside_of c.args.cut.now) (each_node (byte_of c.args.cut.now) _ _ c.args.cut.now.nodes c.nodes.ensures (λ i x within e. e))
