use Rattle.std.proofs.Common.{◌+◌, arith}
use Rattle.dimacs_claims.specs.Potentials.{potential_of}
use Rattle.dimacs_fill.specs.PotentialsFilled.{numbers_of}
use Rattle.dimacs_fill.proofs.FillLemmas.{each_node}
use Rattle.dimacs_fill.proofs.potentials.fill_numbers.Goals as goal

pub fill-requires : goal.fill-requires
fill-requires c = λ i within. (omega (arith, within, c.nodes.type_inv), c.requires (i + 1) (omega arith, omega (arith, within, c.nodes.ensures.nodes)))

pub returns : goal.returns
returns c = c.fill.ensures (numbers_of c.args.potentials.now) (each_node (potential_of c.args.potentials.now) _ _ c.args.potentials.now.nodes c.nodes.ensures.nodes (λ i x within e. e))
