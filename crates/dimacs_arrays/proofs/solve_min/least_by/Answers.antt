use Rattle.std.proofs.{Common.{◌∙◌, rules}, lemmas.Int.{to_z-of_z}, lemmas.Slice.Zip.{AllZip-long}}
use Rattle.std.specs.Int.{w128}
use Rattle.dimacs_arrays.proofs.CertifyLemmas.{min_by, min_by_wider}
use Rattle.dimacs_arrays.proofs.solve_min.least_by.Goals as goal

pub cost_within-requires : goal.cost_within-requires
cost_within-requires g c = record { one_each = rw c.network.ensures.arcs (AllZip-long _ c.args.instance.now.arcs c.args.flow c.requires.least.feasible.within) }

pub returns-in-Some : goal.returns-in-Some
returns-in-Some g c = λ limit kept.
    let outcome = rw c.network.ensures.arcs at c.in-Ok.ensures in
    let (shift, are) = rw c.in-Some.is at c.in_ok-numbers.ensures.numbers in
    (min_by c.args.instance.now c.args.flow c.args.potentials _ c.in-Some.numbers.items c.network.ensures.lawful.joined c.requires.least outcome.1 c.requires.slack c.requires.nodes (to_z-of_z w128 c.in-Ok.cost (search rules) ∙ outcome.0) shift are, kept)

pub returns-in-None : goal.returns-in-None
returns-in-None g c = λ limit kept.
    let outcome = rw c.network.ensures.arcs at c.in-Ok.ensures in
    let wider = rw c.in-None.is at c.in_ok-numbers.ensures.wider in
    (min_by_wider c.args.instance.now c.args.flow c.args.potentials _ c.requires.least outcome.1 c.requires.slack c.requires.nodes (to_z-of_z w128 c.in-Ok.cost (search rules) ∙ outcome.0) wider, kept)
