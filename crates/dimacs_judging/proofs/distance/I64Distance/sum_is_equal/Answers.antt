use Rattle.std.proofs.{Common.{◌≡◌, ◌∙◌, rules, w64}, lemmas.Int.{to_z-of_z}}
use Rattle.std.specs.Int.{w128}
use Rattle.dimacs_judging.proofs.DistanceLemmas.{sum_equal}
use Rattle.dimacs_judging.proofs.distance.I64Distance.sum_is_equal.Goals as goal

pub returns : goal.returns
returns c =
    let to : c.from.result ≡ c.args.to = c.from.ensures ∙ to_z-of_z w64 c.args.to c.ranges.to in
    let from : c.from-2.result ≡ c.args.self = c.from-2.ensures ∙ to_z-of_z w64 c.args.self c.ranges.self in
    let weight : c.from-3.result ≡ c.args.weight = c.from-3.ensures ∙ to_z-of_z w64 c.args.weight c.ranges.weight in
    rw (to, from, weight) (sum_equal w128 c.args.to c.args.self c.args.weight (search rules) (search rules) (search rules) (search rules))
