use Rattle.std.proofs.{Common.{◌≡◌, ◌∙◌, rules, w32, w64}, lemmas.Int.{to_z-of_z}}
use Rattle.dimacs_judging.proofs.DistanceLemmas.{sum_equal}
use Rattle.dimacs_judging.proofs.distance.I32Distance.sum_is_equal.Goals as goal

pub returns : goal.returns
returns c =
    let to : c.from.result ≡ c.args.to = c.from.ensures ∙ to_z-of_z w32 c.args.to c.ranges.to in
    let from : c.from-2.result ≡ c.args.self = c.from-2.ensures ∙ to_z-of_z w32 c.args.self c.ranges.self in
    rw (to, from) (sum_equal w64 c.args.to c.args.self c.args.weight (search rules) (search rules) c.ranges.weight (search rules))
