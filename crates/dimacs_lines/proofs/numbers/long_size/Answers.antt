use Rattle.std.proofs.Common.{◌≡◌, ◌-◌, take, get_or}
use Rattle.std.specs.Prelude.{min}
use Rattle.dimacs_lines.specs.Number.{place_sum}
use Rattle.dimacs_lines.proofs.NumberLemmas.{place_sum_more, min_more}
use Rattle.dimacs_lines.proofs.numbers.long_size.Goals as goal

pub loop-b-preserved : goal.loop-b-preserved
loop-b-preserved c =
    let digits = c.args.digits.now in
    let i = c.loop-b.b-index in
    let more = place_sum_more digits i c.loop-b-test.true in
    let step = min_more (place_sum (take i digits)) (get_or digits i 0 - 48) 1000000000000000000000000000001 in
    let so_far : c.loop-b.total ≡ min (place_sum (take i digits)) 1000000000000000000000000000001 = c.loop-b.invariant in
    cc
