use Rattle.std.proofs.Common.{◌≡◌, arith, take}
use Rattle.dimacs_lines.specs.Number.{place_sum}
use Rattle.dimacs_lines.proofs.NumberLemmas.{place_sum_more, place_sum-short}
use Rattle.dimacs_lines.proofs.numbers.short_size.Goals as goal

pub overflow_mul-total : goal.overflow_mul-total
overflow_mul-total c =
    let small = place_sum-short c.args.digits.now c.loop-b.b-index c.requires.digits c.requires.short c.loop-b-test.true in
    let so_far : c.loop-b.total ≡ place_sum (take c.loop-b.b-index c.args.digits.now) = c.loop-b.invariant in
    omega arith

pub overflow_add-total : goal.overflow_add-total
overflow_add-total c =
    let small = place_sum-short c.args.digits.now c.loop-b.b-index c.requires.digits c.requires.short c.loop-b-test.true in
    let so_far : c.loop-b.total ≡ place_sum (take c.loop-b.b-index c.args.digits.now) = c.loop-b.invariant in
    omega arith

pub loop-b-preserved : goal.loop-b-preserved
loop-b-preserved c =
    let more = place_sum_more c.args.digits.now c.loop-b.b-index c.loop-b-test.true in
    let so_far : c.loop-b.total ≡ place_sum (take c.loop-b.b-index c.args.digits.now) = c.loop-b.invariant in
    cc
