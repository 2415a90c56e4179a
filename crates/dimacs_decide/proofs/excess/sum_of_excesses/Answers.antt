use Rattle.std.proofs.{Common.{rules, ◌≡◌, ◌+ℤ◌, pos, arith, SFits, to_z}, lemmas.Int.{ints, to_z-of_z}}
use Rattle.std.specs.Int.{w128}
use Rattle.dimacs_instance.specs.MinFlows.{positive_part}
use Rattle.dimacs_network.specs.Tables.{value_of}
use Rattle.dimacs_decide.proofs.ExcessLemmas.{excess_more, excess_none, excess_skipped}
use Rattle.dimacs_decide.proofs.excess.sum_of_excesses.Goals as goal

pub loop-id-init : goal.loop-id-init
loop-id-init c = record { low = omega arith; within = omega arith; is = excess_none (value_of c.args.imbalance.now) }

pub overflow_add-sum : goal.overflow_add-sum
overflow_add-sum c =
    let id = c.loop-id.id in
    let imbalance = value_of c.args.imbalance.now in
    let sum = to_z w128 c.loop-id.sum-bits in
    let more : c.excess_of-sum.result ≡ pos (positive_part (imbalance id)) = rw (to_z-of_z w128 c.get.result (search rules), c.get.ensures.value) at c.excess_of-sum.ensures in
    let next = excess_more imbalance id sum c.loop-id.invariant.low (c.requires.sizes id) c.loop-id.invariant.is in
    rw (to_z-of_z w128 c.excess_of-sum.result (search rules)) (omega (arith, ints, more, next.least, next.most, c.loop-id-test.true, c.requires.node_limit))

pub loop-id-preserved : goal.loop-id-preserved
loop-id-preserved c =
    let id = c.loop-id.id in
    let imbalance = value_of c.args.imbalance.now in
    let sum = to_z w128 c.loop-id.sum-bits in
    let more : c.excess_of-sum.result ≡ pos (positive_part (imbalance id)) = rw (to_z-of_z w128 c.get.result (search rules), c.get.ensures.value) at c.excess_of-sum.ensures in
    let next = excess_more imbalance id sum c.loop-id.invariant.low (c.requires.sizes id) c.loop-id.invariant.is in
    let fits_sum : SFits w128 (sum +ℤ c.excess_of-sum.result) = omega (arith, ints, more, next.least, next.most, c.loop-id-test.true, c.requires.node_limit) in
    let skip = c.next_nonzero-id.ensures in
    record {
      low = omega (arith, skip.onward);
      within = skip.within;
      is = excess_skipped imbalance _ _ _ _ (omega arith) skip (rw (to_z-of_z w128 c.excess_of-sum.result (search rules), to_z-of_z w128 (sum +ℤ c.excess_of-sum.result) fits_sum, more) next);
    }
