use Rattle.std.proofs.{Common.{◌≡◌, pos, ◌<ℤ◌, arith}, lemmas.Int.{ints}}
use Rattle.dimacs_network.specs.Tables.{value_of}
use Rattle.dimacs_decide.proofs.FeasibleLemmas.{signs_even, signs_none, signs_deficit, signs_skipped}
use Rattle.dimacs_decide.proofs.imbalance.imbalance_signs.Goals.{then-amount-lt0, else-amount-lt0}
use Rattle.dimacs_decide.proofs.imbalance.imbalance_signs.Goals as goal

pub loop-id-init : goal.loop-id-init
loop-id-init c = record { low = omega arith; within = omega arith; are = signs_none c.args.nodes (value_of c.args.imbalance.now) }

pub loop-id-preserved : goal.loop-id-preserved
loop-id-preserved c =
    let imbalance = value_of c.args.imbalance.now in
    let id = c.loop-id.id in
    let low = c.loop-id.invariant.low in
    let skip = c.next_nonzero-id.ensures in
    elim c.if-amount-lt0.branch [
      | then-amount-lt0 w ↦
          let less : imbalance id <ℤ pos 0 = omega (arith, ints, c.get-amount.ensures.value, w.if-amount-lt0.true) in
          record { low = omega (arith, skip.onward); within = skip.within; are = rw w.signs-is (signs_skipped _ _ _ _ imbalance _ skip (signs_deficit _ id imbalance c.loop-id.signs c.loop-id.invariant.are (low, omega arith) less)) }
      | else-amount-lt0 w ↦
          let even : imbalance id ≡ pos 0 = omega (arith, ints, c.get-amount.ensures.value, c.if-amount-gt0.false, w.if-amount-lt0.false) in
          record { low = omega (arith, skip.onward); within = skip.within; are = rw w.signs-is (signs_skipped _ _ _ _ imbalance _ skip (signs_even _ id imbalance c.loop-id.signs c.loop-id.invariant.are even)) }
    ]
