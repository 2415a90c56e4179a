use Rattle.std.proofs.Common.{rules, ◌≡◌, ◌==◌, ◌+ℤ◌, ◌-ℤ◌, ◌^◌, arith, w64, SFits, to_z}
use Rattle.std.proofs.lemmas.Int.{ints, to_z-of_z}
use Rattle.std.specs.Int.{w128}
use Rattle.dimacs_judging.specs.{Flows.{when}, inside.Ranges.{IsOfSize}}
use Rattle.dimacs_judging.proofs.StepLemmas.{balance_more}
use Rattle.dimacs_judging.proofs.value.balance_at.Goals as goal

pub loop-i-preserved : goal.loop-i-preserved
loop-i-preserved g c =
    let a = c.arc.result in
    let x = c.amount.result in
    let v = c.args.node in
    let old = to_z w128 c.loop-i.sum-bits in
    let more = c.share-sum.result in
    let small : IsOfSize (2 ^ 63) x = omega (arith, ints) in
    let outcome : more ≡ when (a.tail == v) x -ℤ when (a.head == v) x = rw (to_z-of_z w64 x (search rules)) at c.share-sum.ensures in
    let is : old +ℤ more ≡ (old +ℤ when (a.tail == v) x) -ℤ when (a.head == v) x = omega (arith, ints, outcome) in
    let next = balance_more _ _ c.loop-i.i v a x old (old +ℤ more) c.arc.ensures c.amount.ensures small c.loop-i.invariant is in
    let fits_sum : SFits w128 (old +ℤ more) = omega (arith, ints, next.1, c.loop-i-test.true, c.arcs-i-end.ensures, c.requires.arc_limit) in
    rw (to_z-of_z w128 more (search rules), to_z-of_z w128 (old +ℤ more) fits_sum) next
