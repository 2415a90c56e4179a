use Rattle.std.proofs.{Common.{◌^◌, ◌*ℤ◌, arith, SFits}, lemmas.Int.{ints, to_z-of_z}}
use Rattle.std.specs.Int.{w128}
use Rattle.dimacs_judging.proofs.Products.{product_small}
use Rattle.dimacs_judging.proofs.costs.product.Goals as goal

pub returns-clause-size : goal.returns-clause-size
returns-clause-size c =
    let a = c.from.result in
    let b = c.from-2.result in
    let fits_a : SFits w128 a = omega (arith, ints) in
    let fits_b : SFits w128 b = omega (arith, ints) in
    let small = product_small (2 ^ 63) (2 ^ 63) a b (omega (arith, ints)) (omega (arith, ints)) in
    let fits : SFits w128 (a *ℤ b) = omega (arith, ints) in
    simp to_z-of_z small
