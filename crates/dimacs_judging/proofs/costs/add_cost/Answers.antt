use Rattle.std.proofs.{Common.{arith, ◌≡◌, ◌*ℤ◌, refl, IsTrue, false}, lemmas.Int.{ints, to_z-of_z}}
use Rattle.dimacs_judging.proofs.costs.add_cost.Goals as goal

pub returns-else-is_wide : goal.returns-else-is_wide
returns-else-is_wide c =
    let fits_cost = c.ranges.cost in
    let fits_amount = c.ranges.amount in
    let value : c.product.result ≡ c.args.cost *ℤ c.args.amount = simp to_z-of_z at c.product.ensures.value in
    λ inside. let no : IsTrue false = c.if-is_wide.ensures.1 (omega (arith, ints)) in cc

pub returns-then-is_wide : goal.returns-then-is_wide
returns-then-is_wide c =
    let fits_cost = c.ranges.cost in
    let fits_amount = c.ranges.amount in
    let value : c.product.result ≡ c.args.cost *ℤ c.args.amount = simp to_z-of_z at c.product.ensures.value in
    (omega (arith, ints), c.if-is_wide.ensures.0 refl)
