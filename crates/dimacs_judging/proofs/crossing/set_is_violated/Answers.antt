use Rattle.std.proofs.{Common.{rules, refl, IsTrue, false, arith}, lemmas.Int.{to_z-of_z}}
use Rattle.std.specs.Int.{w128}
use Rattle.dimacs_judging.proofs.crossing.set_is_violated.Goals as goal

pub returns-then-excludes : goal.returns-then-excludes
returns-then-excludes g c =
    let violated = rw (to_z-of_z w128 c.supply_in-supply.result (search rules), c.supply_in-supply.ensures, c.bounds_across-crossing.ensures.most, c.bounds_across-crossing.ensures.least) at (c.if-excludes.ensures.0 refl) in
    λ k place reason f. f.3 violated

pub returns-else-excludes : goal.returns-else-excludes
returns-else-excludes g c =
    let allowed = rw (to_z-of_z w128 c.supply_in-supply.result (search rules), c.supply_in-supply.ensures, c.bounds_across-crossing.ensures.most, c.bounds_across-crossing.ensures.least) at c.if-excludes.ensures.1 in
    record {
      number = 0;
      fails = (refl, refl, refl, λ violated. let f : IsTrue false = allowed violated in cc);
      earlier = λ k below. absurd (omega (arith, below));
    }
