-- Comparing differences of distances in numbers of a fixed width.
use Rattle.std.proofs.Common.{IsTrue, ◌≡◌, ◌↔◌, ℤ, ◌+ℤ◌, ◌-ℤ◌, ◌<ℤ◌, SFits, of_z, to_z, eqb, eqb-true, eq-eqb, sym, ap, ◌∙◌, arith}
use Rattle.std.proofs.lemmas.Int.{ints, to_z-of_z}
use Rattle.std.specs.{Prelude.{int_lt}, Int.{Width}}

-- two numbers are equal if their bits are
same_bits : (w : Width) (x y : ℤ) → SFits w x → SFits w y → of_z w x ≡ of_z w y → x ≡ y
same_bits w x y fits_x fits_y same = sym (to_z-of_z w x fits_x) ∙ ap (to_z w) same ∙ to_z-of_z w y fits_y

-- comparing the difference with the weight
module _ (w : Width) (to from weight : ℤ) (fits_to : SFits w to) (fits_from : SFits w from) (fits_weight : SFits w weight) (fits_step : SFits w (to -ℤ from)) where
  pub sum_less : IsTrue (int_lt (to_z w (of_z w weight)) (to_z w (of_z w (to_z w (of_z w to) -ℤ to_z w (of_z w from))))) ↔ ((from +ℤ weight) <ℤ to)
  sum_less = rw (to_z-of_z w weight fits_weight, to_z-of_z w to fits_to, to_z-of_z w from fits_from, to_z-of_z w (to -ℤ from) fits_step) (by from to weight)
    where
      by : (from to weight : ℤ) → IsTrue (int_lt weight (to -ℤ from)) ↔ ((from +ℤ weight) <ℤ to)
      by from to weight = (λ yes. grind (arith, ints, yes), λ less. grind (arith, ints, less))

  pub sum_equal : IsTrue (eqb (of_z w (to_z w (of_z w to) -ℤ to_z w (of_z w from))) (of_z w weight)) ↔ ((from +ℤ weight) ≡ to)
  sum_equal = (
    λ same. (let e = same_bits w (to -ℤ from) weight fits_step fits_weight (rw (to_z-of_z w to fits_to, to_z-of_z w from fits_from) at (eqb-true _ _ same)) in omega (arith, ints, e)),
    λ adds. (let e : (to -ℤ from) ≡ weight = omega (arith, ints, adds) in eq-eqb _ _ (rw (to_z-of_z w to fits_to, to_z-of_z w from fits_from) (ap (of_z w) e))),
  )
