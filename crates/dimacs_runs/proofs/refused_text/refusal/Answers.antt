use Rattle.std.proofs.{Common.{◌≡◌, ◌∷◌, [], arith, inl, inr, refl}, lemmas.Fmt.{decimal_digit}}
use Rattle.std.specs.Fmt.{decimal}
use Rattle.dimacs_runs.proofs.refused_text.refusal.Goals as goal

two : decimal 2 ≡ 50 ∷ []
two = decimal_digit 2 (omega arith)

zero : decimal 0 ≡ 48 ∷ []
zero = decimal_digit 0 (omega arith)

pub returns-in-Max : goal.returns-in-Max
returns-in-Max c = elim c.in-Max.is [
  | inl is ↦ rw (is, two, zero) refl
  | inr (inl is) ↦ rw (is, two, zero) refl
  | inr (inr is) ↦ rw (is, two, zero) refl
]

pub returns-in-Queries : goal.returns-in-Queries
returns-in-Queries c = rw (c.in-Queries.is, two, zero) refl

pub returns-in-Solution : goal.returns-in-Solution
returns-in-Solution c = rw (c.in-Solution.is, two, zero) refl

pub returns-in-Cut : goal.returns-in-Cut
returns-in-Cut c = elim c.in-Cut.is [
  | inl is ↦ rw (is, two, zero) refl
  | inr (inl is) ↦ rw (is, two, zero) refl
  | inr (inr is) ↦ rw (is, two, zero) refl
]

pub returns-in-Distances : goal.returns-in-Distances
returns-in-Distances c = rw (c.in-Distances.is, two, zero) refl
