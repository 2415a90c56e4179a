-- Arguments, one by one.
use Rattle.std.proofs.Common.{◌≡◌, ◌∷◌, [], ℕ, List, Option, Some, None, IfSome, ◌<◌, ◌≤◌, length, map, get_or, refl, sym, arith}
use Rattle.std.specs.Prelude.{codes}
use Rattle.dimacs_jobs.specs.Jobs.{GiveLimit, IsLimit}

pub two_arguments : {A : Type 0} (f : A → List ℕ) (arguments : List A) (a b : A) (x y : List ℕ) → 2 ≤ length arguments → length arguments < 3 → a ≡ get_or arguments 0 a → b ≡ get_or arguments 1 b
    → x ≡ f a → y ≡ f b → map f arguments ≡ x ∷ y ∷ []
two_arguments f (p ∷ q ∷ []) a b x y least most first second is_x is_y = sym (rw (is_x, is_y, first, second) refl)
two_arguments f arguments a b x y least most first second is_x is_y = absurd (omega (arith, least, most))

pub limited : (answer : Option ℕ) (arguments : List (List ℕ)) (number : List ℕ) → arguments ≡ codes "--limit" ∷ number ∷ [] → IfSome answer (IsLimit number) → IfSome answer (GiveLimit arguments)
limited (Some limit) arguments number is read = rw is (refl, read)
limited None arguments number is read = tt
