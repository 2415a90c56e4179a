-- The names of the files of a run.
use Rattle.std.proofs.Common.{◌≡◌, ◌≢◌, ◌+◌, ℕ, ◌∷◌, [], ◌<◌, ◌≤◌, List, Option, Some, None, length, map, drop, take, get_or, refl, slice_get, suc, sym, arith, zero}
use Rattle.std.specs.Option.{option_map}
use Rattle.dimacs_jobs.specs.{declared.jobs.JudgeKind.{JudgeKind}, declared.jobs.SpreadKind.{SpreadKind}}
use Rattle.dimacs_jobs.specs.{Jobs.{texts_of}, declared.jobs.Verb.TheVariants.{Certify, Spread}}
use Rattle.dimacs_runs.specs.inside.Making.{names_of}
use Rattle.dimacs_jobs.specs.declared.jobs.JudgeKind.TheVariants as judges
use Rattle.dimacs_jobs.specs.declared.jobs.SpreadKind.TheVariants as spreads

pub one_name : {A : Type 0} (f : A → List ℕ) (names : List A) (a : A) (x : List ℕ) → length names ≡ 1 → a ≡ get_or names 0 a → x ≡ f a → map f names ≡ x ∷ []
one_name f (p ∷ []) a x one first is_x = sym (rw (is_x, first) refl)
one_name f [] a x one first is_x = absurd (omega (arith, one))
one_name f (p ∷ q ∷ names) a x one first is_x = absurd (omega (arith, one))

-- the first names of a run are those of the files that it reads
pub first_name : {A : Type 0} (f : A → List ℕ) (arguments : List A) (a : A) (x : List ℕ) → 1 ≤ length arguments → a ≡ get_or arguments 0 a → x ≡ f a → take 1 (map f arguments) ≡ x ∷ []
first_name f (p ∷ arguments) a x least first is_x = sym (rw (is_x, first) refl)
first_name f [] a x least first is_x = absurd (omega (arith, least))

pub first_two_names : {A : Type 0} (f : A → List ℕ) (arguments : List A) (a b : A) (x y : List ℕ) → 2 ≤ length arguments → a ≡ get_or arguments 0 a → b ≡ get_or arguments 1 b
    → x ≡ f a → y ≡ f b → take 2 (map f arguments) ≡ x ∷ y ∷ []
first_two_names f (p ∷ q ∷ arguments) a b x y least first second is_x is_y = sym (rw (is_x, is_y, first, second) refl)
first_two_names f arguments a b x y least first second is_x is_y = absurd (omega (arith, least))

-- the name after them, if there is one, is that of the file to create
pub last_name : {W : Type 0} (g : W → List ℕ) (n : ℕ) (names : List (List ℕ)) (last : Option W) → length names ≤ n + 1 → option_map g last ≡ slice_get names n → names_of g last ≡ drop n names
last_name g zero [] None most is = refl
last_name g zero [] (Some w) most is = absurd cc
last_name g zero (x ∷ []) None most is = absurd cc
last_name g zero (x ∷ []) (Some w) most is = let same : g w ≡ x = cc in rw same refl
last_name g zero (x ∷ y ∷ names) last most is = absurd (omega (arith, most))
last_name g (suc n) [] None most is = refl
last_name g (suc n) [] (Some w) most is = absurd cc
last_name g (suc n) (x ∷ names) last most is = last_name g n names last (omega (arith, most)) is

-- ---- how many files are read
-- an instance and a claim are read, except for `Infeasible`
pub reads_two : (kind : JudgeKind) → kind ≢ judges.Infeasible → (texts_of (Certify kind)).read ≡ 2
reads_two judges.Max other = refl
reads_two judges.Min other = refl
reads_two judges.Infeasible other = absurd (other refl)
reads_two judges.Paths other = refl

pub spread_reads : (kind : SpreadKind) → (texts_of (Spread kind)).read ≡ 2
spread_reads spreads.Max = refl
spread_reads spreads.Min = refl
