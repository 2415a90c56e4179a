-- The answers of calls over arrays.
use Rattle.std.specs.Prelude.{ℕ, ◌≡◌, ◌==◌, if◌then◌else◌, List, [], ◌∷◌, Option, None, Some, Result, Ok, Err}
use Rattle.dimacs_arrays.specs.{declared.error.Array.{Array}, declared.error.ArrayError.{ArrayError}}
use Rattle.dimacs_arrays.specs.declared.error.ArrayError.TheVariants.{Length, Limit, Refused, Memory}
use Rattle.dimacs_arrays.specs.declared.lengths.ArrayLength.{ArrayLength}
use Rattle.dimacs_judging.specs.{declared.verdict.JudgeError.{JudgeError}, Tests.{Row, FirstAlone}}
use Rattle.dimacs_judging.specs.declared.verdict.JudgeError.TheVariants as judged

-- an array with this many items, which has to have that many
abbrev pub length_of : Array → ℕ → ℕ → ArrayLength
length_of array found wanted = record { array = array; found = found; wanted = wanted }

-- the first array with a wrong length
abbrev pub first_misfit : List ArrayLength → Option Array
first_misfit [] = None
first_misfit (l ∷ lengths) = if l.found == l.wanted then first_misfit lengths else Some l.array

abbrev pub of_judge : JudgeError → ArrayError
of_judge (judged.Refused place reason) = Refused place reason
of_judge judged.Memory = Memory

-- the first wrong length; else the first number out of range; else the answer for the lawful instance; or out of memory
abbrev pub AnswersArrays : {X : Type 0} → List ArrayLength → List Row → Type 0 → (Result X JudgeError → Type 0) → Result X ArrayError → Type 0
AnswersArrays lengths limits lawful answers (Ok x) = (first_misfit lengths ≡ None) × lawful × answers (Ok x)
AnswersArrays lengths limits lawful answers (Err (Refused place reason)) = (first_misfit lengths ≡ None) × lawful × answers (Err (judged.Refused place reason))
AnswersArrays lengths limits lawful answers (Err (Limit place reason)) = (first_misfit lengths ≡ None) × (¬ lawful) × FirstAlone limits place reason
AnswersArrays lengths limits lawful answers (Err (Length array)) = first_misfit lengths ≡ Some array
AnswersArrays lengths limits lawful answers (Err Memory) = Unit
