-- Inside: the results of the parts of a call over arrays.
use Rattle.std.specs.Prelude.{◌≡◌, List, None, Some, Result, Ok, Err}
use Rattle.dimacs_arrays.specs.{declared.error.ArrayError.{ArrayError}, declared.lengths.ArrayLength.{ArrayLength}}
use Rattle.dimacs_arrays.specs.{declared.error.ArrayError.TheVariants.{Length, Limit, Memory}, Answers.{first_misfit}}
use Rattle.dimacs_arrays.specs.declared.limits.PastLimit.{PastLimit}
use Rattle.dimacs_judging.specs.Tests.{Row, AllClear, First}

-- all lengths are right, or the first array with a wrong length
abbrev pub TestsLengths : List ArrayLength → Result Unit ArrayError → Type 0
TestsLengths lengths (Ok done) = first_misfit lengths ≡ None
TestsLengths lengths (Err (Length array)) = first_misfit lengths ≡ Some array
TestsLengths lengths (Err error) = ⊥

-- all these numbers are in range, or the first that isn't
abbrev pub TestsLimits : List Row → Result Unit PastLimit → Type 0
TestsLimits limits (Ok done) = AllClear limits
TestsLimits limits (Err limit) = First limits limit.place limit.reason

-- the instance that is spelled, or the first number out of range, or out of memory
abbrev pub Spells : {X : Type 0} → List Row → X → Result X ArrayError → Type 0
Spells limits i (Ok spelled) = spelled ≡ i
Spells limits i (Err (Limit place reason)) = First limits place reason
Spells limits i (Err Memory) = Unit
Spells limits i (Err error) = ⊥
