-- The texts of a run.
use Rattle.std.specs.{Prelude.{ℕ, ◌≡◌, List, [], ◌∷◌, All, Contains, Some, slice_get, map, take}, String.{string_bytes}}
use Rattle.dimacs_records.specs.declared.kinds.TextKind.{TextKind}
use Rattle.dimacs_records.specs.declared.kinds.TextKind.TheVariants.{Max, Min, Graph, Queries, Solution, Cut, Potentials, Labels, Distances}
use Rattle.dimacs_quote.specs.{declared.texts.TextFile.{TextFile}, declared.texts.Texts.{Texts}}

-- the kinds of instances, of claims, or queries in their place, and of certificates
abbrev pub instances : List TextKind
instances = Max ∷ Min ∷ Graph ∷ []

abbrev pub claims : List TextKind
claims = Queries ∷ Solution ∷ Distances ∷ []

abbrev pub certificates : List TextKind
certificates = Cut ∷ Potentials ∷ Labels ∷ []

-- the first text of the run of one of these kinds: its kind and file stand at the same place, after other kinds
abbrev pub IsFirstOf : List TextKind → Texts → TextFile → Type 0
IsFirstOf kinds texts text =
    (place : ℕ) × (slice_get texts.kinds.now place ≡ Some text.kind) × (slice_get (map string_bytes texts.files.now) place ≡ Some text.file.now)
    × Contains kinds text.kind × All (λ kind. ¬ Contains kinds kind) (take place texts.kinds.now)
