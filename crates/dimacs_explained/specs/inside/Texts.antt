-- Inside: texts by the names of their files.
use Rattle.std.specs.Prelude.{ℕ, ◌≡◌, ◌≢◌, ◌<◌, List, [], ◌∷◌, Some, slice_get}
use Rattle.dimacs_runs.specs.declared.in_memory.MemoryTexts.{MemoryTexts}
use Rattle.dimacs_explained.specs.inside.Retold.{Counts}

-- the name is at this place, and at no earlier one
abbrev pub IsFirst : List (List ℕ) → List ℕ → ℕ → Type 0
IsFirst names name place = (slice_get names place ≡ Some name) × ((earlier : ℕ) → earlier < place → slice_get names earlier ≢ Some name)

-- each file that counts and has the name has the text
abbrev pub Stands : List (List ℕ) → ℕ → List (List ℕ) → List ℕ → List ℕ → Type 0
Stands names read texts name bytes = (place : ℕ) → slice_get names place ≡ Some name → Counts names read name place → slice_get texts place ≡ Some bytes

-- three texts, in order
abbrev pub three : MemoryTexts → List (List ℕ)
three texts = texts.first.now ∷ texts.second.now ∷ texts.third.now ∷ []

-- each of the first files that has the name has the text
abbrev pub Agree : ℕ → List (List ℕ) → List (List ℕ) → List ℕ → List ℕ → Type 0
Agree count names texts name bytes = (place : ℕ) → place < count → slice_get names place ≡ Some name → slice_get texts place ≡ Some bytes
