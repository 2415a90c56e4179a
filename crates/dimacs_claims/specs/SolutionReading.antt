-- A solution while its text is read.
use Rattle.std.specs.Prelude.{ℕ, ℤ, ◌≡◌, List, map, Option, None, Some, Result, Ok, Err, IfOk}
use Rattle.dimacs_lines.specs.Lines.{lines}
use Rattle.dimacs_records.specs.{declared.faults.ReadError.{ReadError}, Faults.{Fault}, Readings.{LineRecord, on_line}}
use Rattle.dimacs_records.specs.{declared.records.Record.TheVariants.{SolutionValue}, Texts.{Reads}}
use Rattle.dimacs_claims.specs.{declared.place.Entry.{Entry}, declared.solution.ValueLine.{ValueLine}}
use Rattle.dimacs_claims.specs.SolutionTexts.{StandsAmong, GivesSolution, SpellsSolution, IsLawful, entry_line}
use Rattle.dimacs_records.specs.declared.kinds.TextKind.TheVariants as kinds
use Rattle.dimacs_claims.specs.SolutionTexts as texts

-- the records of these entries, and among them the record of the value, if there is one
abbrev pub AreTaken : Option ValueLine → List Entry → List LineRecord → Type 0
AreTaken None entries rs = rs ≡ map entry_line entries
AreTaken (Some v) entries rs = StandsAmong (on_line v.line (SolutionValue v.value)) (map entry_line entries) rs

-- the records of the value, if there is one, and of some entries that the place stands for
abbrev pub StandsForSolution : Option ValueLine → (List Entry → Type 0) → List LineRecord → Type 0
StandsForSolution value holds rs = (entries : List Entry) × holds entries × AreTaken value entries rs

-- the records give a solution with this value, and with entries that the place stands for
abbrev pub GivesPlaced : ℤ → ℕ → (List Entry → Type 0) → List LineRecord → Type 0
GivesPlaced value value_line holds rs = (entries : List Entry) × holds entries
    × GivesSolution rs (record { value = value; value_line = value_line; entries = entries })

-- the solution has this value, and the place stands for its entries
pub record IsPlaced (value : ℤ) (value_line : ℕ) (holds : List Entry → Type 0) (s : texts.SolutionValue) : Type 0 where
  pub value_is : value ≡ s.value
  pub line_is : value_line ≡ s.value_line
  pub entries : holds s.entries

-- some lawful solution is like this
abbrev pub IsPlacedLawful : ℤ → ℕ → (List Entry → Type 0) → Type 0
IsPlacedLawful value value_line holds = (s : texts.SolutionValue) × IsPlaced value value_line holds s × IsLawful s

-- two results are alike: related values, or the same error
abbrev pub AnswersAlike : {V W : Type 0} → (V → W → Type 0) → Result V ReadError → Result W ReadError → Type 0
AnswersAlike like (Ok v) (Ok w) = like v w
AnswersAlike like (Err e) (Err f) = e ≡ f
AnswersAlike like one other = ⊥

-- the result of reading a solution, with a related value in place of the solution
pub record ReadsLike {W : Type 0} (like : texts.SolutionValue → W → Type 0) (text : List ℕ) (result : Result W ReadError) : Type 0 where
  pub answer : Result texts.SolutionValue ReadError
  pub reads : Reads (SpellsSolution text) (Fault kinds.Solution (lines text)) answer
  pub lawful : IfOk answer IsLawful
  pub alike : AnswersAlike like answer result
