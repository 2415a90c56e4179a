-- Solutions, and the texts that spell them.
use Rattle.std.specs.{Prelude.{ℕ, suc, ◌+◌, ◌≡◌, ◌≤◌, List, [], ◌∷◌, ◌++◌, map, length, ℤ, codes}, List.{All}}
use Rattle.std.specs.Fmt.{decimal, signed_decimal}
use Rattle.dimacs_lines.specs.{Lines.{lines}, Limits.{most_lines}}
use Rattle.dimacs_records.specs.{declared.records.Record.{Record}, Canonical.{canonical_text}, Printed.{shown}}
use Rattle.dimacs_records.specs.{Ranges.{IsId, IsWhole, IsWide}, Readings.{LineRecord, on_line}, Texts.{SpellsValue}}
use Rattle.dimacs_claims.specs.{declared.place.Entry.{Entry}, declared.solution.Solution.{Solution}}
use Rattle.dimacs_records.specs.declared.kinds.TextKind.TheVariants as kinds
use Rattle.dimacs_records.specs.declared.records.Record.TheVariants as records

-- a value or cost, and the flows of arcs, each with its line
pub record SolutionValue : Type 0 where
  pub value : ℤ
  pub value_line : ℕ
  pub entries : List Entry

-- the mathematical value of a solution
abbrev pub claimed : Solution → SolutionValue
claimed s = record { value = s.value; value_line = s.value_line; entries = s.entries.items }

abbrev pub entry_record : Entry → Record
entry_record e = records.SolutionEntry e.tail e.head e.flow

abbrev pub entry_line : Entry → LineRecord
entry_line e = on_line e.line (entry_record e)

-- a record is at some position among others
pub record StandsAmong (r : LineRecord) (others all : List LineRecord) : Type 0 where
  pub before : List LineRecord
  pub after : List LineRecord
  pub others_are : others ≡ before ++ after
  pub all_are : all ≡ before ++ r ∷ after

-- the value is at some position among the entries
abbrev pub GivesSolution : List LineRecord → SolutionValue → Type 0
GivesSolution rs s = StandsAmong (on_line s.value_line (records.SolutionValue s.value)) (map entry_line s.entries) rs

-- the text spells this solution
abbrev pub SpellsSolution : List ℕ → SolutionValue → Type 0
SpellsSolution text s = SpellsValue kinds.Solution GivesSolution (lines text) s

-- the numbers of an entry are in their ranges
pub record IsLawfulEntry (e : Entry) : Type 0 where
  pub tail : IsId e.tail
  pub head : IsId e.head
  pub flow : IsWhole e.flow

-- all numbers are in their ranges, and there are no more lines than a text may have
pub record IsLawful (s : SolutionValue) : Type 0 where
  pub value : IsWide s.value
  pub entries : All IsLawfulEntry s.entries
  pub few : length s.entries + 1 ≤ most_lines

-- the value, then the entries
abbrev pub solution_records : SolutionValue → List Record
solution_records s = records.SolutionValue s.value ∷ map entry_record s.entries

abbrev pub canonical_solution : SolutionValue → List ℕ
canonical_solution s = canonical_text (solution_records s)

abbrev pub shown_solution : SolutionValue → List ℕ
shown_solution s = shown (codes "solution" ∷ signed_decimal s.value ∷ decimal (length s.entries) ∷ [])

-- the entries on successive lines, from this one on
abbrev pub on_lines_from : ℕ → List Entry → List Entry
on_lines_from line [] = []
on_lines_from line (e ∷ es) = record e { line = line } ∷ on_lines_from (suc line) es

-- the value on line 1, and the entries on the lines after it
abbrev pub renumbered : SolutionValue → SolutionValue
renumbered s = record { value = s.value; value_line = 1; entries = on_lines_from 2 s.entries }
