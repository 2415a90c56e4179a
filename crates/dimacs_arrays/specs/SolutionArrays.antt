-- Solutions over arcs in arrays.
use Rattle.std.specs.Prelude.{ℕ, ℤ, ◌≡◌, List, [], ◌∷◌, ◌++◌, length, get_or, map, pos, Result, Ok, Err}
use Rattle.std.specs.List.{range_with_len}
use Rattle.dimacs_lines.specs.Lines.{lines}
use Rattle.dimacs_records.specs.{declared.faults.ReadError.{ReadError}, Faults.{Fault}, Ranges.{IsWhole}, Texts.{Reads}}
use Rattle.dimacs_records.specs.declared.reasons.Reason.TheVariants.{NumberRange}
use Rattle.dimacs_network.specs.{declared.network.ArcView.{ArcView}, Arcs.{NetworkValue}, KeptArcs.{weight_arc}}
use Rattle.dimacs_instance.specs.Graph.{IsGraph}
use Rattle.dimacs_claims.specs.{declared.place.Entry.{Entry}, declared.solution.Solution.{Solution}}
use Rattle.dimacs_claims.specs.SolutionTexts.{SolutionValue, SpellsSolution, claimed}
use Rattle.dimacs_judging.specs.{declared.verdict.JudgeError.{JudgeError}, Claims.{Carries, entry_row}, Rows.{one_test}}
use Rattle.dimacs_judging.specs.{declared.verdict.JudgeError.TheVariants.{Refused, Memory}, Tests.{Row, Settles}}
use Rattle.dimacs_decide.specs.Entries.{IsSolutionOf}
use Rattle.dimacs_arrays.specs.{declared.error.ArrayError.{ArrayError}, declared.lengths.ArrayLength.{ArrayLength}}
use Rattle.dimacs_arrays.specs.{declared.solution.ClaimedFlow.{ClaimedFlow}, declared.solution.EndArrays.{EndArrays}}
use Rattle.dimacs_arrays.specs.{Answers.{AnswersArrays, length_of}, Limits.{count_rows, limit_row}}
use Rattle.dimacs_records.specs.declared.faults.ReadError.TheVariants as read_errors
use Rattle.dimacs_records.specs.declared.kinds.TextKind.TheVariants as kinds
use Rattle.dimacs_judging.specs.declared.verdict.Where.TheVariants as places
use Rattle.dimacs_arrays.specs.declared.error.Array.TheVariants as arrays

-- the arc with this index; its numbers are 0
abbrev pub end_arc : EndArrays → ℕ → ArcView
end_arc a k = weight_arc (get_or a.tails.now k 0) (get_or a.heads.now k 0) (pos 0)

-- the nodes and arcs that the arrays spell
abbrev pub ends_spelled : EndArrays → NetworkValue
ends_spelled a = record { nodes = a.nodes; arcs = map (end_arc a) (range_with_len 0 (length a.tails.now)) }

-- a head for each arc
abbrev pub ends_lengths : EndArrays → List ArrayLength
ends_lengths a = length_of arrays.Heads (length a.heads.now) (length a.tails.now) ∷ []

-- and an amount for each arc
abbrev pub amount_lengths : EndArrays → List ℤ → List ArrayLength
amount_lengths a flows = ends_lengths a ++ length_of arrays.Flows (length flows) (length a.tails.now) ∷ []

-- the limits of the counts and each arc, in order
abbrev pub ends_limits : EndArrays → List Row
ends_limits a = count_rows a.nodes (length a.tails.now) ++ limit_row a.nodes (ends_spelled a).arcs ∷ []

-- the claimed value, which fits into 64 bits, and the claimed flow of the entries
pub record IsClaimedBy (arcs : List ArcView) (s : SolutionValue) (c : ClaimedFlow) : Type 0 where
  pub value : c.value ≡ s.value
  pub whole : IsWhole s.value
  pub carries : Carries arcs s.entries c.flow

-- the value doesn't fit into 64 bits
abbrev pub value_row : SolutionValue → Row
value_row s = one_test (places.Solution s.value_line 2) NumberRange (¬ IsWhole s.value)

-- the value and flow that this solution claims on the arcs; else the first entry without an arc, or the value
abbrev pub ClaimsOver : List ArcView → SolutionValue → Result ClaimedFlow JudgeError → Type 0
ClaimsOver arcs s = Settles (IsClaimedBy arcs s) (entry_row arcs s.entries ∷ value_row s ∷ [])

-- a fault of the text, at its place
abbrev pub not_read : ReadError → JudgeError
not_read (read_errors.Refused place reason) = Refused (places.Solution place.line place.field) reason
not_read read_errors.Device = Memory
not_read read_errors.Memory = Memory

abbrev pub ClaimsIf : List ArcView → Result SolutionValue ReadError → Result ClaimedFlow JudgeError → Type 0
ClaimsIf arcs (Ok s) result = ClaimsOver arcs s result
ClaimsIf arcs (Err error) result = result ≡ Err (not_read error)

-- what the only solution that the text spells claims on the arcs, or why it claims nothing there; or the text's only fault
abbrev pub ReadsSolutionOver : List ArcView → List ℕ → Result ClaimedFlow JudgeError → Type 0
ReadsSolutionOver arcs text result =
    (answer : Result SolutionValue ReadError) × Reads (SpellsSolution text) (Fault kinds.Solution (lines text)) answer × ClaimsIf arcs answer result

abbrev pub ReadsSolutionArrays : EndArrays → List ℕ → Result ClaimedFlow ArrayError → Type 0
ReadsSolutionArrays a text =
    AnswersArrays (ends_lengths a) (ends_limits a) (IsGraph (ends_spelled a)) (ReadsSolutionOver (ends_spelled a).arcs text)

-- the value on line 1, then an entry for each arc, with its amount
pub record IsSolutionWith (value : ℤ) (arcs : List ArcView) (flows : List ℤ) (s : SolutionValue) : Type 0 where
  pub value_is : s.value ≡ value
  pub entries : IsSolutionOf arcs s
  pub amounts : map (λ (e : Entry). e.flow) s.entries ≡ flows

-- the solution that claims this; or out of memory, but no failed test
abbrev pub MakesSolution : ℤ → List ArcView → List ℤ → Result Solution JudgeError → Type 0
MakesSolution value arcs flows (Ok s) = IsSolutionWith value arcs flows (claimed s)
MakesSolution value arcs flows (Err (Refused place reason)) = ⊥
MakesSolution value arcs flows (Err Memory) = Unit

abbrev pub MakesSolutionArrays : ℤ → EndArrays → List ℤ → Result Solution ArrayError → Type 0
MakesSolutionArrays value a flows =
    AnswersArrays (amount_lengths a flows) (ends_limits a) (IsGraph (ends_spelled a)) (MakesSolution value (ends_spelled a).arcs flows)
