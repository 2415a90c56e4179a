-- The lines of verdicts and refusals.
use Rattle.std.specs.{Prelude.{ℕ, List, [], ◌∷◌, codes, Option, None, Some, ℤ}, Fmt.{decimal, signed_decimal}}
use Rattle.std.specs.List.{flat_map}
use Rattle.dimacs_records.specs.{declared.reasons.Reason.{Reason}, Names.{name_of}, Printed.{spaced_line}}
use Rattle.dimacs_judging.specs.{declared.verdict.Answer.{Answer}, declared.verdict.Verdict.{Verdict}}
use Rattle.dimacs_judging.specs.declared.verdict.Where.{Where}
use Rattle.dimacs_runs.specs.Refusals.{refusal_line}
use Rattle.dimacs_judging.specs.declared.verdict.Verdict.TheVariants as verdicts
use Rattle.dimacs_judging.specs.declared.verdict.Where.TheVariants as places

abbrev pub yes_line : List (List ℕ) → List ℕ
yes_line words = spaced_line (codes "v") words

abbrev pub max_line : ℤ → List ℕ
max_line value = yes_line (codes "max" ∷ signed_decimal value ∷ [])

abbrev pub min_line : ℤ → List ℕ
min_line cost = yes_line (codes "min" ∷ signed_decimal cost ∷ [])

abbrev pub infeasible_line : List ℕ
infeasible_line = yes_line (codes "infeasible" ∷ [])

-- the answer to queries for all distances from this many sources
abbrev pub sources_line : ℕ → List ℕ
sources_line count = yes_line (codes "sp" ∷ codes "ss" ∷ decimal count ∷ [])

-- the distances from this many sources are certified
abbrev pub distances_line : ℕ → List ℕ
distances_line count = yes_line (codes "sp" ∷ codes "distances" ∷ decimal count ∷ [])

-- a distance; or the words for a target that is beyond a radius, or unreachable
abbrev pub distance_words : Option ℤ → Option ℤ → List (List ℕ)
distance_words (Some distance) beyond = signed_decimal distance ∷ []
distance_words None (Some radius) = codes "more" ∷ signed_decimal radius ∷ []
distance_words None None = codes "unreachable" ∷ []

abbrev pub answer_line : Answer → List ℕ
answer_line a = yes_line (decimal a.from ∷ decimal a.to ∷ distance_words a.distance a.beyond)

-- one line, or a line for each pair
abbrev pub verdict_lines : Verdict → List ℕ
verdict_lines (verdicts.Max value) = max_line value
verdict_lines (verdicts.Min cost) = min_line cost
verdict_lines verdicts.Infeasible = infeasible_line
verdict_lines (verdicts.Sources count) = sources_line count
verdict_lines (verdicts.Pairs answers) = flat_map answer_line answers.items

-- a solver gave up
abbrev pub gave_up_line : List ℕ
gave_up_line = spaced_line (codes "g") (codes "limit" ∷ [])

-- an arc or a node, its number and the reason
abbrev pub numbered_line : List ℕ → ℕ → Reason → List ℕ
numbered_line what number reason = spaced_line (codes "x") (what ∷ decimal number ∷ name_of reason ∷ [])

-- the line of a test that fails here
abbrev pub failure_line : Where → Reason → List ℕ
failure_line (places.Solution line field) reason = refusal_line (codes "solution") line field reason
failure_line places.Certificate reason = refusal_line (codes "certificate") 0 0 reason
failure_line (places.Arc number) reason = numbered_line (codes "arc") number reason
failure_line (places.Node id) reason = numbered_line (codes "node") id reason
