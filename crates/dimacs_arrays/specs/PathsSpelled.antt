-- The queries, distances and labels that arrays spell.
use Rattle.std.specs.Prelude.{ℕ, ℤ, ◌≡◌, ◌≤◌, ◌<◌, ◌+◌, ◌⊎◌, ◌==◌, if◌then◌else◌, List, [], ◌∷◌, get_or, length, min, slice_get, Option, None, Some, Result, Ok, Err, pos}
use Rattle.std.specs.List.{filter_map, range_with_len, zip}
use Rattle.dimacs_lines.specs.Limits.{IsNode, most_count, most_nodes}
use Rattle.dimacs_records.specs.{declared.reasons.Reason.TheVariants.{NumberRange}, Ranges.{IsId}}
use Rattle.dimacs_records.specs.declared.records.QueryKind.{QueryKind}
use Rattle.dimacs_instance.specs.declared.queries.Queries.{Queries}
use Rattle.dimacs_instance.specs.QueryTexts.{AreLawful, Pairs, QueriesValue, Sources, asked}
use Rattle.dimacs_claims.specs.{declared.label_list.Label.{Label}, Labels.{BlockValue, LabelsValue}}
use Rattle.dimacs_judging.specs.{declared.verdict.JudgeError.{JudgeError}, declared.verdict.Where.TheVariants.{Node}}
use Rattle.dimacs_judging.specs.{declared.verdict.JudgeError.TheVariants.{Refused, Memory}, Rows.{one_test}}
use Rattle.dimacs_judging.specs.Tests.{Row, Settles}
use Rattle.dimacs_decide.specs.{Claims.{claimed_by_node}, Distances.{source_row}, Predecessors.{pred_by_node}}
use Rattle.dimacs_arrays.specs.{declared.error.ArrayError.{ArrayError}, declared.lengths.ArrayLength.{ArrayLength}}
use Rattle.dimacs_arrays.specs.{Answers.{AnswersArrays, length_of}, GraphArrays.{source_rows}}
use Rattle.dimacs_arrays.specs.Paths.{AreInOrder, AreLabelsBy, label_rows}
use Rattle.dimacs_arrays.specs.declared.error.Array.TheVariants as arrays
use Rattle.dimacs_records.specs.declared.records.QueryKind.TheVariants as asks

-- ---- queries
-- for pairs as many `tos` as `froms`, otherwise none
abbrev pub tos_wanted : QueryKind → ℕ → ℕ
tos_wanted asks.Sources froms = 0
tos_wanted asks.Pairs froms = froms

-- at most 2^28 queries, and their `tos`
abbrev pub query_lengths : QueryKind → List ℕ → List ℕ → List ArrayLength
query_lengths kind froms tos =
    length_of arrays.Froms (length froms) (min (length froms) most_count)
    ∷ length_of arrays.Tos (length tos) (tos_wanted kind (length froms)) ∷ []

-- the first ID of a query that is out of range: FROM, otherwise TO
abbrev pub IsPastId : ℕ → Option ℕ → ℕ → Type 0
IsPastId from to id = ((id ≡ from) × ¬ IsId from) ⊎ (IsId from × (to ≡ Some id) × ¬ IsId id)

abbrev pub query_row : List ℕ → List ℕ → Row
query_row froms tos k place reason =
    (k < length froms) × (reason ≡ NumberRange) × ((id : ℕ) × (place ≡ Node id) × IsPastId (get_or froms k 0) (slice_get tos k) id)

abbrev pub queries_spelled : QueryKind → List ℕ → List ℕ → QueriesValue
queries_spelled asks.Sources froms tos = Sources froms
queries_spelled asks.Pairs froms tos = Pairs (zip froms tos)

-- these queries; or out of memory, but no failed test
abbrev pub AreAsked : QueriesValue → Result Queries JudgeError → Type 0
AreAsked spelled (Ok queries) = asked queries ≡ spelled
AreAsked spelled (Err (Refused place reason)) = ⊥
AreAsked spelled (Err Memory) = Unit

abbrev pub SpellsQueryArrays : QueryKind → List ℕ → List ℕ → Result Queries ArrayError → Type 0
SpellsQueryArrays kind froms tos =
    AnswersArrays (query_lengths kind froms tos) (query_row froms tos ∷ []) (AreLawful (queries_spelled kind froms tos)) (AreAsked (queries_spelled kind froms tos))

-- ---- distances and labels
-- too many nodes, or the source is no node
abbrev pub source_limits : ℕ → ℕ → List Row
source_limits nodes s = one_test (Node (most_nodes + 1)) NumberRange (most_nodes < nodes) ∷ source_rows nodes s

abbrev pub HasSource : ℕ → ℕ → Type 0
HasSource nodes s = (nodes ≤ most_nodes) × IsNode nodes s

-- the label of a node that has a distance and isn't the source, which is its predecessor
abbrev pub label_with : ℕ → ℕ → Option ℤ → Option Label
label_with s v None = None
label_with s v (Some dist) = if v == s then None else Some (record { dist = dist; id = v; pred = s })

-- one block, with labels by ID
abbrev pub block_spelled : ℕ → List ℤ → BlockValue
block_spelled s distances = record {
  source = s;
  radius = None;
  labels = filter_map (λ v. label_with s v (claimed_by_node distances v)) (range_with_len 1 (length distances));
}

-- the source is at distance 0, and this is its block
pub record AreDistancesBy (s : ℕ) (distances : List ℤ) (d : LabelsValue) : Type 0 where
  pub source : claimed_by_node distances s ≡ Some (pos 0)
  pub block : d ≡ record { nodes = length distances; blocks = block_spelled s distances ∷ [] }

abbrev pub SpellsDistancesArray : ℕ → List ℤ → Result LabelsValue ArrayError → Type 0
SpellsDistancesArray s distances =
    AnswersArrays [] (source_limits (length distances) s) (HasSource (length distances) s)
    (Settles (AreDistancesBy s distances) (source_row s (claimed_by_node distances) ∷ []))

-- labels with these distances and predecessors, in order
abbrev pub AreOrderedLabels : ℕ → ℕ → (ℕ → Option ℤ) → (ℕ → ℕ) → LabelsValue → Type 0
AreOrderedLabels nodes s claim pred labels = AreLabelsBy nodes s claim pred labels × AreInOrder s claim pred labels

abbrev pub SpellsLabelArrays : ℕ → List ℤ → List ℕ → Result LabelsValue ArrayError → Type 0
SpellsLabelArrays s distances preds =
    AnswersArrays (length_of arrays.Predecessors (length preds) (length distances) ∷ []) (source_limits (length distances) s) (HasSource (length distances) s)
    (Settles (AreOrderedLabels (length distances) s (claimed_by_node distances) (pred_by_node preds))
    (label_rows (length distances) s (claimed_by_node distances) (pred_by_node preds)))
