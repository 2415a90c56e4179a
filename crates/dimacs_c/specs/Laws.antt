-- The theorems: arrays that are written as a text come back from it.
use Rattle.std.specs.Prelude.{ℕ, ℤ, ◌≡◌, ◌≤◌, ◌^◌, ◌-◌, pos, List, All, Result, Ok, Err, if◌then◌else◌, length, map, nat_lt, take}
use Rattle.dimacs_records.specs.{declared.faults.ReadError.{ReadError}, Ranges.{IsWhole}}
use Rattle.dimacs_records.specs.declared.records.QueryKind.{QueryKind}
use Rattle.dimacs_instance.specs.{Graph.{IsGraph, canonical_graph}, MaxFlows.{IsMax}, MaxTexts.{canonical_max}}
use Rattle.dimacs_instance.specs.{MinFlows.{IsMin}, MinTexts.{canonical_min}, declared.queries.Queries.{Queries}}
use Rattle.dimacs_instance.specs.QueryTexts.{asked, canonical_queries}
use Rattle.dimacs_claims.specs.{Cuts.{CutValue, IsCut, canonical_cut}, declared.solution.Solution.{Solution}}
use Rattle.dimacs_claims.specs.Potentials.{ArePotentials, PotentialsValue, canonical_potentials}
use Rattle.dimacs_claims.specs.{DistanceTexts.{canonical_distances}, Labels.{AreLabels, LabelsValue}}
use Rattle.dimacs_claims.specs.{LabelTexts.{canonical_labels}, SolutionTexts.{canonical_solution, claimed}}
use Rattle.dimacs_arrays.specs.{declared.graph.GraphArrays.{GraphArrays}, GraphArrays.{graph_spelled}}
use Rattle.dimacs_arrays.specs.{declared.max.MaxArrays.{MaxArrays}, MaxArrays.{max_spelled}, MinArrays.{min_spelled}}
use Rattle.dimacs_arrays.specs.{declared.min.MinArrays.{MinArrays}, declared.error.ArrayError.{ArrayError}}
use Rattle.dimacs_arrays.specs.{declared.solution.ClaimedFlow.{ClaimedFlow}, declared.solution.EndArrays.{EndArrays}}
use Rattle.dimacs_arrays.specs.PathsSpelled.{SpellsDistancesArray, SpellsLabelArrays, SpellsQueryArrays}
use Rattle.dimacs_arrays.specs.Spelled.{SpellsCutArray, SpellsPotentialsArray}
use Rattle.dimacs_arrays.specs.SolutionArrays.{MakesSolutionArrays, ReadsSolutionArrays}
use Rattle.dimacs_fill.specs.{BlockFilled.{ReadsDistancesInto, ReadsLabelsInto}, declared.error.FillError.{FillError}}
use Rattle.dimacs_fill.specs.{declared.graph.GraphSizes.{GraphSizes}, declared.labels.LabelSizes.{LabelSizes}}
use Rattle.dimacs_fill.specs.{declared.max.MaxSizes.{MaxSizes}, declared.min.MinSizes.{MinSizes}, Filling.{Array}}
use Rattle.dimacs_fill.specs.{declared.queries.QuerySizes.{QuerySizes}, CutFilled.{ReadsCutInto}}
use Rattle.dimacs_fill.specs.{GraphFilled.{ReadsGraphInto}, MaxFilled.{ReadsMaxInto}, MinFilled.{ReadsMinInto}}
use Rattle.dimacs_fill.specs.{PotentialsFilled.{ReadsPotentialsInto}, QueriesFilled.{ReadsQueriesInto}}
use Rattle.dimacs_arrays.specs.declared.error.ArrayError.TheVariants as array_errors
use Rattle.dimacs_fill.specs.declared.error.FillError.TheVariants as fill_errors
use Rattle.dimacs_records.specs.declared.faults.ReadError.TheVariants as read_errors

-- the array gets these items, if it has room for them
abbrev pub Gets : {X : Type 0} → List X → Array X → Type 0
Gets items a = length items ≤ length a.0 → take (length items) a.1 ≡ items

-- reading ended with this; or the source failed, or memory ran out: the text isn't refused
abbrev pub ReadsOrFails : {W : Type 0} → (W → Type 0) → Result W ReadError → Type 0
ReadsOrFails holds (Ok w) = holds w
ReadsOrFails holds (Err (read_errors.Refused place reason)) = ⊥
ReadsOrFails holds (Err read_errors.Device) = Unit
ReadsOrFails holds (Err read_errors.Memory) = Unit

-- the same where numbers may not fit into items: they do
abbrev pub FillsOrFails : {W : Type 0} → (W → Type 0) → Result W FillError → Type 0
FillsOrFails holds (Ok w) = holds w
FillsOrFails holds (Err (fill_errors.Unread error)) = ReadsOrFails holds (Err error)
FillsOrFails holds (Err (fill_errors.Node id reason)) = ⊥

-- the sizes are those of these arrays, and their items were read
abbrev pub HaveGraph : GraphArrays → Array ℕ → Array ℕ → Array ℤ → GraphSizes → Type 0
HaveGraph a tails heads weights sizes =
    (sizes ≡ record { nodes = a.nodes; arcs = length a.tails.now })
    × Gets a.tails.now tails × Gets a.heads.now heads × Gets a.weights.now weights

-- the canonical text of a graph in arrays is read, and other arrays get the same items, if they have room; or the source
-- fails, or memory runs out
abbrev pub GraphArraysLaw : Type 0
GraphArraysLaw =
    (a : GraphArrays) → length a.heads.now ≡ length a.tails.now → length a.weights.now ≡ length a.tails.now → IsGraph (graph_spelled a)
    → (tails heads : Array ℕ) (weights : Array ℤ) (result : Result GraphSizes ReadError) → ReadsGraphInto (canonical_graph (graph_spelled a)) tails heads weights result
    → ReadsOrFails (HaveGraph a tails heads weights) result

-- the same of a maximum flow instance
abbrev pub HaveMax : MaxArrays → Array ℕ → Array ℕ → Array ℤ → MaxSizes → Type 0
HaveMax a tails heads caps sizes =
    (sizes ≡ record { nodes = a.nodes; source = a.source; sink = a.sink; arcs = length a.tails.now })
    × Gets a.tails.now tails × Gets a.heads.now heads × Gets a.caps.now caps

abbrev pub MaxArraysLaw : Type 0
MaxArraysLaw =
    (a : MaxArrays) → length a.heads.now ≡ length a.tails.now → length a.caps.now ≡ length a.tails.now → IsMax (max_spelled a)
    → (tails heads : Array ℕ) (caps : Array ℤ) (result : Result MaxSizes ReadError) → ReadsMaxInto (canonical_max (max_spelled a)) tails heads caps result
    → ReadsOrFails (HaveMax a tails heads caps) result

-- the same of a minimum cost flow instance
abbrev pub HaveMin : MinArrays → Array ℕ → Array ℕ → Array ℤ → Array ℤ → Array ℤ → Array ℤ → MinSizes → Type 0
HaveMin a tails heads lows caps costs supplies sizes =
    (sizes ≡ record { nodes = a.nodes; arcs = length a.tails.now }) × Gets a.tails.now tails × Gets a.heads.now heads
    × Gets a.lows.now lows × Gets a.caps.now caps × Gets a.costs.now costs × Gets a.supplies.now supplies

abbrev pub MinArraysLaw : Type 0
MinArraysLaw =
    (a : MinArrays) → length a.heads.now ≡ length a.tails.now → length a.lows.now ≡ length a.tails.now → length a.caps.now ≡ length a.tails.now
    → length a.costs.now ≡ length a.tails.now → length a.supplies.now ≡ a.nodes → IsMin (min_spelled a)
    → (tails heads : Array ℕ) (lows caps costs supplies : Array ℤ) (result : Result MinSizes ReadError)
    → ReadsMinInto (canonical_min (min_spelled a)) tails heads lows caps costs supplies result
    → ReadsOrFails (HaveMin a tails heads lows caps costs supplies) result

-- the same of queries
abbrev pub QueryArraysLaw : Type 0
QueryArraysLaw =
    (kind : QueryKind) (froms tos : List ℕ) (queries : Queries) → SpellsQueryArrays kind froms tos (Ok queries)
    → (froms_read tos_read : Array ℕ) (result : Result QuerySizes ReadError) → ReadsQueriesInto (canonical_queries (asked queries)) froms_read tos_read result
    → ReadsOrFails (λ sizes. (sizes ≡ record { kind = kind; count = length froms }) × Gets froms froms_read × Gets tos tos_read) result

-- 1 for each byte that isn't 0
abbrev pub bit_of : ℕ → ℕ
bit_of byte = if nat_lt 0 byte then 1 else 0

-- the same of a cut or a set, whose bytes come back as 0 and 1
abbrev pub CutArrayLaw : Type 0
CutArrayLaw =
    (inside : List ℕ) (c : CutValue) → IsCut c → SpellsCutArray inside (Ok c)
    → (inside_read : Array ℕ) (result : Result ℕ ReadError) → ReadsCutInto (canonical_cut c) inside_read result
    → ReadsOrFails (λ nodes. (nodes ≡ length inside) × Gets (map bit_of inside) inside_read) result

-- the same of potentials in 64 bits
abbrev pub PotentialsArrayLaw : Type 0
PotentialsArrayLaw =
    (numbers : List ℤ) (p : PotentialsValue) → All IsWhole numbers → ArePotentials p → SpellsPotentialsArray numbers (Ok p)
    → (numbers_read : Array ℤ) (result : Result ℕ FillError) → ReadsPotentialsInto (canonical_potentials p) numbers_read result
    → FillsOrFails (λ nodes. (nodes ≡ length numbers) × Gets numbers numbers_read) result

-- this value and these flows; or out of memory: nothing is refused
abbrev pub ClaimsOrFails : ℤ → List ℤ → Result ClaimedFlow ArrayError → Type 0
ClaimsOrFails value flows (Ok c) = (c.value ≡ value) × (c.flow ≡ flows)
ClaimsOrFails value flows (Err array_errors.Memory) = Unit
ClaimsOrFails value flows (Err other) = ⊥

-- the same of a solution, read over the arcs that it was written for
abbrev pub SolutionArraysLaw : Type 0
SolutionArraysLaw =
    (value : ℤ) (a : EndArrays) (flows : List ℤ) (s : Solution) → IsWhole value → All IsWhole flows → MakesSolutionArrays value a flows (Ok s)
    → (result : Result ClaimedFlow ArrayError) → ReadsSolutionArrays a (canonical_solution (claimed s)) result → ClaimsOrFails value flows result

-- the same of distances in 64 bits
abbrev pub DistancesArrayLaw : Type 0
DistancesArrayLaw =
    (source : ℕ) (distances : List ℤ) (d : LabelsValue) → All IsWhole distances → AreLabels d → SpellsDistancesArray source distances (Ok d)
    → (distances_read : Array ℤ) (result : Result ℕ FillError) → ReadsDistancesInto (canonical_distances d) source distances_read result
    → FillsOrFails (λ nodes. (nodes ≡ length distances) × Gets distances distances_read) result

-- the same of labels; `i64::MAX` stands for no radius
abbrev pub LabelArraysLaw : Type 0
LabelArraysLaw =
    (source : ℕ) (distances : List ℤ) (preds : List ℕ) (labels : LabelsValue) → All IsWhole distances → AreLabels labels → SpellsLabelArrays source distances preds (Ok labels)
    → (distances_read : Array ℤ) (preds_read : Array ℕ) (result : Result LabelSizes FillError) → ReadsLabelsInto (canonical_labels labels) source distances_read preds_read result
    → FillsOrFails (λ sizes. (sizes.nodes ≡ length distances) × (sizes.radius ≡ pos (2 ^ 63 - 1)) × Gets distances distances_read × Gets preds preds_read) result
