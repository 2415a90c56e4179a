-- The result of making labels for queries.
use Rattle.std.specs.Prelude.{ℕ, ◌≡◌, ◌<◌, ◌+◌, ◌++◌, ◌==◌, List, [], ◌∷◌, All, map, length, slice_index_or, cond, None, Result, Ok, Err, pos, ◌<ℤ◌, ◌≤ℤ◌}
use Rattle.std.specs.List.{list_any}
use Rattle.dimacs_network.specs.{declared.network.ArcView.{ArcView}, Arcs.{NetworkValue, arc_at}}
use Rattle.dimacs_instance.specs.QueryTexts.{QueriesValue}
use Rattle.dimacs_claims.specs.{declared.label_list.Label.{Label}, Labels.{BlockValue, LabelsValue}}
use Rattle.dimacs_judging.specs.{PathsJudge.{ShowsDistances}, QueryTests.{query_node_row, sources_asked}}
use Rattle.dimacs_judging.specs.Tests.{Clear, FirstOfRow}
use Rattle.dimacs_solve.specs.declared.error.SolveError.{SolveError}
use Rattle.dimacs_solve.specs.declared.error.SolveError.TheVariants.{NegativeWeight, Refused, Memory}

abbrev pub HasNoNegativeWeight : ArcView → Type 0
HasNoNegativeWeight a = pos 0 ≤ℤ a.cost

-- arc k, from 1, is the first with a negative weight
pub record IsFirstNegative (arcs : List ArcView) (k : ℕ) : Type 0 where
  pub index : ℕ
  pub counted : k ≡ index + 1
  pub present : index < length arcs
  pub negative : (arc_at arcs index).cost <ℤ pos 0
  pub earlier : (i : ℕ) → i < index → HasNoNegativeWeight (arc_at arcs i)

-- the numbers, with n at the end if it isn't among them
abbrev pub noted : List ℕ → ℕ → List ℕ
noted old n = cond (list_any (λ m. m == n) old) old (old ++ n ∷ [])

-- the numbers without repetitions, in the order of first use
abbrev pub distinct_after : List ℕ → List ℕ → List ℕ
distinct_after old [] = old
distinct_after old (n ∷ ns) = distinct_after (noted old n) ns

-- each label is at least as far as the one before it
abbrev pub IsNearestFirst : List Label → Type 0
IsNearestFirst labels = (k : ℕ) (d : Label) → k + 1 < length labels → (slice_index_or labels k d).dist ≤ℤ (slice_index_or labels (k + 1) d).dist

abbrev pub block_source : BlockValue → ℕ
block_source b = b.source

-- the labels pass and are distances, the nearest first; exactly the sources asked for have blocks, in order, no radius
pub record AreProduced (g : NetworkValue) (q : QueriesValue) (l : LabelsValue) : Type 0 where
  pub shows : ShowsDistances g q l
  pub nearest_first : All (λ b. IsNearestFirst b.labels) l.blocks
  pub unbounded : All (λ b. b.radius ≡ None) l.blocks
  pub sources : map block_source l.blocks ≡ distinct_after [] (sources_asked q)

-- labels; or the first node of a query that is too great, else the first arc with a negative weight
abbrev pub SolvesPaths : NetworkValue → QueriesValue → Result LabelsValue SolveError → Type 0
SolvesPaths g q (Ok labels) = Clear (query_node_row g.nodes q) × All HasNoNegativeWeight g.arcs × AreProduced g q labels
SolvesPaths g q (Err (Refused place reason)) = FirstOfRow (query_node_row g.nodes q) place reason
SolvesPaths g q (Err (NegativeWeight k)) = Clear (query_node_row g.nodes q) × IsFirstNegative g.arcs k
SolvesPaths g q (Err Memory) = Unit
