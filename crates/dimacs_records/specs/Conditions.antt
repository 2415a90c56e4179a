-- When a record is refused after the earlier ones, by reason.
use Rattle.std.specs.Prelude.{ℕ, ◌==◌, Bool, true, false, ◌&&◌, ◌||◌, not, List, [], ◌∷◌, Option, is_some, is_none, if◌then◌else◌, nat_lt, length, count_by, pos, int_lt}
use Rattle.std.specs.List.{list_any}
use Rattle.dimacs_lines.specs.Limits.{longest_line, most_lines}
use Rattle.dimacs_records.specs.{declared.kinds.TextKind.{TextKind}, declared.order.Declared.{Declared}}
use Rattle.dimacs_records.specs.declared.kinds.TextKind.TheVariants.{Max, Solution, Labels, Distances}
use Rattle.dimacs_records.specs.{declared.records.QueryKind.TheVariants.{Sources, Pairs}, Spelling.{kind_of}}
use Rattle.dimacs_records.specs.{declared.records.Record.{Record}, declared.reasons.Reason.{Reason}}
use Rattle.dimacs_records.specs.declared.records.Record.TheVariants.{MaxNode, MaxArc, MinNode, MinArc, GraphArc, SourceQuery, PairQuery, SolutionValue, CutNode, PotentialsNode, LabelsBlock, LabelsNode, DistancesBlock, DistancesNode}
use Rattle.dimacs_records.specs.declared.reasons.Reason.TheVariants.{LineTooLong, ProblemMissing, ProblemTwice, RecordOrder, NodeRange, NodeTwice, EndTwice, EndMissing, BoundOrder, TooMany, TooFew, SolutionMissing, SolutionTwice, PredUnknown, LineLimit, PastRadius}
use Rattle.dimacs_records.specs.Earlier.{problem_in, is_problem, is_above, is_full, is_short, is_counted, counted_in, asks_for, names, is_max_node, is_end_node, is_flow_arc, is_value}
use Rattle.dimacs_records.specs.Blocks.{block_in, is_labelled, is_full_block, is_short_block, is_past_block}

-- the condition of a limit holds for field f of the line with this number
abbrev pub limit_condition : ℕ → List ℕ → ℕ → Reason → Bool
limit_condition number line f LineLimit = (f == 0) && nat_lt most_lines number
limit_condition number line f LineTooLong = (f == 0) && nat_lt longest_line (length line)
limit_condition number line f reason = false

-- whether a text of the kind has a problem line; only a solution has none
abbrev pub needs_problem : TextKind → Bool
needs_problem Solution = false
needs_problem kind = true

-- the IDs of a record that must not be above NODES, each with its field
abbrev pub bounded_ids : Record → List (ℕ × ℕ)
bounded_ids (MaxNode id end) = (2, id) ∷ []
bounded_ids (MaxArc tail head cap) = (2, tail) ∷ (3, head) ∷ []
bounded_ids (MinNode id supply) = (2, id) ∷ []
bounded_ids (MinArc tail head low cap cost) = (2, tail) ∷ (3, head) ∷ []
bounded_ids (GraphArc tail head weight) = (2, tail) ∷ (3, head) ∷ []
bounded_ids (CutNode id) = (2, id) ∷ []
bounded_ids (PotentialsNode id value) = (2, id) ∷ []
bounded_ids (LabelsBlock source count radius) = (2, source) ∷ []
bounded_ids (LabelsNode id dist pred) = (2, id) ∷ (4, pred) ∷ []
bounded_ids (DistancesBlock source count) = (2, source) ∷ []
bounded_ids (DistancesNode id dist) = (2, id) ∷ []
bounded_ids r = []

-- the ID in field f is above NODES
abbrev pub is_above_at : ℕ → Option Declared → List (ℕ × ℕ) → Bool
is_above_at f p [] = false
is_above_at f p ((g, id) ∷ more) = if f == g then is_above p id else is_above_at f p more

-- there were fewer than two node lines
abbrev pub lacks_end : List Record → Bool
lacks_end rs = nat_lt (count_by is_max_node rs) 2

-- the bound in field f is wrong: negative, or CAP below LOW
abbrev pub is_bound_wrong : ℕ → Record → Bool
is_bound_wrong f (MaxArc tail head cap) = (f == 4) && int_lt cap (pos 0)
is_bound_wrong f (MinArc tail head low cap cost) = if f == 4 then int_lt low (pos 0) else (f == 5) && int_lt cap low
is_bound_wrong f r = false

-- record r is refused after the earlier ones for a reason that can hold at only one field
abbrev pub is_refused_for : Reason → List Record → Record → Bool
is_refused_for ProblemMissing earlier r = (needs_problem (kind_of r) && not (is_problem r)) && is_none (problem_in earlier)
is_refused_for ProblemTwice earlier r = is_problem r && is_some (problem_in earlier)
is_refused_for RecordOrder earlier (MaxNode id end) = list_any is_flow_arc earlier
is_refused_for RecordOrder earlier (MinNode id supply) = list_any is_flow_arc earlier
is_refused_for RecordOrder earlier (SourceQuery id) = list_any (asks_for Pairs) earlier
is_refused_for RecordOrder earlier (PairQuery from to) = list_any (asks_for Sources) earlier
is_refused_for RecordOrder earlier (LabelsNode id dist pred) = is_none (block_in earlier)
is_refused_for RecordOrder earlier (DistancesNode id dist) = is_none (block_in earlier)
is_refused_for NodeTwice earlier (MaxNode id end) = list_any (names id) earlier
is_refused_for NodeTwice earlier (MinNode id supply) = list_any (names id) earlier
is_refused_for NodeTwice earlier (CutNode id) = list_any (names id) earlier
is_refused_for NodeTwice earlier (PotentialsNode id value) = list_any (names id) earlier
is_refused_for NodeTwice earlier (LabelsBlock source count radius) = list_any (names source) earlier
is_refused_for NodeTwice earlier (LabelsNode id dist pred) = is_labelled (block_in earlier) id
is_refused_for NodeTwice earlier (DistancesBlock source count) = list_any (names source) earlier
is_refused_for NodeTwice earlier (DistancesNode id dist) = is_labelled (block_in earlier) id
is_refused_for EndTwice earlier (MaxNode id end) = list_any (is_end_node end) earlier
is_refused_for EndMissing earlier (MaxArc tail head cap) = lacks_end earlier
is_refused_for TooMany earlier (LabelsNode id dist pred) = is_full_block (block_in earlier)
is_refused_for TooMany earlier (DistancesNode id dist) = is_full_block (block_in earlier)
is_refused_for TooMany earlier r = is_counted r && is_full (problem_in earlier) (counted_in earlier)
is_refused_for TooFew earlier (LabelsBlock source count radius) = is_short_block (block_in earlier)
is_refused_for TooFew earlier (DistancesBlock source count) = is_short_block (block_in earlier)
is_refused_for SolutionTwice earlier (SolutionValue value) = list_any is_value earlier
is_refused_for PredUnknown earlier (LabelsNode id dist pred) = not (is_labelled (block_in earlier) pred)
is_refused_for PastRadius earlier (LabelsNode id dist pred) = is_past_block (block_in earlier) dist
is_refused_for reason earlier r = false

-- the condition of a reason holds for record r after the earlier ones; only two reasons depend on the field
abbrev pub condition : List Record → Record → ℕ → Reason → Bool
condition earlier r f NodeRange = is_above_at f (problem_in earlier) (bounded_ids r)
condition earlier r f BoundOrder = is_bound_wrong f r
condition earlier r f reason = is_refused_for reason earlier r

-- the condition of a reason holds at the end of a text of these records; the last block may lack labels
abbrev pub end_condition : TextKind → List Record → Reason → Bool
end_condition kind all ProblemMissing = needs_problem kind && is_none (problem_in all)
end_condition Max all EndMissing = lacks_end all
end_condition Labels all TooFew = is_short_block (block_in all) || is_short (problem_in all) (counted_in all)
end_condition Distances all TooFew = is_short_block (block_in all) || is_short (problem_in all) (counted_in all)
end_condition kind all TooFew = is_short (problem_in all) (counted_in all)
end_condition Solution all SolutionMissing = not (list_any is_value all)
end_condition kind all reason = false
