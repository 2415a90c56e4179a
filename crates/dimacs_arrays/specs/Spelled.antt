-- The instances, sets and potentials that arrays spell.
use Rattle.std.specs.Prelude.{ℕ, ℤ, ◌≡◌, ◌≤◌, ◌<◌, ◌+◌, List, [], ◌∷◌, ◌++◌, length, Result, Ok, Err}
use Rattle.dimacs_lines.specs.Limits.{most_nodes}
use Rattle.dimacs_records.specs.declared.reasons.Reason.TheVariants.{NumberRange}
use Rattle.dimacs_network.specs.Arcs.{NetworkValue}
use Rattle.dimacs_instance.specs.{Graph.{IsGraph}, MaxFlows.{MaxValue, IsMax}, MinFlows.{MinValue, IsMin}}
use Rattle.dimacs_claims.specs.{Cuts.{CutValue}, Potentials.{PotentialsValue, potential_of}}
use Rattle.dimacs_judging.specs.{declared.verdict.Where.TheVariants.{Node}, Cuts.{members}, Tests.{Row}}
use Rattle.dimacs_judging.specs.declared.verdict.JudgeError.{JudgeError}
use Rattle.dimacs_judging.specs.declared.verdict.JudgeError.TheVariants.{Refused, Memory}
use Rattle.dimacs_arrays.specs.{declared.error.ArrayError.{ArrayError}, ByNode.{marked, number_of}}
use Rattle.dimacs_arrays.specs.{declared.graph.GraphArrays.{GraphArrays}, declared.max.MaxArrays.{MaxArrays}}
use Rattle.dimacs_arrays.specs.{declared.min.MinArrays.{MinArrays}, Answers.{AnswersArrays}}
use Rattle.dimacs_arrays.specs.{GraphArrays.{graph_lengths, graph_spelled}, Limits.{count_rows, limit_row}}
use Rattle.dimacs_arrays.specs.MaxArrays.{max_lengths, max_limits, max_spelled}
use Rattle.dimacs_arrays.specs.MinArrays.{min_lengths, min_limits, min_spelled}
use Rattle.dimacs_arrays.specs.declared.error.ArrayError.TheVariants as errors

-- the value that is spelled; or out of memory, but no failed test
abbrev pub IsSpelled : {V : Type 0} → V → Result V JudgeError → Type 0
IsSpelled spelled (Ok v) = v ≡ spelled
IsSpelled spelled (Err (Refused place reason)) = ⊥
IsSpelled spelled (Err Memory) = Unit

abbrev pub SpellsMaxArrays : MaxArrays → Result MaxValue ArrayError → Type 0
SpellsMaxArrays a = AnswersArrays (max_lengths a) (max_limits a) (IsMax (max_spelled a)) (IsSpelled (max_spelled a))

abbrev pub SpellsMinArrays : MinArrays → Result MinValue ArrayError → Type 0
SpellsMinArrays a = AnswersArrays (min_lengths a) (min_limits a) (IsMin (min_spelled a)) (IsSpelled (min_spelled a))

-- the limits of the counts and each arc, in order; there is no source
abbrev pub arc_limits : GraphArrays → List Row
arc_limits a = count_rows a.nodes (length a.tails.now) ++ limit_row a.nodes (graph_spelled a).arcs ∷ []

abbrev pub SpellsGraphArrays : GraphArrays → Result NetworkValue ArrayError → Type 0
SpellsGraphArrays a = AnswersArrays (graph_lengths a) (arc_limits a) (IsGraph (graph_spelled a)) (IsSpelled (graph_spelled a))

-- the set of the marked nodes; or too many nodes; or out of memory
abbrev pub SpellsCutArray : List ℕ → Result CutValue ArrayError → Type 0
SpellsCutArray inside (Ok c) = (length inside ≤ most_nodes) × (c.nodes ≡ length inside) × (members c ≡ marked inside)
SpellsCutArray inside (Err (errors.Limit place reason)) = (most_nodes < length inside) × (place ≡ Node (most_nodes + 1)) × (reason ≡ NumberRange)
SpellsCutArray inside (Err errors.Memory) = Unit
SpellsCutArray inside (Err other) = ⊥

-- the potentials of these numbers; or too many nodes; or out of memory
abbrev pub SpellsPotentialsArray : List ℤ → Result PotentialsValue ArrayError → Type 0
SpellsPotentialsArray numbers (Ok p) = (length numbers ≤ most_nodes) × (p.nodes ≡ length numbers) × (potential_of p ≡ number_of numbers)
SpellsPotentialsArray numbers (Err (errors.Limit place reason)) = (most_nodes < length numbers) × (place ≡ Node (most_nodes + 1)) × (reason ≡ NumberRange)
SpellsPotentialsArray numbers (Err errors.Memory) = Unit
SpellsPotentialsArray numbers (Err other) = ⊥
