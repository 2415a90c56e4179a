use Rattle.std.proofs.{Common.{◌∙◌, [], ◌∷◌, ℤ, List, length, sym, w64}, lemmas.Int.{to_z-of_z}}
use Rattle.std.proofs.lemmas.List.FromFn.{length-map-range_with_len}
use Rattle.dimacs_network.specs.Arcs.{NetworkValue}
use Rattle.dimacs_instance.specs.Graph.{IsGraph}
use Rattle.dimacs_claims.specs.declared.solution.Solution.{Solution}
use Rattle.dimacs_arrays.specs.{declared.error.Array.TheVariants.{Flows}, declared.lengths.ArrayLength.{ArrayLength}}
use Rattle.dimacs_arrays.specs.{declared.solution.EndArrays.{EndArrays}, Answers.{length_of}}
use Rattle.dimacs_arrays.specs.SolutionArrays.{MakesSolution, end_arc, ends_lengths, ends_limits, ends_spelled}
use Rattle.dimacs_arrays.proofs.AnswerLemmas.{Call, all_fit, call_tells, call_tells_limit, call_tells_refusal}
use Rattle.dimacs_arrays.proofs.SolutionLemmas.{ends_clear, ends_one_way}
use Rattle.dimacs_arrays.proofs.solution.solution_of_arrays.Goals as goal

abbrev claim_lengths : EndArrays → List ℤ → List ArrayLength
claim_lengths a x = length_of Flows (length x) (length a.tails.now) ∷ []

abbrev call : ℤ → EndArrays → List ℤ → Call Solution NetworkValue
call value a x = record { lengths = ends_lengths a; claim_lengths = claim_lengths a x; limits = ends_limits a; spelled = ends_spelled a; lawful = IsGraph; answers = λ g. MakesSolution value g.arcs x }

pub returns-in_err-graph : goal.returns-in_err-graph
returns-in_err-graph c =
    let rest = rw c.of.ensures at c.in_ok-lengths_hold-2.ensures in
    call_tells_limit (call c.args.value c.args.arrays.now c.args.flows.now) c.in_ok-lengths_hold.ensures rest (ends_one_way c.args.arrays.now) (ends_clear c.args.arrays.now) _ c.in_err-graph.ensures.spells _ c.from_residual-in_err-graph.ensures.1

pub solution_over-requires : goal.solution_over-requires
solution_over-requires c =
    let rest = rw c.of.ensures at c.in_ok-lengths_hold-2.ensures in
    record { flows = rw c.in_ok-graph.ensures.spells ((all_fit (claim_lengths c.args.arrays.now c.args.flows.now) rest).0 ∙ sym (length-map-range_with_len (end_arc c.args.arrays.now) 0 (length c.args.arrays.now.tails.now))) }

pub returns-in_err-solution_over : goal.returns-in_err-solution_over
returns-in_err-solution_over c =
    let rest = rw c.of.ensures at c.in_ok-lengths_hold-2.ensures in
    call_tells_refusal (call c.args.value c.args.arrays.now c.args.flows.now) c.in_ok-lengths_hold.ensures rest c.in_ok-graph.graph c.in_ok-graph.ensures.spells c.in_ok-graph.ensures.lawful _ c.in_err-solution_over.ensures _ c.from_residual-in_err-solution_over.ensures.1

pub returns : goal.returns
returns c =
    let rest = rw c.of.ensures at c.in_ok-lengths_hold-2.ensures in
    call_tells (call c.args.value c.args.arrays.now c.args.flows.now) c.in_ok-lengths_hold.ensures rest c.in_ok-graph.graph c.in_ok-graph.ensures.spells c.in_ok-graph.ensures.lawful c.in_ok-solution_over.field-0 (rw (to_z-of_z w64 c.args.value c.ranges.value) at c.in_ok-solution_over.ensures)
