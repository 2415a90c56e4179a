use Rattle.std.proofs.Common.{[], ℕ, List, refl}
use Rattle.dimacs_network.specs.Arcs.{NetworkValue}
use Rattle.dimacs_instance.specs.Graph.{IsGraph}
use Rattle.dimacs_arrays.specs.{declared.solution.ClaimedFlow.{ClaimedFlow}, declared.solution.EndArrays.{EndArrays}}
use Rattle.dimacs_arrays.specs.SolutionArrays.{ReadsSolutionOver, ends_lengths, ends_limits, ends_spelled}
use Rattle.dimacs_arrays.proofs.AnswerLemmas.{Call, call_tells, call_tells_limit, call_tells_refusal}
use Rattle.dimacs_arrays.proofs.SolutionLemmas.{ends_clear, ends_one_way}
use Rattle.dimacs_arrays.proofs.solution.read_solution_arrays.Goals as goal

abbrev call : EndArrays → List ℕ → Call ClaimedFlow NetworkValue
call a text = record { lengths = ends_lengths a; claim_lengths = []; limits = ends_limits a; spelled = ends_spelled a; lawful = IsGraph; answers = λ g. ReadsSolutionOver g.arcs text }

pub returns-in_err-graph : goal.returns-in_err-graph
returns-in_err-graph c =
    call_tells_limit (call c.args.arrays.now c.args.text.now) c.in_ok-lengths_hold.ensures refl (ends_one_way c.args.arrays.now) (ends_clear c.args.arrays.now) _ c.in_err-graph.ensures.spells _ c.from_residual-in_err-graph.ensures.1

pub returns-in_err-read_over : goal.returns-in_err-read_over
returns-in_err-read_over c =
    call_tells_refusal (call c.args.arrays.now c.args.text.now) c.in_ok-lengths_hold.ensures refl c.in_ok-graph.graph c.in_ok-graph.ensures.spells c.in_ok-graph.ensures.lawful _ c.in_err-read_over.ensures _ c.from_residual-in_err-read_over.ensures.1

pub returns : goal.returns
returns c =
    call_tells (call c.args.arrays.now c.args.text.now) c.in_ok-lengths_hold.ensures refl c.in_ok-graph.graph c.in_ok-graph.ensures.spells c.in_ok-graph.ensures.lawful _ c.in_ok-read_over.ensures
