-- What calls over arrays return and hand out.
use Rattle.std.specs.{Prelude.{ℕ, ◌≡◌, [], List, Option, IfSome, Result, Ok, Err, ℤ, codes}, Global.{Vec}}
use Rattle.dimacs_records.specs.declared.reasons.Reason.TheVariants.{Feasible, NotLeast, NotMaximum}
use Rattle.dimacs_judging.specs.{declared.verdict.Verdict.{Verdict}, declared.verdict.Where.TheVariants.{Solution}}
use Rattle.dimacs_arrays.specs.declared.certify_infeasible.InfeasibleCertified.{InfeasibleCertified}
use Rattle.dimacs_arrays.specs.declared.certify_max.MaxCertified.{MaxCertified}
use Rattle.dimacs_arrays.specs.declared.certify_min.MinCertified.{MinCertified}
use Rattle.dimacs_arrays.specs.{declared.error.ArrayError.{ArrayError}, declared.solve_max.MaxSolved.{MaxSolved}}
use Rattle.dimacs_arrays.specs.declared.error.ArrayError.TheVariants.{Length, Limit, Refused, Memory}
use Rattle.dimacs_arrays.specs.declared.solve_min.MinSolved.{MinSolved}
use Rattle.dimacs_arrays.specs.declared.solve_paths.PathsSolved.{PathsSolved}
use Rattle.dimacs_runs.specs.Refusals.{refusal_line}
use Rattle.dimacs_runs.specs.Verdicts.{failure_line, gave_up_line, infeasible_line, max_line, min_line, sources_line, verdict_lines}
use Rattle.dimacs_c.specs.Calls.{Handed, HandsOut}
use Rattle.dimacs_arrays.specs.declared.certify_infeasible.InfeasibleCertified.TheVariants as infeasible_certified
use Rattle.dimacs_arrays.specs.declared.certify_max.MaxCertified.TheVariants as max_certified
use Rattle.dimacs_arrays.specs.declared.certify_min.MinCertified.TheVariants as min_certified
use Rattle.dimacs_arrays.specs.declared.solve_max.MaxSolved.TheVariants as max_solved
use Rattle.dimacs_arrays.specs.declared.solve_min.MinSolved.TheVariants as min_solved
use Rattle.dimacs_arrays.specs.declared.solve_paths.PathsSolved.TheVariants as paths_solved

-- what a call hands out: a status, a line, and perhaps items: bytes or predecessors, potentials or distances, amounts
pub record Printed : Type 0 where
  pub status : ℕ
  pub line : List ℕ
  pub marks : List ℕ
  pub numbers : List ℤ
  pub amounts : List ℤ

-- only a status and a line
abbrev pub only : ℕ → List ℕ → Printed
only status line = record { status = status; line = line; marks = []; numbers = []; amounts = [] }

-- the status of an error: a test that fails, misuse, or out of memory
abbrev pub error_status : ArrayError → ℕ
error_status (Refused place reason) = 1
error_status (Limit place reason) = 2
error_status (Length array) = 2
error_status Memory = 4

-- the line of an error; a wrong length has none
abbrev pub error_line : ArrayError → List ℕ
error_line (Refused place reason) = failure_line place reason
error_line (Limit place reason) = failure_line place reason
error_line (Length array) = []
error_line Memory = []

-- what is handed out for an answer or an error
abbrev pub printed : {X : Type 0} → (X → Printed) → Result X ArrayError → Printed
printed prints (Ok x) = prints x
printed prints (Err error) = only (error_status error) (error_line error)

abbrev pub verdict_printed : Verdict → Printed
verdict_printed verdict = only 0 (verdict_lines verdict)

abbrev pub max_printed : MaxCertified → Printed
max_printed (max_certified.Optimal total inside) = record (only 0 (max_line total)) { marks = inside.items }
max_printed (max_certified.Better y) = record (only 1 (failure_line (Solution 0 0) NotMaximum)) { amounts = y }

-- 5 if the potentials don't fit into an array
abbrev pub min_printed : MinCertified → Printed
min_printed (min_certified.Optimal total potentials) = record (only 0 (min_line total)) { numbers = potentials.items }
min_printed (min_certified.Wide total p) = only 5 gave_up_line
min_printed (min_certified.Better y) = record (only 1 (failure_line (Solution 0 0) NotLeast)) { amounts = y }

-- a flow is feasible although none should be
abbrev pub feasible_line : List ℕ
feasible_line = refusal_line (codes "instance") 0 0 Feasible

abbrev pub infeasible_printed : InfeasibleCertified → Printed
infeasible_printed (infeasible_certified.Infeasible inside) = record (only 0 infeasible_line) { marks = inside.items }
infeasible_printed (infeasible_certified.Feasible x) = record (only 1 feasible_line) { amounts = x }

abbrev pub paths_printed : Vec ℕ → Printed
paths_printed preds = record (only 0 (sources_line 1)) { marks = preds.items }

abbrev pub max_found : MaxSolved → Printed
max_found (max_solved.Optimal total x inside) = record (only 0 (max_line total)) { marks = inside.items; amounts = x }
max_found max_solved.GaveUp = only 5 gave_up_line

-- 5, too, if the potentials don't fit into an array
abbrev pub min_found : MinSolved → Printed
min_found (min_solved.Optimal total x potentials) = record (only 0 (min_line total)) { numbers = potentials.items; amounts = x }
min_found (min_solved.Wide total x p) = only 5 gave_up_line
min_found (min_solved.Infeasible inside) = record (only 0 infeasible_line) { marks = inside.items }
min_found min_solved.GaveUp = only 5 gave_up_line

-- 5 if a distance doesn't fit into an array
abbrev pub paths_found : PathsSolved → Printed
paths_found (paths_solved.Distances distances preds) = record (only 0 (sources_line 1)) { marks = preds.items; numbers = distances.items }
paths_found (paths_solved.Wide labels) = only 5 gave_up_line

-- the line of a possible answer of the judge is handed out, with its status; out of memory is one, without a line
abbrev pub AnswersLine : (Result Verdict ArrayError → Type 0) → ℕ → Handed ℕ → Type 0
AnswersLine judges exit_status h =
    (r : Result Verdict ArrayError) × judges r × (exit_status ≡ (printed verdict_printed r).status) × HandsOut (printed verdict_printed r).line h

-- a caller's buffers for a line and for items; a call has none for items that it never hands out
pub record Buffers : Type 0 where
  pub line : Handed ℕ
  pub marks : Option (Handed ℕ)
  pub numbers : Option (Handed ℤ)
  pub amounts : Option (Handed ℤ)

abbrev pub buffers : Handed ℕ → Option (Handed ℕ) → Option (Handed ℤ) → Option (Handed ℤ) → Buffers
buffers line marks numbers amounts = record { line = line; marks = marks; numbers = numbers; amounts = amounts }

-- everything is handed out, each part to its buffer
pub record HandsOutAll (s : Printed) (r : Buffers) : Type 0 where
  pub line : HandsOut s.line r.line
  pub marks : IfSome r.marks (HandsOut s.marks)
  pub numbers : IfSome r.numbers (HandsOut s.numbers)
  pub amounts : IfSome r.amounts (HandsOut s.amounts)

-- a possible answer of the certifier or the solver is handed out, with its status
abbrev pub AnswersItems : {X : Type 0} → (X → Printed) → (Result X ArrayError → Type 0) → ℕ → Buffers → Type 0
AnswersItems {X} prints gives exit_status all =
    (r : Result X ArrayError) × gives r × (exit_status ≡ (printed prints r).status) × HandsOutAll (printed prints r) all
