-- The numbers of the kinds.
use Rattle.std.specs.Prelude.{ℕ, ◌==◌, if◌then◌else◌, Option, None, Some}
use Rattle.dimacs_records.specs.{declared.kinds.TextKind.{TextKind}, declared.records.QueryKind.{QueryKind}}
use Rattle.dimacs_jobs.specs.{declared.jobs.JudgeKind.{JudgeKind}, declared.jobs.SolveJob.{SolveJob}}
use Rattle.dimacs_jobs.specs.declared.jobs.SpreadKind.{SpreadKind}
use Rattle.dimacs_records.specs.declared.kinds.TextKind.TheVariants as texts
use Rattle.dimacs_records.specs.declared.records.QueryKind.TheVariants as asks
use Rattle.dimacs_jobs.specs.declared.jobs.JudgeKind.TheVariants as judges
use Rattle.dimacs_jobs.specs.declared.jobs.SolveJob.TheVariants as jobs
use Rattle.dimacs_jobs.specs.declared.jobs.SpreadKind.TheVariants as spreads

abbrev pub judge_kind : ℕ → Option JudgeKind
judge_kind number =
    if number == 0 then Some judges.Max
    else if number == 1 then Some judges.Min
    else if number == 2 then Some judges.Infeasible
    else if number == 3 then Some judges.Paths
    else None

abbrev pub spread_kind : ℕ → Option SpreadKind
spread_kind number =
    if number == 0 then Some spreads.Max
    else if number == 1 then Some spreads.Min
    else None

-- there is no 2: minimum cost flow also finds sets that show that no flow is feasible
abbrev pub solve_job : ℕ → ℕ → Option SolveJob
solve_job number limit =
    if number == 0 then Some (jobs.Max limit)
    else if number == 1 then Some (jobs.Min limit)
    else if number == 3 then Some jobs.Paths
    else None

abbrev pub query_kind : ℕ → QueryKind
query_kind number = if number == 0 then asks.Sources else asks.Pairs

abbrev pub number_of_queries : QueryKind → ℕ
number_of_queries asks.Sources = 0
number_of_queries asks.Pairs = 1

abbrev pub text_kind : ℕ → Option TextKind
text_kind number =
    if number == 0 then Some texts.Max
    else if number == 1 then Some texts.Min
    else if number == 2 then Some texts.Graph
    else if number == 3 then Some texts.Queries
    else if number == 4 then Some texts.Solution
    else if number == 5 then Some texts.Cut
    else if number == 6 then Some texts.Potentials
    else if number == 7 then Some texts.Labels
    else if number == 8 then Some texts.Distances
    else None
