use Rattle.dimacs_runs.proofs.NameLemmas.{spread_reads}
use Rattle.dimacs_runs.proofs.command.run_and_keep.Goals as goal

pub returns-in-Convert : goal.returns-in-Convert
returns-in-Convert g c = record { runs = rw c.in-Convert.is c.print_file.ensures.runs }

pub returns-in-Show : goal.returns-in-Show
returns-in-Show g c = record { runs = rw c.in-Show.is c.print_file-in-Show.ensures.runs }

pub returns-in-Judge : goal.returns-in-Judge
returns-in-Judge g c = record { runs = rw c.in-Judge.is c.judge_files.ensures.runs }

pub returns-in-Certify : goal.returns-in-Certify
returns-in-Certify g c = record { runs = rw c.in-Certify.is c.certify_files.ensures.runs }

pub returns-in-Spread : goal.returns-in-Spread
returns-in-Spread g c = record { runs = rw (c.in-Spread.is, spread_reads c.in-Spread.kind) c.make_of_claim.ensures.runs }

pub returns-in-Solve : goal.returns-in-Solve
returns-in-Solve g c = record { runs = rw c.in-Solve.is c.solve_files.ensures.runs }
