use Rattle.std.proofs.Common.{Some, ap}
use Rattle.dimacs_runs.proofs.InMemoryLemmas.{asks_two, distances_made, flow_made}
use Rattle.dimacs_runs.proofs.in_memory.solve.Goals as goal

pub returns-in-Paths : goal.returns-in-Paths
returns-in-Paths c =
    let a = c.args.texts.first.now in
    let b = c.args.texts.second.now in
    let solves = rw c.in-Paths.is at c.solve_texts-outcome.ensures.solves in
    let may = solves a b (ap Some c.new-first.ensures) (ap Some c.new-second.ensures) in
    let outcome = c.solve_texts-outcome.result in
    record { makes = rw c.in-Paths.is (distances_made a b outcome c.make_one.result (c.solve_texts-outcome.ensures.nothing_made c.in-Paths.is) may c.make_one.ensures.keeps c.make_one.ensures.one); kept = c.make_one.ensures.kept }

pub returns-in_default : goal.returns-in_default
returns-in_default c =
    let a = c.args.texts.first.now in
    let b = c.args.texts.second.now in
    let asked = asks_two c.args.job (Some c.new-second.result) b (ap Some c.new-second.ensures) in
    let may = c.solve_texts-outcome.ensures.solves a b (ap Some c.new-first.ensures) asked in
    record { makes = flow_made c.args.job a b c.solve_texts-outcome.result c.make.result c.in_default.not-Paths may c.make.ensures.keeps; kept = c.make.ensures.kept }
