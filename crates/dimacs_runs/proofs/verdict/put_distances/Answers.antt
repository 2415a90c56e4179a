use Rattle.std.proofs.{Common.{rules, w64}, lemmas.Int.{to_z-of_z}}
use Rattle.dimacs_runs.proofs.verdict.put_distances.Goals as goal

pub returns : goal.returns
returns g c =
    rw (to_z-of_z w64 c.from.result (search rules), c.from.ensures) at c.put_line.ensures
