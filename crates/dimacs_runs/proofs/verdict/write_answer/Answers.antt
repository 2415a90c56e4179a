use Rattle.std.proofs.{Common.{rules, w64}, lemmas.Int.{to_z-of_z}}
use Rattle.dimacs_runs.proofs.verdict.write_answer.Goals as goal

pub returns-in-None-beyond : goal.returns-in-None-beyond
returns-in-None-beyond g c =
    rw (c.in-None.is, c.in-None-beyond.is)
    (λ start text h. rw (to_z-of_z w64 c.from.result (search rules), to_z-of_z w64 c.from-2.result (search rules), c.from.ensures, c.from-2.ensures) at (c.write_line-in-None-beyond.ensures start text h))
