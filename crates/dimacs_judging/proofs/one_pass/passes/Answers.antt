use Rattle.std.proofs.{Common.{rules, w64}, lemmas.Int.{to_z-of_z}}
use Rattle.dimacs_judging.proofs.one_pass.passes.Goals as goal

pub returns-in-None-None : goal.returns-in-None-None
returns-in-None-None g c = λ yes.
    (rw (to_z-of_z w64 c.args.amount (search rules)) at c.in-None-None.ensures, rw (to_z-of_z w64 c.args.reduced (search rules), to_z-of_z w64 c.args.amount (search rules)) at c.in-None-None.ensures')
