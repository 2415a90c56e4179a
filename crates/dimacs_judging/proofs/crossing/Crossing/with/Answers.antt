use Rattle.std.proofs.{Common.{rules, arith}, lemmas.Int.{ints}}
use Rattle.dimacs_judging.proofs.CrossLemmas.{leaving_sum, entering_sum}
use Rattle.dimacs_judging.specs.Cuts.{members}
use Rattle.dimacs_judging.proofs.crossing.Crossing.with.Goals as goal

pub returns-in-true-false-clause-most : goal.returns-in-true-false-clause-most
returns-in-true-false-clause-most c =
    leaving_sum (members c.args.set.now) c.args.arc c.args.self.most _ c.args.arc.cap c.args.arc.low c.requires.most (omega (arith, ints)) c.from.ensures (search rules) c.in-true-false.ensures c.in-true-false.ensures'

pub returns-in-true-false-clause-least : goal.returns-in-true-false-clause-least
returns-in-true-false-clause-least c =
    leaving_sum (members c.args.set.now) c.args.arc c.args.self.least _ c.args.arc.low c.args.arc.cap c.requires.least (omega (arith, ints)) c.from-in-true-false.ensures (search rules) c.in-true-false.ensures c.in-true-false.ensures'

pub returns-in-false-true-clause-most : goal.returns-in-false-true-clause-most
returns-in-false-true-clause-most c =
    entering_sum (members c.args.set.now) c.args.arc c.args.self.most _ c.args.arc.cap c.args.arc.low c.requires.most (omega (arith, ints)) c.from-in-false-true.ensures (search rules) c.in-false-true.ensures c.in-false-true.ensures'

pub returns-in-false-true-clause-least : goal.returns-in-false-true-clause-least
returns-in-false-true-clause-least c =
    entering_sum (members c.args.set.now) c.args.arc c.args.self.least _ c.args.arc.low c.args.arc.cap c.requires.least (omega (arith, ints)) c.from-in-false-true-2.ensures (search rules) c.in-false-true.ensures c.in-false-true.ensures'
