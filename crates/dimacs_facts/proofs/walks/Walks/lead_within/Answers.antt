use Rattle.std.proofs.{Common.{rules, arith, ◌≤ℤ◌}, lemmas.Int.{ints}}
use Rattle.dimacs_facts.proofs.walks.Walks.lead_within.Goals as goal

pub returns-in-Some : goal.returns-in-Some
returns-in-Some c = λ g s are shown.
    let le : c.in-Some.walk.weight ≤ℤ c.args.dist = search rules in
    let to = are.are c.args.node c.in-Some.walk (cc) in
    record { walk = to.walk; leads = to.leads; weighs = omega (arith, ints, to.weighs, le) }
