use Rattle.std.proofs.{Common.{arith, rules, sym, subst, SFits}, lemmas.Int.{ints}}
use Rattle.std.specs.Int.{w128}
use Rattle.dimacs_facts.specs.Walks.{AreWalks}
use Rattle.dimacs_facts.proofs.WalkLemmas.{walks_set}
use Rattle.dimacs_facts.proofs.search.lighten_by.Goals as goal

pub returns : goal.returns
returns c = λ g s has are.
    let (w, tail, is) = c.in-Some.ensures in
    let fits : SFits w128 c.in-Some.weight = search rules in
    subst (AreWalks g s) (sym c.in_ok-set.ensures.set) (walks_set g s c.args.walks.now c.args.arc w _ are has tail (omega (arith, ints, is, fits)))
