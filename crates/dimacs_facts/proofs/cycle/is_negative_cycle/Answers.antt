use Rattle.std.proofs.{Common.{rules, refl, arith, ◌≡◌, ◌<ℤ◌, pos, subst, to_z}, lemmas.Int.{ints, to_z-of_z}}
use Rattle.std.specs.Int.{w128}
use Rattle.dimacs_facts.specs.Walks.{HasWalk}
use Rattle.dimacs_facts.proofs.WalkLemmas.{walk_step}
use Rattle.dimacs_facts.proofs.cycle.is_negative_cycle.Goals as goal

pub loop-index-preserved : goal.loop-index-preserved
loop-index-preserved g c =
    rw (to_z-of_z w128 c.in-Some.next.1 (search rules))
    (walk_step (g.N.Network.list c.args.network.now) c.tail_of_first-start.result c.loop-index.at c.in-Some.next.0 (to_z w128 c.loop-index.sum-bits) c.in-Some.next.1 c.loop-index.invariant (search (rules, c.in-Some.ensures)))

pub returns-then-is_back : goal.returns-then-is_back
returns-then-is_back g c = λ s are shown.
    let back = c.if-is_back.ensures refl in
    let less : to_z w128 c.loop-index.sum-bits <ℤ pos 0 = omega (arith, ints, back.1) in
    record {
      node = c.tail_of_first-start.result;
      there = c.lead_to.ensures (g.N.Network.list c.args.network.now) s are shown;
      around = to_z w128 c.loop-index.sum-bits;
      back = subst (λ v. HasWalk (g.N.Network.list c.args.network.now) c.tail_of_first-start.result v (to_z w128 c.loop-index.sum-bits)) back.0 c.loop-index.invariant;
      negative = less;
    }
