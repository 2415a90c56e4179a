use Rattle.std.proofs.{Common.{◌≡◌, ◌+◌, ◌∙◌, sym, w64, rules, arith}, lemmas.Int.{to_z-of_z}}
use Rattle.std.proofs.lemmas.List.FromFn.{map-range_with_len_more}
use Rattle.std.specs.Int.{w128}
use Rattle.dimacs_arrays.proofs.ByNodeLemmas.{sum_of, sums_are}
use Rattle.dimacs_arrays.proofs.by_node.numbers_of.Goals as goal

pub loop-i-preserved : goal.loop-i-preserved
loop-i-preserved c =
    let exact = to_z-of_z w128 c.args.shift c.ranges.shift in
    let is = rw (to_z-of_z w128 c.of.result (search rules), c.of.ensures.value, exact) at c.in-Some.ensures.some in
    c.in_ok-push.ensures.items ∙ rw (c.loop-i.invariant, exact, to_z-of_z w64 c.in-Some.number (search rules), is) (sym (map-range_with_len_more (sum_of c.args.potentials.now c.args.shift) 1 c.loop-i.i (c.loop-i.i + 1) (omega arith)))

pub returns-clause-numbers : goal.returns-clause-numbers
returns-clause-numbers c =
    let all : c.loop-i.i ≡ c.args.potentials.now.nodes = omega (arith, c.loop-i-test.false, c.loop-i.auto.i-end, c.nodes-i-end.ensures.nodes) in
    rw (c.loop-i.invariant, all, to_z-of_z w128 c.args.shift c.ranges.shift) (sums_are c.args.potentials.now c.args.shift)
