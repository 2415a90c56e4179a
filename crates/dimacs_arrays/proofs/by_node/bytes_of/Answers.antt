use Rattle.std.proofs.Common.{◌≡◌, ◌+◌, ◌∙◌, sym, arith}
use Rattle.std.proofs.lemmas.List.FromFn.{length-map-range_with_len, map-range_with_len_more}
use Rattle.std.specs.List.{range_with_len}
use Rattle.dimacs_judging.specs.Cuts.{members}
use Rattle.dimacs_arrays.proofs.ByNodeLemmas.{bits, byte_in, marked_set}
use Rattle.dimacs_arrays.proofs.by_node.bytes_of.Goals as goal

pub loop-i-preserved : goal.loop-i-preserved
loop-i-preserved c =
    c.in_ok-push.ensures.items ∙ rw (c.loop-i.invariant, c.from.ensures, c.contains.ensures) (sym (map-range_with_len_more (byte_in (members c.args.cut.now)) 1 c.loop-i.i (c.loop-i.i + 1) (omega arith)))

pub returns-clause-one_each : goal.returns-clause-one_each
returns-clause-one_each c =
    let all : c.loop-i.i ≡ c.args.cut.now.nodes = omega (arith, c.loop-i-test.false, c.loop-i.auto.i-end, c.nodes-i-end.ensures) in
    rw (c.loop-i.invariant, all) (length-map-range_with_len (byte_in (members c.args.cut.now)) 1 c.args.cut.now.nodes)

pub returns-clause-marked : goal.returns-clause-marked
returns-clause-marked c =
    let all : c.loop-i.i ≡ c.args.cut.now.nodes = omega (arith, c.loop-i-test.false, c.loop-i.auto.i-end, c.nodes-i-end.ensures) in
    rw (c.loop-i.invariant, all) (marked_set c.args.cut.now c.requires)

pub returns-clause-bits : goal.returns-clause-bits
returns-clause-bits c = rw c.loop-i.invariant (bits (members c.args.cut.now) (range_with_len 1 c.loop-i.i))
