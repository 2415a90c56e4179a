use Rattle.std.proofs.Common.{arith}
use Rattle.dimacs_network.proofs.ArcLemmas.{counts_joined, counts_other}
use Rattle.dimacs_network.proofs.network.Network.find.Goals.{then-arc-tail+then-arc-head+else-left-eq0, else-arc-tail, else-arc-tail-via-then-arc-tail+else-arc-head, else-arc-tail-via-else-arc-tail}
use Rattle.dimacs_network.proofs.network.Network.find.Goals as goal

pub loop-i-preserved : goal.loop-i-preserved
loop-i-preserved g c =
    let arcs = g.Self.Network.list c.args.self.now in
    let i = c.loop-i.i in
    let got = c.arc-arc.ensures in
    elim c.if-arc-tail.branch [
      | then-arc-tail+then-arc-head+else-left-eq0 w ↦ omega (arith, c.loop-i.invariant, w.left-is, w.if-left-eq0.false, counts_joined arcs c.args.tail c.args.head i c.arc-arc.result got w.if-arc-tail.true w.if-arc-head.true)
      | else-arc-tail w ↦ elim w.else-arc-tail.branch [
        | else-arc-tail-via-then-arc-tail+else-arc-head w' ↦ omega (arith, c.loop-i.invariant, w.left-is, counts_other arcs c.args.tail c.args.head i c.arc-arc.result got (λ _ same. w'.if-arc-head.false same))
        | else-arc-tail-via-else-arc-tail w' ↦ omega (arith, c.loop-i.invariant, w.left-is, counts_other arcs c.args.tail c.args.head i c.arc-arc.result got (λ same _. w'.if-arc-tail.false same))
      ]
    ]
