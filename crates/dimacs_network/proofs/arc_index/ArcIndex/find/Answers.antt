use Rattle.std.proofs.Common.{sym, ap, ◌∙◌}
use Rattle.dimacs_network.specs.{declared.out_arc.OutArc.{OutArc}, inside.ArcOrder.{no_out}}
use Rattle.dimacs_network.proofs.ArcOrderLemmas.{kth_some, kth_past, kth_other}
use Rattle.dimacs_network.proofs.arc_index.ArcIndex.find.Goals.{else-out-tail-via-then-out-tail+else-out-head, else-out-tail-via-else-out-tail}
use Rattle.dimacs_network.proofs.arc_index.ArcIndex.find.Goals as goal

pub returns-in_err-out : goal.returns-in_err-out
returns-in_err-out c = λ arcs index.
    rw c.from_residual.ensures (kth_past arcs c.args.self.now.outs.items c.args.tail c.args.head c.first-first.result index.order index.ends (c.first-first.ensures.first arcs index) c.args.k (rw c.deref.ensures.value at c.in_err-out.ensures.lookup.3))

pub returns-then-out-head : goal.returns-then-out-head
returns-then-out-head c = λ arcs index.
    let found = rw c.deref.ensures.value at c.in_ok-out.ensures.lookup.3 in
    let is = found.1 no_out in
    rw is (kth_some arcs c.args.self.now.outs.items c.args.tail c.args.head c.first-first.result index.order index.ends (c.first-first.ensures.first arcs index) c.args.k found.0
    (ap (λ (out : OutArc). out.tail) (sym is) ∙ c.if-out-tail.true) (ap (λ (out : OutArc). out.head) (sym is) ∙ c.if-out-head.true))

pub returns-else-out-tail : goal.returns-else-out-tail
returns-else-out-tail c = λ arcs index.
    let found = rw c.deref.ensures.value at c.in_ok-out.ensures.lookup.3 in
    let is = found.1 no_out in
    kth_other arcs c.args.self.now.outs.items c.args.tail c.args.head c.first-first.result index.order index.ends (c.first-first.ensures.first arcs index) c.args.k found.0 (λ t h. elim c.else-out-tail.branch [
      | else-out-tail-via-then-out-tail+else-out-head w ↦ w.if-out-head.false (ap (λ (out : OutArc). out.head) is ∙ h)
      | else-out-tail-via-else-out-tail w ↦ w.if-out-tail.false (ap (λ (out : OutArc). out.tail) is ∙ t)
    ])
