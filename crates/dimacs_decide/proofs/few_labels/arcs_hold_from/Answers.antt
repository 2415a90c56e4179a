use Rattle.std.proofs.Common.{◌≡◌, ◌∙◌, ◌-◌, ◌<◌, length, None, arith, sym, subst}
use Rattle.std.proofs.lemmas.Option.{get_or_from_slice_get}
use Rattle.std.specs.Prelude.{slice_index}
use Rattle.dimacs_network.specs.{Arcs.{arc_at, no_arc}, AdjacencyLists.{IsLast}}
use Rattle.dimacs_network.specs.declared.adjacency_lists.Side.TheVariants.{Tail}
use Rattle.dimacs_judging.specs.CertificateTests.{RelaxFails}
use Rattle.dimacs_decide.proofs.{FewLemmas.{passed_on}, TightTailLemmas.{no_fault}}
use Rattle.dimacs_decide.proofs.few_labels.arcs_hold_from.Goals as goal

pub loop-next-init : goal.loop-next-init
loop-next-init g c =
    let arcs = g.N.Network.list c.args.network.now in
    let last : IsLast Tail arcs (length arcs) c.args.node c.last-next.result = subst (IsLast Tail arcs (length arcs) c.args.node) (sym c.last-next.ensures) (c.requires.last_at c.args.node) in
    record { within = last.within; found = last.found; passed = λ k low high near. absurd (last.none_after k low high near) }

pub loop-next-preserved : goal.loop-next-preserved
loop-next-preserved g c =
    let arcs = g.N.Network.list c.args.network.now in
    let claim = g.C.DistanceClaim.claimed c.args.claim.now in
    let is = c.loop-next.invariant in
    let arc_index = c.loop-next.next - 1 in
    let a = c.arc.result in
    let inside : arc_index < length arcs = omega (arith, c.loop-next-test.true, is.within) in
    let same : arc_at arcs arc_index ≡ a = get_or_from_slice_get arcs arc_index a no_arc c.arc.ensures in
    let passes = no_fault (RelaxFails None (claim a.tail) (claim a.head) a.cost) c.arc_fault.result (sym c.is_some.ensures ∙ c.if-is_some.false) c.arc_fault.ensures in
    let last : IsLast Tail arcs arc_index c.args.node c.before-next.result = subst (IsLast Tail arcs arc_index c.args.node) (sym c.before-next.ensures) (subst (λ v. IsLast Tail arcs arc_index v (slice_index c.args.lists.now.before.items arc_index)) (is.found c.loop-next-test.true) (c.requires.last_before arc_index inside)) in
    record {
      within = omega (arith, last.within, inside);
      found = last.found;
      passed = passed_on arcs claim c.args.node c.loop-next.next c.before-next.result c.loop-next-test.true last (rw same passes) is.passed;
    }

pub returns : goal.returns
returns g c = λ yes k inside near. c.loop-next.invariant.passed k (omega (arith, c.loop-next-test.false)) inside near
