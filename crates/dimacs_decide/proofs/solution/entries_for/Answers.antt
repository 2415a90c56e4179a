use Rattle.std.proofs.{Common.{◌≡◌, ◌∷◌, [], refl, pos, arith, rules, w64}, lemmas.Int.{to_z-of_z}}
use Rattle.std.proofs.{lemmas.List.{length-append, map-append, take_more}, lemmas.Option.{get_or_from_slice_get}}
use Rattle.dimacs_claims.specs.declared.place.Entry.{Entry}
use Rattle.dimacs_judging.specs.Rows.{amount_at}
use Rattle.dimacs_network.specs.Arcs.{arc_at, no_arc}
use Rattle.dimacs_decide.proofs.SolutionLemmas.{entries_more}
use Rattle.dimacs_decide.proofs.solution.entries_for.Goals as goal

pub loop-i-preserved : goal.loop-i-preserved
loop-i-preserved g c =
    let arcs = g.N.Network.list c.args.network.now in
    let x = c.args.flow.now in
    let i = c.loop-i.i in
    let is : arc_at arcs i ≡ c.arc-arc.result = get_or_from_slice_get arcs i c.arc-arc.result no_arc c.arc-arc.ensures in
    let carries : amount_at x i ≡ c.amount.result = get_or_from_slice_get x i c.amount.result (pos 0) c.amount.ensures in
    rw c.in_ok-push.ensures.items record {
      one_each = omega (arith, c.loop-i.invariant.one_each, length-append {A = Entry});
      in_order = entries_more arcs _ _ i c.loop-i.invariant.one_each c.loop-i.invariant.in_order (rw is (search rules));
      flows = rw (map-append (λ (e : Entry). e.flow) _ (_ ∷ []), c.loop-i.invariant.flows, take_more x i (pos 0) (search rules), c.entry_of.ensures.flow, to_z-of_z w64 c.amount.result (search rules), ← carries) refl;
    }
