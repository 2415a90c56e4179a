use Rattle.std.proofs.Common.{rules, SFits, w64, ◌≡◌, ℕ, ◌+◌, ◌<◌, ◌≤◌, ◌++◌, ◌∷◌, [], ◌∙◌, inl, inr, sym, ap, arith}
use Rattle.std.proofs.{lemmas.Bool.{cases_lt}, lemmas.Int.{to_z-of_z}, lemmas.Option.{get_or_from_slice_get}}
use Rattle.std.proofs.lemmas.List.{get_or_append_left, get_or_push, length_push}
use Rattle.dimacs_network.specs.{declared.network.ArcView.{ArcView}, Arcs.{arc_at, no_arc}}
use Rattle.dimacs_solve.specs.{declared.arcs_by_cost.ArcOfCost.{ArcOfCost}, inside.ArcsByCost.{no_place, place_at}}
use Rattle.dimacs_solve.proofs.arcs_by_cost.arcs_with_costs.Goals as goal

pub loop-arc-preserved : goal.loop-arc-preserved
loop-arc-preserved g c =
    let arcs = g.N.Network.list c.args.network.now in
    let old = c.loop-arc.order.items in
    let n = c.loop-arc.arc in
    let one : ArcOfCost = record { cost = c.arc-cost.result.cost; arc = n } in
    let fits : SFits w64 c.arc-cost.result.cost = search rules in
    let items : c.push.new.self.items ≡ old ++ one ∷ [] = rw (to_z-of_z w64 c.arc-cost.result.cost fits) at c.in_ok-push.ensures.items in
    let same : c.arc-cost.result ≡ arc_at arcs n = sym (get_or_from_slice_get arcs n c.arc-cost.result no_arc c.arc-cost.ensures) in
    let long = c.loop-arc.invariant.one_each in
    let last : (k : ℕ) → k < n + 1 → n ≤ k → place_at (old ++ one ∷ []) k ≡ one = λ k l u. get_or_push old one no_place k (omega (arith, long, l, u)) in
    record {
      one_each = rw items (length_push old one ∙ omega (arith, long));
      arc = rw items (λ k l. elim (cases_lt k n) [
        | inl less ↦ ap (λ (p : ArcOfCost). p.arc) (get_or_append_left old (one ∷ []) no_place k (omega (arith, long, less))) ∙ c.loop-arc.invariant.arc k less
        | inr more ↦ ap (λ (p : ArcOfCost). p.arc) (last k l more) ∙ omega (arith, l, more)
      ]);
      cost = rw items (λ k l. elim (cases_lt k n) [
        | inl less ↦ ap (λ (p : ArcOfCost). p.cost) (get_or_append_left old (one ∷ []) no_place k (omega (arith, long, less))) ∙ c.loop-arc.invariant.cost k less
        | inr more ↦ (let e : n ≡ k = omega (arith, l, more) in ap (λ (p : ArcOfCost). p.cost) (last k l more) ∙ ap (λ (a : ArcView). a.cost) same ∙ ap (λ j. (arc_at arcs j).cost) e)
      ]);
    }

pub returns : goal.returns
returns g c = record {
  one_each = omega (arith, c.loop-arc.invariant.one_each, c.loop-arc-test.false, c.arcs-arc-end.ensures, c.loop-arc.auto.arc-end);
  arc = λ k l. c.loop-arc.invariant.arc k (omega (arith, l, c.loop-arc-test.false, c.arcs-arc-end.ensures));
  cost = λ k l. c.loop-arc.invariant.cost k (omega (arith, l, c.loop-arc-test.false, c.arcs-arc-end.ensures));
}
