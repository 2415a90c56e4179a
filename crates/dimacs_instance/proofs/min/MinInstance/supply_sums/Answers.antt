use Rattle.std.proofs.{Common.{◌≡◌, ◌≤◌, ◌+◌, refl, sym, ap, ◌∙◌, w64, SFits, rules, arith}, lemmas.Int.{to_z-of_z}}
use Rattle.std.specs.Prelude.{pos}
use Rattle.dimacs_lines.specs.Limits.{most_nodes}
use Rattle.dimacs_instance.specs.MinFlows.{positive_part, negative_part, supply_of}
use Rattle.dimacs_instance.proofs.MinSupplies.{sum_below, sum_first, sum_more, sum_skip, sum_all, sum_fits, positive_few, negative_few, whole_supply}
use Rattle.dimacs_instance.proofs.min.MinInstance.supply_sums.Goals as goal

pub loop-id-init : goal.loop-id-init
loop-id-init g c = record {
  within = omega arith;
  supplied = ap pos (sym (sum_first positive_part refl c.args.self.now c.network.ensures.lawful));
  demanded = ap pos (sym (sum_first negative_part refl c.args.self.now c.network.ensures.lawful));
}

pub with-sums-requires : goal.with-sums-requires
with-sums-requires g c =
    let m = c.args.self.now in
    let law = c.network.ensures.lawful in
    let inside : c.loop-id.id ≤ most_nodes = omega (arith, c.loop-id-test.true, c.nodes-end.ensures, c.network.ensures.nodes, law.nodes_few) in
    record {
      supplied = rw c.loop-id.invariant.supplied (sum_fits positive_part refl m (λ id. positive_few (supply_of m id) (whole_supply m law id)) c.loop-id.id inside);
      demanded = rw c.loop-id.invariant.demanded (sum_fits negative_part refl m (λ id. negative_few (supply_of m id) (whole_supply m law id)) c.loop-id.id inside);
    }

pub loop-id-preserved : goal.loop-id-preserved
loop-id-preserved g c =
    let m = c.args.self.now in
    let fits : SFits w64 c.supply.result = search rules in
    let skip = c.next_supply-id.ensures in
    record {
      within = skip.within;
      supplied = sum_more positive_part refl m c.loop-id.id _ _ _ c.loop-id.invariant.supplied c.supply.ensures (rw (to_z-of_z w64 c.supply.result fits) at c.with-sums.ensures.supplied) ∙ ap pos (sym (sum_skip positive_part refl m _ _ _ skip));
      demanded = sum_more negative_part refl m c.loop-id.id _ _ _ c.loop-id.invariant.demanded c.supply.ensures (rw (to_z-of_z w64 c.supply.result fits) at c.with-sums.ensures.demanded) ∙ ap pos (sym (sum_skip negative_part refl m _ _ _ skip));
    }

pub returns : goal.returns
returns g c =
    let m = c.args.self.now in
    let law = c.network.ensures.lawful in
    let end : c.loop-id.id ≡ m.nodes + 1 = omega (arith, c.loop-id-test.false, c.loop-id.invariant.within, c.nodes-end.ensures, c.network.ensures.nodes) in
    record {
      supplied = c.loop-id.invariant.supplied ∙ ap (λ n. pos (sum_below positive_part m n)) end ∙ ap pos (sum_all positive_part refl m law);
      demanded = c.loop-id.invariant.demanded ∙ ap (λ n. pos (sum_below negative_part m n)) end ∙ ap pos (sum_all negative_part refl m law);
    }
