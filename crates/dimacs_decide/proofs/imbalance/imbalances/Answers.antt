use Rattle.std.proofs.Common.{rules, ◌≡◌, ◌+◌, ℕ, ℤ, ◌∙◌, ◌^◌, inl, inr, pos, ◌-ℤ◌, sym, subst, arith, w64, SFits}
use Rattle.std.proofs.{lemmas.Bool.{cases_eq}, lemmas.Int.{ints, to_z-of_z}, lemmas.Slice.Zip.{AllZip-long}}
use Rattle.std.specs.Int.{w128}
use Rattle.dimacs_judging.specs.{Flows.{net}, inside.Ranges.{IsOfSize}}
use Rattle.dimacs_judging.proofs.Passing.{same_number}
use Rattle.dimacs_network.specs.{Skips.{Skips}, Tables.{value_of}}
use Rattle.dimacs_network.proofs.SkipLemmas.{Skips-weaker}
use Rattle.dimacs_decide.specs.FeasibilityDecision.{imbalance_at}
use Rattle.dimacs_decide.proofs.FeasibleLemmas.{AreImbalancesBelow, imbalances_all, imbalances_more, imbalances_none, imbalances_skip, imbalances_skipped}
use Rattle.dimacs_decide.proofs.SumLemmas.{net_size}
use Rattle.dimacs_decide.proofs.imbalance.imbalances.Goals.{then-is_unbalanced+in_ok-set, else-is_unbalanced}
use Rattle.dimacs_decide.proofs.imbalance.imbalances.Goals as goal

pub new-requires-clause-one_each : goal.new-requires-clause-one_each
new-requires-clause-one_each g c = rw c.network-network.ensures.arcs (AllZip-long _ c.args.instance.now.arcs c.args.flow.now c.requires)

pub overflow_sub-imbalance : goal.overflow_sub-imbalance
overflow_sub-imbalance g c =
    let i = c.args.instance.now in
    let size = net_size i.arcs c.args.flow.now c.loop-id.id c.network-network.ensures.lawful.bounds c.requires in
    let is : c.of.result ≡ net i.arcs c.args.flow.now c.loop-id.id = rw (c.of.ensures, c.in_ok-balances.ensures c.loop-id.id, c.network-network.ensures.arcs) (search rules) in
    let fits_supply : SFits w64 c.supply.result = search rules in
    let from = c.from.ensures ∙ to_z-of_z w64 c.supply.result fits_supply in
    rw (to_z-of_z w128 c.of.result (search rules), to_z-of_z w128 c.from.result (search rules)) (omega (arith, ints, is, size, from, fits_supply, c.network-network.ensures.lawful.arcs_few))

pub loop-id-init : goal.loop-id-init
loop-id-init g c = record {
  supplied = record { onward = omega arith; within = omega arith; blank = λ v from below. absurd (omega (arith, from, below)) };
  are = imbalances_none c.args.instance.now c.args.flow.now (value_of c.new-table.result) c.new-table.ensures.values;
  sizes = λ v. omega (arith, ints, c.new-table.ensures.values v);
}

pub later_supply-supplied-requires-clause-nothing : goal.later_supply-supplied-requires-clause-nothing
later_supply-supplied-requires-clause-nothing g c = λ v from below. c.loop-id.invariant.supplied.blank v (omega (arith, from)) below

pub loop-id-preserved : goal.loop-id-preserved
loop-id-preserved g c =
    let i = c.args.instance.now in
    let x = c.args.flow.now in
    let id = c.loop-id.id in
    let old = value_of c.loop-id.table in
    let law = c.network-network.ensures.lawful in
    let size = net_size i.arcs x id law.bounds c.requires in
    let is : c.of.result ≡ net i.arcs x id = rw (c.of.ensures, c.in_ok-balances.ensures id, c.network-network.ensures.arcs) (search rules) in
    let fits_supply : SFits w64 c.supply.result = search rules in
    let from = c.from.ensures ∙ to_z-of_z w64 c.supply.result fits_supply in
    let fits_all : SFits w128 (c.from.result -ℤ c.of.result) = omega (arith, ints, is, size, from, fits_supply, law.arcs_few) in
    let imbalance : c.from.result -ℤ c.of.result ≡ imbalance_at i x id = omega (arith, ints, is, from, c.supply.ensures) in
    let small : IsOfSize (2 ^ 99) (c.from.result -ℤ c.of.result) = (omega (arith, ints, is, size, from, fits_supply, law.arcs_few), omega (arith, ints, is, size, from, fits_supply, law.arcs_few)) in
    let outcome = rw (to_z-of_z w128 c.from.result (search rules), to_z-of_z w128 c.of.result (search rules), to_z-of_z w128 (c.from.result -ℤ c.of.result) fits_all) at c.is_unbalanced.ensures in
    let later = c.later_supply-supplied.ensures in
    let next = c.next-id.ensures in
    let skip : Skips (λ v. net i.arcs x v ≡ pos 0) (id + 1) c.later_supply-supplied.result c.next-id.result =
    Skips-weaker _ _ _ _ _ (λ v none. rw c.network-network.ensures.arcs at (sym (c.in_ok-balances.ensures v)) ∙ none) next in
    let past = λ (table : ℕ → ℤ) (are : AreImbalancesBelow i x (id + 1) table). imbalances_skipped i x _ _ _ table (λ v from below. later.blank v from (omega (arith, below, next.within))) skip are in
    elim c.if-is_unbalanced.branch [
      | then-is_unbalanced+in_ok-set w ↦
          let new = value_of w.set.new.self in
          let here : new id ≡ c.from.result -ℤ c.of.result = rw (to_z-of_z w128 c.from.result (search rules), to_z-of_z w128 c.of.result (search rules), to_z-of_z w128 (c.from.result -ℤ c.of.result) fits_all) at w.in_ok-set.ensures.set in
          rw w.table-is record {
            supplied = record { onward = next.within; within = later.within; blank = λ v from below. later.blank v (omega (arith, next.onward, from)) below };
            are = past new (imbalances_more i x id old new c.loop-id.invariant.are (here ∙ imbalance) w.in_ok-set.ensures.others);
            sizes = λ v. elim (cases_eq v id) [
              | inl same ↦ subst (λ u. IsOfSize (2 ^ 99) (new u)) (sym same) (subst (IsOfSize (2 ^ 99)) (sym here) small)
              | inr ne ↦ subst (IsOfSize (2 ^ 99)) (sym (w.in_ok-set.ensures.others v ne)) (c.loop-id.invariant.sizes v)
            ];
          }
      | else-is_unbalanced w ↦
          let none : c.from.result -ℤ c.of.result ≡ pos 0 = same_number (c.from.result -ℤ c.of.result) (pos 0) (λ ne. absurd (let t = outcome.1 ne in let f = w.if-is_unbalanced.false in cc)) in
          rw w.table-is record {
            supplied = record { onward = next.within; within = later.within; blank = λ v from below. later.blank v (omega (arith, next.onward, from)) below };
            are = past old (imbalances_skip i x id old c.loop-id.invariant.are (sym imbalance ∙ none));
            sizes = c.loop-id.invariant.sizes;
          }
    ]

pub returns-clause-values : goal.returns-clause-values
returns-clause-values g c = imbalances_all c.args.instance.now c.args.flow.now c.loop-id.id (value_of c.loop-id.table) (omega (arith, c.loop-id-test.false, c.nodes-end.ensures, c.network-network.ensures.nodes)) c.loop-id.invariant.are
