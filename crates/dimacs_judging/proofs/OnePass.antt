-- One pass over the arcs for a yes: one more arc.
use Rattle.std.proofs.Common.{◌≡◌, inl, inr, refl, sym, ◌∙◌, ℕ, Bool, true, false, not, ◌&&◌, ◌+◌, ◌*◌, ◌^◌, ◌<◌, ◌≤◌, List, [], ◌∷◌, ◌++◌, All, length, take, slice_get, Option, Some, ℤ, pos, ◌+ℤ◌, ◌-ℤ◌, ◌<ℤ◌, arith, ap₂}
use Rattle.std.proofs.{lemmas.Int.{ints}, lemmas.Bool.{cases_eq}, lemmas.Bool.Decides.{eqb_tells}}
use Rattle.std.proofs.{lemmas.List.{take_all}, lemmas.List.Elements.{All-head, All-tail}}
use Rattle.std.specs.List.{AllZip}
use Rattle.dimacs_instance.specs.MaxFlows.{HasCapacityAlone}
use Rattle.dimacs_lines.specs.Limits.{IsNode}
use Rattle.dimacs_network.specs.{declared.network.ArcView.{ArcView}, Arcs.{JoinsNodes}}
use Rattle.dimacs_judging.specs.{declared.one_pass.NodeState.{NodeState}, Cuts.{IsTightAt}, Flows.{net, cost, when}}
use Rattle.dimacs_judging.specs.FlowTests.{BoundFails, balance_row, bound_row, cost_row, feasible_rows}
use Rattle.dimacs_judging.specs.{Potentials.{IsSlackAt, reduced_cost}, Rows.{flow_row}, inside.Ranges.{IsOfSize}}
use Rattle.dimacs_judging.specs.Tests.{AllClear, Clear, ClearBelow}
use Rattle.dimacs_judging.specs.inside.OnePass.{AddsArc, AddsAt, CostFitsOneMore, ReducedTest, SetsState, States, indicator, state_with}
use Rattle.dimacs_judging.proofs.{Products.{product_small}, RowLemmas.{arc_clear_end, flow_clear_more}}
use Rattle.dimacs_judging.proofs.StepLemmas.{cost_clear_more, cost_more, cost_step, net_more}

-- the nodes below n have their potentials, and all others are blank
pub record HavePotentials (p : ℕ → ℤ) (n : ℕ) (states : States) : Type 0 where
  pub balances : (v : ℕ) → (states v).balance ≡ pos 0
  pub set : (v : ℕ) → v < n → 1 ≤ v → (states v).potential ≡ p v
  pub blank : (v : ℕ) → n ≤ v → states v ≡ state_with (pos 0)

pub potentials_more : (p : ℕ → ℤ) (n : ℕ) (old new : States) (z : ℤ) → HavePotentials p n old → SetsState n (state_with z) old new → z ≡ p n → HavePotentials p (n + 1) new
potentials_more p n old new z have sets is = record {
  balances = λ v. elim (cases_eq v n) [ inl e ↦ rw (e, sets.set) refl | inr off ↦ rw (sets.others v off) (have.balances v) ];
  set = λ v below low. elim (cases_eq v n) [ inl e ↦ rw (e, sets.set) is | inr off ↦ rw (sets.others v off) (have.set v (omega (arith, below, off)) low) ];
  blank = λ v from. rw (sets.others v (λ e. absurd (omega (arith, from, e)))) (have.blank v (omega (arith, from)));
}

-- the node's state, with more of its balance
pub adds_at : (node : ℕ) (x sum : ℤ) (state : NodeState) (old new : States) → state.potential ≡ (old node).potential → state.balance ≡ sum → sum ≡ (old node).balance +ℤ x → SetsState node state old new → AddsAt node x old new
adds_at node x sum state old new potential balance more sets = record {
  balances = λ v. elim (eqb_tells node v) [
    | inl same ↦ rw (same.0, ← same.1, sets.set) (balance ∙ more)
    | inr off ↦ rw (off.0, sets.others v (λ e. off.1 (sym e))) (omega (arith, ints))
  ];
  potentials = λ v. elim (cases_eq v node) [
    | inl e ↦ rw (e, sets.set) potential
    | inr off ↦ rw (sets.others v off) refl
  ];
}

-- the first arcs pass, and these are their sums
pub record HaveAdded (nodes : ℕ) (arcs : List ArcView) (p : ℕ → ℤ) (fails : ReducedTest) (x : List ℤ) (i : ℕ) (states : States) (sum : ℤ) : Type 0 where
  pub bounds : ClearBelow (bound_row arcs x) i
  pub costs : ClearBelow (cost_row arcs x) i
  pub slack : ClearBelow (flow_row (λ a. fails (reduced_cost p a) a) arcs x) i
  pub balances : (v : ℕ) → (states v).balance ≡ net (take i arcs) (take i x) v
  pub potentials : (v : ℕ) → IsNode nodes v → (states v).potential ≡ p v
  pub cost_is : sum ≡ cost (take i arcs) (take i x)
  pub cost_size : IsOfSize (i * 2 ^ 62) sum

module _ (nodes : ℕ) (arcs : List ArcView) (p : ℕ → ℤ) (fails : ReducedTest) (x : List ℤ) (i : ℕ) (few : i < 268435456) where
  pub cost_fits : (states : States) (sum : ℤ) → HaveAdded nodes arcs p fails x i states sum → CostFitsOneMore sum
  cost_fits states sum added = let size = added.cost_size in omega (arith, ints, size, few)

  -- one more arc
  pub added_more : (a : ArcView) (z : ℤ) (old new : States) (sum after : ℤ) → slice_get arcs i ≡ Some a → slice_get x i ≡ Some z → JoinsNodes nodes a
      → HaveAdded nodes arcs p fails x i old sum → AddsArc fails a z old new sum after → HaveAdded nodes arcs p fails x (i + 1) new after
  added_more a z old new sum after here carries joins added takes =
      let product = product_small (2 ^ 31) (2 ^ 31) a.cost z takes.small.0 takes.small.1 in
      let cost_size : IsOfSize ((i + 1) * 2 ^ 62) after = let size = added.cost_size in rw takes.cost_is (omega (arith, ints, size, product)) in
      let through = cost_step arcs x i a z sum after here carries added.cost_is takes.cost_is in
      record {
        bounds = flow_clear_more BoundFails arcs x i a z here carries added.bounds takes.passes.0;
        costs = cost_clear_more arcs x i after added.costs through (omega (arith, ints, cost_size, few));
        slack = flow_clear_more (λ b. fails (reduced_cost p b) b) arcs x i a z here carries added.slack (rw (added.potentials a.tail joins.0, added.potentials a.head joins.1) at takes.passes.1);
        balances = λ v. omega (arith, ints, takes.balances v, added.balances v, net_more arcs x i a z here carries v);
        potentials = λ v node. takes.potentials v ∙ added.potentials v node;
        cost_is = omega (arith, ints, takes.cost_is, added.cost_is, cost_more arcs x i a z here carries);
        cost_size = cost_size;
      }

-- all arcs
module _ (nodes : ℕ) (arcs : List ArcView) (p : ℕ → ℤ) (fails : ReducedTest) (x : List ℤ) (i : ℕ) (states : States) (sum : ℤ) (all : length arcs ≤ i) (long : length x ≡ length arcs) (added : HaveAdded nodes arcs p fails x i states sum) where
  all_added : take i x ≡ x
  all_added = take_all i x (omega (arith, all, long))

  pub balances_added : (v : ℕ) → (states v).balance ≡ net arcs x v
  balances_added v = added.balances v ∙ ap₂ (λ (some : List ArcView) (zs : List ℤ). net some zs v) (take_all i arcs all) all_added

  pub cost_added : sum ≡ cost arcs x
  cost_added = added.cost_is ∙ ap₂ cost (take_all i arcs all) all_added

  pub passed : (demand : ℕ → Option ℤ) → Clear (balance_row nodes arcs demand x) → AllClear (feasible_rows nodes arcs demand x ++ cost_row arcs x ∷ flow_row (λ a. fails (reduced_cost p a) a) arcs x ∷ [])
  passed demand balanced = (arc_clear_end arcs _ i all added.bounds, (balanced, (arc_clear_end arcs _ i all added.costs, (arc_clear_end arcs _ i all added.slack, tt))))

-- ---- a cut as potentials
tight_by : (b c : Bool) (low cap unit x : ℤ) → low ≡ pos 0 → unit ≡ pos 0
    → (pos 0 <ℤ ((unit -ℤ when b (pos 1)) +ℤ when c (pos 1)) → x ≡ low) → (((unit -ℤ when b (pos 1)) +ℤ when c (pos 1)) <ℤ pos 0 → x ≡ cap)
    → (b && not c ≡ true → x ≡ cap) × (c && not b ≡ true → x ≡ pos 0)
tight_by true true low cap unit x none free above below = ((λ h. cc), (λ h. cc))
tight_by true false low cap unit x none free above below = ((λ h. below (omega (arith, ints, free))), (λ h. cc))
tight_by false true low cap unit x none free above below = ((λ h. cc), (λ h. above (omega (arith, ints, free)) ∙ none))
tight_by false false low cap unit x none free above below = ((λ h. cc), (λ h. cc))

-- a cut is tight if 1 inside and 0 outside are slack potentials
pub tight_if_slack : (set : ℕ → Bool) (arcs : List ArcView) (x : List ℤ) → All HasCapacityAlone arcs → AllZip (IsSlackAt (indicator set)) arcs x → AllZip (IsTightAt set) arcs x
tight_if_slack set [] [] all slack = tt
tight_if_slack set [] (z ∷ x) all slack = absurd slack
tight_if_slack set (a ∷ arcs) [] all slack = absurd slack
tight_if_slack set (a ∷ arcs) (z ∷ x) all slack =
    let alone = All-head HasCapacityAlone a arcs all in
    (tight_by (set a.tail) (set a.head) a.low a.cap a.cost z alone.0 alone.1 slack.0.0 slack.0.1, tight_if_slack set arcs x (All-tail HasCapacityAlone a arcs all) slack.1)
