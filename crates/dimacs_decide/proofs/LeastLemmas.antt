-- What heights and cycles show of a flow.
use Rattle.std.proofs.Common.{◌≡◌, ◌≢◌, inl, inr, ℕ, ◌+◌, ◌<◌, ◌≤◌, ◌==◌, cond, if◌then◌else◌, Bool, true, false, List, length, Some, ℤ, pos, refl, sym, ap, subst, ◌∙◌, arith, eq-eqb}
use Rattle.std.proofs.{lemmas.Bool.{cases_order, ne_eqb}, lemmas.Bool.Decides.{Decides-int_eq}}
use Rattle.std.proofs.lemmas.Slice.Zip.{AllZip-long}
use Rattle.std.specs.{Prelude.{unwrap_or}, Ordering.{int_eq}, FinMap.{get, insert, remove}}
use Rattle.dimacs_network.proofs.{Nodes.{get-empty, get-insert}, SkipLemmas.{skipped}}
use Rattle.dimacs_lines.specs.Limits.{IsNode}
use Rattle.dimacs_claims.specs.Potentials.{PotentialsValue, potential_of, with_potential, zero_potentials}
use Rattle.dimacs_instance.specs.MinFlows.{MinValue, IsMin}
use Rattle.dimacs_judging.specs.{Feasible.{FeasibleMin}, Optimum.{Least}, Rows.{amount_at}}
use Rattle.dimacs_judging.specs.Potentials.{IsSlackAt, Slack}
use Rattle.dimacs_network.specs.{Arcs.{no_arc, arc_at}, Skips.{Skips}}
use Rattle.dimacs_network.specs.declared.adjacency_lists.Side.TheVariants.{Tail, Head}
use Rattle.dimacs_judging.proofs.{Duality.{slack_is_least}, Passing.{pair_at, pairs_from}}
use Rattle.dimacs_decide.specs.{declared.heights.HeightLabel.{HeightLabel}, inside.Heights.{AreSettled, height_of}}
use Rattle.dimacs_decide.proofs.{HeightLemmas.{settled_slack}, SideLemmas.{near_within}}

-- ---- setting potentials
pub potential_set : (p : PotentialsValue) (id : ℕ) (n : ℤ) → n ≢ pos 0 → (v : ℕ) → potential_of (with_potential p id n) v ≡ cond (v == id) n (potential_of p v)
potential_set p id n some v = by_test (int_eq n (pos 0)) refl
  where
    by_found : (b : Bool) → unwrap_or (cond b (Some n) (get p.values v)) (pos 0) ≡ cond b n (unwrap_or (get p.values v) (pos 0))
    by_found true = refl
    by_found false = refl

    by_test : (b : Bool) → int_eq n (pos 0) ≡ b → potential_of (record p { values = if b then remove p.values id else insert p.values id n }) v ≡ cond (v == id) n (potential_of p v)
    by_test true e = absurd (some ((Decides-int_eq n (pos 0)).0 e))
    by_test false e = ap (λ o. unwrap_or o (pos 0)) (get-insert p.values id v n) ∙ by_found (v == id)

-- the nodes below id have their heights as potentials, and the others 0
pub record AreHeightsBelow (labels : ℕ → HeightLabel) (nodes id : ℕ) (p : PotentialsValue) : Type 0 where
  pub of : p.nodes ≡ nodes
  pub below : (v : ℕ) → 1 ≤ v → v < id → potential_of p v ≡ height_of labels v
  pub above : (v : ℕ) → id ≤ v → potential_of p v ≡ pos 0

pub potentials_none : (labels : ℕ → HeightLabel) (nodes : ℕ) → AreHeightsBelow labels nodes 1 (zero_potentials nodes)
potentials_none labels nodes = record {
  of = refl;
  below = λ v some less. absurd (omega (arith, some, less));
  above = λ v more. ap (λ o. unwrap_or o (pos 0)) (get-empty v);
}

pub potentials_skip : (labels : ℕ → HeightLabel) (nodes id : ℕ) (p : PotentialsValue) → AreHeightsBelow labels nodes id p → height_of labels id ≡ pos 0 → AreHeightsBelow labels nodes (id + 1) p
potentials_skip labels nodes id p is none = record {
  of = is.of;
  below = λ v some less. elim (cases_order v id) [
    | inl same ↦ subst (λ u. potential_of p u ≡ height_of labels u) (sym same) (is.above id (omega arith) ∙ sym none)
    | inr apart ↦ elim apart [ inl low ↦ is.below v some low | inr high ↦ absurd (omega (arith, high, less)) ]
  ];
  above = λ v more. is.above v (omega (arith, more));
}

pub potentials_skipped : (labels : ℕ → HeightLabel) (nodes from end to : ℕ) (p : PotentialsValue) → Skips (λ v. height_of labels v ≡ pos 0) from end to → AreHeightsBelow labels nodes from p → AreHeightsBelow labels nodes to p
potentials_skipped labels nodes from end to p is = skipped _ (λ n. AreHeightsBelow labels nodes n p) from end to is (λ v least below none are. potentials_skip labels nodes v p are none)

pub potentials_more : (labels : ℕ → HeightLabel) (nodes id : ℕ) (p : PotentialsValue) (n : ℤ) → AreHeightsBelow labels nodes id p → n ≡ height_of labels id → n ≢ pos 0 → AreHeightsBelow labels nodes (id + 1) (with_potential p id n)
potentials_more labels nodes id p n is same some =
    let there : potential_of (with_potential p id n) id ≡ n = potential_set p id n some id ∙ rw (eq-eqb id id refl) refl in
    let other : (v : ℕ) → (v ≡ id → ⊥) → potential_of (with_potential p id n) v ≡ potential_of p v = λ v ne. potential_set p id n some v ∙ rw (ne_eqb v id ne) refl in
    record {
      of = is.of;
      below = λ v some less. elim (cases_order v id) [
        | inl e ↦ subst (λ u. potential_of (with_potential p id n) u ≡ height_of labels u) (sym e) (there ∙ same)
        | inr apart ↦ elim apart [ inl low ↦ other v (λ e. omega (arith, e, low)) ∙ is.below v some low | inr high ↦ absurd (omega (arith, high, less)) ]
      ];
      above = λ v more. other v (λ e. omega (arith, e, more)) ∙ is.above v (omega (arith, more));
    }

-- ---- the answers
pub settled_tells : (i : MinValue) (x : List ℤ) (labels : ℕ → HeightLabel) (p : ℕ → ℤ) → IsMin i → FeasibleMin i x → AreSettled i.arcs x (length i.arcs) labels → ((v : ℕ) → IsNode i.nodes v → p v ≡ height_of labels v)
    → Least i x × Slack i.arcs x p
settled_tells i x labels p law feasible settled same =
    let at : (k : ℕ) → k < length i.arcs → IsSlackAt p (arc_at i.arcs k) (amount_at x k) = λ k less.
    let within = pair_at _ i.arcs x k no_arc (pos 0) feasible.within less in
    let slack = settled_slack i.arcs x labels k within.0 within.1 (settled k less Tail) (settled k less Head) in
    let tail = same (arc_at i.arcs k).tail (near_within Tail i.nodes i.arcs k law.joined less) in
    let head = same (arc_at i.arcs k).head (near_within Head i.nodes i.arcs k law.joined less) in
    rw (tail, head) slack in
    let slack : Slack i.arcs x p = pairs_from (IsSlackAt p) i.arcs x no_arc (pos 0) (AllZip-long _ i.arcs x feasible.within) at in
    (slack_is_least i law.joined x p feasible slack, slack)
