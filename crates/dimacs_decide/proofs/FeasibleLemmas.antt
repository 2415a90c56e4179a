-- What excesses show of a flow that keeps the bounds.
use Rattle.std.proofs.Common.{◌≡◌, ◌≢◌, inl, inr, ℕ, suc, length, slice_get, Some, ◌+◌, ◌<◌, ◌≤◌, ◌==◌, ◌&&◌, Bool, true, false, not, List, [], ◌∷◌, ℤ, pos, negsuc, ◌+ℤ◌, ◌-ℤ◌, ◌≤ℤ◌, ◌<ℤ◌, refl, sym, ap, subst, ◌∙◌, arith, eq-eqb}
use Rattle.std.proofs.{lemmas.Int.{ints}, lemmas.Bool.{cases_eq, cases_lt, cases_order, false≢true, ne_eqb}}
use Rattle.std.proofs.lemmas.Option.{get_or_from_slice_get}
use Rattle.std.specs.List.{AllZip}
use Rattle.dimacs_network.proofs.{Nodes.{contains-insert}, SkipLemmas.{skipped}}
use Rattle.dimacs_lines.specs.Limits.{IsNode}
use Rattle.dimacs_claims.specs.Cuts.{CutValue, with_node}
use Rattle.dimacs_network.specs.{declared.network.ArcView.{ArcView}, Arcs.{arc_at, no_arc}, Skips.{Skips}}
use Rattle.dimacs_instance.specs.MinFlows.{IsMin, MinValue, positive_part, supply_of}
use Rattle.dimacs_judging.specs.{Cuts.{enters, leaves, members}, Feasible.{FeasibleMin}, Flows.{net, when}}
use Rattle.dimacs_judging.specs.{InfeasibleJudge.{ShowsNoFlow}, ViolatedSets.{Violated}}
use Rattle.dimacs_judging.proofs.{Duality.{across_is, violated_has_no_flow}, Sums.{sum_nodes-zero}}
use Rattle.dimacs_decide.specs.{Bounds.{KeepsBounds}, FeasibilityDecision.{imbalance_at, total_excess}}
use Rattle.dimacs_decide.specs.inside.Augmentation.{IsSent, IsStuck}
use Rattle.dimacs_decide.specs.inside.Imbalances.{AreImbalances, AreSigns, HasDeficits, HasEnds}
use Rattle.dimacs_decide.specs.declared.imbalance.ImbalanceSigns.{ImbalanceSigns}
use Rattle.dimacs_decide.specs.declared.imbalance.ImbalanceSigns.TheVariants.{Even, Excess, Deficit}
use Rattle.dimacs_decide.proofs.SumLemmas.{across_of, sum_nodes-less, sum_nodes-split}

-- ---- positive parts
part_of : (z : ℤ) → pos 0 ≤ℤ z → pos (positive_part z) ≡ z
part_of (pos n) h = refl
part_of (negsuc n) h = absurd (omega (arith, ints))

part_none : (z : ℤ) → z ≤ℤ pos 0 → pos (positive_part z) ≡ pos 0
part_none (pos n) h = omega (arith, ints)
part_none (negsuc n) h = refl

-- ---- no excess
-- ---- a set whose supply is more than can leave it
shows : (i : MinValue) (set : CutValue) → IsMin i → set.nodes ≡ i.nodes → Violated i (members set) → ShowsNoFlow i set
shows i set law of bad = (record { nodes_are = of; violated = bad }, violated_has_no_flow i law.joined (members set) bad)

when_some : (b : Bool) (z : ℤ) → (b ≡ true → pos 0 ≤ℤ z) → pos 0 ≤ℤ when b z
when_some true z h = h refl
when_some false z h = omega (arith, ints)

pub stuck_tells : (i : MinValue) (x : List ℤ) (imbalance : ℕ → ℤ) (reached : ℕ → Type 0) (set : CutValue) → IsMin i → AreImbalances i x imbalance → (r : ℕ) → IsNode i.nodes r → reached r → pos 0 <ℤ imbalance r
    → IsStuck i.nodes i.arcs x imbalance reached set → ShowsNoFlow i set
stuck_tells i x imbalance reached set law are r node begun some is =
    let c = members set in
    let inside : c r ≡ true = is.has r node begun in
    let each : (v : ℕ) → IsNode i.nodes v → pos 0 ≤ℤ when (c v) (imbalance_at i x v) = λ v h. when_some (c v) (imbalance_at i x v) (λ e. omega (arith, ints, are v h, is.shut.no_deficit v h e)) in
    let here : pos 0 <ℤ when (c r) (imbalance_at i x r) = rw inside (omega (arith, ints, some, are r node)) in
    let more = sum_nodes-less (λ v. pos 0) (λ v. when (c v) (imbalance_at i x v)) i.nodes r each node here in
    let split = sum_nodes-split c (supply_of i) (net i.arcs x) i.nodes in
    let crossing = across_is c i.nodes i.arcs x law.joined in
    let most = across_of (λ a. a.cap) (λ a. a.low) c i.arcs x is.shut.shut in
    shows i set law is.of (inl (omega (arith, ints, more, sum_nodes-zero (λ v. pos 0) i.nodes (λ v h. refl), split, crossing, most)))

-- ---- no excess, and some deficit
when_none : (b : Bool) (z : ℤ) → z ≤ℤ pos 0 → when b z ≤ℤ pos 0
when_none true z h = h
when_none false z h = omega (arith, ints)

when_all : (b : Bool) (z : ℤ) → b ≡ true → when b z ≡ z
when_all b z e = rw e refl

no_crossing : (b d : Bool) (z low cap : ℤ) → b ≡ true → d ≡ true → ((b && not d) ≡ true → z ≡ low) × ((d && not b) ≡ true → z ≡ cap)
no_crossing true true z low cap e f = (λ h. absurd (false≢true h), λ h. absurd (false≢true h))
no_crossing true false z low cap e f = absurd (false≢true f)
no_crossing false d z low cap e f = absurd (false≢true e)

none_cross : (set : ℕ → Bool) (arcs : List ArcView) (x : List ℤ) → KeepsBounds arcs x → HasEnds arcs (length arcs) set
    → AllZip (λ a z. (leaves set a ≡ true → z ≡ a.low) × (enters set a ≡ true → z ≡ a.cap)) arcs x
none_cross set [] [] w ends = tt
none_cross set [] (z ∷ x) w ends = absurd w
none_cross set (a ∷ arcs) [] w ends = absurd w
none_cross set (a ∷ arcs) (z ∷ x) w ends =
    let first = ends 0 (omega arith) in
    (no_crossing (set a.tail) (set a.head) z a.low a.cap first.0 first.1, none_cross set arcs x w.1 (λ k inside. ends (suc k) (omega (arith, inside))))

pub short_tells : (i : MinValue) (x : List ℤ) (imbalance : ℕ → ℤ) (set : CutValue) → IsMin i → KeepsBounds i.arcs x → AreImbalances i x imbalance → set.nodes ≡ i.nodes → HasEnds i.arcs (length i.arcs) (members set) → HasDeficits (i.nodes + 1) imbalance (members set)
    → ((v : ℕ) → 1 ≤ v → v < i.nodes + 1 → imbalance v ≤ℤ pos 0) → (r : ℕ) → IsNode i.nodes r → imbalance r <ℤ pos 0 → ShowsNoFlow i set
short_tells i x imbalance set law within are of ends deficits low r node less =
    let c = members set in
    let each : (v : ℕ) → IsNode i.nodes v → when (c v) (imbalance_at i x v) ≤ℤ pos 0 = λ v h. when_none (c v) (imbalance_at i x v) (omega (arith, ints, are v h, low v h.0 (omega (arith, h.1)))) in
    let here : when (c r) (imbalance_at i x r) <ℤ pos 0 = let e = when_all (c r) (imbalance_at i x r) (deficits r node.0 (omega (arith, node.1)) less) in omega (arith, ints, e, are r node, less) in
    let fewer = sum_nodes-less (λ v. when (c v) (imbalance_at i x v)) (λ v. pos 0) i.nodes r each node here in
    let split = sum_nodes-split c (supply_of i) (net i.arcs x) i.nodes in
    let crossing = across_is c i.nodes i.arcs x law.joined in
    let least = across_of (λ a. a.low) (λ a. a.cap) c i.arcs x (none_cross c i.arcs x within ends) in
    shows i set law of (inr (omega (arith, ints, fewer, sum_nodes-zero (λ v. pos 0) i.nodes (λ v h. refl), split, crossing, least)))

-- ---- some was sent
module _ (i : MinValue) (x y : List ℤ) (imbalance : ℕ → ℤ) (are : AreImbalances i x imbalance) (sent : IsSent i.nodes i.arcs x y imbalance) where
  abbrev left : List ℤ → ℕ → ℤ
  left z v = pos (positive_part (imbalance_at i z v))

  apart : sent.from ≢ sent.to
  apart e = let f = ap imbalance e in omega (arith, ints, f, sent.positive, sent.enough, sent.within_deficit)

  at_from : imbalance_at i y sent.from ≡ imbalance_at i x sent.from -ℤ sent.amount
  at_from =
      let here : (sent.from == sent.from) ≡ true = eq-eqb sent.from sent.from refl in
      let there : (sent.to == sent.from) ≡ false = ne_eqb sent.to sent.from (λ e. apart (sym e)) in
      let shift : net i.arcs y sent.from ≡ net i.arcs x sent.from +ℤ sent.amount = sent.shifts sent.from ∙ rw (here, there) (omega (arith, ints)) in
      omega (arith, ints, shift)

  at_to : imbalance_at i y sent.to ≡ imbalance_at i x sent.to +ℤ sent.amount
  at_to =
      let here : (sent.to == sent.to) ≡ true = eq-eqb sent.to sent.to refl in
      let there : (sent.from == sent.to) ≡ false = ne_eqb sent.from sent.to apart in
      let shift : net i.arcs y sent.to ≡ net i.arcs x sent.to -ℤ sent.amount = sent.shifts sent.to ∙ rw (here, there) (omega (arith, ints)) in
      omega (arith, ints, shift)

  elsewhere : (v : ℕ) → v ≢ sent.from → v ≢ sent.to → imbalance_at i y v ≡ imbalance_at i x v
  elsewhere v not_from not_to =
      let here : (sent.from == v) ≡ false = ne_eqb sent.from v (λ e. not_from (sym e)) in
      let there : (sent.to == v) ≡ false = ne_eqb sent.to v (λ e. not_to (sym e)) in
      let shift : net i.arcs y v ≡ net i.arcs x v = sent.shifts v ∙ rw (here, there) (omega (arith, ints)) in
      omega (arith, ints, shift)

  less_at : left y sent.from <ℤ left x sent.from
  less_at =
      let is = are sent.from sent.from_within in
      let before = part_of (imbalance_at i x sent.from) (omega (arith, ints, is, sent.positive, sent.enough)) in
      let after = part_of (imbalance_at i y sent.from) (omega (arith, ints, is, at_from, sent.enough)) in
      omega (arith, ints, before, after, at_from, sent.positive)

  no_more : (v : ℕ) → IsNode i.nodes v → left y v ≤ℤ left x v
  no_more v node = elim (cases_eq v sent.from) [
    | inl same ↦ subst (λ u. left y u ≤ℤ left x u) (sym same) (omega (arith, ints, less_at))
    | inr not_from ↦ elim (cases_eq v sent.to) [
      | inl same ↦
          let is = are sent.to sent.to_within in
          let after = part_none (imbalance_at i y sent.to) (omega (arith, ints, is, at_to, sent.within_deficit)) in
          let le : left y sent.to ≤ℤ left x sent.to = omega (arith, ints, after) in
          subst (λ u. left y u ≤ℤ left x u) (sym same) le
      | inr not_to ↦ let e = elsewhere v not_from not_to in rw e (omega (arith, ints))
    ]
  ]

  pub sent_tells : (¬ FeasibleMin i x) × KeepsBounds i.arcs y × (total_excess i y <ℤ total_excess i x)
  sent_tells = (
    λ feasible. let is = are sent.from sent.from_within in let e = feasible.balanced sent.from sent.from_within in omega (arith, ints, is, e, sent.positive, sent.enough),
    sent.within,
    sum_nodes-less (left y) (left x) i.nodes sent.from no_more sent.from_within less_at,
  )

-- ---- the excesses of the nodes below this one
pub record AreImbalancesBelow (i : MinValue) (x : List ℤ) (id : ℕ) (imbalance : ℕ → ℤ) : Type 0 where
  pub below : (v : ℕ) → 1 ≤ v → v < id → imbalance v ≡ imbalance_at i x v
  pub above : (v : ℕ) → id ≤ v → imbalance v ≡ pos 0

pub imbalances_none : (i : MinValue) (x : List ℤ) (imbalance : ℕ → ℤ) → ((v : ℕ) → imbalance v ≡ pos 0) → AreImbalancesBelow i x 1 imbalance
imbalances_none i x imbalance none = record {
  below = λ v some less. absurd (omega (arith, some, less));
  above = λ v more. none v;
}

pub imbalances_skip : (i : MinValue) (x : List ℤ) (id : ℕ) (imbalance : ℕ → ℤ) → AreImbalancesBelow i x id imbalance → imbalance_at i x id ≡ pos 0 → AreImbalancesBelow i x (id + 1) imbalance
imbalances_skip i x id imbalance is none = record {
  below = λ v some less. elim (cases_order v id) [
    | inl same ↦ subst (λ u. imbalance u ≡ imbalance_at i x u) (sym same) (is.above id (omega arith) ∙ sym none)
    | inr apart ↦ elim apart [ inl low ↦ is.below v some low | inr high ↦ absurd (omega (arith, high, less)) ]
  ];
  above = λ v more. is.above v (omega (arith, more));
}

-- nodes with neither a supply nor a balance
pub imbalances_skipped : (i : MinValue) (x : List ℤ) (from end to : ℕ) (imbalance : ℕ → ℤ) → ((v : ℕ) → from ≤ v → v < to → supply_of i v ≡ pos 0) → Skips (λ v. net i.arcs x v ≡ pos 0) from end to
    → AreImbalancesBelow i x from imbalance → AreImbalancesBelow i x to imbalance
imbalances_skipped i x from end to imbalance none is =
    skipped _ (λ n. AreImbalancesBelow i x n imbalance) from end to is
    (λ v least below balance are. imbalances_skip i x v imbalance are (omega (arith, ints, none v least below, balance)))

pub imbalances_more : (i : MinValue) (x : List ℤ) (id : ℕ) (imbalance after : ℕ → ℤ) → AreImbalancesBelow i x id imbalance → after id ≡ imbalance_at i x id → ((v : ℕ) → v ≢ id → after v ≡ imbalance v) → AreImbalancesBelow i x (id + 1) after
imbalances_more i x id imbalance after is here others = record {
  below = λ v some less. elim (cases_order v id) [
    | inl same ↦ subst (λ u. after u ≡ imbalance_at i x u) (sym same) here
    | inr apart ↦ elim apart [ inl low ↦ others v (λ e. omega (arith, e, low)) ∙ is.below v some low | inr high ↦ absurd (omega (arith, high, less)) ]
  ];
  above = λ v more. others v (λ e. omega (arith, e, more)) ∙ is.above v (omega (arith, more));
}

pub imbalances_all : (i : MinValue) (x : List ℤ) (id : ℕ) (imbalance : ℕ → ℤ) → i.nodes < id → AreImbalancesBelow i x id imbalance → AreImbalances i x imbalance
imbalances_all i x id imbalance over is v node = is.below v node.0 (omega (arith, node.1, over))

-- ---- nodes added to a set
pub members_new : (set : CutValue) (id : ℕ) → members (with_node set id) id ≡ true
members_new set id = contains-insert set.ids id id ∙ rw (eq-eqb id id refl) refl

pub members_stay : (set : CutValue) (id v : ℕ) → members set v ≡ true → members (with_node set id) v ≡ true
members_stay set id v there = elim (cases_eq v id) [
  | inl same ↦ subst (λ u. members (with_node set id) u ≡ true) (sym same) (members_new set id)
  | inr ne ↦ contains-insert set.ids id v ∙ rw (ne_eqb v id ne) there
]

-- both ends of one more arc
pub ends_more : (arcs : List ArcView) (i : ℕ) (a : ArcView) (set : CutValue) → slice_get arcs i ≡ Some a → HasEnds arcs i (members set) → HasEnds arcs (i + 1) (members (with_node (with_node set a.tail) a.head))
ends_more arcs i a set here ends k below = elim (cases_eq k i) [
  | inl same ↦
      let is : arc_at arcs k ≡ a = ap (arc_at arcs) same ∙ get_or_from_slice_get arcs i a no_arc here in
      let more = with_node set a.tail in
      rw is (members_stay more a.head a.tail (members_new set a.tail), members_new more a.head)
  | inr apart ↦
      let before = ends k (omega (arith, below, apart)) in
      let stay = λ (v : ℕ) (there : members set v ≡ true). members_stay (with_node set a.tail) a.head v (members_stay set a.tail v there) in
      (stay (arc_at arcs k).tail before.0, stay (arc_at arcs k).head before.1)
]

pub deficits_more : (id : ℕ) (imbalance : ℕ → ℤ) (set : CutValue) → HasDeficits id imbalance (members set) → HasDeficits (id + 1) imbalance (members (with_node set id))
deficits_more id imbalance set has v some below less = elim (cases_eq v id) [
  | inl same ↦ subst (λ u. members (with_node set id) u ≡ true) (sym same) (members_new set id)
  | inr apart ↦ members_stay set id v (has v some (omega (arith, below, apart)) less)
]

pub deficits_less : (id : ℕ) (imbalance : ℕ → ℤ) (set : ℕ → Bool) → HasDeficits id imbalance set → pos 0 ≤ℤ imbalance id → HasDeficits (id + 1) imbalance set
deficits_less id imbalance set has none v some below less = elim (cases_eq v id) [
  | inl same ↦ absurd (let here : imbalance v ≡ imbalance id = ap imbalance same in omega (arith, ints, none, here, less))
  | inr apart ↦ has v some (omega (arith, below, apart)) less
]

pub deficits_skipped : (from end to : ℕ) (imbalance : ℕ → ℤ) (set : ℕ → Bool) → Skips (λ v. imbalance v ≡ pos 0) from end to → HasDeficits from imbalance set → HasDeficits to imbalance set
deficits_skipped from end to imbalance set is has v some below less = elim (cases_lt v from) [
  | inl before ↦ has v some before less
  | inr past ↦ absurd (let none = is.blank v past below in omega (arith, ints, none, less))
]

-- ---- the excesses of the nodes below this one, summed up
pub record AreSignsBelow (nodes id : ℕ) (imbalance : ℕ → ℤ) (signs : ImbalanceSigns) : Type 0 where
  pub low : (v : ℕ) → 1 ≤ v → v < id → imbalance v ≤ℤ pos 0
  pub are : AreSigns nodes id imbalance signs

pub signs_none : (nodes : ℕ) (imbalance : ℕ → ℤ) → AreSignsBelow nodes 1 imbalance Even
signs_none nodes imbalance = record {
  low = λ v some less. absurd (omega (arith, some, less));
  are = λ v some less. absurd (omega (arith, some, less));
}

one_more_node : (P : ℕ → Type 0) (id : ℕ) → ((v : ℕ) → 1 ≤ v → v < id → P v) → P id → (v : ℕ) → 1 ≤ v → v < id + 1 → P v
one_more_node P id before here v some less = elim (cases_order v id) [
  | inl same ↦ subst P (sym same) here
  | inr apart ↦ elim apart [ inl low ↦ before v some low | inr high ↦ absurd (omega (arith, high, less)) ]
]

still_signs : (nodes id : ℕ) (imbalance : ℕ → ℤ) (signs : ImbalanceSigns) → AreSigns nodes id imbalance signs → imbalance id ≡ pos 0 → AreSigns nodes (id + 1) imbalance signs
still_signs nodes id imbalance Even is none = one_more_node (λ v. imbalance v ≡ pos 0) id is none
still_signs nodes id imbalance Deficit is none = (one_more_node (λ v. imbalance v ≤ℤ pos 0) id is.0 (omega (arith, ints, none)), is.1)
still_signs nodes id imbalance Excess is none = is

pub signs_even : (nodes id : ℕ) (imbalance : ℕ → ℤ) (signs : ImbalanceSigns) → AreSignsBelow nodes id imbalance signs → imbalance id ≡ pos 0 → AreSignsBelow nodes (id + 1) imbalance signs
signs_even nodes id imbalance signs is none = record {
  low = one_more_node (λ v. imbalance v ≤ℤ pos 0) id is.low (omega (arith, ints, none));
  are = still_signs nodes id imbalance signs is.are none;
}

pub signs_skipped : (nodes from end to : ℕ) (imbalance : ℕ → ℤ) (signs : ImbalanceSigns) → Skips (λ v. imbalance v ≡ pos 0) from end to → AreSignsBelow nodes from imbalance signs → AreSignsBelow nodes to imbalance signs
signs_skipped nodes from end to imbalance signs is =
    skipped _ (λ n. AreSignsBelow nodes n imbalance signs) from end to is (λ v least below none are. signs_even nodes v imbalance signs are none)

pub signs_deficit : (nodes id : ℕ) (imbalance : ℕ → ℤ) (signs : ImbalanceSigns) → AreSignsBelow nodes id imbalance signs → IsNode nodes id → imbalance id <ℤ pos 0 → AreSignsBelow nodes (id + 1) imbalance Deficit
signs_deficit nodes id imbalance signs is node less =
    let low : (v : ℕ) → 1 ≤ v → v < id + 1 → imbalance v ≤ℤ pos 0 = one_more_node (λ v. imbalance v ≤ℤ pos 0) id is.low (omega (arith, ints, less)) in
    record { low = low; are = (low, (id, node, less)) }
