-- Flow sent from the source to the sink, and a set that no more can leave.
use Rattle.std.proofs.Common.{◌≡◌, inl, inr, ℕ, ◌==◌, Bool, true, false, List, [], ◌∷◌, All, ℤ, pos, ◌+ℤ◌, ◌≤ℤ◌, ◌<ℤ◌, sym, ap, ◌∙◌, arith, eq-eqb}
use Rattle.std.proofs.{lemmas.Int.{ints}, lemmas.Bool.{cases_Bool, cases_eq, ne_eqb}}
use Rattle.std.proofs.lemmas.List.Elements.{All-head, All-tail, All-weaker}
use Rattle.std.specs.List.{AllZip}
use Rattle.dimacs_network.specs.declared.network.ArcView.{ArcView}
use Rattle.dimacs_instance.specs.{MaxFlows.{HasCapacityAlone, IsMax, MaxValue}, MinFlows.{HasBounds}}
use Rattle.dimacs_judging.specs.{Cuts.{CutTight, IsTightAt}, Feasible.{FeasibleMax, value}, Optimum.{Maximum}}
use Rattle.dimacs_judging.proofs.Duality.{tight_is_maximum}
use Rattle.dimacs_decide.specs.{Bounds.{KeepsBounds}, inside.Augmentation.{IsSent, IsShut, IsShutAt}}
use Rattle.dimacs_decide.specs.inside.Imbalances.{AreEnds}

-- ---- the lower bounds are 0
abbrev pub KeepsCapacities : List ArcView → List ℤ → Type 0
KeepsCapacities arcs x = AllZip (λ a z. (pos 0 ≤ℤ z) × (z ≤ℤ a.cap)) arcs x

pub max_bounds : (arcs : List ArcView) → All HasCapacityAlone arcs → All HasBounds arcs
max_bounds arcs caps = All-weaker HasCapacityAlone HasBounds (λ a h. (omega (arith, ints, h.0), omega (arith, ints, h.0, h.2), h.3, (omega (arith, ints, h.1), omega (arith, ints, h.1)))) arcs caps

pub bounds_from_capacities : (arcs : List ArcView) (x : List ℤ) → All HasCapacityAlone arcs → KeepsCapacities arcs x → KeepsBounds arcs x
bounds_from_capacities [] [] caps w = tt
bounds_from_capacities [] (z ∷ x) caps w = absurd w
bounds_from_capacities (a ∷ arcs) [] caps w = absurd w
bounds_from_capacities (a ∷ arcs) (z ∷ x) caps w =
    let h = All-head HasCapacityAlone a arcs caps in
    ((omega (arith, ints, h.0, w.0.0), w.0.1), bounds_from_capacities arcs x (All-tail HasCapacityAlone a arcs caps) w.1)

pub capacities_from_bounds : (arcs : List ArcView) (x : List ℤ) → All HasCapacityAlone arcs → KeepsBounds arcs x → KeepsCapacities arcs x
capacities_from_bounds [] [] caps w = tt
capacities_from_bounds [] (z ∷ x) caps w = absurd w
capacities_from_bounds (a ∷ arcs) [] caps w = absurd w
capacities_from_bounds (a ∷ arcs) (z ∷ x) caps w =
    let h = All-head HasCapacityAlone a arcs caps in
    ((omega (arith, ints, h.0, w.0.0), w.0.1), capacities_from_bounds arcs x (All-tail HasCapacityAlone a arcs caps) w.1)

tight_from_shut : (set : ℕ → Bool) (arcs : List ArcView) (x : List ℤ) → All HasCapacityAlone arcs → AllZip (IsShutAt set) arcs x → AllZip (IsTightAt set) arcs x
tight_from_shut set [] [] caps w = tt
tight_from_shut set [] (z ∷ x) caps w = absurd w
tight_from_shut set (a ∷ arcs) [] caps w = absurd w
tight_from_shut set (a ∷ arcs) (z ∷ x) caps w =
    let h = All-head HasCapacityAlone a arcs caps in
    ((w.0.0, λ e. w.0.1 e ∙ h.0), tight_from_shut set arcs x (All-tail HasCapacityAlone a arcs caps) w.1)

module _ (i : MaxValue) (x : List ℤ) (imbalance : ℕ → ℤ) (law : IsMax i) (feasible : FeasibleMax i x) (ends : AreEnds i.source i.sink imbalance) where
  -- ---- the set
  pub stuck_tells : (set : ℕ → Bool) → IsShut i.nodes i.arcs x imbalance set → set i.source ≡ true → Maximum i x × CutTight i x set
  stuck_tells set is inside =
      let outside : set i.sink ≡ false = elim (cases_Bool (set i.sink)) [ inl there ↦ absurd (omega (arith, ints, ends.sink, is.no_deficit i.sink law.sink_within there)) | inr out ↦ out ] in
      let tight : CutTight i x set = record { source_inside = inside; sink_outside = outside; tight = tight_from_shut set i.arcs x law.capacities is.shut } in
      (tight_is_maximum i law.joined law.source_within x set feasible tight, tight)

  -- ---- the flow
  only_source : (v : ℕ) → pos 0 <ℤ imbalance v → v ≡ i.source
  only_source v some = elim (cases_eq v i.source) [
    | inl same ↦ same
    | inr ne ↦ elim (cases_eq v i.sink) [
      | inl same ↦ absurd (let e = ap imbalance same in omega (arith, ints, e, some, ends.sink))
      | inr other ↦ absurd (omega (arith, ints, some, ends.others v ne other))
    ]
  ]

  only_sink : (v : ℕ) → imbalance v <ℤ pos 0 → v ≡ i.sink
  only_sink v some = elim (cases_eq v i.sink) [
    | inl same ↦ same
    | inr other ↦ elim (cases_eq v i.source) [
      | inl same ↦ absurd (let e = ap imbalance same in omega (arith, ints, e, some, ends.source))
      | inr ne ↦ absurd (omega (arith, ints, some, ends.others v ne other))
    ]
  ]

  pub sent_tells : (y : List ℤ) → IsSent i.nodes i.arcs x y imbalance → (¬ Maximum i x) × FeasibleMax i y × (value i x <ℤ value i y)
  sent_tells y sent =
      let from : sent.from ≡ i.source = only_source sent.from (omega (arith, ints, sent.positive, sent.enough)) in
      let to : sent.to ≡ i.sink = only_sink sent.to (omega (arith, ints, sent.positive, sent.within_deficit)) in
      let there : (sent.to == i.source) ≡ false = ne_eqb sent.to i.source (λ e. law.ends_apart (sym e ∙ to)) in
      let here : (sent.from == i.source) ≡ true = eq-eqb sent.from i.source from in
      let more : value i y ≡ value i x +ℤ sent.amount = sent.shifts i.source ∙ rw (there, here) (omega (arith, ints)) in
      let less : value i x <ℤ value i y = omega (arith, ints, more, sent.positive) in
      let other : FeasibleMax i y = record {
        within = capacities_from_bounds i.arcs y law.capacities sent.within;
        balanced = λ v h not_source not_sink.
            let a : (sent.from == v) ≡ false = ne_eqb sent.from v (λ e. not_source (sym e ∙ from)) in
            let b : (sent.to == v) ≡ false = ne_eqb sent.to v (λ e. not_sink (sym e ∙ to)) in
            sent.shifts v ∙ rw (a, b) (omega (arith, ints, feasible.balanced v h not_source not_sink));
      } in
      (λ best. let le = best.greatest y other in omega (arith, ints, le, less), other, less)
