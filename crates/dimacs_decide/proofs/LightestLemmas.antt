-- The lightest arc between each two nodes stands for all of them.
use Rattle.std.proofs.Common.{◌≡◌, inl, inr, ℕ, ◌<◌, List, [], ◌∷◌, All, Contains, length, get_or, Option, None, Bool, ℤ, ◌+ℤ◌, ◌≤ℤ◌, ◌<ℤ◌, refl, sym, ap, subst, ◌∙◌, arith}
use Rattle.std.proofs.{lemmas.Int.{ints}, lemmas.List.{get_or_default, get_or-map, length-map}}
use Rattle.std.proofs.lemmas.List.Elements.{All-contains, All-weaker, Contains-get_or}
use Rattle.dimacs_network.specs.{declared.network.ArcView.{ArcView}, Arcs.{JoinsNodes, arc_at, no_arc}}
use Rattle.dimacs_records.specs.declared.reasons.Reason.{Reason}
use Rattle.dimacs_claims.specs.Labels.{BlockValue}
use Rattle.dimacs_judging.specs.{CertificateTests.{RelaxFails}, Labels.{HasTightArc}, Tests.{Clear}, Walks.{IsWalk}}
use Rattle.dimacs_judging.specs.LightestArcs.{AreCovering, Covers, arcs_in}
use Rattle.dimacs_decide.specs.{Distances.{claim_row}, inside.FewLabels.{AreLightest}, inside.TightTrees.{IsTightTree}}

-- ---- which arcs
module _ (arcs : List ArcView) (order : List ℕ) (are : AreCovering arcs order) where
  at_place : (p : ℕ) → p < length order → arc_at (arcs_in arcs order) p ≡ arc_at arcs (get_or order p 0)
  at_place p inside = get_or-map (arc_at arcs) order p 0 no_arc inside

  pub covering_lightest : AreLightest arcs (arcs_in arcs order)
  covering_lightest = record {
    within = λ a (p, inside, is).
        let there : p < length order = omega (arith, inside, length-map order (arc_at arcs)) in
        let same : arc_at (arcs_in arcs order) p ≡ a = get_or_default (arcs_in arcs order) p no_arc a inside ∙ is in
        subst (Contains arcs) (sym (at_place p there) ∙ same) (Contains-get_or arcs (get_or order p 0) no_arc (are.within p 0 there));
    cover = λ a (k, inside, is).
        let same : arc_at arcs k ≡ a = get_or_default arcs k no_arc a inside ∙ is in
        let (i, (p, there, place), covers) = are.all k inside in
        let here : arc_at (arcs_in arcs order) p ≡ arc_at arcs i = at_place p there ∙ ap (arc_at arcs) (get_or_default order p 0 i there ∙ place) in
        (arc_at arcs i, subst (Contains (arcs_in arcs order)) here (Contains-get_or (arcs_in arcs order) p no_arc (omega (arith, there, length-map order (arc_at arcs)))), subst (Covers (arc_at arcs i)) same covers);
  }

-- ---- what the lightest arcs show of all
farther : (d x y e : ℤ) → x ≤ℤ y → (d +ℤ y) <ℤ e → (d +ℤ x) <ℤ e
farther d x y e less far = omega (arith, ints, less, far)

fails_lighter : (claim : ℕ → Option ℤ) (one other : ArcView) (reason : Reason) → Covers one other → RelaxFails None (claim other.tail) (claim other.head) other.cost reason → RelaxFails None (claim one.tail) (claim one.head) one.cost reason
fails_lighter claim one other reason covers (d, tail, why) = (
  d,
  ap claim covers.tail ∙ tail,
  elim why [
    | inl out ↦ inl (out.0, ap claim covers.head ∙ out.1, out.2)
    | inr far ↦ (let (e, head, less) = far.1 in inr (far.0, (e, ap claim covers.head ∙ head, farther d one.cost other.cost e covers.cost less)))
  ],
)

module _ (all least : List ArcView) (claim : ℕ → Option ℤ) (are : AreLightest all least) where
  pub lightest_joined : (nodes : ℕ) → All (JoinsNodes nodes) all → All (JoinsNodes nodes) least
  lightest_joined nodes joined k d inside = All-contains (JoinsNodes nodes) all (get_or least k d) joined (are.within (get_or least k d) (Contains-get_or least k d inside))

  pub lightest_clear : Clear (claim_row least claim) → Clear (claim_row all claim)
  lightest_clear clear k place reason f =
      let (a, (i, inside, is), covers) = are.cover (arc_at all k) (Contains-get_or all k no_arc f.0) in
      let same : arc_at least i ≡ a = get_or_default least i no_arc a inside ∙ is in
      clear i _ reason (inside, refl, fails_lighter claim (arc_at least i) (arc_at all k) reason (subst (λ b. Covers b (arc_at all k)) (sym same) covers) f.2)

  walks_still : (walk : List ArcView) (s t : ℕ) → IsWalk least s t walk → IsWalk all s t walk
  walks_still [] s t is = is
  walks_still (a ∷ walk) s t is = (are.within a is.0, is.1, walks_still walk a.head t is.2)

  pub lightest_tree : (nodes : ℕ) (b : BlockValue) (reached : ℕ → Bool) → IsTightTree nodes least claim b reached → IsTightTree nodes all claim b reached
  lightest_tree nodes b reached is = record {
    block = is.block;
    tight_arcs = All-weaker (HasTightArc least b) (HasTightArc all b) (λ l has. (has.0, has.1, record { arc = has.2.arc; present = are.within has.2.arc has.2.present; from = has.2.from; to = has.2.to; adds = has.2.adds })) b.labels is.tight_arcs;
    walks = λ v on. (let (walk, leads, tight) = is.walks v on in (walk, walks_still walk b.source v leads, tight));
  }
