-- Solving over arrays.
use Rattle.std.proofs.Common.{◌≡◌, inl, inr, ℕ, List, [], ◌∷◌, All, length, map, get_or, None, Some, ℤ, refl, sym, ap, subst, ◌∙◌}
use Rattle.std.proofs.{lemmas.Bool.Decides.{eqb_tells}, lemmas.List.Elements.{All-head}}
use Rattle.dimacs_network.specs.Arcs.{JoinsNodes, NetworkValue}
use Rattle.dimacs_claims.specs.{Cuts.{CutValue}, Labels.{BlockValue, IsBlock, LabelsValue, label, label_in}}
use Rattle.dimacs_instance.specs.{MinFlows.{MinValue}, QueryTexts.{Sources}}
use Rattle.dimacs_judging.specs.{Answers.{block_of}, Cuts.{members}, InfeasibleJudge.{ShowsNoFlow}, Walks.{IsDistance}}
use Rattle.dimacs_judging.specs.ViolatedSets.{Violated}
use Rattle.dimacs_decide.specs.{Claims.{claimed_by_node}, Distances.{AreDistancesFrom, AreLabelsOf}}
use Rattle.dimacs_solve.specs.Paths.{AreProduced, block_source, distinct_after}
use Rattle.dimacs_arrays.specs.{ByNode.{AreBits, marked}, MinArrays.{IsInfeasibleBy}, Paths.{ArePredecessors}}
use Rattle.dimacs_arrays.specs.{inside.PredecessorsOf.{ArePredsOf}, inside.LabelDistances.{AreDistancesOf}}
use Rattle.dimacs_arrays.proofs.OrderLemmas.{predecessors_by}

-- ---- no flow
-- a violated set, as bytes
pub infeasible_by : (i : MinValue) (set : CutValue) (bytes : List ℕ) → ShowsNoFlow i set → length bytes ≡ set.nodes → marked bytes ≡ members set → AreBits bytes
    → IsInfeasibleBy i bytes
infeasible_by i set bytes shown each marks bits = ((subst (Violated i) (sym marks) shown.0.violated, shown.1), each ∙ shown.0.nodes_are, bits)

-- ---- distances from one source
pub one_source : (blocks : List BlockValue) (s : ℕ) → map block_source blocks ≡ distinct_after [] (s ∷ []) → (b : BlockValue) × (blocks ≡ b ∷ []) × (b.source ≡ s)
one_source [] s is = let f : [] ≡ s ∷ [] = is in absurd (cc)
one_source (b ∷ []) s is = (b, refl, ap (λ xs. get_or xs 0 0) is)
one_source (b ∷ c ∷ more) s is = let f : b.source ∷ c.source ∷ map block_source more ≡ s ∷ [] = is in absurd (cc)

module _ (g : NetworkValue) (s : ℕ) (labels : LabelsValue) (b : BlockValue) (produced : AreProduced g (Sources (s ∷ [])) labels) (alone : labels.blocks ≡ b ∷ []) where
  source_is : b.source ≡ s
  source_is = let (c, one, is) = one_source labels.blocks s produced.sources in ap (λ (bs : List BlockValue). (get_or bs 0 b).source) (sym alone ∙ one) ∙ is

  whole : b.radius ≡ None
  whole = All-head (λ (c : BlockValue). c.radius ≡ None) b [] (subst (All (λ (c : BlockValue). c.radius ≡ None)) alone produced.unbounded)

  found : block_of labels.blocks s ≡ Some b
  found = rw alone (elim (eqb_tells b.source s) [ inl same ↦ rw same.0 refl | inr apart ↦ absurd (apart.1 source_is) ])

  module _ (distances : List ℤ) (preds : List ℕ) (lawful : IsBlock g.nodes b) (joined : All (JoinsNodes g.nodes) g.arcs) (are : AreDistancesOf g.nodes b distances) (named : ArePredsOf g.nodes b.labels preds) where
    of : AreLabelsOf g s (claimed_by_node distances) labels
    of = record {
      alone = ap length alone;
      passes = produced.shows.passes;
      agrees = λ v node. ap (λ o. label_in o v) found ∙ sym (are.agrees v node);
    }

    true_from : (v : ℕ) → IsDistance g.arcs b.source v (label b v) b.radius
    true_from = All-head (λ (c : BlockValue). (v : ℕ) → IsDistance g.arcs c.source v (label c v) c.radius) b [] (subst (All (λ (c : BlockValue). (v : ℕ) → IsDistance g.arcs c.source v (label c v) c.radius)) alone produced.shows.labels)

    distances_from : AreDistancesFrom g s (claimed_by_node distances)
    distances_from v node =
        let by_source = subst (λ u. IsDistance g.arcs u v (label b v) b.radius) source_is (true_from v) in
        let by_radius = subst (λ r. IsDistance g.arcs s v (label b v) r) whole by_source in
        subst (λ o. IsDistance g.arcs s v o None) (sym (are.agrees v node)) by_radius

    pub found_by : (length distances ≡ g.nodes) × AreDistancesFrom g s (claimed_by_node distances) × ArePredecessors g s (claimed_by_node distances) preds
    found_by = (are.each, distances_from, predecessors_by g s (claimed_by_node distances) labels b preds of alone lawful named joined)
