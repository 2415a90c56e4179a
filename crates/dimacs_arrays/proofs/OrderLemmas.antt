-- Labels with the same distances and predecessors pass together, in any order.
use Rattle.std.proofs.Common.{◌≡◌, ◌≢◌, inl, inr, ℕ, suc, ◌<◌, List, [], ◌∷◌, All, Contains, length, get_or, Option, Some, ℤ, ◌+ℤ◌, refl, sym, ap, subst, ◌∙◌, arith}
use Rattle.std.proofs.{lemmas.Bool.{ne_eqb}, lemmas.Bool.Decides.{eqb_tells}}
use Rattle.std.proofs.lemmas.List.Elements.{All-cons, All-contains, All-from_get_or, All-get_or, All-head, All-nil}
use Rattle.dimacs_lines.specs.Limits.{IsNode}
use Rattle.dimacs_network.specs.Arcs.{JoinsNodes, NetworkValue, arc_at, no_arc}
use Rattle.dimacs_instance.specs.QueryTexts.{Sources}
use Rattle.dimacs_claims.specs.declared.label_list.Label.{Label}
use Rattle.dimacs_claims.specs.Labels.{BlockValue, IsBlock, IsLabel, IsWithinRadius, LabelsValue, distance_in, label, no_label}
use Rattle.dimacs_judging.specs.{Answers.{block_of}, Labels.{HasTightArc, IsReached, IsRelaxed, LabelsOk}}
use Rattle.dimacs_judging.specs.{PathsJudge.{PassesPaths}, QueryTests.{HasFullBlock}}
use Rattle.dimacs_decide.specs.{Distances.{AreLabelsOf}, Predecessors.{pred_by_node}}
use Rattle.dimacs_arrays.specs.{Paths.{AreLabelsBy, ArePredecessors}, inside.PredecessorsOf.{ArePredsOf}}
use Rattle.dimacs_decide.proofs.TightTailLemmas.{not_source, own_label}
use Rattle.dimacs_arrays.proofs.CertifyPathsLemmas.{labels_by}

-- the label of a distance
label_at_distance : (ls : List Label) (v : ℕ) (d : ℤ) → distance_in ls v ≡ Some d → (m : Label) × Contains ls m × (m.id ≡ v) × (m.dist ≡ d)
label_at_distance [] v d at = absurd (cc)
label_at_distance (l ∷ ls) v d at = elim (eqb_tells l.id v) [
  | inl same ↦ (let e : Some l.dist ≡ Some d = rw same.0 at at in let f : l.dist ≡ d = cc in (l, (0, omega arith, refl), same.1, f))
  | inr apart ↦ (let (m, there, id, dist) = label_at_distance ls v d (rw apart.0 at at) in (m, (suc there.0, omega (arith, there.1), there.2), id, dist))
]

module _ (g : NetworkValue) (s : ℕ) (claim : ℕ → Option ℤ) (pred : ℕ → ℕ) (joined : All (JoinsNodes g.nodes) g.arcs) (one two : LabelsValue) (mine : AreLabelsBy g.nodes s claim pred one) (yours : AreLabelsBy g.nodes s claim pred two) where
  abbrev b : BlockValue
  b = mine.block

  abbrev b' : BlockValue
  b' = yours.block

  same_label : (v : ℕ) → IsNode g.nodes v → label b' v ≡ label b v
  same_label v node = yours.agrees v node ∙ sym (mine.agrees v node)

  reached : (v : ℕ) (far : ℤ) → IsNode g.nodes v → IsReached b v far → IsReached b' v far
  reached v far node (inl labelled) = inl (labelled.0, same_label v node ∙ labelled.1, labelled.2)
  reached v far node (inr out) = inr (same_label v node ∙ out.0, subst (λ r. ¬ IsWithinRadius r far) (mine.whole ∙ sym yours.whole) out.1)

  relaxed : All (IsRelaxed b) g.arcs → All (IsRelaxed b') g.arcs
  relaxed all = All-from_get_or (IsRelaxed b') g.arcs no_arc (λ k inside d at.
      let ends : JoinsNodes g.nodes (arc_at g.arcs k) = All-get_or (JoinsNodes g.nodes) g.arcs k no_arc inside joined in
      reached (arc_at g.arcs k).head (d +ℤ (arc_at g.arcs k).cost) ends.1 (All-get_or (IsRelaxed b) g.arcs k no_arc inside all d (sym (same_label _ ends.0) ∙ at)))

  tight_one : All (HasTightArc g.arcs b) b.labels → (k : ℕ) → k < length b'.labels → HasTightArc g.arcs b' (get_or b'.labels k no_label)
  tight_one all k inside =
      let l = get_or b'.labels k no_label in
      let lawful : IsLabel g.nodes l = All-get_or (IsLabel g.nodes) b'.labels k no_label inside yours.lawful.within in
      let other : l.id ≢ b'.source = All-get_or (λ (m : Label). m.id ≢ b'.source) b'.labels k no_label inside (not_source b'.source [] b'.labels yours.lawful.fresh) in
      let there : label b l.id ≡ Some l.dist = sym (same_label l.id lawful.id) ∙ own_label g.nodes b' yours.lawful k inside in
      let found : distance_in b.labels l.id ≡ Some l.dist = rw (ne_eqb b.source l.id (λ e. other (sym e ∙ (mine.source ∙ sym yours.source)))) at there in
      let (m, has, id, dist) = label_at_distance b.labels l.id l.dist found in
      let (base, at, h) = All-contains (HasTightArc g.arcs b) b.labels m all has in
      let by : m.pred ≡ l.pred = All-contains (λ (n : Label). n.pred ≡ pred n.id) b.labels m mine.preds has ∙ (ap pred id ∙ sym (All-get_or (λ (n : Label). n.pred ≡ pred n.id) b'.labels k no_label inside yours.preds)) in
      (base, same_label l.pred lawful.pred ∙ (ap (label b) (sym by) ∙ at), record { arc = h.arc; present = h.present; from = h.from ∙ by; to = h.to ∙ id; adds = h.adds ∙ dist })

  labels_pass : LabelsOk g.arcs b → LabelsOk g.arcs b'
  labels_pass passes = record {
    weights = rw yours.whole tt;
    tight = All-from_get_or (HasTightArc g.arcs b') b'.labels no_label (tight_one passes.tight);
    relaxed = relaxed passes.relaxed;
  }

  found_two : block_of (b' ∷ []) s ≡ Some b'
  found_two = elim (eqb_tells b'.source s) [ inl same ↦ rw same.0 refl | inr apart ↦ absurd (apart.1 yours.source) ]

  pub both_pass : PassesPaths g (Sources (s ∷ [])) one → PassesPaths g (Sources (s ∷ [])) two
  both_pass passes =
      let mine_alone : one.blocks ≡ b ∷ [] = ap (λ (l : LabelsValue). l.blocks) mine.alone in
      let yours_alone : two.blocks ≡ b' ∷ [] = ap (λ (l : LabelsValue). l.blocks) yours.alone in
      record {
        nodes = ap (λ (l : LabelsValue). l.nodes) yours.alone;
        queries = passes.queries;
        blocks = All-cons (HasFullBlock two.blocks) s [] (b', ap (λ blocks. block_of blocks s) yours_alone ∙ found_two, yours.whole) (All-nil _);
        labels = subst (All (LabelsOk g.arcs)) (sym yours_alone) (All-cons (LabelsOk g.arcs) b' [] (labels_pass (All-head (LabelsOk g.arcs) b [] (subst (All (LabelsOk g.arcs)) mine_alone passes.labels))) (All-nil _));
      }

-- labels that are right, by the predecessors of their only block
pub predecessors_by : (g : NetworkValue) (s : ℕ) (claim : ℕ → Option ℤ) (labels : LabelsValue) (b : BlockValue) (preds : List ℕ) → AreLabelsOf g s claim labels → labels.blocks ≡ b ∷ [] → IsBlock g.nodes b → ArePredsOf g.nodes b.labels preds
    → All (JoinsNodes g.nodes) g.arcs → ArePredecessors g s claim preds
predecessors_by g s claim labels b preds of alone lawful named joined =
    let by = labels_by g s claim labels b preds of alone lawful named in
    record {
      each = named.each;
      some = (labels, by);
      pass = λ other agrees. both_pass g s claim (pred_by_node preds) joined labels other by agrees of.passes;
    }
