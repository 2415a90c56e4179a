-- The predecessors of labels that were shown to be right.
use Rattle.std.proofs.Common.{◌≡◌, ◌≢◌, inl, inr, ℕ, List, [], ◌∷◌, All, length, get_or, Option, Some, None, IsSome, ℤ, refl, sym, ap, subst, ◌∙◌, arith}
use Rattle.std.proofs.{lemmas.Bool.Decides.{eqb_tells}, lemmas.Bool.{cases_eq, ne_eqb}}
use Rattle.std.proofs.lemmas.List.Elements.{All-head, All-tail}
use Rattle.dimacs_claims.specs.declared.label_list.Label.{Label}
use Rattle.dimacs_claims.specs.Labels.{BlockValue, IsBlock, LabelsValue, distance_in, label, label_in}
use Rattle.dimacs_lines.specs.Limits.{IsNode}
use Rattle.dimacs_network.specs.Arcs.{NetworkValue}
use Rattle.dimacs_judging.specs.{Answers.{block_of}, QueryTests.{HasFullBlock}}
use Rattle.dimacs_decide.specs.{Distances.{AreLabelsOf}, Predecessors.{NeedsPredecessor, pred_by_node}}
use Rattle.dimacs_decide.proofs.TightTailLemmas.{not_source}
use Rattle.dimacs_arrays.specs.{Paths.{AreLabelsBy}, inside.PredecessorsOf.{ArePredsOf}}

not_among : (labels : List Label) (v : ℕ) → All (λ (l : Label). l.id ≢ v) labels → distance_in labels v ≡ None
not_among [] v all = refl
not_among (l ∷ labels) v all = rw (ne_eqb l.id v (All-head (λ (m : Label). m.id ≢ v) l labels all)) (not_among labels v (All-tail (λ (m : Label). m.id ≢ v) l labels all))

no_claim : (o : Option ℤ) → (¬ IsSome o) → o ≡ None
no_claim None off = refl
no_claim (Some d) off = absurd (off refl)

pub one_block : (blocks : List BlockValue) (b : BlockValue) → length blocks ≡ 1 → b ≡ get_or blocks 0 b → blocks ≡ b ∷ []
one_block [] b one is = absurd (omega (arith, one))
one_block (c ∷ []) b one is = ap (λ x. x ∷ []) (sym is)
one_block (c ∷ d ∷ more) b one is = absurd (omega (arith, one))

alone_of : (blocks : List BlockValue) (b : BlockValue) (s : ℕ) → blocks ≡ b ∷ [] → HasFullBlock blocks s → (b.source ≡ s) × (b.radius ≡ None) × (block_of blocks s ≡ Some b)
alone_of blocks b s is has = elim (eqb_tells b.source s) [
  | inl same ↦
      let found : block_of blocks s ≡ Some b = rw (is, same.0) refl in
      let (c, named, whole) = has in
      let both : Some c ≡ Some b = sym named ∙ found in
      let one : c ≡ b = cc in
      (same.1, ap (λ (x : BlockValue). x.radius) (sym one) ∙ whole, found)
  | inr apart ↦
      let none : block_of blocks s ≡ None = rw (is, apart.0) refl in
      absurd (let f : Some has.0 ≡ None = sym has.1 ∙ none in cc)
]

module _ (g : NetworkValue) (s : ℕ) (claim : ℕ → Option ℤ) (labels : LabelsValue) (b : BlockValue) (preds : List ℕ) (of : AreLabelsOf g s claim labels) (alone : labels.blocks ≡ b ∷ []) (lawful : IsBlock g.nodes b) (are : ArePredsOf g.nodes b.labels preds) where
  pub labels_by : AreLabelsBy g.nodes s claim (pred_by_node preds) labels
  labels_by = record {
    block = b;
    alone = rw (of.passes.nodes, alone) refl;
    lawful = lawful;
    source = full.0;
    whole = full.1;
    agrees = agrees;
    preds = are.named;
    others = λ v node free. are.others v (unnamed v node free);
  }
    where
      full : (b.source ≡ s) × (b.radius ≡ None) × (block_of labels.blocks s ≡ Some b)
      full = alone_of labels.blocks b s alone (All-head (HasFullBlock labels.blocks) s [] of.passes.blocks)

      agrees : (v : ℕ) → IsNode g.nodes v → label b v ≡ claim v
      agrees v node = ap (λ o. label_in o v) (sym full.2) ∙ of.agrees v node

      unlabelled : (v : ℕ) → v ≢ s → label b v ≡ None → distance_in b.labels v ≡ None
      unlabelled v apart none = rw (ne_eqb b.source v (λ e. apart (sym e ∙ full.0))) at none

      unnamed : (v : ℕ) → IsNode g.nodes v → (¬ NeedsPredecessor s claim v) → distance_in b.labels v ≡ None
      unnamed v node free = elim (cases_eq v s) [
        | inl same ↦ not_among b.labels v (subst (λ u. All (λ (l : Label). l.id ≢ u) b.labels) (full.0 ∙ sym same) (not_source b.source [] b.labels lawful.fresh))
        | inr apart ↦ unlabelled v apart (agrees v node ∙ no_claim (claim v) (λ some. free (apart, some)))
      ]
