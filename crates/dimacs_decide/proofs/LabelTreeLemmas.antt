-- Labels of nodes that lead back to the source, and one more.
use Rattle.std.proofs.Common.{◌≡◌, ◌≢◌, inl, inr, ℕ, suc, ◌==◌, Bool, true, false, cond, [], Option, Some, None, IsSome, is_some, ℤ, pos, refl, sym, ap, subst, ◌∙◌}
use Rattle.std.proofs.{lemmas.Bool.{cases_eq, ne_eqb}, lemmas.Bool.Decides.{eqb_tells}}
use Rattle.std.proofs.lemmas.List.Elements.{All-nil, All-push}
use Rattle.dimacs_lines.specs.Limits.{IsNode}
use Rattle.dimacs_claims.specs.declared.label_list.Label.{Label}
use Rattle.dimacs_claims.specs.Labels.{BlockValue, IsBlock, distance_in, label, with_label}
use Rattle.dimacs_claims.proofs.BlockLemmas.{each_after_nil, each_after_push}
use Rattle.dimacs_decide.specs.Predecessors.{IsNext, LeadsBack}
use Rattle.dimacs_decide.specs.inside.LabelTrees.{AreLabelled, AreLabelledBelow, IsLabelTree, Keeps, Places}
use Rattle.dimacs_decide.proofs.{ClaimLemmas.{same_option}, MarkedLemmas.{alone, none_if_unmarked, one_more}}

-- ---- only the source
pub begun : (nodes : ℕ) (claim : ℕ → Option ℤ) (pred : ℕ → ℕ) (s : ℕ) (labelled : ℕ → Bool) → IsNode nodes s → claim s ≡ Some (pos 0) → IsBlock nodes (record { source = s; radius = None; labels = [] })
    → labelled s ≡ true → ((v : ℕ) → v ≢ s → labelled v ≡ false) → IsLabelTree nodes s claim pred (record { source = s; radius = None; labels = [] }) labelled
begun nodes claim pred s labelled node at lawful here others = record {
  source = refl;
  block = alone nodes claim s labelled node at lawful here others;
  preds = All-nil _;
  order = each_after_nil _;
  leads = λ v is. elim (cases_eq v s) [
    | inl same ↦ (0, same)
    | inr apart ↦ absurd (let e : false ≡ true = sym (others v apart) ∙ is in cc)
  ];
  inside = λ v is. elim (cases_eq v s) [
    | inl same ↦ subst (IsNode nodes) (sym same) node
    | inr apart ↦ absurd (let e : false ≡ true = sym (others v apart) ∙ is in cc)
  ];
}

-- ---- one more node
module _ (nodes s : ℕ) (claim : ℕ → Option ℤ) (pred : ℕ → ℕ) (b : BlockValue) (labelled : ℕ → Bool) (u : ℕ) (is : IsLabelTree nodes s claim pred b labelled) (new : labelled u ≡ false) where
  module _ (d : ℤ) (after : ℕ → Bool) (node : IsNode nodes u) (from : labelled (pred u) ≡ true) (next : IsNext s claim pred b.labels (record { dist = d; id = u; pred = pred u })) (named : claim u ≡ Some d)
      (lawful : IsBlock nodes (with_label b (record { dist = d; id = u; pred = pred u })))
      (adds : (v : ℕ) → label (with_label b (record { dist = d; id = u; pred = pred u })) v ≡ cond (u == v) (Some d) (label b v))
      (here : after u ≡ true) (others : (v : ℕ) → v ≢ u → after v ≡ labelled v) where
    abbrev l : Label
    l = record { dist = d; id = u; pred = pred u }

    further : LeadsBack pred s u
    further = let (steps, leads) = is.leads (pred u) from in (suc steps, leads)

    pub grown : IsLabelTree nodes s claim pred (with_label b l) after
    grown = record {
      source = is.source;
      block = one_more b l adds nodes claim labelled after is.block new node named lawful here others;
      preds = All-push (λ (m : Label). m.pred ≡ pred m.id) b.labels l is.preds refl;
      order = each_after_push (IsNext s claim pred) b.labels l is.order next;
      leads = λ v h. elim (cases_eq v u) [
        | inl same ↦ subst (LeadsBack pred s) (sym same) further
        | inr apart ↦ is.leads v (sym (others v apart) ∙ h)
      ];
      inside = λ v h. elim (cases_eq v u) [
        | inl same ↦ subst (IsNode nodes) (sym same) node
        | inr apart ↦ is.inside v (sym (others v apart) ∙ h)
      ];
    }

-- labels stay if one is added
pub placed_keeps : (labelled after : ℕ → Bool) (u : ℕ) → Places labelled after u → Keeps labelled after
placed_keeps labelled after u placed v h = elim (cases_eq v u) [ inl same ↦ ap after same ∙ placed.0 | inr apart ↦ placed.1 v apart ∙ h ]

-- the source counts as labelled, with distance 0
pub source_labelled : (nodes s : ℕ) (claim : ℕ → Option ℤ) (pred : ℕ → ℕ) (b : BlockValue) (labelled : ℕ → Bool) → IsLabelTree nodes s claim pred b labelled → (labelled s ≡ true) × (claim s ≡ Some (pos 0))
source_labelled nodes s claim pred b labelled is = (is.block.marks s ∙ ap is_some own, is.block.claimed s (pos 0) own)
  where
    own : label b s ≡ Some (pos 0)
    own = elim (eqb_tells b.source s) [ inl same ↦ rw same.0 refl | inr apart ↦ absurd (apart.1 is.source) ]

-- ---- the next label
module _ (nodes s : ℕ) (claim : ℕ → Option ℤ) (pred : ℕ → ℕ) (b : BlockValue) (labelled : ℕ → Bool) (is : IsLabelTree nodes s claim pred b labelled) where
  among_labels : (v : ℕ) → v ≢ s → label b v ≡ distance_in b.labels v
  among_labels v apart = rw (ne_eqb b.source v (λ e. apart (sym e ∙ is.source))) refl

  pub next_label : (v : ℕ) (l : Label) → AreLabelledBelow claim labelled v → IsSome (claim v) → labelled v ≡ false → LeadsBack pred l.id v → IsNext s claim pred b.labels l
  next_label v l earlier some not_labelled leads =
      let apart : v ≢ s = λ e. (let f : true ≡ false = sym (source_labelled nodes s claim pred b labelled is).0 ∙ (ap labelled (sym e) ∙ not_labelled) in cc) in (
        v,
        record {
          due = (apart, some);
          left = sym (among_labels v apart) ∙ none_if_unmarked nodes claim b labelled is.block v not_labelled;
          least = λ u less due. ap is_some (sym (among_labels u due.0)) ∙ (sym (is.block.marks u) ∙ earlier u less due.1);
        },
        leads,
      )

-- ---- all labels
pub all_agree : (nodes s : ℕ) (claim : ℕ → Option ℤ) (pred : ℕ → ℕ) (b : BlockValue) (labelled : ℕ → Bool) → IsLabelTree nodes s claim pred b labelled → AreLabelled claim labelled → (v : ℕ) → label b v ≡ claim v
all_agree nodes s claim pred b labelled is all v = same_option (label b v) (claim v) (is.block.claimed v) (λ some. sym (is.block.marks v) ∙ all v some)
