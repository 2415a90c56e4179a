-- Predecessors by node, from labels.
use Rattle.std.proofs.Common.{◌≡◌, ◌≢◌, inl, inr, ℕ, ◌+◌, ◌-◌, ◌<◌, List, length, get_or, None, Some, sym, ap, subst, ◌∙◌, arith}
use Rattle.std.proofs.{lemmas.Bool.{cases_order}, lemmas.List.Elements.{All-from_get_or}}
use Rattle.std.specs.Prelude.{slice_set}
use Rattle.dimacs_lines.specs.Limits.{IsNode}
use Rattle.dimacs_claims.specs.{inside.ById.{NodesAreDistinct}, declared.label_list.Label.{Label}}
use Rattle.dimacs_claims.specs.Labels.{distance_in, no_label}
use Rattle.dimacs_claims.proofs.ByIdLemmas.{distance_in-at}
use Rattle.dimacs_decide.specs.Predecessors.{pred_by_node}
use Rattle.dimacs_decide.proofs.TightTailLemmas.{set_here, set_there}
use Rattle.dimacs_arrays.specs.inside.PredecessorsOf.{ArePredsOf}

abbrev pub at_place : List Label → ℕ → Label
at_place labels j = get_or labels j no_label

-- the array has the predecessors of the first n labels, and no others
pub record AreFilled (labels : List Label) (preds : List ℕ) (n : ℕ) : Type 0 where
  pub named : (j : ℕ) → j < n → pred_by_node preds (at_place labels j).id ≡ (at_place labels j).pred
  pub others : (v : ℕ) → ((j : ℕ) → j < n → (at_place labels j).id ≢ v) → pred_by_node preds v ≡ 0

module _ (labels : List Label) (apart : NodesAreDistinct labels) (preds : List ℕ) where
  --   one more label
  pub filled_more : (n : ℕ) → n < length labels → IsNode (length preds) (at_place labels n).id → AreFilled labels preds n → AreFilled labels (slice_set preds ((at_place labels n).id - 1) (at_place labels n).pred) (n + 1)
  filled_more n inside node is = record {
    named = λ j less. elim (cases_order j n) [
      | inl same ↦ subst (λ k. pred_by_node after (at_place labels k).id ≡ (at_place labels k).pred) (sym same) (set_here preds _ _ node)
      | inr other ↦ elim other [
        | inl before ↦ set_there preds _ _ _ node.0 (λ (e : (at_place labels j).id ≡ (at_place labels n).id). omega (arith, before, apart j n (omega (arith, before, inside)) inside e)) ∙ is.named j before
        | inr past ↦ absurd (omega (arith, past, less))
      ]
    ];
    others = λ v none. set_there preds _ v _ node.0 (λ e. none n (omega arith) (sym e)) ∙ is.others v (λ j less. none j (omega (arith, less)));
  }
    where
      after : List ℕ
      after = slice_set preds ((at_place labels n).id - 1) (at_place labels n).pred

  --   after all labels
  pub filled_all : (nodes n : ℕ) → length labels ≡ n → length preds ≡ nodes → AreFilled labels preds n → ArePredsOf nodes labels preds
  filled_all nodes n over each is = record {
    each = each;
    named = All-from_get_or (λ (l : Label). l.pred ≡ pred_by_node preds l.id) labels no_label (λ i inside. sym (is.named i (omega (arith, inside, over))));
    others = λ v none. is.others v (λ j less same. let f : Some (at_place labels j).dist ≡ None = sym (distance_in-at labels apart j (omega (arith, less, over))) ∙ (ap (distance_in labels) same ∙ none) in cc);
  }
