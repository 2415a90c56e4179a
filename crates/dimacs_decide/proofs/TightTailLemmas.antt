-- Tails of tight arcs as predecessors.
use Rattle.std.proofs.Common.{◌≡◌, ◌≢◌, inl, inr, ℕ, zero, suc, ◌+◌, ◌-◌, ◌<◌, ◌≤◌, false, length, get_or, List, [], ◌∷◌, ◌++◌, All, Option, Some, None, is_some, ℤ, ◌+ℤ◌, refl, sym, ap, subst, ◌∙◌, arith}
use Rattle.std.proofs.lemmas.Bool.{cases_eq, cases_order, ne_eqb}
use Rattle.std.proofs.lemmas.List.{append_assoc, get_or-set_other, get_or-set_same}
use Rattle.std.proofs.lemmas.List.Elements.{All-cons, All-from_get_or, All-get_or, All-nil, Contains-get_or}
use Rattle.std.specs.Prelude.{slice_set}
use Rattle.dimacs_lines.specs.Limits.{IsNode}
use Rattle.dimacs_network.specs.{declared.network.ArcView.{ArcView}, Arcs.{NetworkValue, arc_at, no_arc}}
use Rattle.dimacs_claims.specs.declared.label_list.Label.{Label}
use Rattle.dimacs_claims.specs.Labels.{BlockValue, EachAfter, IsBlock, IsFresh, IsLabel, label, no_label}
use Rattle.dimacs_claims.proofs.ByIdLemmas.{distance_in-at, fresh_apart}
use Rattle.dimacs_records.specs.declared.reasons.Reason.{Reason}
use Rattle.dimacs_judging.specs.{Labels.{HasTightArc}, inside.Tests.{NamesReason}}
use Rattle.dimacs_decide.specs.Predecessors.{pred_by_node}
use Rattle.dimacs_decide.specs.TightTails.{AreTightTails, HasTail, IsPositiveTight, IsRelaxedBy}

pub no_fault : (fails : Reason → Type 0) (outcome : Option Reason) → is_some outcome ≡ false → NamesReason fails outcome → (reason : Reason) → ¬ fails reason
no_fault fails None none tells = tells
no_fault fails (Some reason) none tells = absurd (cc)

pub set_here : (preds : List ℕ) (u p : ℕ) → IsNode (length preds) u → pred_by_node (slice_set preds (u - 1) p) u ≡ p
set_here preds zero p node = absurd (omega (arith, node.0))
set_here preds (suc k) p node = let e : suc k - 1 ≡ k = omega arith in rw e (get_or-set_same preds k p 0 (omega (arith, node.1)))

pub set_there : (preds : List ℕ) (u v p : ℕ) → 1 ≤ u → v ≢ u → pred_by_node (slice_set preds (u - 1) p) v ≡ pred_by_node preds v
set_there preds u zero p some apart = refl
set_there preds u (suc k) p some apart = get_or-set_other preds (u - 1) k p 0 (λ e. apart (omega (arith, e, some)))

-- ---- the arcs so far
pub record AreTightBelow (arcs : List ArcView) (claim : ℕ → Option ℤ) (tails : ℕ → ℕ) (n : ℕ) : Type 0 where
  pub relaxed : (k : ℕ) → k < n → IsRelaxedBy claim (arc_at arcs k)
  pub tight : AreTightTails arcs claim tails

module _ (arcs : List ArcView) (claim : ℕ → Option ℤ) where
  relaxed_more : (tails : ℕ → ℕ) (n : ℕ) → AreTightBelow arcs claim tails n → IsRelaxedBy claim (arc_at arcs n) → (k : ℕ) → k < n + 1 → IsRelaxedBy claim (arc_at arcs k)
  relaxed_more tails n are here k less = elim (cases_order k n) [
    | inl same ↦ subst (λ j. IsRelaxedBy claim (arc_at arcs j)) (sym same) here
    | inr other ↦ elim other [
      | inl before ↦ are.relaxed k before
      | inr past ↦ absurd (omega (arith, past, less))
    ]
  ]

  pub passes_more : (tails : ℕ → ℕ) (n : ℕ) → AreTightBelow arcs claim tails n → IsRelaxedBy claim (arc_at arcs n) → AreTightBelow arcs claim tails (n + 1)
  passes_more tails n are here = record { relaxed = relaxed_more tails n are here; tight = are.tight }

  pub tight_more : (preds : List ℕ) (n : ℕ) → n < length arcs → IsNode (length preds) (arc_at arcs n).head → AreTightBelow arcs claim (pred_by_node preds) n → IsRelaxedBy claim (arc_at arcs n) → ((d : ℤ) × IsPositiveTight claim (arc_at arcs n) d)
      → AreTightBelow arcs claim (pred_by_node (slice_set preds ((arc_at arcs n).head - 1) (arc_at arcs n).tail)) (n + 1)
  tight_more preds n inside node are here tight = record {
    relaxed = relaxed_more (pred_by_node preds) n are here;
    tight = λ v some. elim (cases_eq v a.head) [
      | inl same ↦ subst (λ u. HasTail arcs claim u (pred_by_node after u)) (sym same) (a, Contains-get_or arcs n no_arc inside, sym (set_here preds a.head a.tail node), refl, tight)
      | inr apart ↦
          let kept = set_there preds a.head v a.tail node.0 apart in
          subst (HasTail arcs claim v) (sym kept) (are.tight v (λ none. some (kept ∙ none)))
    ];
  }
    where
      a : ArcView
      a = arc_at arcs n

      after : List ℕ
      after = slice_set preds (a.head - 1) a.tail

  pub all_below : (tails : ℕ → ℕ) (n : ℕ) → length arcs ≤ n → AreTightBelow arcs claim tails n → All (IsRelaxedBy claim) arcs
  all_below tails n over are = All-from_get_or (IsRelaxedBy claim) arcs no_arc (λ k inside. are.relaxed k (omega (arith, inside, over)))

-- ---- the tails
-- only a node with a claim has a tail
pub tails_claimed : (arcs : List ArcView) (claim : ℕ → Option ℤ) (tails : ℕ → ℕ) → AreTightTails arcs claim tails → (v : ℕ) → claim v ≡ None → tails v ≡ 0
tails_claimed arcs claim tails are v none = elim (cases_eq (tails v) 0) [
  | inl nothing ↦ nothing
  | inr some ↦
      let (a, has, tail, head, up) = are v some in
      let (d, tight) = up in
      let f : None ≡ Some (d +ℤ a.cost) = sym none ∙ (ap claim (sym head) ∙ tight.head) in
      absurd (cc)
]

-- ---- labels with these tails as predecessors
-- no label is of the source
pub not_source : (s : ℕ) (done rest : List Label) → EachAfter (IsFresh s) (done ++ rest) → All (λ (l : Label). l.id ≢ s) rest
not_source s done [] each = All-nil _
not_source s done (l ∷ rest) each = All-cons (λ (m : Label). m.id ≢ s) l rest (each done rest l refl).0 (not_source s (done ++ l ∷ []) rest (subst (EachAfter (IsFresh s)) (sym (append_assoc done (l ∷ []) rest)) each))

-- each label is the one of its node
pub own_label : (nodes : ℕ) (b : BlockValue) → IsBlock nodes b → (k : ℕ) → k < length b.labels → label b (get_or b.labels k no_label).id ≡ Some (get_or b.labels k no_label).dist
own_label nodes b lawful k inside =
    let l = get_or b.labels k no_label in
    let other : l.id ≢ b.source = All-get_or (λ (m : Label). m.id ≢ b.source) b.labels k no_label inside (not_source b.source [] b.labels lawful.fresh) in
    rw (ne_eqb b.source l.id (λ e. other (sym e))) (distance_in-at b.labels (fresh_apart b.source b.labels lawful.fresh) k inside)

module _ (g : NetworkValue) (claim : ℕ → Option ℤ) (tails : ℕ → ℕ) (b : BlockValue) (lawful : IsBlock g.nodes b) (agrees : (v : ℕ) → IsNode g.nodes v → label b v ≡ claim v)
    (preds : All (λ (l : Label). l.pred ≡ tails l.id) b.labels) (are : AreTightTails g.arcs claim tails) where
  tight_at : (k : ℕ) → k < length b.labels → HasTightArc g.arcs b (get_or b.labels k no_label)
  tight_at k inside =
      let l = get_or b.labels k no_label in
      let own : IsLabel g.nodes l = All-get_or (IsLabel g.nodes) b.labels k no_label inside lawful.within in
      let named : claim l.id ≡ Some l.dist = sym (agrees l.id own.id) ∙ own_label g.nodes b lawful k inside in
      let from : l.pred ≡ tails l.id = All-get_or (λ (m : Label). m.pred ≡ tails m.id) b.labels k no_label inside preds in
      let (a, has, tail, head, up) = are l.id (λ none. omega (arith, own.pred.0, from, none)) in
      let (d, tight) = up in
      let both : Some (d +ℤ a.cost) ≡ Some l.dist = sym tight.head ∙ (ap claim head ∙ named) in
      let adds : d +ℤ a.cost ≡ l.dist = cc in
      let start : a.tail ≡ l.pred = tail ∙ sym from in
      (d, agrees l.pred own.pred ∙ (ap claim (sym start) ∙ tight.tail), record { arc = a; present = has; from = start; to = head; adds = adds })

  pub all_tight : All (HasTightArc g.arcs b) b.labels
  all_tight = All-from_get_or (HasTightArc g.arcs b) b.labels no_label tight_at
