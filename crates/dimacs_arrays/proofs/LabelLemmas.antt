-- Whether distances and predecessors spell labels.
use Rattle.std.proofs.Common.{◌≡◌, inl, inr, ℕ, suc, ◌==◌, Bool, true, false, List, [], ◌∷◌, ◌++◌, All, Contains, Option, None, IsSome, is_some, Result, Ok, Err, ℤ, refl, sym, ap, subst, ◌∙◌, arith}
use Rattle.std.proofs.{lemmas.Bool.{cases_Bool, cases_eq, ne_eqb}, lemmas.Bool.Decides.{eqb_tells}}
use Rattle.std.proofs.lemmas.List.{append_assoc, append-nil}
use Rattle.std.proofs.lemmas.List.Elements.{All-cons, All-nil, All-push, All-head, All-tail, All-contains, Contains-append_right}
use Rattle.std.specs.Result.{IsErrAnd}
use Rattle.dimacs_lines.specs.Limits.{IsNode}
use Rattle.dimacs_records.specs.declared.reasons.Reason.{Reason}
use Rattle.dimacs_records.specs.declared.reasons.Reason.TheVariants.{NodeRange, NotShortest}
use Rattle.dimacs_claims.specs.declared.label_list.Label.{Label}
use Rattle.dimacs_claims.specs.Labels.{BlockValue, EachAfter, HasPred, IsBlock, IsLabel, LabelsValue, distance_in, label}
use Rattle.dimacs_judging.specs.{declared.verdict.Verdict.{Verdict}, declared.verdict.Where.{Where}}
use Rattle.dimacs_judging.specs.{declared.verdict.Where.TheVariants.{Node}, declared.verdict.JudgeError.{JudgeError}}
use Rattle.dimacs_judging.specs.declared.verdict.JudgeError.TheVariants.{Refused, Memory}
use Rattle.dimacs_judging.specs.Tests.{Clear, First, FirstOfRow, FirstAlone, Refutes, Settles, Refuses}
use Rattle.dimacs_network.specs.Arcs.{NetworkValue}
use Rattle.dimacs_judging.proofs.Firsts.{AllOneWay, node_one_way, one_first, one_test_one_way}
use Rattle.dimacs_decide.specs.{Distances.{source_row}, inside.LabelTrees.{AreLabelled, IsLabelTree}}
use Rattle.dimacs_decide.specs.Predecessors.{NeedsPredecessor, IsNext, LeadsBack, back, back_row}
use Rattle.dimacs_decide.proofs.LabelTreeLemmas.{all_agree}
use Rattle.dimacs_arrays.specs.Paths.{AreInOrder, AreLabelsBy, JudgesByNode, IsPred, label_rows, pred_row}

-- ---- nodes of labels lead back
module _ (s : ℕ) (pred : ℕ → ℕ) where
  abbrev Leads : Label → Type 0
  Leads l = LeadsBack pred s l.id

  abbrev Named : Label → Type 0
  Named l = l.pred ≡ pred l.id

  one_leads : (before : List Label) (l : Label) → All Leads before → HasPred s before l → Named l → Leads l
  one_leads before l all (inl from) named = (1, sym named ∙ from)
  one_leads before l all (inr (m, there, is)) named =
      let (steps, leads) = All-contains Leads before m all there in
      (suc steps, subst (λ v. back pred steps v ≡ s) (is ∙ named) leads)

  all_lead : (before rest : List Label) → All Leads before → EachAfter (HasPred s) (before ++ rest) → All Named (before ++ rest) → All Leads (before ++ rest)
  all_lead before [] all each named = subst (All Leads) (sym (append-nil before)) all
  all_lead before (l ∷ rest) all each named =
      let here = one_leads before l all (each before rest l refl) (All-contains Named (before ++ l ∷ rest) l named (Contains-append_right before (l ∷ rest) l (0, omega arith, refl))) in
      let same = append_assoc before (l ∷ []) rest in
      subst (All Leads) same (all_lead (before ++ l ∷ []) rest (All-push Leads before l all here) (subst (EachAfter (HasPred s)) (sym same) each) (subst (All Named) (sym same) named))

  labelled_leads : (ls : List Label) (v : ℕ) → All Leads ls → is_some (distance_in ls v) ≡ true → LeadsBack pred s v
  labelled_leads [] v all some = absurd (cc)
  labelled_leads (l ∷ ls) v all some = elim (eqb_tells l.id v) [
    | inl same ↦ subst (LeadsBack pred s) same.1 (All-head Leads l ls all)
    | inr apart ↦ labelled_leads ls v (All-tail Leads l ls all) (rw apart.0 at some)
  ]

module _ (nodes s : ℕ) (claim : ℕ → Option ℤ) (pred : ℕ → ℕ) where
  pub spelled_leads : (labels : LabelsValue) → AreLabelsBy nodes s claim pred labels → (v : ℕ) → IsNode nodes v → IsSome (claim v) → LeadsBack pred s v
  spelled_leads labels are v node some =
      let b = are.block in
      let named : is_some (label b v) ≡ true = ap is_some (are.agrees v node) ∙ some in
      let each = subst (λ x. EachAfter (HasPred x) b.labels) are.source are.lawful.preds in
      let all = all_lead s pred [] b.labels (All-nil _) each are.preds in
      elim (eqb_tells b.source v) [
        | inl same ↦ (0, sym same.1 ∙ are.source)
        | inr apart ↦ labelled_leads s pred b.labels v all (rw apart.0 at named)
      ]

  -- a label of the node
  abbrev LabelOf : List Label → ℕ → Type 0
  LabelOf ls v = (l : Label) × Contains ls l × (l.id ≡ v)

  label_of : (ls : List Label) (v : ℕ) → is_some (distance_in ls v) ≡ true → LabelOf ls v
  label_of [] v some = absurd (cc)
  label_of (l ∷ ls) v some = elim (eqb_tells l.id v) [
    | inl same ↦ (l, (0, omega arith, refl), same.1)
    | inr apart ↦ (let (m, there, is) = label_of ls v (rw apart.0 at some) in (m, (suc there.0, omega (arith, there.1), there.2), is))
  ]

  pub spelled_pred : (labels : LabelsValue) → AreLabelsBy nodes s claim pred labels → (v : ℕ) → IsNode nodes v → IsPred nodes s claim v (pred v)
  spelled_pred labels are v node = elim (cases_eq v s) [
    | inl same ↦ (let free : ¬ NeedsPredecessor s claim v = λ due. due.0 same in inr (free, are.others v node free))
    | inr apart ↦ elim (cases_Bool (is_some (claim v))) [
      | inr none ↦ (let free : ¬ NeedsPredecessor s claim v = λ due. (let f : true ≡ false = sym due.1 ∙ none in cc) in inr (free, are.others v node free))
      | inl some ↦
          let b = are.block in
          let named : is_some (label b v) ≡ true = ap is_some (are.agrees v node) ∙ some in
          let other : (b.source == v) ≡ false = ne_eqb b.source v (λ e. apart (sym e ∙ are.source)) in
          let (l, there, is) = label_of b.labels v (rw other at named) in
          let lawful = All-contains (IsLabel nodes) b.labels l are.lawful.within there in
          let same : l.pred ≡ pred v = All-contains (λ (m : Label). m.pred ≡ pred m.id) b.labels l are.preds there ∙ ap pred is in
          inl ((apart, some), subst (IsNode nodes) same lawful.pred)
    ]
  ]

  -- ---- the first test that fails
  one_way : AllOneWay (label_rows nodes s claim pred)
  one_way = (one_test_one_way (Node s) NotShortest _, (node_one_way nodes _ (λ v q r f h. f.0 ∙ sym h.0), (node_one_way nodes _ (λ v q r f h. f.0 ∙ sym h.0), tt)))

  abbrev pub HasNone : Where → Reason → Type 0
  HasNone place reason = FirstAlone (label_rows nodes s claim pred) place reason × ((labels : LabelsValue) → ¬ AreLabelsBy nodes s claim pred labels)

  module _ (place : Where) (reason : Reason) where
    alone : First (label_rows nodes s claim pred) place reason → FirstAlone (label_rows nodes s claim pred) place reason
    alone first = (first, λ other why also. one_first (label_rows nodes s claim pred) other place why reason one_way also first)

    pub no_source : IsNode nodes s → FirstOfRow (source_row s claim) place reason → HasNone place reason
    no_source node first = (
      alone (inl first),
      λ labels are. first.fails.3 (sym (are.agrees s node) ∙ elim (eqb_tells are.block.source s) [ inl same ↦ rw same.0 refl | inr apart ↦ absurd (apart.1 are.source) ]),
    )

    pub no_pred : Clear (source_row s claim) → FirstOfRow (pred_row nodes s claim pred) place reason → HasNone place reason
    no_pred source first = (alone (inr (source, inl first)), λ labels are. first.fails.2.1 (spelled_pred labels are first.number first.fails.0))

    pub no_path : Clear (source_row s claim) → Clear (pred_row nodes s claim pred) → FirstOfRow (back_row nodes s claim pred) place reason → HasNone place reason
    no_path source preds first = (
      alone (inr (source, inr (preds, inl first))),
      λ labels are. first.fails.2.2 (spelled_leads labels are first.number first.fails.0 first.fails.2.1),
    )

  --   ---- if no test fails
  pub zero_pred : Clear (pred_row nodes s claim pred) → (v : ℕ) → IsNode nodes v → (¬ NeedsPredecessor s claim v) → pred v ≡ 0
  zero_pred clear v node free = elim (cases_eq (pred v) 0) [
    | inl none ↦ none
    | inr some ↦ absurd (clear v (Node v) NodeRange (node, refl, (refl, λ is. elim is [ inl due ↦ free due.0 | inr none ↦ some none.1 ])))
  ]

  pub spelled_by : (b : BlockValue) → Clear (pred_row nodes s claim pred) → IsBlock nodes b → b.source ≡ s → b.radius ≡ None → ((v : ℕ) → label b v ≡ claim v) → All (λ (l : Label). l.pred ≡ pred l.id) b.labels → AreLabelsBy nodes s claim pred (record { nodes = nodes; blocks = b ∷ [] })
  spelled_by b clear lawful source whole agrees preds = record {
    block = b;
    alone = refl;
    lawful = lawful;
    source = source;
    whole = whole;
    agrees = λ v node. agrees v;
    preds = preds;
    others = λ v node free. zero_pred clear v node free;
  }

  pub spelled : (b : BlockValue) (labelled : ℕ → Bool) → Clear (pred_row nodes s claim pred) → IsLabelTree nodes s claim pred b labelled → AreLabelled claim labelled → AreLabelsBy nodes s claim pred (record { nodes = nodes; blocks = b ∷ [] })
  spelled b labelled clear is all = spelled_by b clear is.block.lawful is.source is.block.whole (all_agree nodes s claim pred b labelled is all) is.preds

  pub in_order : (b : BlockValue) → EachAfter (IsNext s claim pred) b.labels → AreInOrder s claim pred (record { nodes = nodes; blocks = b ∷ [] })
  in_order b order = All-cons (λ c. EachAfter (IsNext s claim pred) c.labels) b [] order (All-nil _)

  --   the error is the first test that fails
  pub refused : (place : Where) (reason : Reason) → HasNone place reason → (result : Result LabelsValue JudgeError) → IsErrAnd result (λ error. error ≡ Refused place reason) → Settles (AreLabelsBy nodes s claim pred) (label_rows nodes s claim pred) result
  refused place reason none (Ok labels) is = absurd is
  refused place reason none (Err error) is = subst (Refutes (AreLabelsBy nodes s claim pred) (label_rows nodes s claim pred)) (sym is) none

  pub refused_by : Clear (source_row s claim) → Clear (pred_row nodes s claim pred) → (error : JudgeError) → Refuses (FirstOfRow (back_row nodes s claim pred)) error → (result : Result LabelsValue JudgeError) → IsErrAnd result (λ e. e ≡ error)
      → Settles (AreLabelsBy nodes s claim pred) (label_rows nodes s claim pred) result
  refused_by source preds (Refused place reason) first result is = refused place reason (no_path place reason source preds first) result is
  refused_by source preds Memory first (Ok labels) is = absurd is
  refused_by source preds Memory first (Err error) is = subst (Refutes (AreLabelsBy nodes s claim pred) (label_rows nodes s claim pred)) (sym is) tt

-- there are no labels for judge_paths
pub unlabelled : (g : NetworkValue) (s : ℕ) (claim : ℕ → Option ℤ) (pred : ℕ → ℕ) (error : JudgeError) → Refutes (AreLabelsBy g.nodes s claim pred) (label_rows g.nodes s claim pred) error → (result : Result Verdict JudgeError) → IsErrAnd result (λ e. e ≡ error)
    → JudgesByNode g s claim pred result
unlabelled g s claim pred error refutes (Ok verdict) is = absurd is
unlabelled g s claim pred error refutes (Err e) is = inr (subst (Refutes (AreLabelsBy g.nodes s claim pred) (label_rows g.nodes s claim pred)) (sym is) refutes)
