-- Labels, if each predecessor is nearer than its node.
use Rattle.std.proofs.Common.{◌≡◌, ◌≢◌, ◌⊎◌, inl, inr, ℕ, suc, zero, ◌+◌, ◌^◌, ◌≤◌, ◌==◌, Bool, true, false, cond, [], ◌∷◌, Option, Some, None, IsSome, is_some, ℤ, pos, negsuc, ◌+ℤ◌, ◌≤ℤ◌, ◌<ℤ◌, refl, sym, ap, subst, ◌∙◌, arith}
use Rattle.std.proofs.{lemmas.Bool.{cases_Bool, cases_eq, cases_order, ne_eqb}, lemmas.Bool.Decides.{eqb_tells}}
use Rattle.std.proofs.lemmas.Int.{ints}
use Rattle.dimacs_lines.specs.Limits.{most_nodes, IsNode}
use Rattle.dimacs_records.specs.Ranges.{IsWide}
use Rattle.dimacs_claims.specs.declared.label_list.Label.{Label}
use Rattle.dimacs_claims.specs.Labels.{BlockValue, IsBlock, IsWithinRadius, LabelsValue, label, with_label}
use Rattle.dimacs_claims.proofs.BlockLemmas.{block_empty, block_push, label-with_label}
use Rattle.dimacs_judging.specs.Tests.{Clear}
use Rattle.dimacs_decide.specs.Predecessors.{NeedsPredecessor, IsNext, LeadsBack, back}
use Rattle.dimacs_decide.specs.inside.LabelTrees.{AreLabelled, AreLabelledBelow, IsLabelTree, Keeps}
use Rattle.dimacs_arrays.specs.Paths.{AreInOrder, AreLabelsBy, IsPred, pred_row}
use Rattle.dimacs_arrays.proofs.LabelLemmas.{in_order, spelled}
use Rattle.dimacs_decide.proofs.LabelTreeLemmas.{begun, grown, next_label, source_labelled}
use Rattle.dimacs_decide.proofs.MarkedLemmas.{few, label_if_marked, none_if_unmarked, some_of}

-- ---- one more step back
back_more : (pred : ℕ → ℕ) (n v : ℕ) → back pred (suc n) v ≡ pred (back pred n v)
back_more pred zero v = refl
back_more pred (suc n) v = back_more pred n (pred v)

leads_more : (pred : ℕ → ℕ) (u v : ℕ) → LeadsBack pred u v → LeadsBack pred (pred u) v
leads_more pred u v (n, is) = (suc n, back_more pred n v ∙ ap pred is)

natural : (d : ℤ) → pos 0 ≤ℤ d → (k : ℕ) × (d ≡ pos k)
natural (pos k) low = (k, refl)
natural (negsuc k) low = absurd (omega (arith, ints))

-- each distance is this far above the least one that is wide
above : (d : ℤ) → IsWide d → (k : ℕ) × (d +ℤ pos (10 ^ 30) ≡ pos k)
above d wide = natural (d +ℤ pos (10 ^ 30)) (omega (arith, ints, wide.0))

-- the node has a distance that is less than d
abbrev pub IsNearer : (ℕ → Option ℤ) → ℕ → ℤ → Type 0
IsNearer claim p d = (e : ℤ) × (claim p ≡ Some e) × (e <ℤ d)

-- each node with a distance but the source has a nearer predecessor, and the others have none
pub record AreNearer (nodes s : ℕ) (claim : ℕ → Option ℤ) (pred : ℕ → ℕ) : Type 0 where
  pub source : IsNode nodes s
  pub at : claim s ≡ Some (pos 0)
  pub inside : (v : ℕ) → IsSome (claim v) → IsNode nodes v
  pub wide : (v : ℕ) (d : ℤ) → claim v ≡ Some d → IsWide d
  pub nearer : (v : ℕ) (d : ℤ) → v ≢ s → claim v ≡ Some d → IsNearer claim (pred v) d
  pub others : (v : ℕ) → (¬ NeedsPredecessor s claim v) → pred v ≡ 0

module _ (nodes s : ℕ) (claim : ℕ → Option ℤ) (pred : ℕ → ℕ) (small : nodes ≤ most_nodes) (are : AreNearer nodes s claim pred) where
  --   only nodes with distances up to d are labelled
  abbrev OnlyNear : ℤ → (ℕ → Bool) → (ℕ → Bool) → Type 0
  OnlyNear d labelled after = (w : ℕ) (c : ℤ) → after w ≡ true → claim w ≡ Some c → (labelled w ≡ true) ⊎ (c ≤ℤ d)

  --   no label is lost, and u is labelled
  abbrev Grown : ℕ → ℤ → (ℕ → Bool) → Type 0
  Grown u d labelled = (b : BlockValue) × (after : ℕ → Bool) × IsLabelTree nodes s claim pred b after × Keeps labelled after × (after u ≡ true) × OnlyNear d labelled after

  module _ (root : ℕ) (far : ℤ) (rooted : claim root ≡ Some far) where
    root_some : IsSome (claim root)
    root_some = ap is_some rooted

    --     the label of a node whose predecessor is labelled
    placed : (b : BlockValue) (labelled : ℕ → Bool) (u : ℕ) (d : ℤ) → IsLabelTree nodes s claim pred b labelled → AreLabelledBelow claim labelled root → labelled root ≡ false → claim u ≡ Some d → LeadsBack pred u root → labelled u ≡ false → labelled (pred u) ≡ true → Grown u d labelled
    placed b labelled u d is below not_labelled named leads new from = (with_label b l, after, grown nodes s claim pred b labelled u is new d after node from next named lawful adds here others, keeps, here, only)
      where
        l : Label
        l = record { dist = d; id = u; pred = pred u }

        after : ℕ → Bool
        after v = cond (u == v) true (labelled v)

        node : IsNode nodes u
        node = are.inside u (ap is_some named)

        here : after u ≡ true
        here = elim (eqb_tells u u) [ inl same ↦ rw same.0 refl | inr apart ↦ absurd (apart.1 refl) ]

        others : (v : ℕ) → v ≢ u → after v ≡ labelled v
        others v apart = rw (ne_eqb u v (λ e. apart (sym e))) refl

        next : IsNext s claim pred b.labels l
        next = next_label nodes s claim pred b labelled is root l below root_some not_labelled leads

        none : label b u ≡ None
        none = none_if_unmarked nodes claim b labelled is.block u new

        adds : (v : ℕ) → label (with_label b l) v ≡ cond (u == v) (Some d) (label b v)
        adds v = label-with_label b l none v

        near : IsWithinRadius b.radius d
        near = subst (λ radius. IsWithinRadius radius d) (sym is.block.whole) tt

        lawful : IsBlock nodes (with_label b l)
        lawful = block_push nodes b l is.block.lawful (record { id = node; dist = are.wide u d named; pred = is.inside (pred u) from }) (few nodes claim b labelled is.block u new small node) (ap is_some none) (label_if_marked nodes claim b labelled is.block (pred u) from) near

        keeps : Keeps labelled after
        keeps v h = elim (cases_eq v u) [ inl same ↦ ap after same ∙ here | inr apart ↦ others v apart ∙ h ]

        only : OnlyNear d labelled after
        only w c h at = elim (cases_eq w u) [
          | inl same ↦ (let e : Some d ≡ Some c = sym named ∙ (ap claim (sym same) ∙ at) in let f : d ≡ c = cc in inr (omega (arith, ints, f)))
          | inr apart ↦ inl (sym (others w apart) ∙ h)
        ]

    nearer_too : (labelled : ℕ → Bool) (w : ℕ) (c d e : ℤ) → e <ℤ d → (labelled w ≡ true) ⊎ (c ≤ℤ e) → (labelled w ≡ true) ⊎ (c ≤ℤ d)
    nearer_too labelled w c d e less (inl was) = inl was
    nearer_too labelled w c d e less (inr near) = inr (omega (arith, ints, near, less))

    --     the label of u, after those of the way back from its predecessor
    with_parent : (b : BlockValue) (labelled : ℕ → Bool) (u : ℕ) (d e : ℤ) → AreLabelledBelow claim labelled root → labelled root ≡ false → claim u ≡ Some d → d ≤ℤ far → LeadsBack pred u root → e <ℤ d → Grown (pred u) e labelled → Grown u d labelled
    with_parent b labelled u d e below not_labelled named close leads less (b', after, tree, keeps, there, only) =
        let still : after root ≡ false = elim (cases_Bool (after root)) [
          | inr off ↦ off
          | inl on ↦ elim (only root far on rooted) [
            | inl was ↦ absurd (let f : true ≡ false = sym was ∙ not_labelled in cc)
            | inr near ↦ absurd (omega (arith, ints, near, less, close))
          ]
        ] in
        let lower : AreLabelledBelow claim after root = λ v h some. keeps v (below v h some) in
        elim (cases_Bool (after u)) [
          | inl on ↦ (b', after, tree, keeps, on, λ w c h at. nearer_too labelled w c d e less (only w c h at))
          | inr off ↦
              let (b'', last, whole, more, here, beyond) = placed b' after u d tree lower still named leads off there in
              (b'', last, whole, λ v h. more v (keeps v h), here, λ w c h at. elim (beyond w c h at) [ inl was ↦ nearer_too labelled w c d e less (only w c was at) | inr near ↦ inr near ])
        ]

    not_the_source : (b : BlockValue) (labelled : ℕ → Bool) (u : ℕ) → IsLabelTree nodes s claim pred b labelled → labelled u ≡ false → u ≢ s
    not_the_source b labelled u is off e = let f : true ≡ false = sym (source_labelled nodes s claim pred b labelled is).0 ∙ (ap labelled (sym e) ∙ off) in absurd (cc)

    --     the labels of the way back from u, itself on the way from the root
    climbed : (fuel : ℕ) (b : BlockValue) (labelled : ℕ → Bool) (u : ℕ) (d : ℤ) → IsLabelTree nodes s claim pred b labelled → AreLabelledBelow claim labelled root → labelled root ≡ false → claim u ≡ Some d → (d +ℤ pos (10 ^ 30)) ≤ℤ pos fuel → d ≤ℤ far → LeadsBack pred u root → Grown u d labelled
    climbed zero b labelled u d is below not_labelled named most close leads = elim (cases_Bool (labelled u)) [
      | inl on ↦ (b, labelled, is, λ v h. h, on, λ w c h at. inl h)
      | inr off ↦ (let (e, from, less) = are.nearer u d (not_the_source b labelled u is off) named in absurd (omega (arith, ints, most, (are.wide (pred u) e from).0, less)))
    ]
    climbed (suc k) b labelled u d is below not_labelled named most close leads = elim (cases_Bool (labelled u)) [
      | inl on ↦ (b, labelled, is, λ v h. h, on, λ w c h at. inl h)
      | inr off ↦
          let (e, from, less) = are.nearer u d (not_the_source b labelled u is off) named in
          with_parent b labelled u d e below not_labelled named close leads less (climbed k b labelled (pred u) e is below not_labelled from (omega (arith, ints, most, less)) (omega (arith, ints, close, less)) (leads_more pred u root leads))
    ]

  --   all nodes before n with a distance are labelled
  abbrev LedBelow : ℕ → Type 0
  LedBelow n = (b : BlockValue) × (labelled : ℕ → Bool) × IsLabelTree nodes s claim pred b labelled × AreLabelledBelow claim labelled n

  first : LedBelow 0
  first = (
    record { source = s; radius = None; labels = [] },
    λ v. s == v,
    begun nodes claim pred s (λ v. s == v) are.source are.at (block_empty nodes s None are.source tt) (elim (eqb_tells s s) [ inl same ↦ same.0 | inr apart ↦ absurd (apart.1 refl) ]) (λ v apart. ne_eqb s v (λ e. apart (sym e))),
    λ v h some. absurd (omega (arith, h)),
  )

  with_node : (n : ℕ) (labelled after : ℕ → Bool) → Keeps labelled after → AreLabelledBelow claim labelled n → (IsSome (claim n) → after n ≡ true) → AreLabelledBelow claim after (suc n)
  with_node n labelled after keeps below here v h some = elim (cases_order v n) [
    | inl same ↦ ap after same ∙ here (subst (λ u. IsSome (claim u)) same some)
    | inr other ↦ elim other [
      | inl before ↦ keeps v (below v before some)
      | inr past ↦ absurd (omega (arith, past, h))
    ]
  ]

  one_more : (n : ℕ) → LedBelow n → LedBelow (suc n)
  one_more n (b, labelled, is, below) = elim (cases_Bool (labelled n)) [
    | inl on ↦ (b, labelled, is, with_node n labelled labelled (λ v h. h) below (λ some. on))
    | inr off ↦ elim (cases_Bool (is_some (claim n))) [
      | inr none ↦ (b, labelled, is, with_node n labelled labelled (λ v h. h) below (λ some. absurd (let f : true ≡ false = sym some ∙ none in cc)))
      | inl some ↦
          let (d, named) = some_of (claim n) some in
          let apart : n ≢ s = λ e. (let f : true ≡ false = sym (source_labelled nodes s claim pred b labelled is).0 ∙ (ap labelled (sym e) ∙ off) in cc) in
          let (e, from, less) = are.nearer n d apart named in
          let (k, is_k) = above d (are.wide n d named) in
          let (b', after, tree, keeps, here, only) = climbed n d named k b labelled n d is below off named (omega (arith, ints, is_k)) (omega (arith, ints)) (zero, refl) in
          (b', after, tree, with_node n labelled after keeps below (λ some. here))
    ]
  ]

  all_below : (n : ℕ) → LedBelow n
  all_below zero = first
  all_below (suc n) = one_more n (all_below n)

  is_pred : (v : ℕ) → IsPred nodes s claim v (pred v)
  is_pred v = elim (cases_eq v s) [
    | inl same ↦ (let free : ¬ NeedsPredecessor s claim v = λ due. due.0 same in inr (free, are.others v free))
    | inr apart ↦ elim (cases_Bool (is_some (claim v))) [
      | inr none ↦ (let free : ¬ NeedsPredecessor s claim v = λ due. (let f : true ≡ false = sym due.1 ∙ none in cc) in inr (free, are.others v free))
      | inl some ↦
          let (d, named) = some_of (claim v) some in
          let (e, from, less) = are.nearer v d apart named in
          inl ((apart, some), are.inside (pred v) (ap is_some from))
    ]
  ]

  preds_clear : Clear (pred_row nodes s claim pred)
  preds_clear v place reason fails = fails.2.1 (is_pred v)

  --   labels with these predecessors exist
  pub sink_labels : (labels : LabelsValue) × AreLabelsBy nodes s claim pred labels × AreInOrder s claim pred labels
  sink_labels =
      let (b, labelled, is, below) = all_below (nodes + 1) in
      let all : AreLabelled claim labelled = λ v some. below v (omega (arith, (are.inside v some).1)) some in
      (record { nodes = nodes; blocks = b ∷ [] }, spelled nodes s claim pred b labelled preds_clear is all, in_order nodes s claim pred b is.order)
