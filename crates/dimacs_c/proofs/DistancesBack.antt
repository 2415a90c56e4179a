-- Distances and labels in arrays come back from their texts.
use Rattle.std.proofs.Common.{◌≡◌, ◌≢◌, ◌∙◌, ◌≤◌, ◌<◌, ◌+◌, ◌-◌, ◌^◌, ◌++◌, ◌<ℤ◌, inl, inr, ℕ, ℤ, zero, suc, pos, List, [], ◌∷◌, All, true, Option, None, Some, Ok, Err, IfSome, length, get_or, take, drop, refl, sym, ap, ap₂, subst, arith}
use Rattle.std.proofs.{lemmas.Bool.{cases_eq, eq-eqb, ne_eqb}, lemmas.Bool.Decides.{eqb_tells}}
use Rattle.std.proofs.{lemmas.Int.{by_lt_z, ints}, lemmas.Option.{slice_get-get_or}}
use Rattle.std.proofs.lemmas.List.{drop_more, ext_get_or, length-append, length-map, take-append-drop}
use Rattle.std.proofs.lemmas.List.Elements.{All-cons, All-get_or, All-head, All-nil, All-tail}
use Rattle.std.proofs.lemmas.List.FromFn.{get_or-map-range_with_len, length-map-range_with_len}
use Rattle.std.specs.Prelude.{Contains, IsSome, Result, int_lt}
use Rattle.std.specs.List.{cons_option, filter_map, flat_map, range_with_len}
use Rattle.dimacs_lines.specs.Limits.{IsNode, most_count, most_lines}
use Rattle.dimacs_records.specs.{declared.records.Record.TheVariants.{LabelsProblem}, Ranges.{IsWhole}}
use Rattle.dimacs_claims.specs.declared.label_list.Label.{Label}
use Rattle.dimacs_claims.specs.DistanceTexts.{AreBare, GivesDistances, IsBare, canonical_distances}
use Rattle.dimacs_claims.specs.Labels.{BlockValue, IsBlock, IsItem, IsLabel, LabelsValue, distance_in, label, no_label}
use Rattle.dimacs_claims.specs.LabelTexts.{FitText, GivesLabels, block_lines, canonical_labels, label_line}
use Rattle.dimacs_claims.proofs.{ByIdLemmas.{distance_in-at, fresh_apart}, LabelLaws.{labels_round_trip, one_labels}}
use Rattle.dimacs_claims.proofs.DistanceLaws.{distances_round_trip, one_distances}
use Rattle.dimacs_decide.specs.Claims.{claimed_by_node, unless_greatest}
use Rattle.dimacs_decide.specs.Predecessors.{NeedsPredecessor, pred_by_node}
use Rattle.dimacs_arrays.specs.{Answers.{length_of}, declared.error.Array.TheVariants.{Predecessors}}
use Rattle.dimacs_arrays.specs.{Paths.{AreLabelsBy}, PathsSpelled.{block_spelled, label_with}}
use Rattle.dimacs_arrays.proofs.{AnswerLemmas.{all_fit}, PathsOverLemmas.{bare_block}}
use Rattle.dimacs_fill.specs.{declared.error.FillError.{FillError}, declared.labels.LabelSizes.{LabelSizes}}
use Rattle.dimacs_fill.specs.BlockFilled.{FillsDistances, FillsLabels, IsPast, HasBlock, distances_of, item_of, pred_in, preds_of}
use Rattle.dimacs_fill.specs.Filling.{IsKept}
use Rattle.dimacs_c.specs.Laws.{DistancesArrayLaw, FillsOrFails, Gets, LabelArraysLaw}
use Rattle.dimacs_c.proofs.{ArraysBack.{front}, ClaimsBack.{fill_back}}
use Rattle.dimacs_fill.specs.declared.error.FillError.TheVariants as fill_errors
use Rattle.dimacs_records.specs.declared.kinds.TextKind.TheVariants as kinds

-- ---- items
below : (x y : ℤ) → x <ℤ y → int_lt x y ≡ true
below x y less = grind (arith, ints)

-- the item for what an item claims is the item itself
item_back : (x : ℤ) → IsWhole x → item_of (unless_greatest (Some x)) ≡ x
item_back x is =
    by_lt_z x (pos (2 ^ 63 - 1)) (λ less. rw (below x (pos (2 ^ 63 - 1)) less) refl) (λ more.
    let same : pos (2 ^ 63 - 1) ≡ x = omega (arith, ints, is.1, more) in
    subst (λ (y : ℤ). item_of (unless_greatest (Some y)) ≡ y) same refl)

-- what an item claims fits into an item
claim_fits : (x d : ℤ) → IsWhole x → unless_greatest (Some x) ≡ Some d → IsItem d
claim_fits x d is e =
    by_lt_z x (pos (2 ^ 63 - 1))
    (λ less.
    let f : Some x ≡ Some d = rw (below x (pos (2 ^ 63 - 1)) less) at e in
    let same : x ≡ d = cc in
    subst IsItem same (is, λ greatest. omega (arith, ints, less, greatest)))
    (λ more.
    let same : x ≡ pos (2 ^ 63 - 1) = omega (arith, ints, is.1, more) in
    let none : None ≡ Some d = subst (λ (y : ℤ). unless_greatest (Some y) ≡ Some d) same e in absurd cc)

-- ---- a block with the distances of an array
module _ (distances : List ℤ) (whole : All IsWhole distances) (b : BlockValue) (lawful : IsBlock (length distances) b) (full : b.radius ≡ None) (agrees : (v : ℕ) → IsNode (length distances) v → label b v ≡ claimed_by_node distances v) where
  claim_at : (k : ℕ) → k < length distances → claimed_by_node distances (suc k) ≡ unless_greatest (Some (get_or distances k (pos 0)))
  claim_at k inside = ap unless_greatest (slice_get-get_or distances k (pos 0) inside)

  whole_at : (k : ℕ) → k < length distances → IsWhole (get_or distances k (pos 0))
  whole_at k inside = All-get_or IsWhole distances k (pos 0) inside whole

  distances_are : distances_of (length distances) b ≡ distances
  distances_are =
      let all = length-map-range_with_len (λ v. item_of (label b v)) 1 (length distances) in
      ext_get_or (pos 0) (distances_of (length distances) b) distances all (λ k here.
      let inside : k < length distances = omega (arith, here, all) in
      get_or-map-range_with_len (λ v. item_of (label b v)) 1 (length distances) k (suc k) (pos 0) inside (omega arith)
      ∙ (ap item_of (agrees (suc k) (omega arith, omega (arith, inside)) ∙ claim_at k inside) ∙ item_back (get_or distances k (pos 0)) (whole_at k inside)))

  claimed_fits : (v : ℕ) (d : ℤ) → IsNode (length distances) v → claimed_by_node distances v ≡ Some d → IsItem d
  claimed_fits zero d node e = absurd (omega (arith, node.0))
  claimed_fits (suc k) d node e =
      let inside : k < length distances = omega (arith, node.1) in
      claim_fits (get_or distances k (pos 0)) d (whole_at k inside) (sym (claim_at k inside) ∙ e)

  items : (k : ℕ) → k < length b.labels → IsItem (get_or b.labels k no_label).dist
  items k inside =
      let l = get_or b.labels k no_label in
      let node : IsNode (length distances) l.id = (All-get_or (IsLabel (length distances)) b.labels k no_label inside lawful.within).id in
      let there : b.labels ≡ take k b.labels ++ l ∷ drop (k + 1) b.labels = sym (take-append-drop k b.labels) ∙ ap (λ rest. take k b.labels ++ rest) (drop_more b.labels k no_label inside) in
      let other : l.id ≢ b.source = (lawful.fresh (take k b.labels) (drop (k + 1) b.labels) l there).0 in
      let at : distance_in b.labels l.id ≡ Some l.dist = distance_in-at b.labels (fresh_apart b.source b.labels lawful.fresh) k inside in
      let named : label b l.id ≡ Some l.dist = rw (ne_eqb b.source l.id (λ e. other (sym e))) at in
      claimed_fits l.id l.dist node (sym (agrees l.id node) ∙ named)

  no_past : (id : ℕ) → ¬ IsPast b id
  no_past id (inl (is, past)) = past (subst (λ r. IfSome r IsItem) (sym full) tt)
  no_past id (inr (radius, first)) = first.past (items first.place first.within)

-- the only block of labels
only : (b other : BlockValue) → Contains (b ∷ []) other → other ≡ b
only b other (zero, inside, is) = sym is
only b other (suc k, inside, is) = absurd (omega (arith, inside))

found_alone : (labels : LabelsValue) (b other : BlockValue) (source : ℕ) → labels.blocks ≡ b ∷ [] → HasBlock labels source other → other ≡ b
found_alone labels b other source alone has = only b other (subst (λ blocks. Contains blocks other) alone has.0)

has_alone : (labels : LabelsValue) (b : BlockValue) (source : ℕ) → labels.blocks ≡ b ∷ [] → b.source ≡ source → HasBlock labels source b
has_alone labels b source alone is = (subst (λ blocks. Contains blocks b) (sym alone) (0, omega arith, refl), is)

few_lines : (labels : LabelsValue) (b : BlockValue) → labels.blocks ≡ b ∷ [] → length b.labels ≤ most_count → FitText labels
few_lines labels b alone few =
    subst (λ blocks. length (LabelsProblem labels.nodes (length blocks) ∷ flat_map block_lines blocks) ≤ most_lines) (sym alone)
    (omega (arith, few, length-append (block_lines b) [], length-map b.labels label_line))

-- ---- the distances of labels by ID
module _ (s : ℕ) (claim : ℕ → Option ℤ) where
  abbrev labels_from : ℕ → ℕ → List Label
  labels_from first n = filter_map (λ v. label_with s v (claim v)) (range_with_len first n)

  passed : (v : ℕ) (o : Option ℤ) (rest : List Label) (u : ℕ) → v ≢ u → distance_in (cons_option (label_with s v o) rest) u ≡ distance_in rest u
  passed v None rest u apart = refl
  passed v (Some d) rest u apart = elim (eqb_tells v s) [
    | inl same ↦ rw same.0 refl
    | inr other ↦ rw (other.0, ne_eqb v u apart) refl
  ]

  here : (v : ℕ) (o : Option ℤ) (rest : List Label) → v ≢ s → distance_in rest v ≡ None → distance_in (cons_option (label_with s v o) rest) v ≡ o
  here v None rest other none = none
  here v (Some d) rest other none = rw (ne_eqb v s other, eq-eqb v v refl) refl

  none_before : (first n u : ℕ) → u < first → distance_in (labels_from first n) u ≡ None
  none_before first zero u before = refl
  none_before first (suc n) u before =
      passed first (claim first) (labels_from (first + 1) n) u (λ e. omega (arith, before, e)) ∙ none_before (first + 1) n u (omega (arith, before))

  found : (first n u : ℕ) → first ≤ u → u < first + n → u ≢ s → distance_in (labels_from first n) u ≡ claim u
  found first zero u low high other = absurd (omega (arith, low, high))
  found first (suc n) u low high other = elim (cases_eq first u) [
    | inl same ↦
        subst (λ (w : ℕ). distance_in (cons_option (label_with s first (claim first)) (labels_from (first + 1) n)) w ≡ claim w) same
        (here first (claim first) (labels_from (first + 1) n) (λ e. other (sym same ∙ e)) (none_before (first + 1) n first (omega arith)))
    | inr apart ↦ passed first (claim first) (labels_from (first + 1) n) u apart ∙ found (first + 1) n u (omega (arith, low, apart)) (omega (arith, high)) other
  ]

block_agrees : (s : ℕ) (distances : List ℤ) → claimed_by_node distances s ≡ Some (pos 0) → (v : ℕ) → IsNode (length distances) v → label (block_spelled s distances) v ≡ claimed_by_node distances v
block_agrees s distances zero_there v node = elim (eqb_tells s v) [
  | inl same ↦ rw same.0 (sym zero_there ∙ ap (claimed_by_node distances) same.1)
  | inr apart ↦ rw apart.0 (found s (claimed_by_node distances) 1 (length distances) v node.0 (omega (arith, node.1)) (λ e. apart.1 (sym e)))
]

pub distances_back : DistancesArrayLaw
distances_back source distances d whole lawful (fits, node, of) distances_read =
    fill_back kinds.Distances GivesDistances (canonical_distances d) d one_distances (distances_round_trip d lawful bare (few_lines d b alone own.few)) (FillsDistances distances_read source) (IsKept distances_read)
    (λ n. (n ≡ length distances) × Gets distances distances_read) by
  where
    b : BlockValue
    b = block_spelled source distances

    alone : d.blocks ≡ b ∷ []
    alone = ap (λ (e : LabelsValue). e.blocks) of.block

    nodes : d.nodes ≡ length distances
    nodes = ap (λ (e : LabelsValue). e.nodes) of.block

    bare : AreBare d
    bare = subst (λ blocks. All IsBare blocks) (sym alone) (All-cons IsBare b [] (bare_block source (claimed_by_node distances) (length distances) b refl) (All-nil IsBare))

    own : IsBlock (length distances) b
    own = subst (λ n. IsBlock n b) nodes (All-head (IsBlock d.nodes) b [] (subst (λ blocks. All (IsBlock d.nodes) blocks) alone lawful.blocks))

    agrees : (v : ℕ) → IsNode (length distances) v → label b v ≡ claimed_by_node distances v
    agrees = block_agrees source distances of.source

    by : (r : Result ℕ FillError) → FillsDistances distances_read source d r → FillsOrFails (λ n. (n ≡ length distances) × Gets distances distances_read) r
    by (Ok n) (is, (other, has, have, filled)) =
        let same : distances_of d.nodes other ≡ distances = ap₂ distances_of nodes (found_alone d b other source alone has) ∙ distances_are distances whole b own refl agrees in
        (is ∙ nodes, front (distances_of d.nodes other) distances distances_read same filled)
    by (Err (fill_errors.Node id reason)) (inl (is, at, none)) = absurd (none b (has_alone d b source alone refl))
    by (Err (fill_errors.Node id reason)) (inr (is, (other, has, past))) = absurd (no_past distances whole b own refl agrees id (subst (λ c. IsPast c id) (found_alone d b other source alone has) past))
    by (Err (fill_errors.Unread error)) none = absurd none

-- ---- predecessors
module _ (pred : ℕ → ℕ) where
  no_pred : (labels : List Label) (v : ℕ) → distance_in labels v ≡ None → pred_in labels v ≡ 0
  no_pred [] v e = refl
  no_pred (l ∷ labels) v e = elim (eqb_tells l.id v) [
    | inl same ↦ absurd (let f : Some l.dist ≡ None = rw same.0 at e in cc)
    | inr apart ↦ rw apart.0 (no_pred labels v (rw apart.0 at e))
  ]

  named_pred : (labels : List Label) (v : ℕ) (d : ℤ) → All (λ (l : Label). l.pred ≡ pred l.id) labels → distance_in labels v ≡ Some d → pred_in labels v ≡ pred v
  named_pred [] v d all e = absurd (cc)
  named_pred (l ∷ labels) v d all e = elim (eqb_tells l.id v) [
    | inl same ↦ rw same.0 (All-head (λ (m : Label). m.pred ≡ pred m.id) l labels all ∙ ap pred same.1)
    | inr apart ↦ rw apart.0 (named_pred labels v d (All-tail (λ (m : Label). m.pred ≡ pred m.id) l labels all) (rw apart.0 at e))
  ]

  pred_is : (nodes s : ℕ) (claim : ℕ → Option ℤ) (labels : LabelsValue) (are : AreLabelsBy nodes s claim pred labels) (v : ℕ) → IsNode nodes v → pred_in are.block.labels v ≡ pred v
  pred_is nodes s claim labels are v node = by (distance_in are.block.labels v) refl
    where
      free : distance_in are.block.labels v ≡ None → ¬ NeedsPredecessor s claim v
      free none due =
          let b = are.block in
          let off : label b v ≡ None = rw (ne_eqb b.source v (λ e. due.0 (sym e ∙ are.source))) none in
          let nothing : claim v ≡ None = sym (are.agrees v node) ∙ off in
          let some : IsSome {T = ℤ} None = subst (IsSome {T = ℤ}) nothing due.1 in absurd (cc)

      by : (o : Option ℤ) → distance_in are.block.labels v ≡ o → pred_in are.block.labels v ≡ pred v
      by None none = no_pred are.block.labels v none ∙ sym (are.others v node (free none))
      by (Some d) some = named_pred are.block.labels v d are.preds some

pub labels_back : LabelArraysLaw
labels_back source distances preds labels whole lawful (fits, node, (are, order)) distances_read preds_read =
    fill_back kinds.Labels GivesLabels (canonical_labels labels) labels one_labels (labels_round_trip labels lawful (few_lines labels b alone are.lawful.few)) (FillsLabels distances_read preds_read source) (IsKept distances_read × IsKept preds_read)
    (λ sizes. (sizes.nodes ≡ length distances) × (sizes.radius ≡ pos (2 ^ 63 - 1)) × Gets distances distances_read × Gets preds preds_read) by
  where
    b : BlockValue
    b = are.block

    alone : labels.blocks ≡ b ∷ []
    alone = ap (λ (e : LabelsValue). e.blocks) are.alone

    nodes : labels.nodes ≡ length distances
    nodes = ap (λ (e : LabelsValue). e.nodes) are.alone

    long : length preds ≡ length distances
    long = (all_fit (length_of Predecessors (length preds) (length distances) ∷ []) fits).0

    preds_are : preds_of (length distances) b ≡ preds
    preds_are =
        let all = length-map-range_with_len (pred_in b.labels) 1 (length distances) in
        ext_get_or 0 (preds_of (length distances) b) preds (all ∙ sym long) (λ k here.
        let inside : k < length distances = omega (arith, here, all) in
        get_or-map-range_with_len (pred_in b.labels) 1 (length distances) k (suc k) 0 inside (omega arith)
        ∙ pred_is (pred_by_node preds) (length distances) source (claimed_by_node distances) labels are (suc k) (omega arith, omega (arith, inside)))

    by : (r : Result LabelSizes FillError) → FillsLabels distances_read preds_read source labels r
        → FillsOrFails (λ sizes. (sizes.nodes ≡ length distances) × (sizes.radius ≡ pos (2 ^ 63 - 1)) × Gets distances distances_read × Gets preds preds_read) r
    by (Ok sizes) (is, (other, has, have, radius, filled, named)) =
        let same : other ≡ b = found_alone labels b other source alone has in (
          is ∙ nodes,
          radius ∙ ap item_of (ap (λ (c : BlockValue). c.radius) same ∙ are.whole),
          front (distances_of labels.nodes other) distances distances_read (ap₂ distances_of nodes same ∙ distances_are distances whole b are.lawful are.whole are.agrees) filled,
          front (preds_of labels.nodes other) preds preds_read (ap₂ preds_of nodes same ∙ preds_are) named,
        )
    by (Err (fill_errors.Node id reason)) (inl (is, at, none)) = absurd (none b (has_alone labels b source alone are.source))
    by (Err (fill_errors.Node id reason)) (inr (is, (other, has, past))) = absurd (no_past distances whole b are.lawful are.whole are.agrees id (subst (λ c. IsPast c id) (found_alone labels b other source alone has) past))
    by (Err (fill_errors.Unread error)) none = absurd none
