-- The items of a block, label by label.
use Rattle.std.proofs.Common.{◌≡◌, ◌≢◌, inl, inr, ℕ, ℤ, pos, ◌+◌, ◌-◌, ◌<◌, ◌≤◌, ◌==◌, ◌⊎◌, ◌^◌, List, [], ◌∷◌, ◌++◌, All, length, get_or, map, take, drop, cond, Some, refl, sym, ap, ◌∙◌, arith}
use Rattle.std.proofs.{lemmas.Bool.{cases_eq, cases_lt, eq-eqb, ne_eqb}, lemmas.Bool.Decides.{eqb_tells}}
use Rattle.std.proofs.Math.ListN.{get_or-append}
use Rattle.std.proofs.lemmas.List.{drop_more, ext_get_or, get_or-append_right, get_or-drop, get_or-set_other, get_or-set_same, get_or-take, length-append, length-drop, length-set, length-take, take-append-drop, take_more}
use Rattle.std.proofs.lemmas.List.Elements.{All-contains_itself, All-get_or, All-head, All-tail, All-weaker}
use Rattle.std.proofs.lemmas.List.FromFn.{get_or-map-range_with_len, length-map-range_with_len}
use Rattle.std.specs.{Prelude.{Contains, if◌then◌else◌, slice_set}, List.{range_with_len}}
use Rattle.dimacs_lines.specs.Limits.{IsNode}
use Rattle.dimacs_claims.specs.declared.label_list.Label.{Label}
use Rattle.dimacs_claims.specs.Labels.{BlockValue, IsBlock, IsFresh, IsLabel, label, no_label, with_label}
use Rattle.dimacs_claims.proofs.{BlockLemmas.{fresh_has_none, label-with_label}, BuilderLemmas.{unlabelled}}
use Rattle.dimacs_fill.specs.{BlockFilled.{distances_of, item_of, pred_in, preds_of}, Filling.{filled}}

-- ---- the items of an array that was filled
module _ {X : Type 0} (items old : List X) where
  pub length-filled : length (filled items old) ≡ length old
  length-filled = omega (arith, length-append (take (length old) items) (drop (length items) old), length-take (length old) items, length-drop (length items) old)

  module _ (k : ℕ) (d : X) (within : k < length old) where
    filled_front : k < length items → get_or (filled items old) k d ≡ get_or items k d
    filled_front front =
        get_or-append (take (length old) items) (drop (length items) old) d k (omega (arith, length-take (length old) items, front, within)) ∙ get_or-take (length old) items k d within

    filled_rest : length items ≤ k → get_or (filled items old) k d ≡ get_or old k d
    filled_rest past =
        get_or-append_right (take (length old) items) (drop (length items) old) (length items) k d (omega (arith, length-take (length old) items, past, within)) past
        ∙ get_or-drop (length items) old (k - length items) d
        ∙ ap (λ j. get_or old j d) (omega (arith, past))

-- one item changes, that of a node
module _ {X : Type 0} (f g : ℕ → X) (nodes id : ℕ) (x : X) (old : List X) (node : IsNode nodes id) (here : g id ≡ x) (others : (v : ℕ) → v ≢ id → g v ≡ f v) where
  abbrev before : List X
  before = map f (range_with_len 1 nodes)

  abbrev after : List X
  after = map g (range_with_len 1 nodes)

  at_item : (k : ℕ) → k < length old → get_or (slice_set (filled before old) (id - 1) x) k x ≡ get_or (filled after old) k x
  at_item k within = elim (cases_eq k (id - 1)) [
    | inl same ↦
        rw same (
        get_or-set_same (filled before old) (id - 1) x x (omega (arith, within, same, length-filled before old))
        ∙ sym (filled_front after old (id - 1) x (omega (arith, within, same)) (omega (arith, length-map-range_with_len g 1 nodes, node.0, node.1))
        ∙ get_or-map-range_with_len g 1 nodes (id - 1) id x (omega (arith, node.0, node.1)) (omega (arith, node.0)) ∙ here)
        )
    | inr apart ↦ get_or-set_other (filled before old) (id - 1) k x x apart ∙ elsewhere apart (cases_lt k nodes)
  ]
    where
      elsewhere : k ≢ id - 1 → (k < nodes) ⊎ (nodes ≤ k) → get_or (filled before old) k x ≡ get_or (filled after old) k x
      elsewhere apart (inl front) =
          filled_front before old k x within (omega (arith, front, length-map-range_with_len f 1 nodes))
          ∙ get_or-map-range_with_len f 1 nodes k (k + 1) x front (omega arith)
          ∙ sym (others (k + 1) (λ e. apart (omega (arith, e))))
          ∙ sym (filled_front after old k x within (omega (arith, front, length-map-range_with_len g 1 nodes)) ∙ get_or-map-range_with_len g 1 nodes k (k + 1) x front (omega arith))
      elsewhere apart (inr past) =
          filled_rest before old k x within (omega (arith, past, length-map-range_with_len f 1 nodes)) ∙ sym (filled_rest after old k x within (omega (arith, past, length-map-range_with_len g 1 nodes)))

  pub filled_set : slice_set (filled before old) (id - 1) x ≡ filled after old
  filled_set =
      ext_get_or x (slice_set (filled before old) (id - 1) x) (filled after old) (length-set (filled before old) (id - 1) x ∙ length-filled before old ∙ sym (length-filled after old))
      (λ k inside. at_item k (omega (arith, inside, length-set (filled before old) (id - 1) x, length-filled before old)))

-- ---- the first labels of a block
abbrev pub first_labels : BlockValue → ℕ → BlockValue
first_labels b n = record { source = b.source; radius = b.radius; labels = take n b.labels }

abbrev pub at_place : List Label → ℕ → Label
at_place labels n = get_or labels n no_label

pred_push : (labels : List Label) (l : Label) (v : ℕ) → All (λ (m : Label). m.id ≢ l.id) labels → pred_in (labels ++ l ∷ []) v ≡ cond (l.id == v) l.pred (pred_in labels v)
pred_push [] l v apart = refl
pred_push (m ∷ labels) l v apart = elim (eqb_tells m.id v) [
  | inl same ↦ rw (same.0, ne_eqb l.id v (λ e. All-head (λ (k : Label). k.id ≢ l.id) m labels apart (same.1 ∙ sym e))) refl
  | inr other ↦ rw other.0 (pred_push labels l v (All-tail (λ (k : Label). k.id ≢ l.id) m labels apart))
]

module _ (nodes : ℕ) (b : BlockValue) (lawful : IsBlock nodes b) (n : ℕ) (inside : n < length b.labels) where
  fresh_at : IsFresh b.source (take n b.labels) (at_place b.labels n)
  fresh_at = lawful.fresh (take n b.labels) (drop (n + 1) b.labels) (at_place b.labels n) (sym (take-append-drop n b.labels) ∙ ap (λ rest. take n b.labels ++ rest) (drop_more b.labels n no_label inside))

  pub node_at : IsNode nodes (at_place b.labels n).id
  node_at = (All-get_or (IsLabel nodes) b.labels n no_label inside lawful.within).id

  next : first_labels b (n + 1) ≡ with_label (first_labels b n) (at_place b.labels n)
  next = ap (λ (labels : List Label). record { source = b.source; radius = b.radius; labels = labels }) (take_more b.labels n no_label inside)

  label_next : (v : ℕ) → label (first_labels b (n + 1)) v ≡ cond ((at_place b.labels n).id == v) (Some (at_place b.labels n).dist) (label (first_labels b n) v)
  label_next v =
      ap (λ (c : BlockValue). label c v) next
      ∙ label-with_label (first_labels b n) (at_place b.labels n) (unlabelled (label (first_labels b n) (at_place b.labels n).id) (fresh_has_none (first_labels b n) (at_place b.labels n) fresh_at)) v

  label_here : label (first_labels b (n + 1)) (at_place b.labels n).id ≡ Some (at_place b.labels n).dist
  label_here = label_next (at_place b.labels n).id ∙ rw (eq-eqb (at_place b.labels n).id _ refl) refl

  label_there : (v : ℕ) → v ≢ (at_place b.labels n).id → label (first_labels b (n + 1)) v ≡ label (first_labels b n) v
  label_there v apart = label_next v ∙ rw (ne_eqb (at_place b.labels n).id v (λ e. apart (sym e))) refl

  --   the item of one more label
  pub distances_more : (old : List ℤ) → slice_set (filled (distances_of nodes (first_labels b n)) old) ((at_place b.labels n).id - 1) (at_place b.labels n).dist ≡ filled (distances_of nodes (first_labels b (n + 1))) old
  distances_more old =
      filled_set (λ v. item_of (label (first_labels b n) v)) (λ v. item_of (label (first_labels b (n + 1)) v)) nodes (at_place b.labels n).id (at_place b.labels n).dist old node_at
      (ap item_of label_here) (λ v apart. ap item_of (label_there v apart))

  pred_next : (v : ℕ) → pred_in (take (n + 1) b.labels) v ≡ cond ((at_place b.labels n).id == v) (at_place b.labels n).pred (pred_in (take n b.labels) v)
  pred_next v =
      ap (λ (labels : List Label). pred_in labels v) (take_more b.labels n no_label inside)
      ∙ pred_push (take n b.labels) (at_place b.labels n) v (All-weaker (Contains (take n b.labels)) (λ (m : Label). m.id ≢ (at_place b.labels n).id) (λ (m : Label) there. fresh_at.1 m there) (take n b.labels) (All-contains_itself (take n b.labels)))

  pred_here : pred_in (take (n + 1) b.labels) (at_place b.labels n).id ≡ (at_place b.labels n).pred
  pred_here = pred_next (at_place b.labels n).id ∙ rw (eq-eqb (at_place b.labels n).id _ refl) refl

  pred_there : (v : ℕ) → v ≢ (at_place b.labels n).id → pred_in (take (n + 1) b.labels) v ≡ pred_in (take n b.labels) v
  pred_there v apart = pred_next v ∙ rw (ne_eqb (at_place b.labels n).id v (λ e. apart (sym e))) refl

  pub preds_more : (old : List ℕ) → slice_set (filled (preds_of nodes (first_labels b n)) old) ((at_place b.labels n).id - 1) (at_place b.labels n).pred ≡ filled (preds_of nodes (first_labels b (n + 1))) old
  preds_more old = filled_set (pred_in (take n b.labels)) (pred_in (take (n + 1) b.labels)) nodes (at_place b.labels n).id (at_place b.labels n).pred old node_at pred_here pred_there

-- ---- no labels, and all
pub no_labels : (b : BlockValue) (v : ℕ) → (if b.source == v then pos 0 else pos (2 ^ 63 - 1)) ≡ item_of (label (first_labels b 0) v)
no_labels b v = elim (eqb_tells b.source v) [ inl same ↦ rw same.0 refl | inr apart ↦ rw apart.0 refl ]
