-- Distances by node, from labels.
use Rattle.std.proofs.Common.{◌≡◌, ◌≢◌, inl, inr, ℕ, suc, zero, ◌+◌, ◌-◌, ◌^◌, ◌<◌, List, [], ◌∷◌, length, replicate, Option, None, Some, true, ℤ, pos, ◌<ℤ◌, refl, sym, ap, ◌∙◌, arith}
use Rattle.std.proofs.{lemmas.Bool.{cases_lt, cases_order}, lemmas.Bool.Decides.{eqb_tells}, lemmas.Int.{by_lt_z, ints}}
use Rattle.std.proofs.lemmas.List.{get_or-replicate, get_or-set_other, get_or-set_same, length-replicate, length-set}
use Rattle.std.proofs.lemmas.Option.{slice_get-get_or, slice_get_past}
use Rattle.std.specs.Prelude.{int_lt, slice_set}
use Rattle.dimacs_lines.specs.Limits.{IsNode}
use Rattle.dimacs_claims.specs.{inside.ById.{NodesAreDistinct}, declared.label_list.Label.{Label}}
use Rattle.dimacs_claims.specs.Labels.{BlockValue, IsItem, distance_in, label}
use Rattle.dimacs_claims.proofs.ByIdLemmas.{distance_in-at}
use Rattle.dimacs_decide.specs.Claims.{claimed_by_node, unless_greatest}
use Rattle.dimacs_arrays.specs.inside.LabelDistances.{AreDistancesOf}
use Rattle.dimacs_arrays.proofs.PredLemmas.{at_place}

-- ---- one more distance
below : (x y : ℤ) → x <ℤ y → int_lt x y ≡ true
below x y less = grind (arith, ints)

fits_array : (n : ℤ) → IsItem n → unless_greatest (Some n) ≡ Some n
fits_array n is = rw (below n (pos (2 ^ 63 - 1)) (by_lt_z n (pos (2 ^ 63 - 1)) (λ less. less) (λ more. absurd (is.1 (omega (arith, ints, is.0.1, more)))))) refl

unsaid : unless_greatest (Some (pos (2 ^ 63 - 1))) ≡ None
unsaid = refl

pub claim_here : (ds : List ℤ) (u : ℕ) (n : ℤ) → IsNode (length ds) u → IsItem n → claimed_by_node (slice_set ds (u - 1) n) u ≡ Some n
claim_here ds zero n node is = absurd (omega (arith, node.0))
claim_here ds (suc k) n node is =
    let e : suc k - 1 ≡ k = omega arith in
    rw e (ap unless_greatest (slice_get-get_or (slice_set ds k n) k (pos 0) (omega (arith, node.1, length-set ds k n)) ∙ ap Some (get_or-set_same ds k n (pos 0) (omega (arith, node.1)))) ∙ fits_array n is)

pub claim_there : (ds : List ℤ) (u v : ℕ) (n : ℤ) → IsNode (length ds) u → v ≢ u → claimed_by_node (slice_set ds (u - 1) n) v ≡ claimed_by_node ds v
claim_there ds u zero n node apart = refl
claim_there ds u (suc k) n node apart = elim (cases_lt k (length ds)) [
  | inl within ↦
      (let after = slice_get-get_or (slice_set ds (u - 1) n) k (pos 0) (omega (arith, within, length-set ds (u - 1) n)) in
      ap unless_greatest (after ∙ ap Some (get_or-set_other ds (u - 1) k n (pos 0) (λ e. apart (omega (arith, e, node.0)))) ∙ sym (slice_get-get_or ds k (pos 0) within)))
  | inr past ↦ ap unless_greatest (slice_get_past (slice_set ds (u - 1) n) k (omega (arith, past, length-set ds (u - 1) n)) ∙ sym (slice_get_past ds k past))
]

none_claimed : (nodes v : ℕ) → claimed_by_node (replicate nodes (pos (2 ^ 63 - 1))) v ≡ None
none_claimed nodes zero = refl
none_claimed nodes (suc k) = elim (cases_lt k nodes) [
  | inl within ↦
      ap unless_greatest (slice_get-get_or (replicate nodes (pos (2 ^ 63 - 1))) k (pos 0) (omega (arith, within, length-replicate nodes (pos (2 ^ 63 - 1)))) ∙ ap Some (get_or-replicate nodes k (pos (2 ^ 63 - 1)) (pos 0) within))
      ∙ unsaid
  | inr past ↦ ap unless_greatest (slice_get_past (replicate nodes (pos (2 ^ 63 - 1))) k (omega (arith, past, length-replicate nodes (pos (2 ^ 63 - 1)))))
]

-- ---- the distances of labels, label by label
-- 0 at the source, and the distances of the first n labels; no others
pub record AreReachedBy (b : BlockValue) (nodes : ℕ) (distances : List ℤ) (n : ℕ) : Type 0 where
  pub each : length distances ≡ nodes
  pub source : claimed_by_node distances b.source ≡ Some (pos 0)
  pub named : (j : ℕ) → j < n → claimed_by_node distances (at_place b.labels j).id ≡ Some (at_place b.labels j).dist
  pub others : (v : ℕ) → v ≢ b.source → ((j : ℕ) → j < n → (at_place b.labels j).id ≢ v) → claimed_by_node distances v ≡ None

place_of : (ls : List Label) (v : ℕ) (d : ℤ) → distance_in ls v ≡ Some d → (j : ℕ) × (j < length ls) × ((at_place ls j).id ≡ v) × ((at_place ls j).dist ≡ d)
place_of [] v d at = absurd (cc)
place_of (l ∷ ls) v d at = elim (eqb_tells l.id v) [
  | inl same ↦ (let e : Some l.dist ≡ Some d = rw same.0 at at in let f : l.dist ≡ d = cc in (0, omega arith, same.1, f))
  | inr apart ↦ (let (j, inside, id, dist) = place_of ls v d (rw apart.0 at at) in (suc j, omega (arith, inside), id, dist))
]

module _ (b : BlockValue) (nodes : ℕ) where
  module _ (apart : NodesAreDistinct b.labels) (distances : List ℤ) where
    pub reached_more : (n : ℕ) → n < length b.labels → IsNode nodes (at_place b.labels n).id → (at_place b.labels n).id ≢ b.source → IsItem (at_place b.labels n).dist → AreReachedBy b nodes distances n
        → AreReachedBy b nodes (slice_set distances ((at_place b.labels n).id - 1) (at_place b.labels n).dist) (n + 1)
    reached_more n inside node other is are =
        let l = at_place b.labels n in
        let there : IsNode (length distances) l.id = (node.0, omega (arith, node.1, are.each)) in
        record {
          each = length-set distances (l.id - 1) l.dist ∙ are.each;
          source = claim_there distances l.id b.source l.dist there (λ e. other (sym e)) ∙ are.source;
          named = λ j less. elim (cases_order j n) [
            | inl same ↦ rw same (claim_here distances l.id l.dist there is)
            | inr (inl before) ↦ claim_there distances l.id (at_place b.labels j).id l.dist there (λ (e : (at_place b.labels j).id ≡ l.id). omega (arith, before, apart j n (omega (arith, before, inside)) inside e)) ∙ are.named j before
            | inr (inr past) ↦ absurd (omega (arith, past, less))
          ];
          others = λ v off none. claim_there distances l.id v l.dist there (λ e. none n (omega arith) (sym e)) ∙ are.others v off (λ j less. none j (omega (arith, less)));
        }

    pub reached_all : (n : ℕ) → length b.labels ≡ n → AreReachedBy b nodes distances n → AreDistancesOf nodes b distances
    reached_all n over are = record { each = are.each; agrees = λ v node. by_source v }
      where
        by_label : (v : ℕ) → v ≢ b.source → (o : Option ℤ) → distance_in b.labels v ≡ o → claimed_by_node distances v ≡ o
        by_label v off None e = are.others v off (λ j less same. let f : Some (at_place b.labels j).dist ≡ None = sym (distance_in-at b.labels apart j (omega (arith, less, over))) ∙ (ap (distance_in b.labels) same ∙ e) in cc)
        by_label v off (Some d) e = let (j, inside, id, dist) = place_of b.labels v d e in ap (claimed_by_node distances) (sym id) ∙ are.named j (omega (arith, inside, over)) ∙ ap Some dist

        by_source : (v : ℕ) → claimed_by_node distances v ≡ label b v
        by_source v = elim (eqb_tells b.source v) [
          | inl same ↦ rw same.0 (ap (claimed_by_node distances) (sym same.1) ∙ are.source)
          | inr apart ↦ rw apart.0 (by_label v (λ e. apart.1 (sym e)) (distance_in b.labels v) refl)
        ]
