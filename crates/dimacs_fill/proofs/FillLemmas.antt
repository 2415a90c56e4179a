-- An array is filled from its front.
use Rattle.std.proofs.Common.{◌≡◌, ◌∙◌, ◌++◌, ◌<◌, ◌≤◌, ◌+◌, ◌⊎◌, inl, inr, ℕ, zero, suc, List, [], ◌∷◌, Some, refl, ap, sym, length, map, take, drop, slice_get, slice_set, add-one, min, Bool, true, false, arith}
use Rattle.std.proofs.{lemmas.List.{drop_all, length-map, take_all}, lemmas.Option.{slice_get-map, slice_get_read}}
use Rattle.std.proofs.lemmas.List.FromFn.{get_or-map-range_with_len, length-map-range_with_len}
use Rattle.std.specs.{Prelude.{nat_le, unwrap_or}, List.{range_with_len}, Option.{option_map}}
use Rattle.dimacs_fill.specs.inside.Filling.{AreItems}

module _ {X : Type 0} where
  --   one more item from the front
  set_next : (items old : List X) (i : ℕ) (x : X) → slice_get items i ≡ Some x → i < length old → slice_set (take i items ++ drop i old) i x ≡ take (suc i) items ++ drop (suc i) old
  set_next [] old i x is within = absurd (cc)
  set_next (y ∷ items) [] i x is within = absurd (omega (arith, within))
  set_next (y ∷ items) (z ∷ old) zero x is within = ap (λ (o : X). o ∷ old) (sym (ap (λ some. unwrap_or some x) is))
  set_next (y ∷ items) (z ∷ old) (suc i) x is within = ap (λ l. y ∷ l) (set_next items old i x is (omega (arith, within)))

  pub fill_next : (items old : List X) (i : ℕ) (x : X) → slice_get items i ≡ Some x → i < length old → slice_set (take i items ++ drop i old) i x ≡ take (i + 1) items ++ drop (i + 1) old
  fill_next items old i x is within = set_next items old i x is within ∙ ap (λ k. take k items ++ drop k old) (sym (add-one i))

  --   all items are there, or the array is full
  pub fill_all : (items old : List X) (i : ℕ) → i ≤ length items → i ≤ length old → (i ≡ length items) ⊎ (i ≡ length old) → take i items ++ drop i old ≡ take (length old) items ++ drop (length items) old
  fill_all items old i few fits (inl all) =
      ap (λ front. front ++ drop i old) (take_all i items (omega (arith, all)) ∙ sym (take_all (length old) items (omega (arith, all, fits)))) ∙ ap (λ k. take (length old) items ++ drop k old) all
  fill_all items old i few fits (inr full) =
      ap (λ k. take k items ++ drop i old) full ∙ ap (λ rest. take (length old) items ++ rest) (drop_all i old (omega (arith, full)) ∙ sym (drop_all (length items) old (omega (arith, full, few))))

  pub at_end : (items old : List X) (i count : ℕ) → length items ≡ count → i ≡ min count (length old) → take i items ++ drop i old ≡ take (length old) items ++ drop (length items) old
  at_end items old i count all is =
      fill_all items old i (omega (arith, is, all)) (omega (arith, is)) (either (nat_le count (length old)) refl)
    where
      either : (b : Bool) → nat_le count (length old) ≡ b → (i ≡ length items) ⊎ (i ≡ length old)
      either true e = inl (grind (arith, e, is, all))
      either false e = inr (grind (arith, e, is, all))

-- the items of a list, each by its number
pub each_part : {A X : Type 0} (f : A → X) (gives : ℕ → X → Type 0) (n : ℕ) (xs : List A) → n ≡ length xs → ((i : ℕ) (x : X) → i < n → gives i x → Some x ≡ option_map f (slice_get xs i)) → AreItems gives n (map f xs)
each_part f gives n xs all each = record {
  all = length-map xs f ∙ sym all;
  each = λ i x within e. slice_get-map f xs i ∙ sym (each i x within e);
}

-- an item for each node, by ID
pub each_node : {X : Type 0} (f : ℕ → X) (gives : ℕ → X → Type 0) (count n : ℕ) → count ≡ n → ((i : ℕ) (x : X) → i < count → gives i x → x ≡ f (i + 1)) → AreItems gives count (map f (range_with_len 1 n))
each_node f gives count n same each = record {
  all = length-map-range_with_len f 1 n ∙ sym same;
  each = λ i x within e.
      slice_get_read (map f (range_with_len 1 n)) n i x (sym (length-map-range_with_len f 1 n)) (omega (arith, within, same))
      (each i x within e ∙ sym (get_or-map-range_with_len f 1 n i (i + 1) x (omega (arith, within, same)) (omega arith)));
}
