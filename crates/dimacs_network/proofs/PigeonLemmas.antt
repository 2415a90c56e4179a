-- The pigeonhole principle: n different numbers below n are all numbers below n.
use Rattle.std.proofs.Common.{◌≡◌, ℕ, ◌+◌, ◌<◌, ◌++◌, ◌∷◌, [], inl, inr, true, false, List, length, get_or, All, eqb, sym, ap, ◌∙◌, arith, suc, zero}
use Rattle.std.proofs.{lemmas.Bool.Decides.{nat_tests}, lemmas.Bool.{cases_Bool, cases_lt}}
use Rattle.std.proofs.{lemmas.List.{map-id, nil_from_length}, lemmas.List.FromFn.{map-range_with_len_more}}
use Rattle.std.proofs.lemmas.List.Sums.{fails_before_first, passes_at_first}
use Rattle.std.proofs.lemmas.List.Sorted.{All-permutation, IsPermutation-refl, IsPermutation-sym, IsPermutation-cons, IsPermutation-to_front, IsPermutation-remove, IsPermutation-trans, length_permutation}
use Rattle.std.proofs.lemmas.Map.Keys.{IsDistinct-IsPermutation, IsDistinct-tail, apart_from_distinct}
use Rattle.std.proofs.lemmas.Map.Steps.{length-le_from_distinct_below}
use Rattle.std.specs.{List.{range_with_len, IsDistinct, list_any, remove, position_or_len}, List.Sorted.{IsPermutation}}

range_more : (n : ℕ) → range_with_len 0 (suc n) ≡ range_with_len 0 n ++ n ∷ []
range_more n =
    let one : suc n ≡ n + 1 = omega arith in
    ap (range_with_len 0) one ∙ sym (map-id (range_with_len 0 (n + 1))) ∙ map-range_with_len_more (λ x. x) 0 n n (omega arith) ∙ ap (λ l. l ++ n ∷ []) (map-id (range_with_len 0 n))

pub equal_from_test : (a b : ℕ) → eqb a b ≡ true → b ≡ a
equal_from_test a b h = grind (arith, nat_tests)

below_from_test : (a b : ℕ) → eqb a b ≡ false → b < suc a → b < a
below_from_test a b h l = grind (arith, nat_tests)

any_below : (n : ℕ) (xs : List ℕ) → All (λ x. x < n) xs → (q : ℕ) → list_any (eqb q) xs ≡ true → q < n
any_below n [] all q h = absurd (cc)
any_below n (x ∷ xs) all q h = elim (cases_Bool (eqb q x)) [
  | inl is ↦ omega (arith, all 0 0 (omega arith), equal_from_test q x is)
  | inr off ↦ any_below n xs (λ k d l. all (suc k) d (omega arith)) q (rw off at h)
]

pub all_numbers : (n : ℕ) (xs : List ℕ) → length xs ≡ n → IsDistinct eqb xs → All (λ x. x < n) xs → IsPermutation (range_with_len 0 n) xs
all_numbers zero xs long apart below = rw (nil_from_length xs long) (IsPermutation-refl [])
all_numbers (suc n) xs long apart below =
    let i = position_or_len (eqb n) xs in
    elim (cases_lt i (length xs)) [
      | inl inside ↦ (
          let is : get_or xs i n ≡ n = equal_from_test n (get_or xs i n) (passes_at_first (eqb n) xs n inside) in
          let ys = remove xs i in
          let moved : IsPermutation xs (n ∷ ys) = IsPermutation-remove xs i n inside (sym is) in
          let apart_all : IsDistinct eqb (n ∷ ys) = IsDistinct-IsPermutation eqb (λ x y. grind (arith, nat_tests)) xs (n ∷ ys) moved apart in
          let below_all : All (λ x. x < suc n) (n ∷ ys) = All-permutation (λ x. x < suc n) xs (n ∷ ys) moved below in
          let long_all : length (n ∷ ys) ≡ length xs = length_permutation xs (n ∷ ys) moved in
          let rest : IsPermutation (range_with_len 0 n) ys = all_numbers n ys (omega arith) (IsDistinct-tail eqb n ys apart_all)
          (λ k d l. below_from_test n (get_or ys k d) (apart_from_distinct eqb (n ∷ ys) 0 (suc k) d apart_all (omega arith) (omega arith)) (below_all (suc k) d (omega arith))) in
          rw (range_more n) (IsPermutation-trans _ _ _ (IsPermutation-to_front (range_with_len 0 n) n) (IsPermutation-trans _ _ _ (IsPermutation-cons n (range_with_len 0 n) ys rest) (IsPermutation-sym xs (n ∷ ys) moved))))
      | inr past ↦ (
          let less : All (λ x. x < n) xs = λ k d l. below_from_test n (get_or xs k d) (fails_before_first (eqb n) xs k d (omega arith)) (below k d l) in
          absurd (omega (arith, length-le_from_distinct_below xs n apart (any_below n xs less))))
    ]
