-- How many items in a part of a list pass a test.
use Rattle.std.proofs.Common.{◌≡◌, ℕ, ◌+◌, ◌<◌, ◌≤◌, inl, inr, Bool, true, false, List, length, take, get_or, count_by, sym, ap, ◌∙◌, refl, arith, suc, zero}
use Rattle.std.proofs.{lemmas.Bool.{cases_Bool}, lemmas.List.Sums.{count_by_more_yes, count_by_more_no}}

-- the same number, written in two ways
pub taken : {X : Type 0} (p : X → Bool) (xs : List X) (m n : ℕ) → m ≡ n → count_by p (take m xs) ≡ count_by p (take n xs)
taken p xs m n same = ap (λ t. count_by p (take t xs)) same

-- how many of the first items pass, if none of the last ones does, all do or some do
module _ {X : Type 0} (p : X → Bool) (xs : List X) (d : X) where
  pub count_none : (a m : ℕ) → a + m ≤ length xs → ((k : ℕ) → a ≤ k → k < a + m → p (get_or xs k d) ≡ false) → count_by p (take (a + m) xs) ≡ count_by p (take a xs)
  count_none a zero h f = taken p xs _ _ (omega arith)
  count_none a (suc m) h f = taken p xs _ _ (omega arith) ∙ count_by_more_no p xs (a + m) d (omega arith) (f (a + m) (omega arith) (omega arith)) ∙ count_none a m (omega arith) (λ k l u. f k l (omega arith))

  pub count_all : (a m : ℕ) → a + m ≤ length xs → ((k : ℕ) → a ≤ k → k < a + m → p (get_or xs k d) ≡ true) → count_by p (take (a + m) xs) ≡ count_by p (take a xs) + m
  count_all a zero h f =
      let e : count_by p (take (a + 0) xs) ≡ count_by p (take a xs) = taken p xs _ _ (omega arith) in omega (arith, e)
  count_all a (suc m) h f =
      let e : count_by p (take (a + suc m) xs) ≡ count_by p (take (a + m + 1) xs) = taken p xs _ _ (omega arith) in
      omega (arith, e, count_by_more_yes p xs (a + m) d (omega arith) (f (a + m) (omega arith) (omega arith)), count_all a m (omega arith) (λ k l u. f k l (omega arith)))

  pub count_some : (a m : ℕ) → a + m ≤ length xs → count_by p (take (a + m) xs) ≤ count_by p (take a xs) + m
  count_some a zero h =
      let e : count_by p (take (a + 0) xs) ≡ count_by p (take a xs) = taken p xs _ _ (omega arith) in omega (arith, e)
  count_some a (suc m) h =
      let e : count_by p (take (a + suc m) xs) ≡ count_by p (take (a + m + 1) xs) = taken p xs _ _ (omega arith) in
      elim (cases_Bool (p (get_or xs (a + m) d))) [
        | inl is ↦ omega (arith, e, count_by_more_yes p xs (a + m) d (omega arith) is, count_some a m (omega arith))
        | inr off ↦ omega (arith, e, count_by_more_no p xs (a + m) d (omega arith) off, count_some a m (omega arith))
      ]

-- two lists whose items pass two tests at the same positions
pub count_alike : {X Y : Type 0} (p : X → Bool) (q : Y → Bool) (xs : List X) (ys : List Y) (d : X) (e : Y) (m : ℕ) → m ≤ length xs → m ≤ length ys → ((k : ℕ) → k < m → p (get_or xs k d) ≡ q (get_or ys k e)) → count_by p (take m xs) ≡ count_by q (take m ys)
count_alike p q xs ys d e zero h g f = refl
count_alike p q xs ys d e (suc m) h g f =
    let l : count_by p (take (suc m) xs) ≡ count_by p (take (m + 1) xs) = taken p xs (suc m) (m + 1) (omega arith) in
    let r : count_by q (take (suc m) ys) ≡ count_by q (take (m + 1) ys) = taken q ys (suc m) (m + 1) (omega arith) in
    let before : count_by p (take m xs) ≡ count_by q (take m ys) = count_alike p q xs ys d e m (omega arith) (omega arith) (λ k u. f k (omega arith)) in
    elim (cases_Bool (p (get_or xs m d))) [
      | inl is ↦ omega (arith, l, r, before, count_by_more_yes p xs m d (omega arith) is, count_by_more_yes q ys m e (omega arith) (sym (f m (omega arith)) ∙ is))
      | inr off ↦ omega (arith, l, r, before, count_by_more_no p xs m d (omega arith) off, count_by_more_no q ys m e (omega arith) (sym (f m (omega arith)) ∙ off))
    ]
