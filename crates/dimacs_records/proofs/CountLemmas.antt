-- How many items of a list pass a test.
use Rattle.std.proofs.Common.{◌≡◌, inl, inr, ℕ, ◌+◌, ◌≤◌, ◌==◌, Bool, true, false, cond, List, [], ◌∷◌, ◌++◌, count_by, refl, arith}
use Rattle.std.proofs.{lemmas.Bool.{cases_Bool, cond-true, cond-false}, lemmas.Bool.Decides.{nat_tests}}
use Rattle.std.proofs.lemmas.List.Sums.{sum_by-append, sum_by-cons}
use Rattle.std.specs.List.{list_any}

module _ {A : Type 0} (p : A → Bool) (x : A) (xs : List A) where
  pub count_by-cons : count_by p (x ∷ xs) ≡ cond (p x) 1 0 + count_by p xs
  count_by-cons = sum_by-cons (λ y. cond (p y) 1 0) x xs

  pub count_yes : p x ≡ true → count_by p (x ∷ xs) ≡ 1 + count_by p xs
  count_yes is = omega (arith, count_by-cons, cond-true {A = ℕ} (p x) 1 0 is)

  pub count_no : p x ≡ false → count_by p (x ∷ xs) ≡ count_by p xs
  count_no off = omega (arith, count_by-cons, cond-false {A = ℕ} (p x) 1 0 off)

pub count_by-append : {A : Type 0} (p : A → Bool) (xs ys : List A) → count_by p (xs ++ ys) ≡ count_by p xs + count_by p ys
count_by-append p xs ys = sum_by-append (λ x. cond (p x) 1 0) xs ys

pub any_counted : {A : Type 0} (p : A → Bool) (xs : List A) → list_any p xs ≡ true → 1 ≤ count_by p xs
any_counted p [] h = cc
any_counted p (x ∷ xs) h = elim (cases_Bool (p x)) [
  | inl is ↦ omega (arith, count_yes p x xs is)
  | inr off ↦ omega (arith, count_no p x xs off, any_counted p xs (rw off at h))
]

pub none_counted : {A : Type 0} (p : A → Bool) (xs : List A) → list_any p xs ≡ false → count_by p xs ≡ 0
none_counted p [] h = refl
none_counted p (x ∷ xs) h = elim (cases_Bool (p x)) [
  | inl is ↦ absurd (let f = rw is at h in cc)
  | inr off ↦ omega (arith, count_no p x xs off, none_counted p xs (rw off at h))
]

pub none_passes : {A : Type 0} (p : A → Bool) (xs : List A) → count_by p xs ≡ 0 → list_any p xs ≡ false
none_passes p xs counted = elim (cases_Bool (list_any p xs)) [
  | inl some ↦ absurd (omega (arith, any_counted p xs some, counted))
  | inr none ↦ none
]

-- an item that is counted at most once isn't among those before it
pub once_before : {A : Type 0} (p : A → Bool) (front back : List A) (x : A) → p x ≡ true → count_by p (front ++ x ∷ back) ≤ 1 → list_any p front ≡ false
once_before p front back x here once = none_passes p front (omega (arith, once, count_by-append p front (x ∷ back), count_yes p x back here))

-- one more item that is new leaves no item counted twice
pub once_more : {A : Type 0} (test : ℕ → A → Bool) (xs : List A) (x : A) → ((k : ℕ) → test k x ≡ true → list_any (test k) xs ≡ false) → ((k : ℕ) → count_by (test k) xs ≤ 1) → (k : ℕ) → count_by (test k) (xs ++ x ∷ []) ≤ 1
once_more test xs x new once k = elim (cases_Bool (test k x)) [
  | inl is ↦ omega (arith, count_by-append (test k) xs (x ∷ []), count_yes (test k) x [] is, none_counted (test k) xs (new k is))
  | inr off ↦ omega (arith, count_by-append (test k) xs (x ∷ []), count_no (test k) x [] off, once k)
]

pub same_test : (a b : ℕ) → (a == b) ≡ (b == a)
same_test a b = grind (arith, nat_tests)
