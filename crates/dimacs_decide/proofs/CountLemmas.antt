-- The number of nodes that pass a test, if one of them fails it from now on.
use Rattle.std.proofs.Common.{◌≡◌, ◌≢◌, inl, inr, ℕ, suc, zero, ◌+◌, ◌<◌, ◌≤◌, ◌==◌, Bool, true, false, cond, refl, ap, ◌∙◌, arith, eq-eqb}
use Rattle.std.proofs.lemmas.Bool.{cases_Bool, cases_order, ne_eqb}
use Rattle.dimacs_decide.specs.inside.Counting.{count_below}

counted : (b : Bool) → b ≡ true → cond {A = ℕ} b 1 0 ≡ 1
counted b e = rw e refl

left_out : (b : Bool) → b ≡ false → cond {A = ℕ} b 1 0 ≡ 0
left_out b e = rw e refl

at_most_one : (b : Bool) → cond {A = ℕ} b 1 0 ≤ 1
at_most_one b = elim (cases_Bool b) [ inl passes ↦ omega (arith, counted b passes) | inr fails ↦ omega (arith, left_out b fails) ]

pub count_most : (test : ℕ → Bool) (n : ℕ) → count_below test n ≤ n
count_most test zero = omega arith
count_most test (suc n) = omega (arith, count_most test n, at_most_one (test n))

pub count_all : (test : ℕ → Bool) (n : ℕ) → ((v : ℕ) → v < n → test v ≡ true) → count_below test n ≡ n
count_all test zero all = refl
count_all test (suc n) all = omega (arith, counted (test n) (all n (omega arith)), count_all test n (λ v h. all v (omega (arith, h))))

pub count_some : (test : ℕ → Bool) (at n : ℕ) → at < n → test at ≡ true → 1 ≤ count_below test n
count_some test at zero h passes = absurd (omega (arith, h))
count_some test at (suc n) h passes = elim (cases_order n at) [
  | inl same ↦ omega (arith, counted (test n) (rw same passes))
  | inr apart ↦ elim apart [
    | inl less ↦ absurd (omega (arith, less, h))
    | inr more ↦ omega (arith, count_some test at n more passes)
  ]
]

module _ (test after : ℕ → Bool) (at : ℕ) (others : (v : ℕ) → v ≢ at → after v ≡ test v) where
  as_many : (n : ℕ) → n ≤ at → count_below after n ≡ count_below test n
  as_many zero h = refl
  as_many (suc n) h = rw (as_many n (omega (arith, h)), others n (λ q. omega (arith, q, h))) refl

  pub one_fewer : (n : ℕ) → at < n → test at ≡ true → after at ≡ false → count_below after n + 1 ≡ count_below test n
  one_fewer zero h old new = absurd (omega (arith, h))
  one_fewer (suc n) h old new = elim (cases_order n at) [
    | inl same ↦ omega (arith, counted (test n) (ap test same ∙ old), left_out (after n) (ap after same ∙ new), as_many n (omega (arith, same)))
    | inr apart ↦ elim apart [
      | inl less ↦ absurd (omega (arith, less, h))
      | inr more ↦
          let here : cond {A = ℕ} (after n) 1 0 ≡ cond {A = ℕ} (test n) 1 0 = ap (λ b. cond {A = ℕ} b 1 0) (others n (λ q. omega (arith, q, more))) in
          omega (arith, here, one_fewer n more old new)
    ]
  ]

-- ---- nodes whose number is 0
zero_is : (n : ℕ) → n ≡ 0 → (n == 0) ≡ true
zero_is n none = eq-eqb n 0 none

pub all_zero : (number : ℕ → ℕ) (n : ℕ) → ((v : ℕ) → v < n → number v ≡ 0) → count_below (λ v. number v == 0) n ≡ n
all_zero number n none = count_all (λ v. number v == 0) n (λ v h. zero_is (number v) (none v h))

pub one_zero_fewer : (number after : ℕ → ℕ) (at : ℕ) → ((v : ℕ) → v ≢ at → after v ≡ number v) → (n : ℕ) → at < n → number at ≡ 0 → 0 < after at → count_below (λ v. after v == 0) n + 1 ≡ count_below (λ v. number v == 0) n
one_zero_fewer number after at others n h old new =
    one_fewer (λ v. number v == 0) (λ v. after v == 0) at (λ v ne. ap (λ m. m == 0) (others v ne)) n h (zero_is (number at) old) (ne_eqb (after at) 0 (λ e. omega (arith, e, new)))
