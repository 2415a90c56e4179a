-- Products of whole numbers, which `omega` doesn't multiply out.
use Rattle.std.proofs.Common.{◌≡◌, ℕ, suc, ◌+◌, ◌*◌, ◌≤◌, ℤ, pos, negsuc, ◌+ℤ◌, ◌-ℤ◌, ◌*ℤ◌, neg_ℤ, ◌≤ℤ◌, ap, arith}
use Rattle.std.proofs.{lemmas.Int.{ints}, Math.Nat.{mul-le-mul, mul-le-mul_left}}
use Rattle.dimacs_judging.specs.inside.Ranges.{IsOfSize}
use borrow.Author.Differences.{up, down, product_is, sum_is_lem, neg_is}

pub mul_add : (a b c : ℤ) → a *ℤ (b +ℤ c) ≡ a *ℤ b +ℤ a *ℤ c
mul_add a b c =
    let e = sum_is_lem b c in
    let l : up a * (up (b +ℤ c) + down b + down c) ≡ up a * (down (b +ℤ c) + up b + up c) = ap (λ n. up a * n) e in
    let r : down a * (up (b +ℤ c) + down b + down c) ≡ down a * (down (b +ℤ c) + up b + up c) = ap (λ n. down a * n) e in
    omega (arith, ints)

pub mul_neg : (a b : ℤ) → a *ℤ neg_ℤ b ≡ neg_ℤ (a *ℤ b)
mul_neg a b =
    let e = neg_is b in
    let p = product_is a (neg_ℤ b) in
    let l : up a * up (neg_ℤ b) ≡ up a * down b = ap (λ n. up a * n) e.0 in
    let m : up a * down (neg_ℤ b) ≡ up a * up b = ap (λ n. up a * n) e.1 in
    let q : down a * up (neg_ℤ b) ≡ down a * down b = ap (λ n. down a * n) e.0 in
    let r : down a * down (neg_ℤ b) ≡ down a * up b = ap (λ n. down a * n) e.1 in
    omega (arith, ints)

pub mul_sub : (a b c : ℤ) → a *ℤ (b -ℤ c) ≡ a *ℤ b -ℤ a *ℤ c
mul_sub a b c = omega (arith, ints, mul_add a b (neg_ℤ c), mul_neg a c)

-- what one arc adds to a balance, times p
pub mul_net : (p o b s t : ℤ) → p *ℤ ((o +ℤ s) -ℤ (b +ℤ t)) ≡ (p *ℤ o -ℤ p *ℤ b) +ℤ p *ℤ (s -ℤ t)
mul_net p o b s t = omega (arith, ints, mul_sub p (o +ℤ s) (b +ℤ t), mul_add p o s, mul_add p b t, mul_sub p s t)

pub mul_zero : (a : ℤ) → a *ℤ pos 0 ≡ pos 0
mul_zero a = omega (arith, ints)

pub mul_comm : (a b : ℤ) → a *ℤ b ≡ b *ℤ a
mul_comm a b = omega (arith, ints)

-- a product with a nonnegative factor grows with the other factor
pub mul_le : (r x y : ℤ) → pos 0 ≤ℤ r → x ≤ℤ y → (r *ℤ x) ≤ℤ (r *ℤ y)
mul_le (pos n) x y h k =
    let le : up x + down y ≤ up y + down x = omega (arith, ints) in
    omega (arith, ints, mul-le-mul_left n le)
mul_le (negsuc n) x y h k = absurd (omega (arith, ints))

pub mul_ge : (r x y : ℤ) → r ≤ℤ pos 0 → x ≤ℤ y → (r *ℤ y) ≤ℤ (r *ℤ x)
mul_ge (pos n) x y h k =
    let zero_is : n ≡ 0 = omega (arith, ints) in rw zero_is (omega (arith, ints))
mul_ge (negsuc n) x y h k =
    let le : up x + down y ≤ up y + down x = omega (arith, ints) in
    omega (arith, ints, mul-le-mul_left (suc n) le)

pub product_small : (h k : ℕ) (a b : ℤ) → IsOfSize h a → IsOfSize k b → IsOfSize (h * k) (a *ℤ b)
product_small h k (pos a) (pos b) s t = let le : a * b ≤ h * k = mul-le-mul (omega (arith, ints)) (omega (arith, ints)) in omega (arith, ints)
product_small h k (pos a) (negsuc b) s t = let le : a * suc b ≤ h * k = mul-le-mul (omega (arith, ints)) (omega (arith, ints)) in omega (arith, ints)
product_small h k (negsuc a) (pos b) s t = let le : suc a * b ≤ h * k = mul-le-mul (omega (arith, ints)) (omega (arith, ints)) in omega (arith, ints)
product_small h k (negsuc a) (negsuc b) s t = let le : suc a * suc b ≤ h * k = mul-le-mul (omega (arith, ints)) (omega (arith, ints)) in omega (arith, ints)
