-- One product joins each two lanes: times t * B + 1, each lane of base B gets t times the lane below it added.
use Rattle.std.proofs.Common.{◌≡◌, ℕ, suc, ◌+◌, ◌-◌, ◌*◌, ◌/◌, ◌%◌, ◌^◌, ◌<◌, ◌≤◌, List, [], ◌∷◌, length, replicate, bit_and, sym, ap, ap₂, subst, ◌∙◌, arith, div-add-mod', pow-add, mod-eq_of_lt}
use Rattle.std.proofs.Math.Nat.{zero-mod}
use Rattle.std.proofs.lemmas.Nat.{and_block, and_mask, and_mod, and_le_r, field_of, mod_low, shr_high, mul-add-lt}
use Rattle.std.specs.Int.Bits.{and_zero_r}
use Rattle.dimacs_lines.proofs.Lanes.{word_of}

-- each two digits of base t as one of base t * t
abbrev pub paired : ℕ → List ℕ → List ℕ
paired t (a ∷ b ∷ ds) = (a * t + b) ∷ paired t ds
paired t _ = []

-- an even number of digits of base t
abbrev pub AllPaired : ℕ → List ℕ → Type 0
AllPaired t [] = Unit {0}
AllPaired t (a ∷ []) = ⊥
AllPaired t (a ∷ b ∷ ds) = (a < t) × (b < t) × AllPaired t ds

-- n lanes of 2 * k bits, with the low half of each set
abbrev pub low_halves : ℕ → ℕ → ℕ
low_halves k n = word_of (k + k) (replicate n (2 ^ k - 1))

-- the n lanes of 2 * k bits that join each two of a word's lanes of k bits
abbrev joined : ℕ → ℕ → ℕ → ℕ → ℕ
joined k t n word = bit_and (word * (t * 2 ^ k + 1) / 2 ^ k) (low_halves k n)

-- the lanes of the product; its lowest lane is a, the next a * t + b
product : (B t q r b a : ℕ) → (((q * B + r) * B + b) * B + a) * (t * B + 1) ≡ ((((q * B + r) * t + q) * B + (b * t + r)) * B + (a * t + b)) * B + a
product B t q r b a = omega arith

-- the same product without its two lowest lanes
product_rest : (B t q r : ℕ) → (q * B + r) * (t * B + 1) ≡ ((q * B + r) * t + q) * B + r
product_rest B t q r = omega arith

-- the lowest two lanes are joined independently of the others
joined-cons : (k t n q r b a : ℕ) → t * t ≤ 2 ^ k → r < t → b < t → a < t
    → joined k t (suc n) (((q * 2 ^ k + r) * 2 ^ k + b) * 2 ^ k + a) ≡ joined k t n (q * 2 ^ k + r) * 2 ^ (k + k) + (a * t + b)
joined-cons k t n q r b a wide r_small b_small a_small =
    let w = q * 2 ^ k + r in
    let mask = low_halves k n in
    let high = w * t + q in
    let low = (b * t + r) * 2 ^ k + (a * t + b) in
    let square = pow-add 2 k k in
    let pair_small : a * t + b < 2 ^ k = omega (arith, mul-add-lt a t b t a_small b_small) in
    let next_small : b * t + r < 2 ^ k = omega (arith, mul-add-lt b t r t b_small r_small) in
    let first_small : a < 2 ^ k = omega (arith, mul-add-lt 0 t a t (omega arith) a_small) in
    let rest_small : r < 2 ^ k = omega (arith, mul-add-lt 0 t r t (omega arith) r_small) in
    let low_small : low < 2 ^ (k + k) = rw square (mul-add-lt (b * t + r) (2 ^ k) (a * t + b) (2 ^ k) next_small pair_small) in
    let mask_small : 2 ^ k - 1 < 2 ^ (k + k) = rw square (omega (arith, mul-add-lt 0 (2 ^ k) (2 ^ k - 1) (2 ^ k) (omega arith) (omega arith))) in
    let split : (high * 2 ^ k + (b * t + r)) * 2 ^ k + (a * t + b) ≡ high * (2 ^ k * 2 ^ k) + low = omega arith in
    let shifted = ap (λ x. x / 2 ^ k) (product (2 ^ k) t q r b a) ∙ shr_high _ k a first_small in
    let blocks = shifted ∙ split ∙ ap (λ s. high * s + low) (sym square) in
    let rest = ap (λ x. x / 2 ^ k) (product_rest (2 ^ k) t q r) ∙ shr_high high k r rest_small in
    let pair = and_mask low k ∙ mod_low (b * t + r) k (a * t + b) pair_small in
    ap (λ x. bit_and x (mask * 2 ^ (k + k) + (2 ^ k - 1))) blocks ∙ and_block (k + k) high mask low (2 ^ k - 1) low_small mask_small
    ∙ ap₂ (λ x y. bit_and x mask * 2 ^ (k + k) + y) (sym rest) pair

-- the lowest lane is a digit
first_lane : (k t : ℕ) (ds : List ℕ) → t * t ≤ 2 ^ k → 0 < t → AllPaired t ds → word_of k ds % 2 ^ k < t
first_lane k t [] wide some h = omega (arith, zero-mod (2 ^ k))
first_lane k t (a ∷ []) wide some h = absurd h
first_lane k t (a ∷ b ∷ ds) wide some h =
    let fits : a < 2 ^ k = omega (arith, mul-add-lt 0 t a t some h.0) in
    omega (arith, mod_low (word_of k ds * 2 ^ k + b) k a fits)

-- joining gives each two digits as one
joined-paired : (k t : ℕ) (ds : List ℕ) → t * t ≤ 2 ^ k → 0 < t → AllPaired t ds
    → joined k t (length (paired t ds)) (word_of k ds) ≡ word_of (k + k) (paired t ds)
joined-paired k t [] wide some h = and_zero_r _
joined-paired k t (a ∷ []) wide some h = absurd h
joined-paired k t (a ∷ b ∷ ds) wide some h =
    let n = length (paired t ds) in
    let w = word_of k ds in
    let split = div-add-mod' w (2 ^ k) in
    let first = joined-cons k t n (w / 2 ^ k) (w % 2 ^ k) b a wide (first_lane k t ds wide some h.2) h.1 h.0 in
    subst (λ v. joined k t (suc n) ((v * 2 ^ k + b) * 2 ^ k + a) ≡ joined k t n v * 2 ^ (k + k) + (a * t + b)) split first
    ∙ ap (λ v. v * 2 ^ (k + k) + (a * t + b)) (joined-paired k t ds wide some h.2)

-- what a product loses at the top is masked out anyway
and-wrapped : (j k n m : ℕ) → m < 2 ^ j → bit_and (n % 2 ^ (j + k) / 2 ^ k) m ≡ bit_and (n / 2 ^ k) m
and-wrapped j k n m small =
    let x = n / 2 ^ k in
    ap₂ bit_and (field_of n j k) (sym (mod-eq_of_lt small)) ∙ sym (and_mod x m j) ∙ mod-eq_of_lt (omega (arith, and_le_r x m))

-- the same in a type of j + k bits
pub joined-wrapped : (j k t : ℕ) (ds : List ℕ) → t * t ≤ 2 ^ k → 0 < t → AllPaired t ds → low_halves k (length (paired t ds)) < 2 ^ j
    → bit_and (word_of k ds * (t * 2 ^ k + 1) % 2 ^ (j + k) / 2 ^ k) (low_halves k (length (paired t ds))) ≡ word_of (k + k) (paired t ds)
joined-wrapped j k t ds wide some digits fits =
    and-wrapped j k (word_of k ds * (t * 2 ^ k + 1)) (low_halves k (length (paired t ds))) fits ∙ joined-paired k t ds wide some digits
