-- Which lanes of a word lack the bit of 16, and whether all hold digits.
use Rattle.std.proofs.Common.{◌≡◌, ℕ, zero, suc, ◌+◌, ◌*◌, ◌/◌, ◌%◌, ◌^◌, ◌<◌, ◌↔◌, Bool, true, false, cond, eqb, ltb, ltb-true, List, [], ◌∷◌, length, replicate, bit_and, bit_xor, refl, sym, ap, ap₂, ◌∙◌, arith, lit<, eqb-true, eq-eqb, mul-one, zero-add, mul-suc, pow-add}
use Rattle.std.proofs.{lemmas.Bool.{agree_below_at, lt-ltb}, lemmas.List.Elements.{All-head, All-tail}}
use Rattle.std.proofs.lemmas.Nat.{and_block, xor_block, and_le_r}
use Rattle.std.specs.{Int.Digits.{AllBelowBase}, Int.Bits.{shifted_half, shifted_even}, List.{All, prefix_len}}
use Rattle.std.specs.Int.Count.{count_trailing_zeros, under}
use Rattle.dimacs_lines.specs.inside.Plain.{has_sixteen}
use Rattle.dimacs_lines.proofs.Lanes.{word_of, AllBytes}

-- n lanes of c
abbrev pub each : ℕ → ℕ → ℕ
each n c = word_of 8 (replicate n c)

-- 16 in each of n lanes that lacks this bit, and 0 in the others
abbrev pub marks : ℕ → ℕ → ℕ
marks n word = bit_xor (bit_and word (each n 16)) (each n 16)

-- each lane is marked independently
marks-cons : (n w b : ℕ) → b < 256 → marks (suc n) (w * 256 + b) ≡ marks n w * 256 + marks 1 b
marks-cons n w b small =
    let bits_small : bit_and b 16 < 256 = omega (arith, and_le_r b 16) in
    rw (and_block 8 w (each n 16) b 16 small (lit< tt)) (xor_block 8 (bit_and w (each n 16)) (each n 16) (bit_and b 16) 16 bits_small (lit< tt))

-- a lane is marked if its byte lacks the bit; shown by testing all 256 bytes
marks-one : (b : ℕ) → b < 256 → marks 1 b ≡ cond (has_sixteen b) 0 16
marks-one b small = eqb-true _ _ (agree_below_at (λ b. eqb (marks 1 b) (cond (has_sixteen b) 0 16)) (λ _. true) 256 b refl small)

-- a shift to the left adds zeros at the end
pub count_trailing_zeros-shl : (j k n m : ℕ) → n ≡ j + k → count_trailing_zeros n (m * 2 ^ j) ≡ j + count_trailing_zeros k m
unfolding count_trailing_zeros
count_trailing_zeros-shl zero k n m is =
    let width : n ≡ k = omega arith in
    ap₂ count_trailing_zeros width (mul-one m) ∙ sym (zero-add (count_trailing_zeros k m))
count_trailing_zeros-shl (suc j) k zero m is = absurd (omega arith)
count_trailing_zeros-shl (suc j) k (suc n) m is =
    let rest = count_trailing_zeros-shl j k n m (omega arith) in
    ap₂ (λ d t. under d (count_trailing_zeros n t)) (shifted_even m j) (shifted_half m j) ∙ omega arith

pub count_trailing_zeros-odd : (k n : ℕ) → n % 2 ≡ 1 → count_trailing_zeros k n ≡ 0
unfolding count_trailing_zeros
count_trailing_zeros-odd zero n odd = refl
count_trailing_zeros-odd (suc k) n odd = ap (λ d. under d (count_trailing_zeros k (n / 2))) odd

-- a lane of 0 or 16, below the others
count_trailing_zeros-lane : (p : Bool) (k n m : ℕ) → n ≡ 8 + k
    → count_trailing_zeros n (m * 256 + cond p 0 16) / 8 ≡ cond p (1 + count_trailing_zeros k m / 8) 0
unfolding count_trailing_zeros
count_trailing_zeros-lane true k n m is =
    let shifted : m * 256 + 0 ≡ m * 2 ^ 8 = omega arith in
    omega (arith, ap (count_trailing_zeros n) shifted ∙ count_trailing_zeros-shl 8 k n m is)
count_trailing_zeros-lane false k n m is =
    let shifted : m * 256 + 16 ≡ (m * 16 + 1) * 2 ^ 4 = omega arith in
    let odd : (m * 16 + 1) % 2 ≡ 1 = omega arith in
    let none = count_trailing_zeros-odd (4 + k) (m * 16 + 1) odd in
    omega (arith, ap (count_trailing_zeros n) shifted ∙ count_trailing_zeros-shl 4 (4 + k) n (m * 16 + 1) (omega arith))

-- the lanes below the lowest mark have the bit
pub count_trailing_zeros-marks : (bs : List ℕ) → AllBytes bs
    → count_trailing_zeros (8 * length bs) (marks (length bs) (word_of 8 bs)) / 8 ≡ prefix_len has_sixteen bs
unfolding count_trailing_zeros
count_trailing_zeros-marks [] h = refl
count_trailing_zeros-marks (b ∷ bs) h =
    let n = length bs in
    let small = All-head (λ b. b < 256) b bs h in
    let at_first = marks-cons n (word_of 8 bs) b small ∙ ap (λ m. marks n (word_of 8 bs) * 256 + m) (marks-one b small) in
    let rest = count_trailing_zeros-marks bs (All-tail (λ b. b < 256) b bs h) in
    ap (λ w. count_trailing_zeros (8 * suc n) w / 8) at_first
    ∙ count_trailing_zeros-lane (has_sixteen b) (8 * n) (8 * suc n) (marks n (word_of 8 bs)) (omega arith)
    ∙ ap (λ m. cond (has_sixteen b) (1 + m) 0) rest

-- the high halves of n lanes after six is added to each
abbrev pub carries : ℕ → ℕ → ℕ
carries n word = bit_and (word + each n 6) (each n 240)

-- each lane is tested independently
carries-cons : (n w b : ℕ) → b < 240 → carries (suc n) (w * 256 + b) ≡ carries n w * 256 + carries 1 b
carries-cons n w b small =
    let sum : w * 256 + b + (each n 6 * 256 + 6) ≡ (w + each n 6) * 256 + (b + 6) = omega arith in
    rw sum (and_block 8 (w + each n 6) (each n 240) (b + 6) 240 (omega arith) (lit< tt))

-- a byte below 240 passes if it is below ten; shown by testing all of them
carries-one : (b : ℕ) → b < 240 → eqb (carries 1 b) 0 ≡ ltb b 10
carries-one b small = agree_below_at (λ b. eqb (carries 1 b) 0) (λ b. ltb b 10) 240 b refl small

pub carries-none : (bs : List ℕ) → All (λ b. b < 240) bs → (carries (length bs) (word_of 8 bs) ≡ 0) ↔ AllBelowBase 10 bs
carries-none [] h = (λ none. tt, λ all. refl)
carries-none (b ∷ bs) h =
    let small = All-head (λ b. b < 240) b bs h in
    let first = carries-one b small in
    let rest = carries-none bs (All-tail (λ b. b < 240) b bs h) in
    let split = carries-cons (length bs) (word_of 8 bs) b small in (
      λ none. (
        ltb-true b 10 (sym first ∙ eq-eqb (carries 1 b) 0 (omega (arith, split, none))),
        rest.0 (omega (arith, split, none)),
      ),
      λ all. omega (arith, split, eqb-true (carries 1 b) 0 (first ∙ lt-ltb b 10 all.0), rest.1 all.1),
    )

-- adding six to each lane carries into no other
pub carry_fits : (bs : List ℕ) → All (λ b. b < 240) bs → word_of 8 bs + each (length bs) 6 < 2 ^ (8 * length bs)
carry_fits [] h = lit< tt
carry_fits (b ∷ bs) h =
    let small = All-head (λ b. b < 240) b bs h in
    let rest = carry_fits bs (All-tail (λ b. b < 240) b bs h) in
    rw (mul-suc 8 (length bs), pow-add 2 (8 * length bs) 8) (omega (arith, small, rest))
