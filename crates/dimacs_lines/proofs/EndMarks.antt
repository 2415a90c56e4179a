-- The ends of numbers as the bits of a word.
use Rattle.std.proofs.Common.{◌≡◌, ℕ, zero, suc, ◌+◌, ◌-◌, ◌*◌, ◌%◌, ◌^◌, ◌<◌, ◌≤◌, Bool, true, false, cond, List, [], ◌∷◌, length, take, drop, map, bit_and, get_or, inl, inr, refl, sym, ap, ap₂, subst, ◌∙◌, arith, lit<, pow-add, pow-suc, suc-mul, length-drop, length-take}
use Rattle.std.proofs.{lemmas.Bool.{cases_lt}, lemmas.List.{drop-drop, drop-take, drop_all, drop_more, length-map}}
use Rattle.std.proofs.{lemmas.Nat.{and_block, pow_pos}, Math.Nat.{mul-lt-mul_of_pos_right}}
use Rattle.std.specs.{Prelude.{not}, Char.{is_ascii_digit, IsAsciiDigit}, Int.Bits.{and_self, and_zero_l}}
use Rattle.std.specs.{Int.Count.{count_trailing_zeros}, List.{All, prefix_len}}
use lib.Lanes.{mask_l}
use Rattle.std.proofs.{lemmas.List.Elements.{All-head, All-tail}, lemmas.Simd.{mask_l-lt}}
use Rattle.dimacs_lines.specs.inside.Plain.{ends_of, ends_from}
use Rattle.dimacs_lines.proofs.{DigitLemmas.{All-digits}, Marks.{count_trailing_zeros-shl, count_trailing_zeros-odd}}

-- the lowest bit is that of the first byte that is no digit
first_end : (k : ℕ) (bs : List ℕ) → length bs ≡ k → count_trailing_zeros k (ends_of bs) ≡ prefix_len is_ascii_digit bs
unfolding count_trailing_zeros
first_end zero [] is = refl
first_end zero (b ∷ bs) is = absurd (omega (arith, is))
first_end (suc k) [] is = absurd (omega (arith, is))
first_end (suc k) (b ∷ bs) is =
    by (is_ascii_digit b) refl (first_end k bs (omega (arith, is)))
  where
    by : (t : Bool) → is_ascii_digit b ≡ t → count_trailing_zeros k (ends_of bs) ≡ prefix_len is_ascii_digit bs → count_trailing_zeros (suc k) (ends_of (b ∷ bs)) ≡ prefix_len is_ascii_digit (b ∷ bs)
    by true digit rest =
        let shifted : 0 + 2 * ends_of bs ≡ ends_of bs * 2 ^ 1 = omega arith in
        ap (λ t. count_trailing_zeros (suc k) (cond (not t) 1 0 + 2 * ends_of bs)) digit
        ∙ ap (count_trailing_zeros (suc k)) shifted
        ∙ count_trailing_zeros-shl 1 k (suc k) (ends_of bs) (omega arith)
        ∙ ap (λ n. 1 + n) rest
        ∙ sym (ap (λ t. cond t (1 + prefix_len is_ascii_digit bs) 0) digit)
    by false other rest =
        ap (λ t. count_trailing_zeros (suc k) (cond (not t) 1 0 + 2 * ends_of bs)) other
        ∙ count_trailing_zeros-odd (suc k) (1 + 2 * ends_of bs) (omega arith)
        ∙ sym (ap (λ t. cond t (1 + prefix_len is_ascii_digit bs) 0) other)

-- zeros below a word stay when its lowest bit is cleared
cleared-shl : (j m : ℕ) → bit_and (m * 2 ^ j) (m * 2 ^ j - 1) ≡ bit_and m (m - 1) * 2 ^ j
cleared-shl j zero =
    let none : 0 * 2 ^ j ≡ 0 = omega arith in
    ap (λ n. bit_and n (n - 1)) none ∙ sym none
cleared-shl j (suc m) =
    let some = pow_pos j in
    let high : suc m * 2 ^ j ≡ suc m * 2 ^ j + 0 = omega arith in
    let low : suc m * 2 ^ j - 1 ≡ m * 2 ^ j + (2 ^ j - 1) = omega (arith, some, suc-mul m (2 ^ j)) in
    let less : suc m - 1 ≡ m = omega arith in
    ap₂ bit_and high low ∙ and_block j (suc m) m 0 (2 ^ j - 1) some (omega (arith, some)) ∙ omega (arith, and_zero_l (2 ^ j - 1))
    ∙ sym (ap (λ n. bit_and (suc m) n * 2 ^ j) less)

grouped : (a b : ℕ) → a * b * 2 ≡ a * (b * 2)
grouped a b = omega arith

-- `n & (n - 1)` clears the lowest bit
lowest_cleared : (bs : List ℕ) → let c = prefix_len is_ascii_digit bs in bit_and (ends_of bs) (ends_of bs - 1) ≡ ends_of (drop (suc c) bs) * 2 ^ suc c
lowest_cleared [] = and_zero_l 0
lowest_cleared (b ∷ bs) =
    by (is_ascii_digit b) refl (lowest_cleared bs)
  where
    by : (t : Bool) → is_ascii_digit b ≡ t → (let c = prefix_len is_ascii_digit bs in bit_and (ends_of bs) (ends_of bs - 1) ≡ ends_of (drop (suc c) bs) * 2 ^ suc c)
        → bit_and (ends_of (b ∷ bs)) (ends_of (b ∷ bs) - 1) ≡ ends_of (drop (suc (prefix_len is_ascii_digit (b ∷ bs))) (b ∷ bs)) * 2 ^ suc (prefix_len is_ascii_digit (b ∷ bs))
    by true digit cleared =
        let m = ends_of bs in
        let c = prefix_len is_ascii_digit bs in
        let even : 0 + 2 * m ≡ m * 2 ^ 1 = omega arith in
        let rest : ℕ = ends_of (drop (suc c) bs) in
        let more : rest * 2 ^ suc c * 2 ^ 1 ≡ rest * 2 ^ suc (suc c) = rw (pow-suc 2 (suc c)) (grouped rest (2 ^ suc c)) in
        let one : 1 + c ≡ suc c = omega arith in
        ap (λ t. bit_and (cond (not t) 1 0 + 2 * m) (cond (not t) 1 0 + 2 * m - 1)) digit
        ∙ ap (λ n. bit_and n (n - 1)) even ∙ cleared-shl 1 m ∙ ap (λ n. n * 2 ^ 1) cleared ∙ more
        ∙ sym (ap (λ n. ends_of (drop (suc n) (b ∷ bs)) * 2 ^ suc n) (ap (λ t. cond t (1 + c) 0) digit ∙ one))
    by false other cleared =
        let m = ends_of bs in
        let c = prefix_len is_ascii_digit bs in
        let odd : 1 + 2 * m ≡ m * 2 ^ 1 + 1 = omega arith in
        let even : 1 + 2 * m - 1 ≡ m * 2 ^ 1 + 0 = omega arith in
        ap (λ t. bit_and (cond (not t) 1 0 + 2 * m) (cond (not t) 1 0 + 2 * m - 1)) other
        ∙ ap₂ bit_and odd even ∙ and_block 1 m m 1 0 (lit< tt) (lit< tt) ∙ omega (arith, and_self m, and_zero_l 0)
        ∙ sym (ap (λ t. let n = cond t (1 + c) 0 in ends_of (drop (suc n) (b ∷ bs)) * 2 ^ suc n) other)

wrapped : (n : ℕ) → n < 4294967296 → bit_and n ((n + 4294967295) % 4294967296) ≡ bit_and n (n - 1)
wrapped zero few = refl
wrapped (suc n) few = ap (bit_and (suc n)) (omega (arith, few))

-- the bytes from place `at` of the 32 on, and how many digits they begin with
abbrev pub left : List ℕ → ℕ → ℕ → List ℕ
left bytes start at = drop at (take 32 (drop start bytes))

abbrev pub digits_left : List ℕ → ℕ → ℕ → ℕ
digits_left bytes start at = prefix_len is_ascii_digit (left bytes start at)

length-left : (bytes : List ℕ) (start at : ℕ) → start + 32 ≤ length bytes → at ≤ 32 → length (left bytes start at) ≡ 32 - at
length-left bytes start at room early = omega (arith, length-drop at (take 32 (drop start bytes)), length-take 32 (drop start bytes), length-drop start bytes)

-- the lowest bit is where those digits end
pub end_is : (bytes : List ℕ) (start at : ℕ) → start + 32 ≤ length bytes → at ≤ 32 → count_trailing_zeros 32 (ends_from bytes start at) ≡ at + digits_left bytes start at
end_is bytes start at room early =
    count_trailing_zeros-shl at (32 - at) 32 (ends_of (left bytes start at)) (omega (arith, early))
    ∙ ap (λ n. at + n) (first_end (32 - at) (left bytes start at) (length-left bytes start at room early))

ends_few : (bytes : List ℕ) (start at : ℕ) → start + 32 ≤ length bytes → at ≤ 32 → ends_from bytes start at < 4294967296
ends_few bytes start at room early =
    let marks = map (λ b. not (is_ascii_digit b)) (left bytes start at) in
    let size : length marks ≡ 32 - at = length-map (left bytes start at) (λ b. not (is_ascii_digit b)) ∙ length-left bytes start at room early in
    let below : mask_l marks < 2 ^ (32 - at) = subst (λ n. mask_l marks < 2 ^ n) size (mask_l-lt marks) in
    let whole : 32 - at + at ≡ 32 = omega (arith, early) in
    let power : 2 ^ (32 - at) * 2 ^ at ≡ 4294967296 = sym (pow-add 2 (32 - at) at) ∙ ap (λ n. 2 ^ n) whole in
    subst (λ n. mask_l marks * 2 ^ at < n) power (mul-lt-mul_of_pos_right below (pow_pos at))

turned_round : (a b c : ℕ) → a * b * c ≡ a * (c * b)
turned_round a b c = omega arith

-- without the lowest bit, the bits are those from the place after that end on
pub ends_after : (bytes : List ℕ) (start at : ℕ) → start + 32 ≤ length bytes → at ≤ 32
    → let ends = ends_from bytes start at in bit_and ends ((ends + 4294967295) % 4294967296) ≡ ends_from bytes start (at + digits_left bytes start at + 1)
ends_after bytes start at room early =
    let xs = left bytes start at in
    let c = prefix_len is_ascii_digit xs in
    let after : drop (suc c) xs ≡ left bytes start (at + suc c) = drop-drop (suc c) at (take 32 (drop start bytes)) in
    let next : at + suc c ≡ at + c + 1 = omega arith in
    let rest : ℕ = ends_of (drop (suc c) xs) in
    let power : rest * 2 ^ suc c * 2 ^ at ≡ rest * 2 ^ (at + suc c) = rw (pow-add 2 at (suc c)) (turned_round rest (2 ^ suc c) (2 ^ at)) in
    wrapped (ends_from bytes start at) (ends_few bytes start at room early) ∙ cleared-shl at (ends_of xs) ∙ ap (λ n. n * 2 ^ at) (lowest_cleared xs)
    ∙ power ∙ ap (λ ys. ends_of ys * 2 ^ (at + suc c)) after ∙ ap (ends_from bytes start) next

-- those digits, as bytes of the whole
pub left_digits : (bytes : List ℕ) (start at : ℕ) → at ≤ 32 → All IsAsciiDigit (take (digits_left bytes start at) (drop (start + at) bytes))
left_digits bytes start at early =
    let whole : 32 ≡ at + (32 - at) = omega (arith, early) in
    let xs = drop (start + at) bytes in
    let is : left bytes start at ≡ take (32 - at) xs = ap (λ n. drop at (take n (drop start bytes))) whole ∙ drop-take at (32 - at) (drop start bytes) ∙ ap (take (32 - at)) (drop-drop at start bytes) in
    All-digits (32 - at) xs (digits_left bytes start at) (ap (prefix_len is_ascii_digit) is)

-- no digit stands before a minus
minus_ends : (bytes : List ℕ) (start at : ℕ) → at < 32 → start + at < length bytes → get_or bytes (start + at) 0 ≡ 45 → digits_left bytes start at ≡ 0
minus_ends bytes start at early inside minus =
    let whole : 32 ≡ at + suc (31 - at) = omega (arith, early) in
    let xs = drop (start + at) bytes in
    let is : left bytes start at ≡ take (suc (31 - at)) xs = ap (λ n. drop at (take n (drop start bytes))) whole ∙ drop-take at (suc (31 - at)) (drop start bytes) ∙ ap (take (suc (31 - at))) (drop-drop at start bytes) in
    let cut : xs ≡ 45 ∷ drop (start + at + 1) bytes = drop_more bytes (start + at) 0 inside ∙ ap (λ b. b ∷ drop (start + at + 1) bytes) minus in
    ap (prefix_len is_ascii_digit) (is ∙ ap (take (suc (31 - at))) cut)

-- without the lowest bit, the bits are those from the place after the minus on
pub ends_after_minus : (bytes : List ℕ) (start at : ℕ) → start + 40 ≤ length bytes → at < 32 → get_or bytes (start + at) 0 ≡ 45
    → let ends = ends_from bytes start at in bit_and ends ((ends + 4294967295) % 4294967296) ≡ ends_from bytes start (at + 1)
ends_after_minus bytes start at room early minus =
    let none = minus_ends bytes start at early (omega (arith, room, early)) minus in
    let next : at + digits_left bytes start at + 1 ≡ at + 1 = omega (arith, none) in
    ends_after bytes start at (omega (arith, room)) (omega (arith, early)) ∙ ap (ends_from bytes start) next

-- the bits fit into a word of 32
pub ends_fit : (bytes : List ℕ) (start at : ℕ) → start + 40 ≤ length bytes → ends_from bytes start at < 4294967296
ends_fit bytes start at room =
    elim (cases_lt 32 at) [
      | inr early ↦ ends_few bytes start at (omega (arith, room)) early
      | inl late ↦
          let none : left bytes start at ≡ [] = drop_all at (take 32 (drop start bytes)) (omega (arith, late, length-take 32 (drop start bytes))) in
          rw none (omega arith)
    ]

-- a test of each byte that says the same gives the same bits
pub marks_agree : (f : ℕ → Bool) → ((b : ℕ) → b < 256 → f b ≡ not (is_ascii_digit b)) → (bs : List ℕ) → All (λ b. b < 256) bs → map f bs ≡ map (λ b. not (is_ascii_digit b)) bs
marks_agree f is [] small = refl
marks_agree f is (b ∷ bs) small = ap₂ (λ m ms. m ∷ ms) (is b (All-head (λ b. b < 256) b bs small)) (marks_agree f is bs (All-tail (λ b. b < 256) b bs small))
