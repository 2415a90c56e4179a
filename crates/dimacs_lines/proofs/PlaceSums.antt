-- The value of digits, by places and from the first digit on.
use Rattle.std.proofs.Common.{◌≡◌, ℕ, zero, suc, ◌+◌, ◌-◌, ◌*◌, ◌/◌, ◌%◌, ◌^◌, ◌<◌, Bool, true, false, cond, eqb, ltb, List, [], ◌∷◌, ◌++◌, length, map, take, replicate, bit_xor, refl, sym, ap, ◌∙◌, arith, lit<, subst, leb-true, ltb-true, lt-ltb, eqb-true, eq-eqb, pow-suc, get_or-take, length-take}
use Rattle.std.proofs.{lemmas.Bool.{and_parts, agree_below_at, false_from_ne_true}, lemmas.Bool.Decides.{nat_tests}}
use Rattle.std.proofs.lemmas.List.Elements.{All-nil, All-cons, All-head, All-tail, All-weaker}
use Rattle.std.proofs.lemmas.List.Sums.{prefix_len_passes}
use Rattle.std.specs.{Prelude.{◌||◌, not}, Char.{is_ascii_digit, IsAsciiDigit}, List.{All, prefix_len, AllPass}}
use Rattle.std.specs.Int.Digits.{AllBelowBase, number_from_digits, number_from_digits_after}
use Rattle.dimacs_lines.specs.{Number.{place_sum}, inside.Plain.{has_sixteen}}

-- xor with 48 turns a digit's code into its value; shown by testing all bytes
digit_value : (b : ℕ) → is_ascii_digit b ≡ true → bit_xor b 48 ≡ b - 48
digit_value b digit =
    let high = leb-true b 57 (and_parts _ _ digit).1 in
    let told = agree_below_at (λ b. not (is_ascii_digit b) || eqb (bit_xor b 48) (b - 48)) (λ _. true) 256 b refl (omega (arith, high)) in
    eqb-true (bit_xor b 48) (b - 48) (rw digit at told)

-- a byte that xor with 48 makes less than ten is a digit
turned_digit : (b : ℕ) → b < 256 → bit_xor b 48 < 10 → is_ascii_digit b ≡ true
turned_digit b small below = sym (agree_below_at (λ b. ltb (bit_xor b 48) 10) is_ascii_digit 256 b refl small) ∙ lt-ltb (bit_xor b 48) 10 below

-- a byte with the bit of 16 loses it by xor with 48
turned_below : (b : ℕ) → b < 256 → has_sixteen b ≡ true → bit_xor b 48 < 240
turned_below b small has =
    let told = agree_below_at (λ b. not (has_sixteen b) || ltb (bit_xor b 48) 240) (λ _. true) 256 b refl small in
    ltb-true (bit_xor b 48) 240 (rw has at told)

digit_has_sixteen : (b : ℕ) → is_ascii_digit b ≡ true → has_sixteen b ≡ true
digit_has_sixteen b digit =
    let both = and_parts _ _ digit in
    let low = leb-true 48 b both.0 in
    let high = leb-true b 57 both.1 in
    eq-eqb (b / 16 % 2) 1 (omega arith)

-- the first digit has no digits before it
zero-mul-add : (p s : ℕ) → 0 * p + s ≡ s
zero-mul-add p s = omega arith

-- one digit more, at place p
first_place : (n v p s : ℕ) → (n * 10 + v) * p + s ≡ n * (p * 10) + (v * p + s)
first_place n v p s = omega arith

-- digits that follow those of n
number_from_digits_after-map : (n : ℕ) (ds : List ℕ) → AllPass is_ascii_digit ds
    → number_from_digits_after 10 n (map (λ b. bit_xor b 48) ds) ≡ n * 10 ^ length ds + place_sum ds
number_from_digits_after-map n [] h = omega arith
number_from_digits_after-map n (b ∷ ds) h =
    let v = b - 48 in
    let digit = All-head (λ b. is_ascii_digit b ≡ true) b ds h in
    ap (λ d. number_from_digits_after 10 (n * 10 + d) (map (λ b. bit_xor b 48) ds)) (digit_value b digit)
    ∙ number_from_digits_after-map (n * 10 + v) ds (All-tail (λ b. is_ascii_digit b ≡ true) b ds h)
    ∙ first_place n v (10 ^ length ds) (place_sum ds) ∙ ap (λ p. n * p + (v * 10 ^ length ds + place_sum ds)) (sym (pow-suc 10 (length ds)))

-- leading zeros add nothing
pub number_from_digits-zeros : (j : ℕ) (ds : List ℕ) → AllPass is_ascii_digit ds
    → number_from_digits 10 (replicate j 0 ++ map (λ b. bit_xor b 48) ds) ≡ place_sum ds
number_from_digits-zeros zero ds h = number_from_digits_after-map 0 ds h ∙ zero-mul-add (10 ^ length ds) (place_sum ds)
number_from_digits-zeros (suc j) ds h = number_from_digits-zeros j ds h

-- all bytes before the first that fails a test pass it
pub AllPass-take : (p : ℕ → Bool) (n : ℕ) (bs : List ℕ) → n ≡ prefix_len p bs → AllPass p (take n bs)
AllPass-take p n bs counted = λ k d h.
    let within : k < n = omega (arith, length-take n bs) in
    ap p (get_or-take n bs k d within) ∙ prefix_len_passes p bs k d (omega arith)

-- after xor with 48, bytes with the bit of 16 and zeros before them leave room for adding six
pub All-turned : (j : ℕ) (ds : List ℕ) → All (λ b. b < 256) ds → AllPass has_sixteen ds → All (λ b. b < 240) (replicate j 0 ++ map (λ b. bit_xor b 48) ds)
All-turned zero [] small has = All-nil (λ b. b < 240)
All-turned zero (b ∷ ds) small has =
    let first = turned_below b (All-head (λ b. b < 256) b ds small) (All-head (λ b. has_sixteen b ≡ true) b ds has) in
    All-cons (λ b. b < 240) (bit_xor b 48) (map (λ b. bit_xor b 48) ds) first (All-turned zero ds (All-tail (λ b. b < 256) b ds small) (All-tail (λ b. has_sixteen b ≡ true) b ds has))
All-turned (suc j) ds small has = All-cons (λ b. b < 240) 0 (replicate j 0 ++ map (λ b. bit_xor b 48) ds) (lit< tt) (All-turned j ds small has)

-- they were digits if all are below ten then
pub AllPass-turned : (j : ℕ) (ds : List ℕ) → All (λ b. b < 256) ds → AllBelowBase 10 (replicate j 0 ++ map (λ b. bit_xor b 48) ds) → AllPass is_ascii_digit ds
AllPass-turned zero [] small below = All-nil (λ b. is_ascii_digit b ≡ true)
AllPass-turned zero (b ∷ ds) small below =
    let first = turned_digit b (All-head (λ b. b < 256) b ds small) below.0 in
    All-cons (λ b. is_ascii_digit b ≡ true) b ds first (AllPass-turned zero ds (All-tail (λ b. b < 256) b ds small) below.1)
AllPass-turned (suc j) ds small below = AllPass-turned j ds small below.1

no_digit : (b : ℕ) → has_sixteen b ≡ false → is_ascii_digit b ≡ false
no_digit b off = false_from_ne_true (is_ascii_digit b) (λ digit. let e = digit_has_sixteen b digit in cc)

-- the leading digits end at the first byte without the bit of 16, if all bytes before it are digits
pub prefix_len-digits : (n : ℕ) (bs : List ℕ) → n ≡ prefix_len has_sixteen bs → AllPass is_ascii_digit (take n bs) → n ≡ prefix_len is_ascii_digit bs
prefix_len-digits n [] counted digits = counted
prefix_len-digits n (b ∷ bs) counted digits = by (has_sixteen b) refl (prefix_len-digits (prefix_len has_sixteen bs) bs refl)
  where
    by : (t : Bool) → has_sixteen b ≡ t → (AllPass is_ascii_digit (take (prefix_len has_sixteen bs) bs) → prefix_len has_sixteen bs ≡ prefix_len is_ascii_digit bs)
        → n ≡ prefix_len is_ascii_digit (b ∷ bs)
    by true has more =
        let m = prefix_len has_sixteen bs in
        let is : n ≡ suc m = omega (arith, counted ∙ ap (λ t. cond t (1 + m) 0) has) in
        let all = subst (λ k. AllPass is_ascii_digit (take k (b ∷ bs))) is digits in
        let first = All-head (λ b. is_ascii_digit b ≡ true) b (take m bs) all in
        let rest = more (All-tail (λ b. is_ascii_digit b ≡ true) b (take m bs) all) in
        omega (arith, is, rest, ap (λ t. cond t (1 + prefix_len is_ascii_digit bs) 0) first)
    by false off more =
        counted ∙ ap (λ t. cond t (1 + prefix_len has_sixteen bs) 0) off ∙ sym (ap (λ t. cond t (1 + prefix_len is_ascii_digit bs) 0) (no_digit b off))

-- the zeros past the end are no digits
pub prefix_len-padded : (n m : ℕ) (bs : List ℕ) → prefix_len is_ascii_digit (take n (bs ++ replicate m 0)) ≡ prefix_len is_ascii_digit (take n bs)
prefix_len-padded zero m bs = refl
prefix_len-padded (suc n) zero [] = refl
prefix_len-padded (suc n) (suc m) [] = refl
prefix_len-padded (suc n) m (b ∷ bs) = ap (λ k. cond (is_ascii_digit b) (1 + k) 0) (prefix_len-padded n m bs)

-- the values of digits, with zeros before them
abbrev pub turned : ℕ → List ℕ → List ℕ
turned j ds = replicate j 0 ++ map (λ b. bit_xor b 48) ds

passes : (b : ℕ) → IsAsciiDigit b → is_ascii_digit b ≡ true
passes b digit = grind (arith, nat_tests, digit.0, digit.1)

pub AllPass-digits : (ds : List ℕ) → All IsAsciiDigit ds → AllPass is_ascii_digit ds
AllPass-digits ds h = All-weaker IsAsciiDigit (λ b. is_ascii_digit b ≡ true) passes ds h

pub AllBelowBase-digits : (j : ℕ) (ds : List ℕ) → All IsAsciiDigit ds → AllBelowBase 10 (turned j ds)
AllBelowBase-digits zero [] h = tt
AllBelowBase-digits zero (b ∷ ds) h =
    let digit = All-head IsAsciiDigit b ds h in
    (omega (arith, digit_value b (passes b digit), digit.1), AllBelowBase-digits zero ds (All-tail IsAsciiDigit b ds h))
AllBelowBase-digits (suc j) ds h = (lit< tt, AllBelowBase-digits j ds h)
