-- Fields of digits, perhaps after a minus.
use Rattle.std.proofs.Common.{◌≡◌, ◌+◌, ◌<◌, ◌≤◌, ◌∷◌, [], ℕ, suc, List, true, false, length, take, drop, get_or, refl, sym, arith, w64, to_z, of_z, SFits, Option, Some, subst}
use Rattle.std.proofs.{lemmas.Int.{ints, to_z-of_z}, lemmas.Bool.Decides.{nat_tests}}
use Rattle.std.proofs.lemmas.List.{get_or-take, length-take, drop_more}
use Rattle.std.proofs.lemmas.List.Sums.{position_or_len_is, prefix_len_passes, prefix_len-le-length}
use Rattle.std.specs.{Prelude.{ℤ, pos, neg_ℤ, ◌-ℤ◌, ◌^◌, ◌==◌, ◌||◌, IfSome}, Int.Signed.{mag}}
use Rattle.std.specs.{List.{position_or_len, prefix_len, All}, Char.{IsAsciiDigit, is_ascii_digit}}
use Rattle.dimacs_lines.specs.{Fields.{is_blank}, Number.{Spells, place_sum}}

pub digit_from : (b : ℕ) → is_ascii_digit b ≡ true → IsAsciiDigit b
digit_from b h = (grind (arith, nat_tests), grind (arith, nat_tests))

-- a byte from 33 on is no blank
pub not_blank : (b : ℕ) → 33 ≤ b → is_blank b ≡ false
not_blank b h = grind (arith, nat_tests)

-- each byte among the leading digits of the first m bytes is a digit
digit_at : (m : ℕ) (xs : List ℕ) (n k d : ℕ) → n ≡ prefix_len is_ascii_digit (take m xs) → k < n → IsAsciiDigit (get_or xs k d)
digit_at m xs n k d is below =
    let within : n ≤ length (take m xs) = omega (arith, prefix_len-le-length is_ascii_digit (take m xs)) in
    let inside : k < m = omega (arith, within, length-take m xs) in
    rw (← get_or-take m xs k d inside) (digit_from _ (prefix_len_passes is_ascii_digit (take m xs) k d (omega arith)))

pub All-digits : (m : ℕ) (xs : List ℕ) (n : ℕ) → n ≡ prefix_len is_ascii_digit (take m xs) → All IsAsciiDigit (take n xs)
All-digits m xs n is k d inside =
    let below : k < n = omega (arith, length-take n xs) in
    rw (get_or-take n xs k d below) (digit_at m xs n k d is below)

-- digits with a blank or nothing after them are a whole field
pub run_of_digits : (xs : List ℕ) (n : ℕ) → n ≡ prefix_len is_ascii_digit (take 8 xs) → (n < length xs → is_blank (get_or xs n 0) ≡ true) → n ≡ position_or_len is_blank xs
run_of_digits xs n is ends =
    let within : n ≤ length xs = omega (arith, prefix_len-le-length is_ascii_digit (take 8 xs), length-take 8 xs) in
    sym (position_or_len_is is_blank xs n 0 within (λ k below. not_blank (get_or xs k 0) (let digit = digit_at 8 xs n k 0 is below in omega (arith, digit.0))) ends)

pub digit_is_no_sign : (b : ℕ) → IsAsciiDigit b → (b == 43 || b == 45) ≡ false
digit_is_no_sign b digit = grind (arith, nat_tests, digit.0, digit.1)

pub digit_is_no_minus : (b : ℕ) → IsAsciiDigit b → (b == 45) ≡ false
digit_is_no_minus b digit = grind (arith, nat_tests, digit.0, digit.1)

-- a text of digits spells their value
pub spells_digits : (digits : List ℕ) → 0 < length digits → All IsAsciiDigit digits → Spells digits (pos (place_sum digits))
spells_digits [] some all = absurd (omega (arith, some))
spells_digits (b ∷ bs) some all =
    let first : IsAsciiDigit b = all 0 0 some in
    rw (digit_is_no_sign b first, digit_is_no_minus b first) ((some, all), refl)

-- a minus and digits spell the negative of their value
pub spells_minus : (digits : List ℕ) → 0 < length digits → All IsAsciiDigit digits → Spells (45 ∷ digits) (neg_ℤ (pos (place_sum digits)))
spells_minus digits some all = ((some, all), refl)

-- a minus, and n digits after it
pub minus_in_front : (line : List ℕ) (start n : ℕ) → start < length line → get_or line start 0 ≡ 45 → take (n + 1) (drop start line) ≡ 45 ∷ take n (drop (start + 1) line)
minus_in_front line start n inside minus =
    let cut : drop start line ≡ get_or line start 0 ∷ drop (start + 1) line = drop_more line start 0 inside in
    let e : n + 1 ≡ suc n = omega arith in
    rw (cut, e, minus) refl

pub read_back : (x : ℤ) (size sum : ℕ) → x ≡ pos size → size ≡ sum → mag x < 2 ^ 63 → to_z w64 (of_z w64 x) ≡ pos sum
read_back x size sum is value fits = omega (arith, ints)

pub read_minus : (x : ℤ) (size sum : ℕ) → x ≡ pos size → size ≡ sum → mag x < 2 ^ 63 → to_z w64 (of_z w64 (pos 0 -ℤ to_z w64 (of_z w64 x))) ≡ neg_ℤ (pos sum)
read_minus x size sum is value fits = omega (arith, ints)

-- the number that was kept in 64 bits is the one that the text spells
pub kept : (text : List ℕ) (x n : ℤ) → SFits w64 x → Spells text x → ◌≡◌ {A = Option ℤ} (Some (to_z w64 (of_z w64 x))) (Some n) → Spells text n
kept text x n fits spelled is =
    let P : Option ℤ → Type 0 = λ o. IfSome o (Spells text) in
    subst P is (rw (to_z-of_z w64 x fits) spelled)
