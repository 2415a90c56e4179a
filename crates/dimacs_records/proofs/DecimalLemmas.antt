-- The decimal text of a number spells it.
use Rattle.std.proofs.Common.{◌≡◌, ◌+◌, ◌/◌, ◌%◌, ◌^◌, ◌<◌, ◌≤◌, ◌++◌, ◌∷◌, [], ℕ, suc, List, length, refl, sym, ap, arith, length-append}
use Rattle.std.proofs.{lemmas.Bool.Decides.{nat_tests}, lemmas.Fmt.{decimal_by_steps_wide, length-decimal-le_wide}}
use Rattle.std.proofs.{lemmas.Int.{ints}, lemmas.List.Elements.{All-nil, All-cons, All-push, All-weaker}}
use Rattle.std.specs.{Prelude.{ℤ, pos, negsuc, neg_ℤ}, List.{All}, Char.{IsAsciiDigit}, Fmt.{decimal, signed_decimal}}
use Rattle.dimacs_lines.specs.Number.{place_sum, Spells, IsWithin}
use Rattle.dimacs_records.proofs.PlainLines.{IsVisible, IsPlain}
use Rattle.dimacs_lines.proofs.{NumberLemmas.{place_sum-push}, DigitLemmas.{digit_is_no_sign, digit_is_no_minus}}

-- these digits spell n
record AreDigits (n : ℕ) (digits : List ℕ) : Type 0 where
  some : 0 < length digits
  each : All IsAsciiDigit digits
  sum : place_sum digits ≡ n

one_digit : (n : ℕ) → n < 10 → AreDigits n ((48 + n) ∷ [])
one_digit n small = record { some = omega arith; each = All-cons IsAsciiDigit (48 + n) [] (omega arith, omega arith) (All-nil IsAsciiDigit); sum = omega arith }

one_more : (n : ℕ) (digits : List ℕ) → 10 ≤ n → AreDigits (n / 10) digits → AreDigits n (digits ++ ((48 + n % 10) ∷ []))
one_more n digits large front = record {
  some = omega (arith, length-append digits ((48 + n % 10) ∷ []));
  each = All-push IsAsciiDigit digits (48 + n % 10) front.each (omega arith, omega arith);
  sum = rw place_sum-push (omega (arith, front.sum));
}

decimal_digits : (n : ℕ) → n < 10 ^ 64 → AreDigits n (decimal n)
decimal_digits = decimal_by_steps_wide AreDigits one_digit one_more

spells_digits : (n : ℕ) (digits : List ℕ) → AreDigits n digits → Spells digits (pos n)
spells_digits n [] are = absurd (omega (arith, are.some))
spells_digits n (b ∷ bs) are =
    let first : IsAsciiDigit b = are.each 0 0 are.some in
    rw (digit_is_no_sign b first, digit_is_no_minus b first) ((are.some, are.each), ap pos (sym are.sum))

spells_minus : (n : ℕ) (digits : List ℕ) → AreDigits n digits → Spells (45 ∷ digits) (neg_ℤ (pos n))
spells_minus n digits are = ((are.some, are.each), ap (λ k. neg_ℤ (pos k)) (sym are.sum))

-- the ranges of all forms lie between these
abbrev pub lowest : ℤ
lowest = neg_ℤ (pos (10 ^ 30))

abbrev pub highest : ℤ
highest = pos (10 ^ 30)

pub spells_signed_decimal : (n : ℤ) → IsWithin lowest highest n → Spells (signed_decimal n) n
spells_signed_decimal (pos n) within = spells_digits n (decimal n) (decimal_digits n (omega (arith, ints, within.1)))
spells_signed_decimal (negsuc n) within = spells_minus (suc n) (decimal (suc n)) (decimal_digits (suc n) (omega (arith, ints, within.0)))

pub visible_digit : (b : ℕ) → IsAsciiDigit b → IsVisible b
visible_digit b digit = grind (arith, nat_tests, digit.0, digit.1)

visible_decimal : (n : ℕ) → n ≤ 10 ^ 30 → All IsVisible (decimal n)
visible_decimal n few = All-weaker IsAsciiDigit IsVisible visible_digit (decimal n) (decimal_digits n (omega arith)).each

length-decimal : (n : ℕ) → n ≤ 10 ^ 30 → length (decimal n) ≤ 31
length-decimal n few = length-decimal-le_wide 31 n (omega arith) (omega arith) (omega arith)

pub plain_signed_decimal : (n : ℤ) → IsWithin lowest highest n → IsPlain (signed_decimal n)
plain_signed_decimal (pos n) within =
    let few : n ≤ 10 ^ 30 = omega (arith, ints, within.1) in
    record { some = (decimal_digits n (omega arith)).some; visible = visible_decimal n few; short = omega (arith, length-decimal n few) }
plain_signed_decimal (negsuc n) within =
    let few : suc n ≤ 10 ^ 30 = omega (arith, ints, within.0) in
    record { some = omega arith; visible = All-cons IsVisible 45 (decimal (suc n)) refl (visible_decimal (suc n) few); short = omega (arith, length-decimal (suc n) few) }
