-- The digits of a number, two at a time.
use Rattle.std.proofs.Common.{◌≡◌, ◌+◌, ◌-◌, ◌*◌, ◌<◌, ◌/◌, ◌%◌, ◌∷◌, [], length, take, ℕ, arith, get_or, inl, inr, sym}
use Rattle.std.proofs.{lemmas.Bool.Decides.{leb_tells}, lemmas.Bool.{lt-ltb, le-ltb}, lemmas.Fmt.{decimal_digit}}
use Rattle.std.proofs.Math.Dec.{ltb}
use Rattle.std.specs.Fmt.{decimal}
use Rattle.itoa.proofs.Decimal.{PAIRS_at, length_one, length_two, decimal_two}
use Rattle.dimacs_lines.specs.declared.decimals.TheConstants.{PAIRS}
use mir.Val.{bool_byte}

-- the table has the two digits of each number, as itoa's does
pub table_at : (n : ℕ) → n < 100 → (get_or PAIRS (n * 2) 0 ≡ 48 + n / 10) × (get_or PAIRS (n * 2 + 1) 0 ≡ 48 + n % 10)
table_at n few = PAIRS_at n few

-- one digit below ten, otherwise two
pub first_count : (n : ℕ) → n < 100 → 2 - bool_byte (ltb n 10) ≡ length (decimal n)
first_count n few =
    elim (leb_tells 10 n) [
      | inl two ↦ rw (le-ltb n 10 two.1) (sym (length_two n two.1 few))
      | inr one ↦ rw (lt-ltb n 10 one.1) (sym (length_one n one.1))
    ]

-- a single digit is the second of its pair
pub first_digits_at : (n : ℕ) → n < 100 → take (2 - bool_byte (ltb n 10)) (get_or PAIRS (n * 2 + bool_byte (ltb n 10)) 0 ∷ get_or PAIRS (n * 2 + bool_byte (ltb n 10) + 1) 0 ∷ []) ≡ decimal n
first_digits_at n few =
    let at = table_at n few in
    elim (leb_tells 10 n) [
      | inl two ↦ let from : n * 2 + 0 ≡ n * 2 = omega arith in rw (le-ltb n 10 two.1, from, at.0, at.1) (sym (decimal_two n two.1 few))
      | inr one ↦ let same : n % 10 ≡ n = omega (arith, one.1) in rw (lt-ltb n 10 one.1, at.1, same) (sym (decimal_digit n one.1))
    ]
