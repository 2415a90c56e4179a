-- The value of digits, one more digit at a time.
use Rattle.std.proofs.Common.{◌≡◌, ◌+◌, ◌-◌, ◌*◌, ◌^◌, ◌<◌, ◌≤◌, ◌++◌, ◌∷◌, [], ℕ, List, length, take, get_or, ap, ◌∙◌, arith, length-append, add-one}
use Rattle.std.proofs.{Math.Nat.{pow-suc, pow-le-pow_right}, lemmas.List.{take_more, length-take-le}}
use Rattle.std.proofs.lemmas.List.Elements.{All-head, All-tail, All-take}
use Rattle.std.specs.{Prelude.{min}, List.{All}, Char.{IsAsciiDigit}}
use Rattle.dimacs_lines.specs.Number.{place_sum}

ten_more : (n : ℕ) → 10 ^ (n + 1) ≡ 10 ^ n * 10
ten_more n = rw (add-one, pow-suc) (omega arith)

-- the value with one more digit at the end
pub place_sum-push : (xs : List ℕ) (c : ℕ) → place_sum (xs ++ c ∷ []) ≡ place_sum xs * 10 + (c - 48)
place_sum-push [] c = omega arith
place_sum-push (x ∷ xs) c = rw (length-append xs (c ∷ []), ten_more (length xs), place_sum-push xs c) (omega arith)

pub place_sum_more : (xs : List ℕ) (i : ℕ) → i < length xs → place_sum (take (i + 1) xs) ≡ place_sum (take i xs) * 10 + (get_or xs i 0 - 48)
place_sum_more xs i h = ap place_sum (take_more xs i 0 h) ∙ place_sum-push (take i xs) (get_or xs i 0)

-- a value that is capped after each digit is the capped value
pub min_more : (sum digit most : ℕ) → min most (min sum most * 10 + digit) ≡ min (sum * 10 + digit) most
min_more sum digit most = omega arith

digit_times : (digit p : ℕ) → digit ≤ 9 → digit * p ≤ 9 * p
digit_times digit p h = grind arith

-- n digits have a value below 10^n
pub place_sum-lt : (xs : List ℕ) → All IsAsciiDigit xs → place_sum xs < 10 ^ length xs
place_sum-lt [] digits = omega arith
place_sum-lt (x ∷ xs) digits =
    let digit = All-head IsAsciiDigit x xs digits in
    let rest = place_sum-lt xs (All-tail IsAsciiDigit x xs digits) in
    rw pow-suc (omega (arith, digit_times (x - 48) (10 ^ length xs) (omega (arith, digit.1)), rest))

-- up to 19 digits stay below 10^19, with each next digit too
pub place_sum-short : (xs : List ℕ) (i : ℕ) → All IsAsciiDigit xs → length xs < 20 → i < length xs → place_sum (take i xs) * 10 + (get_or xs i 0 - 48) < 10 ^ 19
place_sum-short xs i digits short inside =
    let size : length (take (i + 1) xs) ≡ i + 1 = length-take-le (i + 1) xs (omega arith) in
    let most : 10 ^ length (take (i + 1) xs) ≤ 10 ^ 19 = pow-le-pow_right {n = 10} (omega arith) {j = 19} (omega (arith, size)) in
    rw (← place_sum_more xs i inside) (omega (arith, most, place_sum-lt (take (i + 1) xs) (All-take IsAsciiDigit (i + 1) xs digits)))
