-- Numbers in a buffer with a given byte right after them.
use Rattle.std.proofs.Common.{◌≡◌, ◌+◌, ◌-◌, ◌*◌, ◌^◌, ◌<◌, ◌≤◌, ◌++◌, ◌∷◌, [], ℕ, List, length, take, drop, get_or, ap, ap₂, sym, ◌∙◌, arith, length-append, length-drop, pow-add, take-take, to_z, w64}
use Rattle.std.proofs.{Math.Nat.{pow-le-pow_right}, lemmas.Int.{ints}}
use Rattle.std.proofs.lemmas.List.{take-append-drop, drop-drop, drop-take, drop_more, length-take, length-take-le}
use Rattle.std.specs.{Prelude.{pos, neg_ℤ}, Char.{IsAsciiDigit}, List.{All}}
use Rattle.dimacs_lines.specs.{Number.{place_sum}, Plain.{StandsAt}, inside.Plain.{DigitsAt}}
use Rattle.dimacs_lines.proofs.{DigitLemmas.{spells_digits, spells_minus}, NumberLemmas.{place_sum-lt}}

-- digits, and the byte right after them
pub digits_stand : (bytes : List ℕ) (at stop count n : ℕ) → at + count < length bytes → 0 < count → count ≤ 16 → All IsAsciiDigit (take count (drop at bytes)) → n ≡ place_sum (take count (drop at bytes))
    → get_or bytes (at + count) 0 ≡ stop → DigitsAt bytes at stop n (at + count + 1)
digits_stand bytes at stop count n inside some few each value ends =
    let rest = drop at bytes in
    let size : length (take count rest) ≡ count = length-take-le count rest (omega (arith, length-drop at bytes)) in
    let cut : drop (at + count) bytes ≡ get_or bytes (at + count) 0 ∷ drop (at + count + 1) bytes = drop_more bytes (at + count) 0 inside in
    let after : drop count rest ≡ stop ∷ drop (at + count + 1) bytes = drop-drop count at bytes ∙ (cut ∙ ap (λ b. b ∷ drop (at + count + 1) bytes) ends) in
    record {
      digits = take count rest;
      nonempty = omega (arith, size, some);
      at_most_sixteen = omega (arith, size, few);
      each = each;
      value = value;
      ends = record { there = sym (take-append-drop count rest) ∙ ap (λ ys. take count rest ++ ys) after; passed = omega (arith, size); within = omega arith };
    }

-- up to eight digits have a value below 10^8
pub few_below : (count : ℕ) (bytes : List ℕ) → count ≤ 8 → All IsAsciiDigit (take count bytes) → place_sum (take count bytes) < 100000000
few_below count bytes few each =
    let size : length (take count bytes) ≤ 8 = omega (arith, few, length-take count bytes) in
    let most : 10 ^ length (take count bytes) ≤ 10 ^ 8 = pow-le-pow_right {n = 10} (omega arith) {j = 8} size in
    omega (arith, most, place_sum-lt (take count bytes) each)

-- the last eight of some digits
pub last_eight : (bytes : List ℕ) (at count : ℕ) → 8 ≤ count → drop (count - 8) (take count (drop at bytes)) ≡ take 8 (drop (at + count - 8) bytes)
last_eight bytes at count enough =
    let whole : count ≡ count - 8 + 8 = omega (arith, enough) in
    let place : at + (count - 8) ≡ at + count - 8 = omega (arith, enough) in
    ap (λ n. drop (count - 8) (take n (drop at bytes))) whole ∙ drop-take (count - 8) 8 (drop at bytes) ∙ ap (take 8) (drop-drop (count - 8) at bytes ∙ ap (λ n. drop n bytes) place)

-- the value of digits that follow others
place_sum-append : (xs ys : List ℕ) → place_sum (xs ++ ys) ≡ place_sum xs * 10 ^ length ys + place_sum ys
place_sum-append [] ys = omega arith
place_sum-append (x ∷ xs) ys = rw (length-append xs ys, pow-add 10 (length xs) (length ys), place_sum-append xs ys) (digits_over (x - 48) (10 ^ length xs) (10 ^ length ys) (place_sum xs) (place_sum ys))
  where
    digits_over : (d p q s t : ℕ) → d * (p * q) + (s * q + t) ≡ (d * p + s) * q + t
    digits_over d p q s t = omega arith

-- more than eight digits, by the last eight and those before them
pub place_sum-split : (bytes : List ℕ) (at count : ℕ) → 8 ≤ count → at + count ≤ length bytes
    → place_sum (take count (drop at bytes)) ≡ place_sum (take (count - 8) (drop at bytes)) * 100000000 + place_sum (take 8 (drop (at + count - 8) bytes))
place_sum-split bytes at count enough within =
    let all = take count (drop at bytes) in
    let high : take (count - 8) all ≡ take (count - 8) (drop at bytes) = take-take (count - 8) count (drop at bytes) (omega arith) in
    let low = last_eight bytes at count enough in
    let size : length (drop (count - 8) all) ≡ 8 = omega (arith, length-drop (count - 8) all, length-take count (drop at bytes), length-drop at bytes, enough, within) in
    ap place_sum (sym (take-append-drop (count - 8) all)) ∙ place_sum-append (take (count - 8) all) (drop (count - 8) all)
    ∙ ap₂ (λ h k. place_sum h * 10 ^ k + place_sum (drop (count - 8) all)) high size ∙ ap (λ ys. place_sum (take (count - 8) (drop at bytes)) * 100000000 + place_sum ys) low

-- a text of digits
pub stands_digits : (bytes : List ℕ) (at stop n next : ℕ) → DigitsAt bytes at stop n next → StandsAt bytes at stop (pos n) next
stands_digits bytes at stop n next d = record { text = d.digits; spelled = rw d.value (spells_digits d.digits d.nonempty d.each); short = omega (arith, d.at_most_sixteen); ends = d.ends }

-- sixteen digits fit into 64 bits with a sign
pub as_signed : (n : ℕ) → n < 10 ^ 16 → to_z w64 n ≡ pos n
as_signed n fit = omega (arith, ints, fit)

-- a minus, then digits
pub stands_minus : (bytes : List ℕ) (at stop n next : ℕ) → at < length bytes → get_or bytes at 0 ≡ 45 → DigitsAt bytes (at + 1) stop n next → StandsAt bytes at stop (neg_ℤ (pos n)) next
stands_minus bytes at stop n next inside minus d =
    let cut : drop at bytes ≡ get_or bytes at 0 ∷ drop (at + 1) bytes = drop_more bytes at 0 inside in
    let first : drop at bytes ≡ 45 ∷ drop (at + 1) bytes = cut ∙ ap (λ b. b ∷ drop (at + 1) bytes) minus in
    record {
      text = 45 ∷ d.digits;
      spelled = rw d.value (spells_minus d.digits d.nonempty d.each);
      short = omega (arith, d.at_most_sixteen);
      ends = record { there = first ∙ ap (λ ys. 45 ∷ ys) d.ends.there; passed = omega (arith, d.ends.passed); within = d.ends.within };
    }
