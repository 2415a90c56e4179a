use Rattle.std.proofs.Common.{rules, ◌≡◌, ℕ, ◌-◌, ◌<◌, ◌≤◌, List, ◌++◌, min, length, take, drop, replicate, w64, sym, ap, subst, ◌∙◌, arith, take-take, length-take}
use Rattle.std.proofs.{lemmas.List.{take-append-le}, lemmas.List.Elements.{All-take}}
use Rattle.std.proofs.lemmas.List.Sums.{prefix_len-le-length}
use Rattle.std.specs.{Char.{is_ascii_digit}, Int.{to_le_bytes}, Int.Digits.{AllBelowBase, number_from_digits}}
use Rattle.std.specs.List.{All, prefix_len}
use Rattle.dimacs_lines.specs.{Number.{place_sum}, inside.Plain.{has_sixteen}}
use Rattle.dimacs_lines.proofs.Lanes.{AllBytes-to_le_bytes}
use Rattle.dimacs_lines.proofs.PlaceSums.{number_from_digits-zeros, All-turned, AllPass-take, AllPass-turned, prefix_len-digits, prefix_len-padded}
use Rattle.dimacs_lines.proofs.digits.digits_at.Goals as goal

-- the counted digits stand within the line
take-padded : (n : ℕ) (bs : List ℕ) → n ≡ prefix_len is_ascii_digit (take 8 bs) → take n (take 8 (bs ++ replicate 8 0)) ≡ take n bs
take-padded n bs counted =
    let within : n ≤ min 8 (length bs) = omega (arith, prefix_len-le-length is_ascii_digit (take 8 bs), length-take 8 bs) in
    take-take n 8 (bs ++ replicate 8 0) (omega arith) ∙ take-append-le n bs (replicate 8 0) (omega arith)

pub are_digits-requires : goal.are_digits-requires
are_digits-requires c =
    let count = c.count_to_end-count.result in
    let bytes = to_le_bytes w64 c.word_at-word.result in
    let small = All-take (λ b. b < 256) count bytes (AllBytes-to_le_bytes c.word_at-word.result) in
    subst (All (λ b. b < 240)) (sym c.values_on_top-values.ensures) (All-turned (8 - count) (take count bytes) small (AllPass-take has_sixteen count bytes c.count_to_end-count.ensures.count))

pub returns : goal.returns
returns c =
    let count = c.count_to_end-count.result in
    let bytes = to_le_bytes w64 c.word_at-word.result in
    let rest = drop c.args.at c.args.line.now in
    let small = All-take (λ b. b < 256) count bytes (AllBytes-to_le_bytes c.word_at-word.result) in
    let below = subst (AllBelowBase 10) c.values_on_top-values.ensures (c.are_digits.ensures.0 c.if-not-are_digits.false) in
    let digits = AllPass-turned (8 - count) (take count bytes) small below in
    let counted = prefix_len-digits count bytes c.count_to_end-count.ensures.count digits ∙ ap (prefix_len is_ascii_digit) c.word_at-word.ensures ∙ prefix_len-padded 8 8 rest in
    record {
      positive = search rules;
      count = counted;
      value = c.eight_digits.ensures ∙ ap (number_from_digits 10) c.values_on_top-values.ensures
          ∙ number_from_digits-zeros (8 - count) (take count bytes) digits ∙ ap place_sum (ap (take count) c.word_at-word.ensures ∙ take-padded count rest counted);
    }
