use Rattle.std.proofs.Common.{◌≡◌, ℕ, ◌+◌, ◌-◌, ◌*◌, ◌%◌, ◌^◌, ◌<◌, ◌≤◌, List, ◌++◌, length, map, take, replicate, bit_xor, get_or, lit<, sym, ap, ap₂, ◌∙◌, arith, w64, length-append, take_at}
use Rattle.std.proofs.{Math.Seq.{take-append-add}, lemmas.List.{take-map, length-replicate, length-take-le}}
use Rattle.std.proofs.{lemmas.Nat.{xor_lt}, lemmas.List.Elements.{All-append, All-replicate, All-map, All-take}}
use Rattle.std.specs.Int.{to_le_bytes}
use Rattle.dimacs_lines.proofs.Lanes.{AllBytes, word_of, word_of-zeros, word_of-take, word_of-map, to_le_bytes-word_of, word_of-to_le_bytes, AllBytes-to_le_bytes}
use Rattle.dimacs_lines.proofs.digits.values_on_top.Goals as goal

-- the bytes of a word whose lanes were moved up by j
to_le_bytes-shl : (j k : ℕ) (ds : List ℕ) → j + k ≡ 8 → k ≤ length ds → AllBytes ds
    → to_le_bytes w64 (word_of 8 ds * 2 ^ (8 * j) % 2 ^ 64) ≡ replicate j 0 ++ take k ds
to_le_bytes-shl j k ds whole enough bytes =
    let zeros : List ℕ = replicate j 0 in
    let small = All-replicate (λ b. b < 256) j 0 (omega arith) in
    let within : length zeros + k ≡ 8 = omega (arith, length-replicate {A = ℕ} j 0) in
    let kept = ap (λ n. take n (zeros ++ ds)) (sym within) ∙ take-append-add zeros ds k in
    let moved = ap (λ n. n % 2 ^ 64) (sym (word_of-zeros j ds)) in
    let cut = word_of-take 8 (zeros ++ ds) (All-append (λ b. b < 256) zeros ds small bytes) in
    let all_small = All-append (λ b. b < 256) zeros (take k ds) small (All-take (λ b. b < 256) k ds bytes) in
    let long : length (zeros ++ take k ds) ≡ 8 = omega (arith, length-append zeros (take k ds), length-take-le k ds enough) in
    to_le_bytes-word_of _ (zeros ++ take k ds) all_small (moved ∙ cut ∙ ap (word_of 8) kept) ∙ take_at (zeros ++ take k ds) (replicate 8 0) 8 long

pub returns : goal.returns
returns c =
    let count = c.args.count in
    let bytes = to_le_bytes w64 _ in
    let whole = word_of-to_le_bytes _ (omega arith) in
    let turned = ap (λ n. bit_xor n 0x3030303030303030) (sym whole) ∙ word_of-map bytes (AllBytes-to_le_bytes _) in
    let small = All-map (λ b. b < 256) (λ b. bit_xor b 48) bytes (λ k d h. xor_lt 8 (get_or bytes k d) 48 (AllBytes-to_le_bytes _ k d h) (lit< tt)) in
    let power : 64 - 8 * count ≡ 8 * (8 - count) = omega arith in
    ap₂ (λ n e. to_le_bytes w64 (n * 2 ^ e % 2 ^ 64)) turned power
    ∙ to_le_bytes-shl (8 - count) count (map (λ b. bit_xor b 48) bytes) (omega arith) c.requires.at_most_eight small
    ∙ ap (λ xs. replicate (8 - count) 0 ++ xs) (take-map (λ b. bit_xor b 48) count bytes)
