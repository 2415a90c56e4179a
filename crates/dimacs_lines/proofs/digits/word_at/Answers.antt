use Rattle.std.proofs.Common.{◌≡◌, ℕ, ◌+◌, ◌-◌, ◌*◌, ◌^◌, ◌/◌, ◌<◌, ◌≤◌, List, ◌++◌, length, take, drop, replicate, w64, ap, sym, ◌∙◌, arith, shr-shr, drop-drop, take_all, length-drop}
use Rattle.std.proofs.{lemmas.List.{take_rest}, lemmas.List.Elements.{All-from_get_or, All-drop}}
use Rattle.std.specs.Int.{to_le_bytes}
use Rattle.dimacs_lines.proofs.Lanes.{AllBytes, word_of, word_of-drop, to_le_bytes-word_of, word_of-to_le_bytes}
use Rattle.dimacs_lines.proofs.digits.word_at.Goals as goal

-- the last eight bytes, moved down to those from `at` on
to_le_bytes-shr : (line : List ℕ) (at back word : ℕ) → length line - back ≤ 8 → back ≤ at → AllBytes line → word < 2 ^ 64
    → to_le_bytes w64 word ≡ take 8 (drop back line)
    → to_le_bytes w64 (word / 2 ^ (4 * (at - back)) / 2 ^ (4 * (at - back))) ≡ take 8 (drop at line ++ replicate 8 0)
to_le_bytes-shr line at back word long after bytes fits loaded =
    let k = at - back in
    let last = drop back line in
    let short : length last ≤ 8 = omega (arith, length-drop back line) in
    let twice : 4 * k + 4 * k ≡ 8 * k = omega arith in
    let reached : back + k ≡ at = omega arith in
    let once = shr-shr word (4 * k) (4 * k) ∙ ap (λ n. word / 2 ^ n) twice in
    let whole = sym (word_of-to_le_bytes word fits) ∙ ap (word_of 8) (loaded ∙ take_all 8 last short) in
    let moved = word_of-drop k last (All-drop (λ b. b < 256) back line bytes) in
    let rest = drop-drop k back line ∙ ap (λ n. drop n line) reached in
    let is = once ∙ ap (λ n. n / 2 ^ (8 * k)) whole ∙ moved ∙ ap (word_of 8) rest in
    to_le_bytes-word_of _ (drop at line) (All-drop (λ b. b < 256) at line bytes) is

pub returns-then-line-ge8 : goal.returns-then-line-ge8
returns-then-line-ge8 c =
    let load = c.load-then-line-ge8 in
    let line = c.args.line.now in
    let back = length line - 8 in
    let loaded = load.ensures ∙ ap (take 8) (take_rest line back) in
    let bytes = All-from_get_or (λ b. b < 256) line 0 (λ k h. omega (arith, c.type_inv.line k)) in
    to_le_bytes-shr line c.args.at back load.result (omega arith) (omega arith) bytes load.type_inv loaded
