use Rattle.std.proofs.Common.{◌≡◌, ℕ, ◌+◌, ◌-◌, ◌<◌, List, ◌++◌, length, get_or, take, drop, replicate, w64, zero, suc, [], ◌∷◌, sym, ap, ◌∙◌, arith, length-append, length-take, All}
use Rattle.std.proofs.{Math.Seq.{take-append-add}, lemmas.List.{drop-replicate, take-replicate}}
use Rattle.std.proofs.lemmas.List.Elements.{All-from_get_or, All-append, All-replicate, All-take, All-head, All-tail}
use Rattle.std.proofs.lemmas.Nat.{le_bytes_8}
use Rattle.std.specs.Int.{from_le_bytes}
use Rattle.dimacs_lines.proofs.digits.short_word.Goals as goal

-- also past the end
get_or-lt : (bs : List ℕ) → All (λ b. b < 256) bs → (i : ℕ) → get_or bs i 0 < 256
get_or-lt [] h i = omega arith
get_or-lt (b ∷ bs) h zero = All-head (λ b. b < 256) b bs h
get_or-lt (b ∷ bs) h (suc i) = get_or-lt bs (All-tail (λ b. b < 256) b bs h) i

-- the array after the bytes are copied to its front
append-drop-replicate : (bytes : List ℕ) → length bytes < 8 → bytes ++ drop (length bytes) (replicate 8 0) ≡ take 8 (bytes ++ replicate 8 0)
append-drop-replicate bytes short =
    let n = length bytes in
    let whole : n + (8 - n) ≡ 8 = omega arith in
    ap (λ xs. bytes ++ xs) (drop-replicate n 8 0 ∙ sym (take-replicate (8 - n) 8 0 (omega arith)))
    ∙ sym (take-append-add bytes (replicate 8 0) (8 - n)) ∙ ap (λ k. take k (bytes ++ replicate 8 0)) whole

pub returns : goal.returns
returns c =
    let bytes = c.args.bytes.now in
    let zeros : List ℕ = replicate 8 0 in
    let array = take 8 (bytes ++ zeros) in
    let is = ap (λ xs. xs ++ drop (length bytes) zeros) c.copy_from_slice.ensures.after ∙ append-drop-replicate bytes c.requires in
    let long : length array ≡ 8 = omega (arith, length-take 8 (bytes ++ zeros), length-append bytes zeros) in
    let small = All-from_get_or (λ b. b < 256) bytes 0 (λ k h. omega (arith, c.type_inv.bytes k)) in
    let padded = All-append (λ b. b < 256) bytes zeros small (All-replicate (λ b. b < 256) 8 0 (omega arith)) in
    let all_small = get_or-lt array (All-take (λ b. b < 256) 8 (bytes ++ zeros) padded) in
    le_bytes_8 array c.from_le_bytes.result long all_small (c.from_le_bytes.ensures ∙ ap (from_le_bytes w64) is)
