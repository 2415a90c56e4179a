use Rattle.std.proofs.Common.{◌≡◌, ℕ, List, All, ◌+◌, ◌-◌, ◌%◌, ◌^◌, ◌<◌, ◌≤◌, Bool, ltb, cond, map, replicate, length, take, Fits, w32, ap, ◌∙◌, subst, sym, arith, refl, length-take}
use Rattle.std.proofs.{lemmas.Bool.{agree_below_at}, lemmas.List.{length-map}}
use Rattle.std.proofs.lemmas.List.Elements.{All-from_get_or, All-take}
use Rattle.std.proofs.lemmas.Simd.{zip2_splat, zip2_of_maps, splat_is_map, map-map, mask_l-mod, mask_l-lt}
use Rattle.std.specs.{Prelude.{not}, Char.{is_ascii_digit}}
use lib.Lanes.{mask_l, top, zip2}
use Rattle.dimacs_lines.specs.inside.Plain.{ends_of}
use Rattle.dimacs_lines.proofs.EndMarks.{marks_agree}
use Rattle.dimacs_lines.proofs.plain.ends.Goals as goal

-- the bit of a lane, after 48 was taken from it and the rest compared to 9
abbrev bit : ℕ → Bool
bit b = top 7 (cond (ltb 9 ((b + 208) % 256)) 255 0)

bit_is : (b : ℕ) → b < 256 → bit b ≡ not (is_ascii_digit b)
bit_is b small = agree_below_at bit (λ b. not (is_ascii_digit b)) 256 b refl small

abbrev lane : ℕ → ℕ → ℕ
lane a b = cond (ltb a b) 255 0

abbrev less : ℕ → ℕ → ℕ
less a b = (a + (256 - b)) % 256

bits_are : (v : List ℕ) → length v ≡ 32 → All (λ b. b < 256) v → mask_l (map (top 7) (zip2 lane (replicate 32 9) (zip2 less v (replicate 32 48)))) % 2 ^ 64 ≡ ends_of v
bits_are v long small =
    let nine : ℕ = 9 in
    let zero : ℕ = 48 in
    let lanes = zip2_of_maps lane (λ _. nine) (λ b. less b zero) v (splat_is_map v 32 nine long) (zip2_splat less v 32 zero long) in
    let bits = ap (map (top 7)) lanes ∙ map-map (top 7) (λ b. lane nine (less b zero)) v ∙ marks_agree bit bit_is v small in
    ap (λ ms. mask_l ms % 2 ^ 64) bits ∙ mask_l-mod (map (λ b. not (is_ascii_digit b)) v) 64 (omega (arith, length-map v (λ b. not (is_ascii_digit b)), long))

ends_fit : (v : List ℕ) → length v ≡ 32 → ends_of v < 2 ^ 32
ends_fit v long =
    let marks = map (λ b. not (is_ascii_digit b)) v in
    subst (λ n. mask_l marks < 2 ^ n) (length-map v (λ b. not (is_ascii_digit b)) ∙ long) (mask_l-lt marks)

long_enough : (bytes : List ℕ) → 32 ≤ length bytes → length (take 32 bytes) ≡ 32
long_enough bytes enough = omega (arith, length-take 32 bytes, enough)

pub overflow_cast-result : goal.overflow_cast-result
overflow_cast-result c =
    let bytes = c.args.bytes.now in
    let long = long_enough bytes c.requires in
    let small = All-take (λ b. b < 256) 32 bytes (All-from_get_or (λ b. b < 256) bytes 0 (λ k h. omega (arith, c.type_inv.bytes k))) in
    subst (Fits w32) (sym (bits_are (take 32 bytes) long small)) (record { fits = ends_fit (take 32 bytes) long })

pub returns : goal.returns
returns c =
    let small = All-take (λ b. b < 256) 32 _ (All-from_get_or (λ b. b < 256) _ 0 (λ k h. omega (arith, c.type_inv.bytes k))) in
    bits_are (take 32 _) (long_enough _ c.requires) small
