use Rattle.std.proofs.Common.{◌≡◌, ℕ, ◌/◌, ◌^◌, ◌%◌, ◌*◌, [], ◌∷◌, bit_and, ap, sym, ◌∙◌, arith, lit<, lit≤, ◌<◌, mod-eq_of_lt}
use Rattle.std.proofs.lemmas.Nat.{and_mask}
use Rattle.std.specs.Int.Digits.{AllBelowBase, number_from_digits}
use Rattle.dimacs_lines.proofs.{Lanes.{word_of, word_of-to_le_bytes}, Pairs.{paired, joined-wrapped}}
use Rattle.dimacs_lines.proofs.digits.eight_digits.Goals as goal

-- the three steps of `eight_digits`
abbrev twos : ℕ → ℕ
twos n = bit_and (n * 2561 % 2 ^ 64 / 2 ^ 8) 0x00ff00ff00ff00ff

abbrev fours : ℕ → ℕ
fours n = bit_and (n * 6553601 % 2 ^ 64 / 2 ^ 16) 0x0000ffff0000ffff

abbrev eight : ℕ → ℕ
eight n = n * 42949672960001 % 2 ^ 64 / 2 ^ 32

-- the three steps on eight digits
eight-word_of : (a b c d e f g h : ℕ) → let ds = a ∷ b ∷ c ∷ d ∷ e ∷ f ∷ g ∷ h ∷ [] in AllBelowBase 10 ds
    → eight (fours (twos (word_of 8 ds))) ≡ number_from_digits 10 ds
eight-word_of a b c d e f g h digits =
    let ones = a ∷ b ∷ c ∷ d ∷ e ∷ f ∷ g ∷ h ∷ [] in
    let pairs = paired 10 ones in
    let quads = paired 100 pairs in
    let at_twos = joined-wrapped 56 8 10 ones (lit≤ tt) (lit< tt) (search arith) (lit< tt) in
    let at_fours = joined-wrapped 48 16 100 pairs (lit≤ tt) (lit< tt) (search arith) (lit< tt) in
    let at_eight = joined-wrapped 32 32 10000 quads (lit≤ tt) (lit< tt) (search arith) (lit< tt) in
    let small : eight (word_of 32 quads) < 2 ^ 32 = omega arith in
    let masked = and_mask (eight (word_of 32 quads)) 32 ∙ mod-eq_of_lt small in
    ap (λ w. eight (fours w)) at_twos ∙ ap eight at_fours ∙ sym masked ∙ at_eight ∙ omega arith

pub returns : goal.returns
returns c =
    ap (λ n. eight (fours (twos n))) (sym (word_of-to_le_bytes c.args.word (omega arith))) ∙ eight-word_of _ _ _ _ _ _ _ _ c.requires
