use Rattle.std.proofs.Common.{◌<◌, ◌+◌, ◌^◌, ap, sym, subst, ◌∙◌, arith, eqb-true, eq-eqb, w64}
use Rattle.std.specs.Int.{to_le_bytes}
use Rattle.dimacs_lines.proofs.{Lanes.{word_of-to_le_bytes}, Marks.{carries, carries-none, carry_fits}}
use Rattle.dimacs_lines.proofs.digits.are_digits.Goals as goal

pub overflow_add-result : goal.overflow_add-result
overflow_add-result c =
    let word = c.args.word in
    let whole = word_of-to_le_bytes word (omega arith) in
    let small : word + 0x0606060606060606 < 2 ^ 64 = subst (λ n. n + 0x0606060606060606 < 2 ^ 64) whole (carry_fits (to_le_bytes w64 word) c.requires) in
    omega (arith, small)

pub returns : goal.returns
returns c =
    let whole = ap (carries 8) (word_of-to_le_bytes _ (omega arith)) in
    let is = carries-none (to_le_bytes w64 _) c.requires in
    (λ yes. is.0 (whole ∙ eqb-true _ _ yes), λ all. eq-eqb _ _ (sym whole ∙ is.1 all))
