use Rattle.std.proofs.{Common.{◌≤◌, ◌++◌, ◌∷◌, [], suc, length, arith, SFits, w64}, lemmas.Fmt.{length-decimal-le}}
use Rattle.std.proofs.{lemmas.Int.{to_z-of_z}, lemmas.List.{length-append}}
use Rattle.std.specs.{Prelude.{ℤ, pos, negsuc}, Fmt.{decimal, signed_decimal}}
use Rattle.dimacs_lines.proofs.output_buffer.OutputBuffer.append_field.Goals as goal

-- a 64-bit number has at most 20 bytes, with its sign
length-signed : (n : ℤ) → SFits w64 n → length (signed_decimal n) ≤ 20
length-signed (pos n) fits = let few : length (decimal n) ≤ 19 = length-decimal-le 19 n (omega arith) (omega arith) (omega (arith, fits.sfits)) in omega (arith, few)
length-signed (negsuc n) fits = let few : length (decimal (suc n)) ≤ 19 = length-decimal-le 19 (suc n) (omega arith) (omega arith) (omega (arith, fits.sfits)) in omega (arith, few)

pub returns-clause-short : goal.returns-clause-short
returns-clause-short c =
    let n = c.args.n in
    let before = c.args.self.now.kept in
    rw (c.append_number.ensures.appended, c.append.ensures.appended, to_z-of_z w64 n c.ranges.n)
    (omega (arith, length-append before (32 ∷ []), length-append (before ++ 32 ∷ []) (signed_decimal n), length-signed n c.ranges.n))
