use Rattle.std.proofs.{Common.{◌≤◌, length, arith, ◌∷◌, []}, lemmas.Fmt.{length-decimal-le}}
use Rattle.std.proofs.lemmas.List.{length-append}
use Rattle.std.specs.Fmt.{decimal}
use Rattle.dimacs_lines.proofs.output_buffer.OutputBuffer.append_number.Goals.{then-n-lt0, else-n-lt0}
use Rattle.dimacs_lines.proofs.output_buffer.OutputBuffer.append_number.Goals as goal

pub append_digits-requires : goal.append_digits-requires
append_digits-requires c =
    let long : length (decimal c.unsigned_abs.result) ≤ 19 = length-decimal-le 19 c.unsigned_abs.result (omega arith) (omega arith) (omega arith) in
    elim c.if-n-lt0.branch [
      | then-n-lt0 w ↦ rw (w.self-is, w.append.ensures.appended, length-append c.args.self.now.kept (45 ∷ [])) (omega (arith, long, c.requires))
      | else-n-lt0 w ↦ rw w.self-is (omega (arith, long, c.requires))
    ]
