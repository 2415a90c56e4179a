use Rattle.std.proofs.Common.{◌≡◌, ◌-◌, ◌++◌, ◌∙◌, ℕ, ap, arith, take, replicate, vec_len}
use Rattle.std.proofs.lemmas.List.{take-append-le, take_all}
use Rattle.dimacs_lines.proofs.reader.grow.Goals as goal

pub returns-clause-held_unchanged : goal.returns-clause-held_unchanged
returns-clause-held_unchanged c =
    let old = c.args.buffer.now.items in
    let zeros = replicate {A = ℕ} (c.min.result - vec_len c.args.buffer.now) 0 in
    let grown : c.resize.new.self.items ≡ take c.min.result old ++ zeros = c.in_ok-resize.ensures.items in
    ap (take c.args.held) (grown ∙ ap (λ xs. xs ++ zeros) (take_all c.min.result old (omega arith))) ∙ take-append-le c.args.held old zeros (omega arith)
