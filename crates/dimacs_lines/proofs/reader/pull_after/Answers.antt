use Rattle.std.proofs.Common.{ap, sym, ◌∙◌, arith}
use Rattle.dimacs_lines.specs.Devices.{before_piece}
use Rattle.dimacs_lines.proofs.PieceLemmas.{IfOk-both, take-drop-put_mid}
use Rattle.dimacs_lines.proofs.reader.pull_after.Goals as goal

pub returns-clause-given : goal.returns-clause-given
returns-clause-given g c =
    IfOk-both c.pull.result _ _ _ (λ count room given.
    given ∙ ap (λ piece. before_piece piece (g.S.Source.coming c.pull.new.self)) (sym (take-drop-put_mid c.args.buffer.now c.pull.new.into c.args.held _ count (omega arith) (omega (arith, room, c.pull.auto.into)))))
    c.pull.ensures.room c.pull.ensures.given
