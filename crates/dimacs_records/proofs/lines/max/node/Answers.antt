use Rattle.std.proofs.Common.{refl, [], ◌∷◌}
use Rattle.std.specs.Prelude.{codes}
use Rattle.dimacs_records.specs.{declared.kinds.TextKind.TheVariants.{Max}, Forms.{Either, Id}}
use Rattle.dimacs_records.specs.declared.records.Record.TheVariants.{MaxNode}
use Rattle.dimacs_records.proofs.FormLemmas.{reads_form}
use Rattle.dimacs_records.proofs.lines.max.node.Goals as goal

pub returns : goal.returns
returns c =
    let r = MaxNode c.id-id.result c.end-end.result in
    reads_form Max (codes "n") (Id ∷ Either (codes "s") (codes "t") ∷ []) c.args.fields c.end-end.new.self r c.finish.result refl refl c.requires
    (c.id-id.new.self, c.id-id.ensures, (c.end-end.new.self, c.end-end.ensures, refl)) c.finish.ensures
