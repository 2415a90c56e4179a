use Rattle.std.proofs.Common.{refl, [], ◌∷◌}
use Rattle.std.specs.Prelude.{codes}
use Rattle.dimacs_records.specs.{declared.kinds.TextKind.TheVariants.{Cut}, Forms.{Id}}
use Rattle.dimacs_records.specs.declared.records.Record.TheVariants.{CutNode}
use Rattle.dimacs_records.proofs.FormLemmas.{reads_form}
use Rattle.dimacs_records.proofs.lines.cut.node.Goals as goal

pub returns : goal.returns
returns c =
    let r = CutNode c.id-id.result in
    reads_form Cut (codes "u") (Id ∷ []) c.args.fields c.id-id.new.self r c.finish.result refl refl c.requires
    (c.id-id.new.self, c.id-id.ensures, refl) c.finish.ensures
