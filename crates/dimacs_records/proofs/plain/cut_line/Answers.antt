use Rattle.std.proofs.Common.{[], ◌∷◌, refl, lit<}
use Rattle.std.specs.Prelude.{codes}
use Rattle.dimacs_records.specs.{declared.kinds.TextKind.TheVariants.{Cut}, Forms.{Id, form}}
use Rattle.dimacs_records.specs.declared.records.Record.TheVariants.{CutNode}
use Rattle.dimacs_records.proofs.PlainRecords.{plain_spells}
use Rattle.dimacs_records.proofs.plain.cut_line.Goals as goal

pub returns : goal.returns
returns c =
    plain_spells Cut (form (codes "u") (Id ∷ [])) c.args.bytes.now 117 c.in_ok-size.field-0.size (CutNode c.in_ok-size.field-0.id) (1, lit< tt, refl) refl refl refl refl c.in_ok-size.ensures
