use Rattle.std.proofs.Common.{[], ◌∷◌, refl, lit<}
use Rattle.std.specs.Prelude.{codes}
use Rattle.dimacs_records.specs.{declared.kinds.TextKind.TheVariants.{Queries}, Forms.{Id, form}}
use Rattle.dimacs_records.specs.declared.records.Record.TheVariants.{SourceQuery}
use Rattle.dimacs_records.proofs.PlainRecords.{plain_spells}
use Rattle.dimacs_records.proofs.plain.queries_line.Goals as goal

pub returns : goal.returns
returns c =
    plain_spells Queries (form (codes "s") (Id ∷ [])) c.args.bytes.now 115 c.in_ok-size.field-0.size (SourceQuery c.in_ok-size.field-0.id) (1, lit< tt, refl) refl refl refl refl c.in_ok-size.ensures
