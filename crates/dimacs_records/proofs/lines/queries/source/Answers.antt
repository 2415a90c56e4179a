use Rattle.std.proofs.Common.{refl, [], ◌∷◌}
use Rattle.std.specs.Prelude.{codes}
use Rattle.dimacs_records.specs.{declared.kinds.TextKind.TheVariants.{Queries}, Forms.{Id}}
use Rattle.dimacs_records.specs.declared.records.Record.TheVariants.{SourceQuery}
use Rattle.dimacs_records.proofs.FormLemmas.{reads_form}
use Rattle.dimacs_records.proofs.lines.queries.source.Goals as goal

pub returns : goal.returns
returns c =
    let r = SourceQuery c.id-id.result in
    reads_form Queries (codes "s") (Id ∷ []) c.args.fields c.id-id.new.self r c.finish.result refl refl c.requires
    (c.id-id.new.self, c.id-id.ensures, refl) c.finish.ensures
