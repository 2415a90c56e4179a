use Rattle.std.proofs.Common.{refl, [], ◌∷◌}
use Rattle.std.specs.Prelude.{codes}
use Rattle.dimacs_records.specs.{declared.kinds.TextKind.TheVariants.{Queries}, Forms.{Id}}
use Rattle.dimacs_records.specs.declared.records.Record.TheVariants.{PairQuery}
use Rattle.dimacs_records.proofs.FormLemmas.{reads_form}
use Rattle.dimacs_records.proofs.lines.queries.pair.Goals as goal

pub returns : goal.returns
returns c =
    let r = PairQuery c.id-from.result c.id-to.result in
    reads_form Queries (codes "q") (Id ∷ Id ∷ []) c.args.fields c.id-to.new.self r c.finish.result refl refl c.requires
    (c.id-from.new.self, c.id-from.ensures, (c.id-to.new.self, c.id-to.ensures, refl)) c.finish.ensures
