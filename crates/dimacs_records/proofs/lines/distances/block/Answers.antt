use Rattle.std.proofs.Common.{refl, [], ◌∷◌}
use Rattle.std.specs.Prelude.{codes}
use Rattle.dimacs_records.specs.{declared.kinds.TextKind.TheVariants.{Distances}, Forms.{Count, Id}}
use Rattle.dimacs_records.specs.declared.records.Record.TheVariants.{DistancesBlock}
use Rattle.dimacs_records.proofs.FormLemmas.{reads_form}
use Rattle.dimacs_records.proofs.lines.distances.block.Goals as goal

pub returns : goal.returns
returns c =
    let r = DistancesBlock c.id-source.result c.count-count.result in
    reads_form Distances (codes "t") (Id ∷ Count ∷ []) c.args.fields c.count-count.new.self r c.finish.result refl refl c.requires
    (c.id-source.new.self, c.id-source.ensures, (c.count-count.new.self, c.count-count.ensures, refl)) c.finish.ensures
