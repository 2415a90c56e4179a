use Rattle.std.proofs.{Common.{◌≡◌, refl, [], ◌∷◌, rules}, lemmas.Int.{to_z-of_z}}
use Rattle.std.specs.{Int.{w128}, Prelude.{codes}}
use Rattle.dimacs_records.specs.{declared.kinds.TextKind.TheVariants.{Distances}, Forms.{Id, Wide}}
use Rattle.dimacs_records.specs.{declared.records.Record.TheVariants.{DistancesNode}, inside.FieldReader.{finished}}
use Rattle.dimacs_records.proofs.FormLemmas.{reads_form}
use Rattle.dimacs_records.proofs.lines.distances.node.Goals as goal

pub returns : goal.returns
returns c =
    let dist = c.wide-dist.result in
    let r = DistancesNode c.id-id.result dist in
    let finishes : c.finish.result ≡ finished c.wide-dist.new.self r = rw (to_z-of_z w128 dist (search rules)) at c.finish.ensures in
    reads_form Distances (codes "d") (Id ∷ Wide ∷ []) c.args.fields c.wide-dist.new.self r c.finish.result refl refl c.requires
    (c.id-id.new.self, c.id-id.ensures, (c.wide-dist.new.self, c.wide-dist.ensures, refl)) finishes
