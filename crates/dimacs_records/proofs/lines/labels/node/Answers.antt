use Rattle.std.proofs.{Common.{◌≡◌, refl, [], ◌∷◌, rules}, lemmas.Int.{to_z-of_z}}
use Rattle.std.specs.{Int.{w128}, Prelude.{codes}}
use Rattle.dimacs_records.specs.{declared.kinds.TextKind.TheVariants.{Labels}, Forms.{Id, Wide}}
use Rattle.dimacs_records.specs.{declared.records.Record.TheVariants.{LabelsNode}, inside.FieldReader.{finished}}
use Rattle.dimacs_records.proofs.FormLemmas.{reads_form}
use Rattle.dimacs_records.proofs.lines.labels.node.Goals as goal

pub returns : goal.returns
returns c =
    let dist = c.wide-dist.result in
    let r = LabelsNode c.id-id.result dist c.id-pred.result in
    let finishes : c.finish.result ≡ finished c.id-pred.new.self r = rw (to_z-of_z w128 dist (search rules)) at c.finish.ensures in
    reads_form Labels (codes "d") (Id ∷ Wide ∷ Id ∷ []) c.args.fields c.id-pred.new.self r c.finish.result refl refl c.requires
    (c.id-id.new.self, c.id-id.ensures, (c.wide-dist.new.self, c.wide-dist.ensures, (c.id-pred.new.self, c.id-pred.ensures, refl))) finishes
