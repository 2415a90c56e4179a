use Rattle.std.proofs.{Common.{◌≡◌, refl, [], ◌∷◌, rules, w64}, lemmas.Int.{to_z-of_z}}
use Rattle.std.specs.Prelude.{codes}
use Rattle.dimacs_records.specs.{declared.kinds.TextKind.TheVariants.{Graph}, Forms.{Id, Whole}}
use Rattle.dimacs_records.specs.{declared.records.Record.TheVariants.{GraphArc}, inside.FieldReader.{finished}}
use Rattle.dimacs_records.proofs.FormLemmas.{reads_form}
use Rattle.dimacs_records.proofs.lines.graph.arc.Goals as goal

pub returns : goal.returns
returns c =
    let weight = c.whole-weight.result in
    let r = GraphArc c.id-tail.result c.id-head.result weight in
    let finishes : c.finish.result ≡ finished c.whole-weight.new.self r = rw (to_z-of_z w64 weight (search rules)) at c.finish.ensures in
    reads_form Graph (codes "a") (Id ∷ Id ∷ Whole ∷ []) c.args.fields c.whole-weight.new.self r c.finish.result refl refl c.requires
    (c.id-tail.new.self, c.id-tail.ensures, (c.id-head.new.self, c.id-head.ensures, (c.whole-weight.new.self, c.whole-weight.ensures, refl))) finishes
