use Rattle.std.proofs.{Common.{◌≡◌, refl, [], ◌∷◌, rules, w64}, lemmas.Int.{to_z-of_z}}
use Rattle.std.specs.Prelude.{codes}
use Rattle.dimacs_records.specs.{declared.kinds.TextKind.TheVariants.{Max}, Forms.{Id, Whole}}
use Rattle.dimacs_records.specs.{declared.records.Record.TheVariants.{MaxArc}, inside.FieldReader.{finished}}
use Rattle.dimacs_records.proofs.FormLemmas.{reads_form}
use Rattle.dimacs_records.proofs.lines.max.arc.Goals as goal

pub returns : goal.returns
returns c =
    let cap = c.whole-cap.result in
    let r = MaxArc c.id-tail.result c.id-head.result cap in
    let finishes : c.finish.result ≡ finished c.whole-cap.new.self r = rw (to_z-of_z w64 cap (search rules)) at c.finish.ensures in
    reads_form Max (codes "a") (Id ∷ Id ∷ Whole ∷ []) c.args.fields c.whole-cap.new.self r c.finish.result refl refl c.requires
    (c.id-tail.new.self, c.id-tail.ensures, (c.id-head.new.self, c.id-head.ensures, (c.whole-cap.new.self, c.whole-cap.ensures, refl))) finishes
