use Rattle.std.proofs.{Common.{◌≡◌, refl, [], ◌∷◌, rules, w64}, lemmas.Int.{to_z-of_z}}
use Rattle.std.specs.Prelude.{codes}
use Rattle.dimacs_records.specs.{declared.kinds.TextKind.TheVariants.{Min}, Forms.{Id, Whole}}
use Rattle.dimacs_records.specs.{declared.records.Record.TheVariants.{MinNode}, inside.FieldReader.{finished}}
use Rattle.dimacs_records.proofs.FormLemmas.{reads_form}
use Rattle.dimacs_records.proofs.lines.min.node.Goals as goal

pub returns : goal.returns
returns c =
    let supply = c.whole-supply.result in
    let r = MinNode c.id-id.result supply in
    let finishes : c.finish.result ≡ finished c.whole-supply.new.self r = rw (to_z-of_z w64 supply (search rules)) at c.finish.ensures in
    reads_form Min (codes "n") (Id ∷ Whole ∷ []) c.args.fields c.whole-supply.new.self r c.finish.result refl refl c.requires
    (c.id-id.new.self, c.id-id.ensures, (c.whole-supply.new.self, c.whole-supply.ensures, refl)) finishes
