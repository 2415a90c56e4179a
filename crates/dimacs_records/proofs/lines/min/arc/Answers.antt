use Rattle.std.proofs.{Common.{◌≡◌, refl, [], ◌∷◌, rules, w64}, lemmas.Int.{to_z-of_z}}
use Rattle.std.specs.Prelude.{codes}
use Rattle.dimacs_records.specs.{declared.kinds.TextKind.TheVariants.{Min}, Forms.{Id, Whole}}
use Rattle.dimacs_records.specs.{declared.records.Record.TheVariants.{MinArc}, inside.FieldReader.{finished}}
use Rattle.dimacs_records.proofs.FormLemmas.{reads_form}
use Rattle.dimacs_records.proofs.lines.min.arc.Goals as goal

pub returns : goal.returns
returns c =
    let low = c.whole-low.result in
    let cap = c.whole-cap.result in
    let cost = c.whole-cost.result in
    let r = MinArc c.id-tail.result c.id-head.result low cap cost in
    let finishes : c.finish.result ≡ finished c.whole-cost.new.self r = rw (to_z-of_z w64 low (search rules), to_z-of_z w64 cap (search rules), to_z-of_z w64 cost (search rules)) at c.finish.ensures in
    reads_form Min (codes "a") (Id ∷ Id ∷ Whole ∷ Whole ∷ Whole ∷ []) c.args.fields c.whole-cost.new.self r c.finish.result refl refl c.requires
    (c.id-tail.new.self, c.id-tail.ensures, (c.id-head.new.self, c.id-head.ensures, (c.whole-low.new.self, c.whole-low.ensures, (c.whole-cap.new.self, c.whole-cap.ensures, (c.whole-cost.new.self, c.whole-cost.ensures, refl))))) finishes
