use Rattle.std.proofs.{Common.{◌≡◌, refl, [], ◌∷◌, rules, w64}, lemmas.Int.{to_z-of_z}}
use Rattle.std.specs.Prelude.{codes}
use Rattle.dimacs_records.specs.{declared.kinds.TextKind.TheVariants.{Solution}, Forms.{Id, Whole}}
use Rattle.dimacs_records.specs.{declared.records.Record.TheVariants.{SolutionEntry}, inside.FieldReader.{finished}}
use Rattle.dimacs_records.proofs.FormLemmas.{reads_form}
use Rattle.dimacs_records.proofs.lines.solution.entry.Goals as goal

pub returns : goal.returns
returns c =
    let flow = c.whole-flow.result in
    let r = SolutionEntry c.id-tail.result c.id-head.result flow in
    let finishes : c.finish.result ≡ finished c.whole-flow.new.self r = rw (to_z-of_z w64 flow (search rules)) at c.finish.ensures in
    reads_form Solution (codes "f") (Id ∷ Id ∷ Whole ∷ []) c.args.fields c.whole-flow.new.self r c.finish.result refl refl c.requires
    (c.id-tail.new.self, c.id-tail.ensures, (c.id-head.new.self, c.id-head.ensures, (c.whole-flow.new.self, c.whole-flow.ensures, refl))) finishes
