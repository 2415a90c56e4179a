use Rattle.std.proofs.{Common.{◌≡◌, refl, [], ◌∷◌, rules}, lemmas.Int.{to_z-of_z}}
use Rattle.std.specs.{Int.{w128}, Prelude.{codes}}
use Rattle.dimacs_records.specs.{declared.kinds.TextKind.TheVariants.{Solution}, Forms.{Wide}}
use Rattle.dimacs_records.specs.{declared.records.Record.TheVariants.{SolutionValue}, inside.FieldReader.{finished}}
use Rattle.dimacs_records.proofs.FormLemmas.{reads_form}
use Rattle.dimacs_records.proofs.lines.solution.value.Goals as goal

pub returns : goal.returns
returns c =
    let value = c.wide-value.result in
    let r = SolutionValue value in
    let finishes : c.finish.result ≡ finished c.wide-value.new.self r = rw (to_z-of_z w128 value (search rules)) at c.finish.ensures in
    reads_form Solution (codes "s") (Wide ∷ []) c.args.fields c.wide-value.new.self r c.finish.result refl refl c.requires
    (c.wide-value.new.self, c.wide-value.ensures, refl) finishes
