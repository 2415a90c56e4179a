use Rattle.std.proofs.{Common.{[], ◌∷◌, refl, rules, w64, lit<}, lemmas.Int.{to_z-of_z}}
use Rattle.std.specs.{Prelude.{codes}, Int.{w128}}
use Rattle.dimacs_records.specs.{declared.kinds.TextKind.TheVariants.{Distances}, Forms.{Id, Wide, form}}
use Rattle.dimacs_records.specs.declared.records.Record.TheVariants.{DistancesNode}
use Rattle.dimacs_records.proofs.PlainRecords.{plain_spells, value_widened}
use Rattle.dimacs_records.proofs.plain.distances_line.Goals as goal

pub returns : goal.returns
returns c =
    let line = c.in_ok-size.field-0 in
    let value = c.from.result in
    rw (to_z-of_z w128 value (search rules), c.from.ensures, to_z-of_z w64 line.number (search rules))
    (plain_spells Distances (form (codes "d") (Id ∷ Wide ∷ [])) c.args.bytes.now 100 line.size (DistancesNode line.id line.number) (2, lit< tt, refl) refl refl refl refl (value_widened c.args.bytes.now 100 line.id line.number line.size c.in_ok-size.ensures))
