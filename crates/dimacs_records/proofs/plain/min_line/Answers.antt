use Rattle.std.proofs.{Common.{[], ◌∷◌, refl, rules, w64, lit<}, lemmas.Int.{to_z-of_z}}
use Rattle.std.specs.Prelude.{codes}
use Rattle.dimacs_records.specs.{declared.kinds.TextKind.TheVariants.{Min}, Forms.{Id, Whole, form}}
use Rattle.dimacs_records.specs.declared.records.Record.TheVariants.{MinNode}
use Rattle.dimacs_records.proofs.PlainRecords.{plain_spells}
use Rattle.dimacs_records.proofs.plain.min_line.Goals as goal

pub returns : goal.returns
returns c =
    let line = c.in_ok-size.field-0 in
    rw (to_z-of_z w64 line.number (search rules))
    (plain_spells Min (form (codes "n") (Id ∷ Whole ∷ [])) c.args.bytes.now 110 line.size (MinNode line.id line.number) (1, lit< tt, refl) refl refl refl refl c.in_ok-size.ensures)
