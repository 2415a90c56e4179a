use Rattle.std.proofs.{Common.{[], ◌∷◌, refl, rules, SFits, w64, lit<}, lemmas.Int.{to_z-of_z}}
use Rattle.std.specs.{Prelude.{codes}, Int.{w128}}
use Rattle.dimacs_records.specs.{declared.kinds.TextKind.TheVariants.{Labels}, Forms.{Id, Wide, form}}
use Rattle.dimacs_records.specs.declared.records.Record.TheVariants.{LabelsNode}
use Rattle.dimacs_records.proofs.PlainRecords.{plain_spells, label_stands}
use Rattle.dimacs_records.proofs.plain.labels_line.Goals as goal

pub returns : goal.returns
returns c =
    let bytes = c.args.bytes.now in
    let start = c.in_ok-numbers.ensures.left in
    let id = c.in_ok-id in
    let dist = c.in_ok-dist in
    let pred = c.in_ok-pred in
    let wide = c.from.result in
    let dist_fits : SFits w64 dist.dist = search rules in
    rw (to_z-of_z w128 wide (search rules), c.from.ensures, to_z-of_z w64 dist.dist dist_fits, c.at-size.ensures)
    (plain_spells Labels (form (codes "d") (Id ∷ Wide ∷ Id ∷ [])) bytes 100 c.id-2.new.self.at (LabelsNode id.id dist.dist pred.pred) (3, lit< tt, refl) refl refl refl refl
    (label_stands bytes id.id pred.pred c.id.new.self.at c.size.new.self.at c.id-2.new.self.at dist.dist c.in_ok-numbers.ensures.begins
    (rw start at id.ensures.stands) id.ensures.range (rw (id.ensures.bytes, start) at dist.ensures.stands) dist_fits
    (rw (dist.ensures.bytes, id.ensures.bytes, start) at pred.ensures.stands) pred.ensures.range))
