use Rattle.std.proofs.Common.{[], ◌∷◌, refl, lit<}
use Rattle.std.specs.Prelude.{codes}
use Rattle.dimacs_records.specs.{declared.kinds.TextKind.TheVariants.{Queries}, Forms.{Id, form}}
use Rattle.dimacs_records.specs.declared.records.Record.TheVariants.{PairQuery}
use Rattle.dimacs_records.proofs.PlainRecords.{pair_stands, plain_spells}
use Rattle.dimacs_records.proofs.plain.pair_line.Goals as goal

pub returns : goal.returns
returns c =
    let start = c.in_ok-numbers.ensures.left in
    let from = c.in_ok-from in
    let to = c.in_ok-to in
    rw c.at-size.ensures
    (plain_spells Queries (form (codes "q") (Id ∷ Id ∷ [])) _ 113 c.id-2.new.self.at (PairQuery from.from to.to) (2, lit< tt, refl) refl refl refl refl
    (pair_stands _ 113 from.from to.to c.id.new.self.at c.id-2.new.self.at c.in_ok-numbers.ensures.begins
    (rw start at from.ensures.stands) from.ensures.range (rw (from.ensures.bytes, start) at to.ensures.stands) to.ensures.range))
