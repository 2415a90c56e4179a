use Rattle.std.proofs.{Common.{[], ◌∷◌, refl, rules, w64, lit<}, lemmas.Int.{to_z-of_z}}
use Rattle.std.specs.Prelude.{codes}
use Rattle.dimacs_records.specs.{declared.kinds.TextKind.TheVariants.{Min}, Forms.{Id, Whole, form}}
use Rattle.dimacs_records.specs.declared.records.Record.TheVariants.{MinArc}
use Rattle.dimacs_records.proofs.PlainRecords.{plain_spells, bounds_stand}
use Rattle.dimacs_records.proofs.plain.bounds_line.Goals as goal

pub returns : goal.returns
returns c =
    let start = c.in_ok-numbers.ensures.left in
    let tail = c.in_ok-tail in
    let head = c.in_ok-head in
    let low = c.in_ok-low in
    let cap = c.in_ok-cap in
    let cost = c.in_ok-cost in
    rw (to_z-of_z w64 low.low (search rules), to_z-of_z w64 cap.cap (search rules), to_z-of_z w64 cost.cost (search rules), c.at-size.ensures)
    (plain_spells Min (form (codes "a") (Id ∷ Id ∷ Whole ∷ Whole ∷ Whole ∷ [])) _ 97 c.whole.new.self.at (MinArc tail.tail head.head low.low cap.cap cost.cost) (2, lit< tt, refl) refl refl refl refl
    (bounds_stand _ tail.tail head.head c.id.new.self.at c.id-2.new.self.at c.size.new.self.at c.size-2.new.self.at c.whole.new.self.at low.low cap.cap cost.cost c.in_ok-numbers.ensures.begins
    (rw start at tail.ensures.stands) tail.ensures.range (rw (tail.ensures.bytes, start) at head.ensures.stands) head.ensures.range
    (rw (head.ensures.bytes, tail.ensures.bytes, start) at low.ensures.stands) (search rules)
    (rw (low.ensures.bytes, head.ensures.bytes, tail.ensures.bytes, start) at cap.ensures.stands) (search rules)
    (rw (cap.ensures.bytes, low.ensures.bytes, head.ensures.bytes, tail.ensures.bytes, start) at cost.ensures.stands) (search rules)))
