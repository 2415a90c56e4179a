use Rattle.std.proofs.{Common.{rules, w64}, lemmas.Int.{to_z-of_z}}
use Rattle.dimacs_records.proofs.PlainRecords.{value_stands}
use Rattle.dimacs_records.proofs.plain.node_line.Goals as goal

pub returns : goal.returns
returns c =
    let start = c.in_ok-numbers.ensures.left in
    let id = c.in_ok-id in
    let number = c.in_ok-number in
    rw (to_z-of_z w64 number.number (search rules), c.at-size.ensures)
    (value_stands c.args.bytes.now c.args.letter id.id c.id.new.self.at c.whole.new.self.at number.number c.in_ok-numbers.ensures.begins
    (rw start at id.ensures.stands) id.ensures.range (rw (id.ensures.bytes, start) at number.ensures.stands) (search rules))
