use Rattle.dimacs_records.proofs.PlainRecords.{node_stands}
use Rattle.dimacs_records.proofs.plain.lone_node.Goals as goal

pub returns : goal.returns
returns c =
    let id = c.in_ok-id in
    rw c.at-size.ensures
    (node_stands c.args.bytes.now c.args.letter id.id c.id.new.self.at c.in_ok-numbers.ensures.begins (rw c.in_ok-numbers.ensures.left at id.ensures.stands) id.ensures.range)
