use Rattle.std.proofs.Common.{Some, ap, codes, refl}
use Rattle.dimacs_records.specs.declared.kinds.TextKind.TheVariants.{Graph}
use Rattle.dimacs_instance.specs.Graph.{SpellsGraph}
use Rattle.dimacs_fill.specs.GraphFilled.{HoldGraph, ReadsGraphInto, graph_sizes}
use Rattle.dimacs_c.specs.{Calls.{handed}, Reading.{SetsGraph}}
use Rattle.dimacs_c.proofs.ReadLemmas.{arcs_memory, was_unread}
use Rattle.dimacs_c.proofs.read_instance.dimacs_read_graph.Goals as goal

pub returns-in-Err : goal.returns-in-Err
returns-in-Err c =
    let text = c.args.text.now in
    let reads = c.in-Err.ensures.reads text (ap Some c.new.ensures) in
    was_unread (ReadsGraphInto text (c.args.tails.now, c.read_graph_into.new.tails) (c.args.heads.now, c.read_graph_into.new.heads) (c.args.weights.now, c.read_graph_into.new.weights)) (SetsGraph 0 0) (codes "instance") c.in-Err.error reads
    (arcs_memory Graph text (SpellsGraph text) graph_sizes (HoldGraph (c.args.tails.now, c.read_graph_into.new.tails) (c.args.heads.now, c.read_graph_into.new.heads) (c.args.weights.now, c.read_graph_into.new.weights)) c.in-Err.error reads) (refl, refl) (refl, refl)
    c.end_unread.result (handed c.args.out.now c.end_unread.new.out c.end_unread.new.needed) c.end_unread.ensures
