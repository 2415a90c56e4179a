use Rattle.std.proofs.Common.{refl, [], ◌∷◌}
use Rattle.std.specs.Prelude.{codes}
use Rattle.dimacs_records.specs.{declared.kinds.TextKind.TheVariants.{Min}, Forms.{Word, Nodes, Count}}
use Rattle.dimacs_records.specs.declared.records.Record.TheVariants.{MinProblem}
use Rattle.dimacs_records.proofs.FormLemmas.{reads_form}
use Rattle.dimacs_records.proofs.lines.min.problem.Goals as goal

pub returns : goal.returns
returns c =
    let r = MinProblem c.nodes-nodes.result c.count-arcs.result in
    reads_form Min (codes "p") (Word (codes "min") ∷ Nodes ∷ Count ∷ []) c.args.fields c.count-arcs.new.self r c.finish.result refl refl c.requires
    (c.word.new.self, c.word.ensures, (c.nodes-nodes.new.self, c.nodes-nodes.ensures, (c.count-arcs.new.self, c.count-arcs.ensures, refl))) c.finish.ensures
