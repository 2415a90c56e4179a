use Rattle.std.proofs.Common.{refl, [], ◌∷◌}
use Rattle.std.specs.Prelude.{codes}
use Rattle.dimacs_records.specs.{declared.kinds.TextKind.TheVariants.{Distances}, Forms.{Word, Nodes, Count}}
use Rattle.dimacs_records.specs.declared.records.Record.TheVariants.{DistancesProblem}
use Rattle.dimacs_records.proofs.FormLemmas.{reads_form}
use Rattle.dimacs_records.proofs.lines.distances.problem.Goals as goal

pub returns : goal.returns
returns c =
    let r = DistancesProblem c.nodes-nodes.result c.count-blocks.result in
    reads_form Distances (codes "p") (Word (codes "distances") ∷ Nodes ∷ Count ∷ []) c.args.fields c.count-blocks.new.self r c.finish.result refl refl c.requires
    (c.word.new.self, c.word.ensures, (c.nodes-nodes.new.self, c.nodes-nodes.ensures, (c.count-blocks.new.self, c.count-blocks.ensures, refl))) c.finish.ensures
