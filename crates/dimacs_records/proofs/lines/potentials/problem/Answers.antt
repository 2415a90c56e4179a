use Rattle.std.proofs.Common.{refl, [], ◌∷◌}
use Rattle.std.specs.Prelude.{codes}
use Rattle.dimacs_records.specs.{declared.kinds.TextKind.TheVariants.{Potentials}, Forms.{Word, Nodes, Count}}
use Rattle.dimacs_records.specs.declared.records.Record.TheVariants.{PotentialsProblem}
use Rattle.dimacs_records.proofs.FormLemmas.{reads_form}
use Rattle.dimacs_records.proofs.lines.potentials.problem.Goals as goal

pub returns : goal.returns
returns c =
    let r = PotentialsProblem c.nodes-nodes.result c.count-count.result in
    reads_form Potentials (codes "p") (Word (codes "pot") ∷ Nodes ∷ Count ∷ []) c.args.fields c.count-count.new.self r c.finish.result refl refl c.requires
    (c.word.new.self, c.word.ensures, (c.nodes-nodes.new.self, c.nodes-nodes.ensures, (c.count-count.new.self, c.count-count.ensures, refl))) c.finish.ensures
