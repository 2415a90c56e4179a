use Rattle.std.proofs.Common.{refl, [], ◌∷◌}
use Rattle.std.specs.Prelude.{codes}
use Rattle.dimacs_records.specs.{declared.kinds.TextKind.TheVariants.{Queries}, Forms.{Word, Either, Count}}
use Rattle.dimacs_records.specs.declared.records.Record.TheVariants.{QueriesProblem}
use Rattle.dimacs_records.proofs.FormLemmas.{reads_form}
use Rattle.dimacs_records.proofs.lines.queries.problem.Goals as goal

pub returns : goal.returns
returns c =
    let r = QueriesProblem c.query_kind-asks.result c.count-count.result in
    reads_form Queries (codes "p") (Word (codes "aux") ∷ Word (codes "sp") ∷ Either (codes "ss") (codes "p2p") ∷ Count ∷ []) c.args.fields c.count-count.new.self r c.finish.result refl refl c.requires
    (c.word.new.self, c.word.ensures, (c.word-2.new.self, c.word-2.ensures, (c.query_kind-asks.new.self, c.query_kind-asks.ensures, (c.count-count.new.self, c.count-count.ensures, refl)))) c.finish.ensures
