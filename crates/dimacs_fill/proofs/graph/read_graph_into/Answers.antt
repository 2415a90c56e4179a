use Rattle.std.proofs.{Common.{◌≡◌, Err, refl, rules}, lemmas.Result.{err_from_is_err_and}}
use Rattle.dimacs_lines.specs.Lines.{lines}
use Rattle.dimacs_records.specs.declared.kinds.TextKind.TheVariants.{Graph}
use Rattle.dimacs_network.specs.Arcs.{NetworkValue}
use Rattle.dimacs_instance.specs.{Graph.{GivesGraph}, Summaries.{SumsUpGraph}}
use Rattle.dimacs_instance.proofs.GraphLemmas.{graph_faultless, one_graph}
use Rattle.dimacs_fill.specs.inside.Columns.{columns}
use Rattle.dimacs_fill.proofs.ArcReadingLemmas.{graph_given, graph_into, refused, unread, whole_inner}
use Rattle.dimacs_fill.proofs.ColumnLemmas.{later_itself}
use Rattle.dimacs_fill.proofs.graph.read_graph_into.Goals as goal

pub returns-in_err-count-clause-reads : goal.returns-in_err-count-clause-reads
returns-in_err-count-clause-reads g c = λ text coming.
    let p = err_from_is_err_and c.from_residual.result c.from_residual.ensures.1 in
    rw (p.1, p.2) (Err c.in_err-count.field-0.0, refused Graph GivesGraph SumsUpGraph (λ (v : NetworkValue). v.arcs) graph_faultless one_graph graph_given (λ rs v given. given.1.arcs_few) (lines text) c.in_err-count.field-0.0 (c.in_err-count.ensures.reads text coming), refl, tt)

pub returns-in_err-graph-clause-reads : goal.returns-in_err-graph-clause-reads
returns-in_err-graph-clause-reads g c = λ text coming.
    let p = err_from_is_err_and c.from_residual-in_err-graph.result c.from_residual-in_err-graph.ensures.1 in
    let counted : c.counted-2-1.given.0 ≡ c.read_records.new.reading.counted.now = search rules in
    let ended = (rw counted at c.in_err-graph.ensures.reads) (lines text) (whole_inner Graph (lines text) c.in_ok-count.count _ _ (c.in_ok-count.ensures.reads text coming)) in
    rw (p.1, p.2) (Err c.in_err-graph.field-0.0, unread Graph GivesGraph SumsUpGraph (λ (v : NetworkValue). v.arcs) graph_faultless one_graph graph_given (λ rs v given. given.1.arcs_few) (lines text) c.in_err-graph.field-0.0 ended, refl, tt)

pub returns-clause-reads : goal.returns-clause-reads
returns-clause-reads g c = λ text coming.
    let whole = c.in_ok-count.ensures.reads text coming in
    let counted : c.counted-2-1.given.0 ≡ c.read_records.new.reading.counted.now = search rules in
    let ended = (rw counted at c.in_ok-graph.ensures.reads) (lines text) (whole_inner Graph (lines text) c.in_ok-count.count _ _ whole) in
    let new = columns c.read_records.new.reading in
    let later = c.in_ok-count.ensures.kept (c.in_ok-graph.graph, c.read_records.new.reading) (later_itself new) in
    graph_into text c.in_ok-count.count _ _ new later _ _ (search rules) (search rules) _ (search rules) c.in_ok-graph.graph whole ended
