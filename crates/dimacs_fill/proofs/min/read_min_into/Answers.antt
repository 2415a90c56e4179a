use Rattle.std.proofs.{Common.{◌≡◌, ◌∙◌, Err, refl, rules}, lemmas.Result.{err_from_is_err_and}}
use Rattle.dimacs_lines.specs.Lines.{lines}
use Rattle.dimacs_records.specs.declared.kinds.TextKind.TheVariants.{Min}
use Rattle.dimacs_instance.specs.{MinFlows.{MinValue}, MinTexts.{GivesMin}, Summaries.{HasNodes}}
use Rattle.dimacs_instance.proofs.MinTextLemmas.{min_faultless, one_min}
use Rattle.dimacs_fill.specs.inside.Columns.{columns}
use Rattle.dimacs_fill.proofs.ArcReadingLemmas.{min_given, min_into, refused, unread, whole_inner}
use Rattle.dimacs_fill.proofs.ColumnLemmas.{later_itself}
use Rattle.dimacs_fill.proofs.min.read_min_into.Goals as goal

pub returns-in_err-count-clause-reads : goal.returns-in_err-count-clause-reads
returns-in_err-count-clause-reads g c = λ text coming.
    let p = err_from_is_err_and c.from_residual.result c.from_residual.ensures.1 in
    rw (p.1, p.2) (Err c.in_err-count.field-0.0, refused Min GivesMin HasNodes (λ (v : MinValue). v.arcs) min_faultless one_min min_given (λ rs v given. given.is_min.arcs_few) (lines text) c.in_err-count.field-0.0 (c.in_err-count.ensures.reads text coming), refl, tt)

pub returns-in_err-min-clause-reads : goal.returns-in_err-min-clause-reads
returns-in_err-min-clause-reads g c = λ text coming.
    let p = err_from_is_err_and c.from_residual-in_err-min.result c.from_residual-in_err-min.ensures.1 in
    let counted : c.counted-2-1.given.0 ≡ c.read_records.new.reading.counted.now = search rules in
    let ended = (rw counted at c.in_err-min.ensures.reads) (lines text) (whole_inner Min (lines text) c.in_ok-count.count _ _ (c.in_ok-count.ensures.reads text coming)) in
    rw (p.1, p.2) (Err c.in_err-min.field-0.0, unread Min GivesMin HasNodes (λ (v : MinValue). v.arcs) min_faultless one_min min_given (λ rs v given. given.is_min.arcs_few) (lines text) c.in_err-min.field-0.0 ended, refl, tt)

pub returns-clause-reads : goal.returns-clause-reads
returns-clause-reads g c = λ text coming.
    let whole = c.in_ok-count.ensures.reads text coming in
    let counted : c.counted-2-1.given.0 ≡ c.read_records.new.reading.counted.now = search rules in
    let ended = (rw counted at c.in_ok-min.ensures.reads) (lines text) (whole_inner Min (lines text) c.in_ok-count.count _ _ whole) in
    let new = columns c.read_records.new.reading in
    let later = c.in_ok-count.ensures.kept (c.in_ok-min.min, c.read_records.new.reading) (later_itself new) in
    min_into text c.in_ok-count.count _ _ new later _ _ (search rules) (search rules) _ _ _ _ _ (search rules) (search rules) (search rules) c.in_ok-min.min _ (c.nodes.ensures ∙ c.network.ensures.nodes) c.fill_supplies.ensures whole ended
