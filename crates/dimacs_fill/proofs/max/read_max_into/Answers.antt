use Rattle.std.proofs.{Common.{◌≡◌, Err, refl, rules}, lemmas.Result.{err_from_is_err_and}}
use Rattle.dimacs_lines.specs.Lines.{lines}
use Rattle.dimacs_records.specs.declared.kinds.TextKind.TheVariants.{Max}
use Rattle.dimacs_instance.specs.{MaxFlows.{MaxValue}, MaxTexts.{GivesMax}, Summaries.{SumsUpMax}}
use Rattle.dimacs_instance.proofs.MaxTextLemmas.{max_faultless, one_max}
use Rattle.dimacs_fill.specs.inside.Columns.{columns}
use Rattle.dimacs_fill.proofs.ArcReadingLemmas.{max_given, max_into, refused, unread, whole_inner}
use Rattle.dimacs_fill.proofs.ColumnLemmas.{later_itself}
use Rattle.dimacs_fill.proofs.max.read_max_into.Goals as goal

pub returns-in_err-count-clause-reads : goal.returns-in_err-count-clause-reads
returns-in_err-count-clause-reads g c = λ text coming.
    let p = err_from_is_err_and c.from_residual.result c.from_residual.ensures.1 in
    rw (p.1, p.2) (Err c.in_err-count.field-0.0, refused Max GivesMax SumsUpMax (λ (v : MaxValue). v.arcs) max_faultless one_max max_given (λ rs v given. given.1.arcs_few) (lines text) c.in_err-count.field-0.0 (c.in_err-count.ensures.reads text coming), refl, tt)

pub returns-in_err-max-clause-reads : goal.returns-in_err-max-clause-reads
returns-in_err-max-clause-reads g c = λ text coming.
    let p = err_from_is_err_and c.from_residual-in_err-max.result c.from_residual-in_err-max.ensures.1 in
    let counted : c.counted-2-1.given.0 ≡ c.read_records.new.reading.counted.now = search rules in
    let ended = (rw counted at c.in_err-max.ensures.reads) (lines text) (whole_inner Max (lines text) c.in_ok-count.count _ _ (c.in_ok-count.ensures.reads text coming)) in
    rw (p.1, p.2) (Err c.in_err-max.field-0.0, unread Max GivesMax SumsUpMax (λ (v : MaxValue). v.arcs) max_faultless one_max max_given (λ rs v given. given.1.arcs_few) (lines text) c.in_err-max.field-0.0 ended, refl, tt)

pub returns-clause-reads : goal.returns-clause-reads
returns-clause-reads g c = λ text coming.
    let whole = c.in_ok-count.ensures.reads text coming in
    let counted : c.counted-2-1.given.0 ≡ c.read_records.new.reading.counted.now = search rules in
    let ended = (rw counted at c.in_ok-max.ensures.reads) (lines text) (whole_inner Max (lines text) c.in_ok-count.count _ _ whole) in
    let new = columns c.read_records.new.reading in
    let later = c.in_ok-count.ensures.kept (c.in_ok-max.max, c.read_records.new.reading) (later_itself new) in
    max_into text c.in_ok-count.count _ _ new later _ _ (search rules) (search rules) _ (search rules) c.in_ok-max.max whole ended
