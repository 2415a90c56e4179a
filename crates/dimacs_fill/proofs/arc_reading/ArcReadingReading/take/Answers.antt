use Rattle.std.proofs.Common.{◌∙◌, sym}
use Rattle.dimacs_fill.specs.inside.Columns.{columns}
use Rattle.dimacs_fill.proofs.{ArcReadingLemmas.{no_arc, one_arc}, ColumnLemmas.{later_twice}}
use Rattle.dimacs_fill.proofs.arc_reading.ArcReadingReading.take.Goals as goal

pub returns-in-Some-clause-taken : goal.returns-in-Some-clause-taken
returns-in-Some-clause-taken g c = λ rs stands before.
    (rw c.put.ensures.counted (c.in_ok-take.ensures.taken rs stands.0 before), rw (one_arc rs c.args.line c.args.rec c.in-Some.arc (sym c.arc_in.ensures ∙ c.in-Some.is)) (c.put.ensures.hold _ stands.1))

pub returns-in-Some-clause-kept : goal.returns-in-Some-clause-kept
returns-in-Some-clause-kept g c = λ value later. later_twice (columns c.args.self.now) (columns c.put.new.self) (columns value.1) c.put.ensures.later later

pub returns-in_default-clause-taken : goal.returns-in_default-clause-taken
returns-in_default-clause-taken g c = λ rs stands before.
    (c.in_ok-take.ensures.taken rs stands.0 before, rw (no_arc rs c.args.line c.args.rec (sym c.arc_in.ensures ∙ c.in_default.is)) stands.1)
