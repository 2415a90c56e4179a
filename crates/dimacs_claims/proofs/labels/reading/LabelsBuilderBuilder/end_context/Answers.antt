use Rattle.std.proofs.Common.{ap, refl}
use Rattle.dimacs_claims.specs.{LabelsReading.{LabelsBegun}, inside.LabelsReading.{AreLabelsBegun}}
use Rattle.dimacs_claims.proofs.{BuilderLemmas.{end_context_by_records}, LabelRecords.{short_by_records}}
use Rattle.dimacs_claims.proofs.labels.reading.LabelsBuilderBuilder.end_context.Goals as goal

pub returns-clause-context : goal.returns-clause-context
returns-clause-context c =
    let are : AreLabelsBegun c.args.self.now = rw c.self.view_is at c.self.invariant.0 in
    rw (c.plain_context.ensures, ap (λ (t : LabelsBegun). t.missing) c.self.view_is, ← short_by_records c.args.self.now are.none_lack) refl

pub returns-clause-of_records : goal.returns-clause-of_records
returns-clause-of_records c = λ rs h.
    let are : AreLabelsBegun c.args.self.now = rw c.self.view_is at c.self.invariant.0 in
    rw (h, c.plain_context.ensures, ap (λ (t : LabelsBegun). t.missing) c.self.view_is, ← short_by_records c.args.self.now are.none_lack) (end_context_by_records c.args.self.now)
