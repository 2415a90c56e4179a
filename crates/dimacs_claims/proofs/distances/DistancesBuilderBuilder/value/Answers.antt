use Rattle.std.proofs.Common.{subst, sym}
use Rattle.std.specs.Prelude.{◌≡◌, List}
use Rattle.dimacs_records.specs.Readings.{LineRecord, records_of}
use Rattle.dimacs_claims.specs.{DistanceTexts.{AreBare}, LabelTexts.{GivesLabels}}
use Rattle.dimacs_claims.specs.LabelsReading.{LabelsBegun, labels_begun_records}
use Rattle.dimacs_claims.proofs.DistanceStates.{gives_distances}
use Rattle.dimacs_claims.proofs.distances.DistancesBuilderBuilder.value.Goals as goal

pub returns : goal.returns
returns c =
    let labels = c.labels-labels.result in
    let gives = subst (λ (t : LabelsBegun). (rs : List LineRecord) → records_of rs ≡ labels_begun_records t → GivesLabels rs labels) c.self.view_is c.labels-labels.ensures.gives in
    gives_distances c.args.self labels gives (subst AreBare (sym c.labels-labels.ensures.labels) c.self.invariant)
