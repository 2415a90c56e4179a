use Rattle.std.proofs.Common.{ap, subst}
use Rattle.dimacs_records.proofs.ReadLaws.{spells_one_value}
use Rattle.dimacs_claims.specs.{DistanceTexts.{canonical_distances}, Labels.{AreLabels}}
use Rattle.dimacs_claims.proofs.DistanceLaws.{distances_round_trip, one_distances}
use Rattle.dimacs_claims.proofs.distances.write_distances.Goals as goal

pub returns-clause-round_trip : goal.returns-clause-round_trip
returns-clause-round_trip g c =
    let are : AreLabels c.args.distances.now = subst AreLabels c.labels.ensures.labels c.write_in_kind.ensures.lawful in
    distances_round_trip c.args.distances.now are c.labels.ensures.bare

pub returns-clause-same_text : goal.returns-clause-same_text
returns-clause-same_text g c = λ few read spelled.
    let are : AreLabels c.args.distances.now = subst AreLabels c.labels.ensures.labels c.write_in_kind.ensures.lawful in
    ap canonical_distances (spells_one_value _ _ _ read _ one_distances spelled (distances_round_trip _ are c.labels.ensures.bare few))
