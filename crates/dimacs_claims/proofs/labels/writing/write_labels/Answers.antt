use Rattle.std.proofs.{Common.{ap, subst}, lemmas.List.{map-id}}
use Rattle.dimacs_lines.specs.Puts.{Puts}
use Rattle.dimacs_records.proofs.ReadLaws.{spells_one_value}
use Rattle.dimacs_records.specs.Canonical.{canonical_text}
use Rattle.dimacs_claims.specs.LabelTexts.{canonical_labels, label_records}
use Rattle.dimacs_claims.proofs.LabelLaws.{labels_round_trip, one_labels}
use Rattle.dimacs_claims.proofs.labels.writing.write_labels.Goals as goal

pub returns-clause-puts : goal.returns-clause-puts
returns-clause-puts g c =
    subst (λ rs. Puts c.write_in_kind.result (g.S.Sink.seen c.args.sink.now) (canonical_text rs) (g.S.Sink.seen c.write_in_kind.new.sink)) (map-id (label_records c.args.labels.now)) c.write_in_kind.ensures.puts

pub returns-clause-round_trip : goal.returns-clause-round_trip
returns-clause-round_trip g c = labels_round_trip c.args.labels.now c.write_in_kind.ensures.lawful

pub returns-clause-same_text : goal.returns-clause-same_text
returns-clause-same_text g c = λ few read spelled. ap canonical_labels (spells_one_value _ _ _ read _ one_labels spelled (labels_round_trip _ c.write_in_kind.ensures.lawful few))
