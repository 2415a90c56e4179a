use Rattle.std.proofs.{Common.{ap, length, ◌∙◌}, lemmas.List.{length-map}}
use Rattle.dimacs_lines.specs.Lines.{lines}
use Rattle.dimacs_records.specs.declared.kinds.TextKind.TheVariants.{Distances}
use Rattle.dimacs_claims.specs.{DistanceTexts.{GivesDistances, bare}, LabelTexts.{label_records}}
use Rattle.dimacs_claims.proofs.LabelLaws.{fit_read}
use Rattle.dimacs_claims.proofs.distances.read_distances.Goals as goal

pub returns-clause-fits : goal.returns-clause-fits
returns-clause-fits g c = λ text coming. fit_read Distances GivesDistances (λ rs d given. ap length given.0 ∙ length-map (label_records d) bare) (lines text) c.read_counted.result (c.read_counted.ensures.reads text coming)
