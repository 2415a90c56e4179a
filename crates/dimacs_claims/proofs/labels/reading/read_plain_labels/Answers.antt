use Rattle.std.proofs.Common.{ap, length}
use Rattle.dimacs_lines.specs.Lines.{lines}
use Rattle.dimacs_records.specs.declared.kinds.TextKind.TheVariants.{Labels}
use Rattle.dimacs_claims.specs.LabelTexts.{GivesLabels}
use Rattle.dimacs_claims.proofs.LabelLaws.{fit_read}
use Rattle.dimacs_claims.proofs.labels.reading.read_plain_labels.Goals as goal

pub returns-clause-fits : goal.returns-clause-fits
returns-clause-fits g c = λ text coming. fit_read Labels GivesLabels (λ rs labels given. ap length given.0) (lines text) c.read_counted.result (c.read_counted.ensures.reads text coming)
