use Rattle.std.proofs.Common.{subst, sym}
use Rattle.dimacs_lines.specs.Fields.{AreFields}
use Rattle.dimacs_lines.proofs.FieldLaw.{are_fields}
use Rattle.dimacs_lines.proofs.split.fields.Goals as goal

pub returns-clause-maximal_runs : goal.returns-clause-maximal_runs
returns-clause-maximal_runs c = subst (AreFields c.args.line.now) (sym c.new.ensures) (are_fields c.args.line.now)
