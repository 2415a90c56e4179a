use Rattle.std.proofs.Common.{rules}
use Rattle.dimacs_lines.proofs.scan.Token.wide.Goals as goal

-- written out, since what is tried without an answer takes longer
pub returns-in-Some : goal.returns-in-Some
returns-in-Some c = search rules
