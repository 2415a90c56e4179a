use Rattle.std.proofs.Common.{◌∙◌}
use Rattle.dimacs_lines.proofs.TextLemmas.{unwrap_or-first_end}
use Rattle.dimacs_lines.proofs.reader.line_length.Goals as goal

pub returns-clause-length : goal.returns-clause-length
returns-clause-length c = c.unwrap_or.ensures ∙ unwrap_or-first_end c.args.bytes.now c.memchr.result c.memchr.ensures
