use Rattle.std.proofs.Common.{take}
use Rattle.dimacs_quote.proofs.WordLemmas.{Begins}
use Rattle.dimacs_quote.proofs.shell_word.format_of.Given as goal

abbrev pub invariant-loop-byte : goal.invariant-loop-byte
invariant-loop-byte l = Begins l.format.items (take l.byte-index l.path)
