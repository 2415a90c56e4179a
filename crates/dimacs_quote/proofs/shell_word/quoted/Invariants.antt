use Rattle.std.proofs.Common.{take}
use Rattle.dimacs_quote.proofs.WordLemmas.{Open}
use Rattle.dimacs_quote.proofs.shell_word.quoted.Given as goal

abbrev pub invariant-loop-byte : goal.invariant-loop-byte
invariant-loop-byte l = Open l.word.items (take l.byte-index l.path)
