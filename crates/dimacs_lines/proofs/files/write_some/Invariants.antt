use Rattle.std.specs.Io.KnownBytes.{Keeps}
use Rattle.dimacs_lines.proofs.files.write_some.Given as goal

-- an interrupted write leaves what was written
abbrev pub invariant-loop : goal.invariant-loop
invariant-loop g l = Keeps (g.W.Write.contents l.initial.writer) (g.W.Write.contents l.writer)
