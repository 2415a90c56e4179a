use Rattle.std.proofs.Common.{◌++◌, take, map}
use Rattle.std.specs.List.{flat_map}
use Rattle.dimacs_lines.specs.OutputBuffers.{Appends}
use Rattle.dimacs_records.specs.Printed.{after_blank, printed}
use Rattle.dimacs_records.proofs.printed.write_line.Given as goal

-- the word and the fields so far were written
abbrev pub invariant-loop-part : goal.invariant-loop-part
invariant-loop-part g l =
    Appends (l.word ++ flat_map after_blank (map printed (take l.part-index l.parts))) (g.S.Sink.seen l.fn.sink) l.fn.output (g.S.Sink.seen l.sink) l.output
