use Rattle.std.proofs.Common.{take}
use Rattle.std.specs.List.{flat_map}
use Rattle.dimacs_lines.specs.OutputBuffers.{IsWritten}
use Rattle.dimacs_runs.specs.Verdicts.{answer_line}
use Rattle.dimacs_runs.proofs.verdict.put_answers.Given as goal

-- the lines of the answers so far were written
abbrev pub invariant-loop-answer : goal.invariant-loop-answer
invariant-loop-answer g l =
    IsWritten (g.K.Sink.seen l.fn.sink) (flat_map answer_line (take l.answer-index l.answers)) (g.K.Sink.seen l.sink) l.output
