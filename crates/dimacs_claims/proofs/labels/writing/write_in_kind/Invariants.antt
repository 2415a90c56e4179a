use Rattle.std.proofs.Common.{map, take, length, ◌∷◌}
use Rattle.std.specs.List.{flat_map}
use Rattle.dimacs_lines.specs.OutputBuffers.{IsWritten}
use Rattle.dimacs_records.specs.{declared.records.Record.TheVariants.{LabelsProblem}, Canonical.{canonical_text}}
use Rattle.dimacs_claims.specs.{inside.Lines.{in_kind}, LabelTexts.{block_lines}}
use Rattle.dimacs_claims.proofs.labels.writing.write_in_kind.Given as goal

-- the problem line and the blocks so far were written
abbrev pub invariant-loop-block : goal.invariant-loop-block
invariant-loop-block g l =
    IsWritten (g.S.Sink.seen l.fn.sink) (canonical_text (map (in_kind l.fn.kind) (LabelsProblem l.nodes (length l.blocks) ∷ flat_map block_lines (take l.block-index l.blocks)))) (g.S.Sink.seen l.sink) l.output
