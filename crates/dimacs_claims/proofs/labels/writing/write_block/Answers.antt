use Rattle.std.proofs.{Common.{◌∷◌, [], length, map, take, arith, refl}, lemmas.Simd.{map-map}}
use Rattle.dimacs_records.specs.declared.records.Record.TheVariants.{LabelsBlock}
use Rattle.dimacs_records.proofs.WrittenLemmas.{all_items, line_after, lines_after, lines_of_items}
use Rattle.dimacs_claims.specs.{LabelTexts.{label_line, block_lines}, inside.Lines.{in_kind, line_in_kind}}
use Rattle.dimacs_claims.proofs.labels.writing.write_block.Goals as goal

pub returns : goal.returns
returns g c = λ start text h.
    let kind = c.args.kind in
    let block = c.args.block.now in
    let first = in_kind kind (LabelsBlock block.source (length block.labels) block.radius) in
    let n = c.len.result in
    lines_after start _ _ text (first ∷ []) (take n (map (line_in_kind kind) _)) (map (in_kind kind) (block_lines block)) (rw (all_items (line_in_kind kind) n _ c.len.ensures, c.labels-labels.ensures, ← map-map (in_kind kind) label_line block.labels) refl)
    (c.write_lines.ensures (λ i. take i (map (line_in_kind kind) _)) (lines_of_items (line_in_kind kind) _ n _ (omega (arith, c.len.ensures)) (λ i rec within e. e)) start _
    (line_after start _ _ text first (rw (c.in_kind.ensures, c.source-source.ensures, c.radius-radius.ensures, c.len-count.ensures, c.labels-labels.ensures) at (c.write_record.ensures start text h))))
