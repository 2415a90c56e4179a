use Rattle.std.proofs.Common.{◌≡◌, ◌∷◌, map, ap, sym, ◌∙◌, subst}
use Rattle.dimacs_lines.specs.{Fields.{fields_of}, FieldViews.{view_field}}
use Rattle.dimacs_records.specs.{Spelling.{texts_in}, inside.FieldReader.{text_of_run, texts_left}}
use Rattle.dimacs_records.specs.LineReader.{ReadsLine}
use Rattle.dimacs_records.proofs.LineLemmas.{reads_line}
use Rattle.dimacs_records.proofs.lines.record.Goals as goal

pub returns : goal.returns
returns c =
    let letter = c.in-Some.first.field.text.now in
    let runs : fields_of c.args.line.now ≡ view_field c.in-Some.first.field ∷ c.new.result.scan = sym c.new-scan.ensures ∙ (c.in-Some.ensures.some ∙ ap (λ left. view_field c.in-Some.first.field ∷ left) (sym c.new.ensures.fields)) in
    let texts : texts_in c.args.line.now ≡ letter ∷ texts_left c.new.result = ap (map text_of_run) runs in
    subst (λ t. ReadsLine c.args.kind t c.letter_record.result) (sym texts) (reads_line c.args.kind letter (texts_left c.new.result) c.letter_record.result (sym c.if-is_comment.ensures) c.letter_record.ensures)
