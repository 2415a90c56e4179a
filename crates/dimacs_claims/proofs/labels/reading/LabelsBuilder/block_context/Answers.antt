use Rattle.std.proofs.Common.{ap, sym, ◌∙◌, refl}
use Rattle.std.specs.List.{list_any}
use Rattle.dimacs_claims.specs.{Labels.{has_source}, LabelsReading.{LabelsBegun}}
use Rattle.dimacs_claims.proofs.BuilderLemmas.{source_by_records}
use Rattle.dimacs_claims.proofs.labels.reading.LabelsBuilder.block_context.Goals as goal

pub returns : goal.returns
returns c = λ count radius.
    let source = c.args.source in
    let blocks = ap (λ (t : LabelsBegun). list_any (has_source source) t.blocks) c.self.view_is in
    rw (c.end_context.ensures.context, c.contains.ensures ∙ (c.self.invariant.1 source ∙ (blocks ∙ sym (source_by_records c.args.self.now source)))) refl
