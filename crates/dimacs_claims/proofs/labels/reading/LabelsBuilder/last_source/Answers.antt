use Rattle.std.proofs.Common.{◌≡◌, ◌++◌, ◌∷◌, [], ap, sym, ◌∙◌}
use Rattle.dimacs_claims.specs.{Labels.{BlockValue}, LabelsReading.{LabelsBegun}}
use Rattle.dimacs_claims.proofs.{BuilderLemmas.{last_got}, LabelRecords.{push_same}}
use Rattle.dimacs_claims.proofs.labels.reading.LabelsBuilder.last_source.Goals as goal

pub returns-in-Some-clause-last : goal.returns-in-Some-clause-last
returns-in-Some-clause-last c = λ front b is.
    let last = c.in-Some.block.now in
    let got = last_got _ last c.in-Some.ensures.value in
    let at : c.args.self.now.blocks ≡ got.0 ++ last ∷ [] = ap (λ (t : LabelsBegun). t.blocks) (sym c.self.view_is) ∙ (sym c.deref.ensures.value ∙ got.1) in
    c.source.ensures ∙ ap (λ (x : BlockValue). x.source) (push_same got.0 front last b (sym at ∙ is))
