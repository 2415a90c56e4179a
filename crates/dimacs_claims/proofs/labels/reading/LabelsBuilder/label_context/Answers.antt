use Rattle.std.proofs.{Common.{◌≡◌, ◌++◌, ◌∷◌, [], ap, rules, sym, ◌∙◌}, lemmas.Int.{to_z-of_z}}
use Rattle.std.specs.Int.{w128}
use Rattle.dimacs_claims.specs.LabelsReading.{LabelsBegun}
use Rattle.dimacs_claims.proofs.BuilderLemmas.{label_by_records, last_got}
use Rattle.dimacs_claims.proofs.labels.reading.LabelsBuilder.label_context.Goals as goal

pub returns : goal.returns
returns c =
    let begun = c.args.self.now in
    let l = c.args.label in
    let b = c.in-Some.block.now in
    let got = last_got _ b c.in-Some.ensures.value in
    let at : begun.blocks ≡ got.0 ++ b ∷ [] = ap (λ (t : LabelsBegun). t.blocks) (sym c.self.view_is) ∙ (sym c.deref.ensures.value ∙ got.1) in
    let source = sym c.source-source.ensures in
    let missing = ap (λ (t : LabelsBegun). t.missing) c.self.view_is in
    rw (c.plain_context-2.ensures, c.has_label.ensures got.0 b at source, c.has_label-2.ensures got.0 b at source, c.is_past.ensures, to_z-of_z w128 l.dist (search rules), missing) (label_by_records begun got.0 b at l)
