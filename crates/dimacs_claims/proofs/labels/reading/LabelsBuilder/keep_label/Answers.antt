use Rattle.std.proofs.Common.{ap, ◌∙◌, ◌++◌, ◌∷◌, [], arith}
use Rattle.dimacs_claims.specs.{LabelTexts.{label_line}, LabelsReading.{LabelsBegun, labels_begun_records}}
use Rattle.dimacs_claims.proofs.BuilderLemmas.{begun_label, fits, labelled_again, labelled_more, passes_of, pushed_label, sources_stay, unlabelled}
use Rattle.dimacs_claims.proofs.labels.reading.LabelsBuilder.keep_label.Goals as goal

pub add_to_last-requires : goal.add_to_last-requires
add_to_last-requires c =
    let fit = fits c.args.self.now c.args.label c.requires.passes in
    (fit.front, fit.b, ap (λ (t : LabelsBegun). t.blocks) c.self.view_is ∙ fit.is, unlabelled _ fit.fresh)

pub overflow_sub-self : goal.overflow_sub-self
overflow_sub-self c =
    let fit = fits c.args.self.now c.args.label c.requires.passes in
    omega (arith, fit.lacks, ap (λ (t : LabelsBegun). t.missing) c.self.view_is)

pub invariant_of-self-in_default : goal.invariant_of-self-in_default
invariant_of-self-in_default c =
    let inside = c.self.inside in
    let begun : LabelsBegun = record { nodes = inside.nodes; declared = inside.declared; missing = inside.missing; blocks = inside.blocks.items } in
    let fit = fits begun _ (passes_of begun _ (label_line _) c.self.view_is c.requires.passes) in
    rw (c.in_default.ensures.unchanged, c.remove.ensures, c.in_ok-insert.ensures.inserted) (
      c.self.invariant.0,
      c.self.invariant.1,
      labelled_again inside.labelled begun.blocks fit.front fit.b c.args.label.id fit.is fit.fresh c.self.invariant.2,
    )

pub invariant_of-self-2 : goal.invariant_of-self-2
invariant_of-self-2 c =
    let inside = c.self.inside in
    let l = c.args.label in
    let begun : LabelsBegun = record { nodes = inside.nodes; declared = inside.declared; missing = inside.missing; blocks = inside.blocks.items } in
    let fit = fits begun l (passes_of begun _ (label_line l) c.self.view_is c.requires.passes) in
    rw (c.in-Ok.ensures.added fit.front fit.b fit.is, c.in_ok-insert.ensures.inserted) (
      begun_label begun l fit c.self.invariant.0 c.requires.id c.requires.pred c.requires.dist,
      sources_stay begun l fit inside.sources c.self.invariant.1,
      labelled_more inside.labelled begun.blocks fit.front fit.b l fit.is c.self.invariant.2,
    )

pub returns-clause-added : goal.returns-clause-added
returns-clause-added c =
    let inside = c.self.inside in
    let begun : LabelsBegun = record { nodes = inside.nodes; declared = inside.declared; missing = inside.missing; blocks = inside.blocks.items } in
    let fit = fits begun c.args.label (passes_of begun _ (label_line c.args.label) c.self.view_is c.requires.passes) in
    rw (c.in-Ok.ensures.added fit.front fit.b fit.is) (pushed_label begun c.args.label fit ∙ ap (λ t. labels_begun_records t ++ label_line c.args.label ∷ []) c.self.view_is)

pub returns-clause-last : goal.returns-clause-last
returns-clause-last c = λ front b is. c.in-Ok.ensures.added front b (ap (λ (t : LabelsBegun). t.blocks) c.self.view_is ∙ is)
