use Rattle.std.proofs.{Common.{◌≡◌, length, ap, refl, ◌∙◌, ◌++◌, ◌∷◌, [], arith}, lemmas.List.{length-append}}
use Rattle.dimacs_records.specs.declared.records.Record.TheVariants.{LabelsBlock}
use Rattle.dimacs_claims.specs.LabelsReading.{LabelsBegun, labels_begun_records}
use Rattle.dimacs_claims.proofs.LabelRecords.{are_sources_more}
use Rattle.dimacs_claims.proofs.BuilderLemmas.{begun_block, labelled_opened, passes_of, pushed_block, take_before}
use Rattle.dimacs_claims.proofs.labels.reading.LabelsBuilder.open.Goals as goal

pub invariant_of-self-2 : goal.invariant_of-self-2
invariant_of-self-2 c =
    let inside = c.self.inside in
    let begun : LabelsBegun = record { nodes = inside.nodes; declared = inside.declared; missing = inside.missing; blocks = inside.blocks.items } in
    let passes = passes_of begun _ (LabelsBlock c.args.source c.args.count c.args.radius) c.self.view_is c.requires.passes in
    rw (c.in_ok-push.ensures.items, c.within-block.ensures, c.in-Ok.ensures.inserted, c.forget_labels.ensures) (
      begun_block begun c.self.invariant.0 c.args.source c.args.count c.args.radius passes c.requires.source c.requires.count c.requires.radius,
      are_sources_more inside.sources begun.blocks _ c.self.invariant.1,
      labelled_opened begun.blocks c.args.source c.args.radius,
    )

pub returns-clause-opened : goal.returns-clause-opened
returns-clause-opened c =
    let inside = c.self.inside in
    let begun : LabelsBegun = record { nodes = inside.nodes; declared = inside.declared; missing = inside.missing; blocks = inside.blocks.items } in
    let line = LabelsBlock c.args.source c.args.count c.args.radius in
    let passes = passes_of begun _ line c.self.view_is c.requires.passes in
    rw (c.in_ok-push.ensures.items, c.within-block.ensures) (pushed_block begun c.self.invariant.0 c.args.source c.args.count c.args.radius passes ∙ ap (λ t. labels_begun_records t ++ line ∷ []) c.self.view_is)

pub returns-clause-block : goal.returns-clause-block
returns-clause-block c = rw (c.in_ok-push.ensures.items, c.within-block.ensures, ← c.self.view_is) refl

pub forget_labels-requires : goal.forget_labels-requires
forget_labels-requires c =
    let count : c.len-count_before.result ≡ length c.self.inside.blocks.items = omega (arith, c.len-count_before.ensures) in
    rw (c.deref.ensures.value, c.in_ok-push.ensures.items) record {
      within = omega (arith, count, length-append c.self.inside.blocks.items (c.within-block.result ∷ []));
      labelled = rw (take_before c.self.inside.blocks.items c.within-block.result c.len-count_before.result count) c.self.invariant.2;
    }
