use Rattle.std.proofs.{Common.{refl, rules}, lemmas.Int.{to_z-of_z}}
use Rattle.std.specs.Int.{w128}
use Rattle.dimacs_records.specs.declared.records.Record.TheVariants.{LabelsNode, LabelsProblem}
use Rattle.dimacs_claims.proofs.BuilderLemmas.{context_by_records}
use Rattle.dimacs_claims.proofs.labels.reading.LabelsBuilderBuilder.context.Goals as goal

pub returns-in-LabelsBlock-clause-context : goal.returns-in-LabelsBlock-clause-context
returns-in-LabelsBlock-clause-context c =
    rw c.in-LabelsBlock.is (c.block_context.ensures c.in-LabelsBlock.count c.in-LabelsBlock.radius)

pub returns-in-LabelsBlock-clause-of_records : goal.returns-in-LabelsBlock-clause-of_records
returns-in-LabelsBlock-clause-of_records c = λ rs h. rw (h, returns-in-LabelsBlock-clause-context c) (context_by_records c.args.self.now c.args.rec c.requires.spelled.for_kind)

pub returns-in-LabelsNode-clause-of_records : goal.returns-in-LabelsNode-clause-of_records
returns-in-LabelsNode-clause-of_records c = λ rs h.
    let line = c.in-LabelsNode in
    rw (h, c.label_context.ensures, to_z-of_z w128 line.dist (search rules), line.is) (context_by_records c.args.self.now (LabelsNode line.id line.dist line.pred) refl)

pub returns-in-LabelsProblem-clause-of_records : goal.returns-in-LabelsProblem-clause-of_records
returns-in-LabelsProblem-clause-of_records c = λ rs h. rw (h, c.plain_context.ensures, c.in-LabelsProblem.is) (context_by_records c.args.self.now (LabelsProblem c.in-LabelsProblem.nodes c.in-LabelsProblem.blocks) refl)
