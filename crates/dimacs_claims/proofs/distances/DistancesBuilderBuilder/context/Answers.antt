use Rattle.std.proofs.Common.{◌≡◌, None, ap, ap₂, false, refl, subst, sym, ◌∙◌}
use Rattle.dimacs_records.specs.{declared.order.Context.{Context}, Tests.{context_after}}
use Rattle.dimacs_records.specs.declared.records.Record.TheVariants.{DistancesNode, DistancesProblem, LabelsBlock}
use Rattle.dimacs_claims.specs.LabelsReading.{LabelsBegun, context, bare_context}
use Rattle.dimacs_claims.proofs.DistanceStates.{bare_by_records}
use Rattle.dimacs_claims.proofs.distances.DistancesBuilderBuilder.context.Goals as goal

pub returns-in-DistancesBlock-clause-context : goal.returns-in-DistancesBlock-clause-context
returns-in-DistancesBlock-clause-context c =
    let line = c.in-DistancesBlock in
    rw line.is (subst (λ (t : LabelsBegun). c.block_context.result ≡ context t (LabelsBlock line.source line.count None)) c.self.view_is (c.block_context.ensures line.count None))

pub returns-in-DistancesBlock-clause-of_records : goal.returns-in-DistancesBlock-clause-of_records
returns-in-DistancesBlock-clause-of_records c = λ rs h. rw (h, returns-in-DistancesBlock-clause-context c) (bare_by_records c.args.self.now c.args.rec c.requires.spelled.for_kind)

pub returns-in-DistancesNode-clause-of_records : goal.returns-in-DistancesNode-clause-of_records
returns-in-DistancesNode-clause-of_records c = λ rs h.
    let line = c.in-DistancesNode in
    let said = DistancesNode line.id line.dist in
    let noted = ap (λ (e : Context). record e { pred_unknown = false; past_radius = false }) c.label_context.ensures in
    noted ∙ (ap (λ (t : LabelsBegun). bare_context t said) c.self.view_is ∙ (bare_by_records c.args.self.now said refl ∙ ap₂ context_after (sym h) (sym line.is)))

pub returns-in-DistancesProblem-clause-of_records : goal.returns-in-DistancesProblem-clause-of_records
returns-in-DistancesProblem-clause-of_records c = λ rs h.
    let line = c.in-DistancesProblem in
    rw (h, c.plain_context.ensures, c.self.view_is, line.is) (bare_by_records c.args.self.now (DistancesProblem line.nodes line.blocks) refl)
