use Rattle.std.proofs.{Common.{rules, subst, sym}, lemmas.Int.{to_z-of_z}}
use Rattle.std.specs.Int.{w128}
use Rattle.dimacs_records.specs.{declared.records.Record.{Record}, declared.records.Record.TheVariants.{DistancesNode}}
use Rattle.dimacs_records.specs.Tests.{Passes}
use Rattle.dimacs_claims.specs.LabelsReading.{LabelsBegun, bare_context}
use Rattle.dimacs_claims.proofs.DistanceStates.{bare_kept, bare_opened, has_last, label_passes, source_least}
use Rattle.dimacs_claims.proofs.distances.DistancesBuilderBuilder.keep.Goals as goal

pub keep_label-requires-clause-pred : goal.keep_label-requires-clause-pred
keep_label-requires-clause-pred c =
    let line = DistancesNode c.in-DistancesNode.id c.in-DistancesNode.dist in
    let passes = subst (λ (t : LabelsBegun). Passes (bare_context t line) line) (sym c.self.view_is) (subst (λ (r : Record). Passes (bare_context c.args.self.now r) r) c.in-DistancesNode.is c.requires.passes) in
    source_least c.self.inside.labels c.last_source-pred.result c.last_source-pred.ensures.lawful c.last_source-pred.ensures.last passes.placed

pub keep_label-requires-clause-passes : goal.keep_label-requires-clause-passes
keep_label-requires-clause-passes c =
    let id = c.in-DistancesNode.id in
    let dist = c.in-DistancesNode.dist in
    let line = DistancesNode id dist in
    let passes = subst (λ (t : LabelsBegun). Passes (bare_context t line) line) (sym c.self.view_is) (subst (λ (r : Record). Passes (bare_context c.args.self.now r) r) c.in-DistancesNode.is c.requires.passes) in
    rw (to_z-of_z w128 dist (search rules)) (label_passes c.self.inside.labels id dist c.last_source-pred.result c.last_source-pred.ensures.lawful c.self.invariant c.last_source-pred.ensures.last passes)

pub invariant_of-self : goal.invariant_of-self
invariant_of-self c =
    let line = DistancesNode c.in-DistancesNode.id c.in-DistancesNode.dist in
    let passes = subst (λ (t : LabelsBegun). Passes (bare_context t line) line) (sym c.self.view_is) (subst (λ (r : Record). Passes (bare_context c.args.self.now r) r) c.in-DistancesNode.is c.requires.passes) in
    bare_kept c.self.inside.labels c.keep_label.new.self _ c.keep_label.result c.keep_label.ensures.last c.keep_label.ensures.unchanged (has_last c.self.inside.labels passes.placed) c.last_source-pred.ensures.last c.self.invariant

pub invariant_of-self-in-DistancesBlock : goal.invariant_of-self-in-DistancesBlock
invariant_of-self-in-DistancesBlock c = bare_opened c.self.inside.labels c.open.new.self c.in-DistancesBlock.source c.open.result c.open.ensures.block c.open.ensures.unchanged c.self.invariant
