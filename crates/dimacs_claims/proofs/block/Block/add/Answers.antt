use Rattle.std.proofs.Common.{ap}
use Rattle.std.specs.Prelude.{is_some}
use Rattle.dimacs_claims.specs.Labels.{BlockValue}
use Rattle.dimacs_claims.proofs.BlockLemmas.{block_push, label-with_label}
use Rattle.dimacs_claims.proofs.block.Block.add.Goals as goal

pub returns-clause-labels : goal.returns-clause-labels
returns-clause-labels c =
    let b : BlockValue = record { source = c.self.inside.source; radius = c.self.inside.radius; labels = c.self.inside.labels } in
    rw (c.in_ok-push.ensures.pushed, ← c.self.view_is) (label-with_label b c.args.label (rw (← c.self.view_is) at c.requires))

pub returns-clause-lawful : goal.returns-clause-lawful
returns-clause-lawful c =
    let b : BlockValue = record { source = c.self.inside.source; radius = c.self.inside.radius; labels = c.self.inside.labels } in
    rw (c.in_ok-push.ensures.pushed, ← c.self.view_is) (λ nodes is label room known near. block_push nodes b c.args.label is label room (ap is_some (rw (← c.self.view_is) at c.requires)) known near)
