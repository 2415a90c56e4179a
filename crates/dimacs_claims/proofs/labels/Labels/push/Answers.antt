use Rattle.std.proofs.Common.{◌≡◌, ◌<◌, ◌++◌, ◌∷◌, [], length}
use Rattle.dimacs_lines.specs.Limits.{most_count}
use Rattle.dimacs_claims.specs.Labels.{IsBlock, IsNewSource}
use Rattle.dimacs_claims.proofs.{BlockLemmas.{labels_push}, ByIdLemmas.{indexed_wider}, LabelRecords.{are_sources_more}}
use Rattle.dimacs_claims.proofs.labels.Labels.push.Goals as goal

pub invariant_of-self-2 : goal.invariant_of-self-2
invariant_of-self-2 c =
    let inside = c.self.inside in
    let blocks = inside.blocks.items in
    let b = c.args.block in
    let lawful : IsBlock inside.nodes b = rw (← c.self.view_is) at c.requires.lawful in
    let new : IsNewSource blocks b = rw (← c.self.view_is) at c.requires.source in
    let few : length blocks < most_count = rw (← c.self.view_is) at c.requires.few in
    rw c.in_ok-push.ensures.items (labels_push inside.nodes blocks b c.self.invariant.0 lawful new few, indexed_wider blocks b inside.indices.items c.self.invariant.1)

pub returns-clause-lawful : goal.returns-clause-lawful
returns-clause-lawful c =
    let inside = c.self.inside in
    let blocks = inside.blocks.items in
    let b = c.args.block in
    let lawful : IsBlock inside.nodes b = rw (← c.self.view_is) at c.requires.lawful in
    let new : IsNewSource blocks b = rw (← c.self.view_is) at c.requires.source in
    let few : length blocks < most_count = rw (← c.self.view_is) at c.requires.few in
    rw c.in_ok-push.ensures.items (labels_push inside.nodes blocks b c.self.invariant.0 lawful new few)

pub returns-clause-sources : goal.returns-clause-sources
returns-clause-sources c =
    let more_blocks : c.push.new.self.items ≡ c.self.inside.blocks.items ++ c.args.block ∷ [] = c.in_ok-push.ensures.items in
    rw (more_blocks, ← c.self.view_is) (λ sources. are_sources_more sources c.self.inside.blocks.items c.args.block)
