use Rattle.std.proofs.Common.{◌≡◌, ◌∙◌, ◌+◌, ◌-◌, ◌^◌, ◌<◌, ◌==◌, ℕ, length, pos, refl, ap, arith, rules, w64}
use Rattle.std.proofs.lemmas.Int.{to_z-of_z}
use Rattle.std.specs.{Int.{w128}, Prelude.{if◌then◌else◌}}
use Rattle.dimacs_claims.specs.Labels.{label}
use Rattle.dimacs_fill.specs.BlockFilled.{distances_of, item_of}
use Rattle.dimacs_fill.proofs.{FillLemmas.{each_node}, BlockLemmas.{at_place, distances_more, first_labels, no_labels}}
use Rattle.dimacs_fill.proofs.block.fill_distances.Goals as goal

pub loop-i-init : goal.loop-i-init
loop-i-init c =
    let b = c.args.block.now in
    c.fill.ensures (distances_of c.args.nodes (first_labels b 0))
    (each_node (λ v. item_of (label (first_labels b 0) v)) _ _ c.args.nodes refl
    (λ i x within e. e ∙ ap (λ (s : ℕ). if s == i + 1 then pos 0 else pos (2 ^ 63 - 1)) c.source-source.ensures ∙ no_labels b (i + 1)))

pub loop-i-preserved : goal.loop-i-preserved
loop-i-preserved c =
    let b = c.args.block.now in
    let inside : c.loop-i.i < length b.labels = omega (arith, c.loop-i-test.true, c.len-i-end.ensures, ap length c.labels-labels.ensures) in
    let item : c.whole.result ≡ (at_place b.labels c.loop-i.i).dist = rw (to_z-of_z w128 c.at-label.result.dist (search rules), c.at-label.ensures, c.labels-labels.ensures) at c.whole.ensures in
    c.set_item.ensures
    ∙ rw (to_z-of_z w64 c.whole.result (search rules), c.loop-i.invariant, item, c.at-label.ensures, c.labels-labels.ensures) (distances_more c.args.nodes b c.requires.lawful c.loop-i.i inside c.args.distances.now)
