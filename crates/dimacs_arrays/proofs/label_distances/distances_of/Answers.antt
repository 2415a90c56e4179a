use Rattle.std.proofs.{Common.{◌≡◌, ◌≢◌, ◌<◌, [], length, ap, arith, rules, w64}, lemmas.Int.{to_z-of_z}}
use Rattle.std.proofs.lemmas.List.Elements.{All-get_or}
use Rattle.std.specs.Int.{w128}
use Rattle.dimacs_claims.specs.{declared.label_list.Label.{Label}, Labels.{IsItem, IsLabel, no_label}}
use Rattle.dimacs_claims.proofs.ByIdLemmas.{fresh_apart}
use Rattle.dimacs_decide.proofs.TightTailLemmas.{not_source}
use Rattle.dimacs_arrays.proofs.{PredLemmas.{at_place}, LabelDistanceLemmas.{reached_all, reached_more}}
use Rattle.dimacs_arrays.proofs.label_distances.distances_of.Goals as goal

pub loop-i-preserved : goal.loop-i-preserved
loop-i-preserved c =
    let b = c.args.block.now in
    let labels = b.labels in
    let i = c.loop-i.i in
    let inside : i < length labels = omega (arith, c.loop-i-test.true, c.len-i-end.ensures, ap length c.labels-labels.ensures) in
    let node = (All-get_or (IsLabel c.args.nodes) labels i no_label inside c.requires.within).id in
    let other = All-get_or (λ (l : Label). l.id ≢ b.source) labels i no_label inside (not_source b.source [] labels c.requires.fresh) in
    let fits_array : (c.in-Some.distance ≡ (at_place labels i).dist) × IsItem (at_place labels i).dist = rw (to_z-of_z w128 c.at-label.result.dist (search rules), c.at-label.ensures, c.labels-labels.ensures) at c.in-Some.ensures.some in
    let more = reached_more b c.args.nodes (fresh_apart b.source labels c.requires.fresh) c.loop-i.distances.items i inside node other fits_array.1 c.loop-i.invariant in
    rw (to_z-of_z w64 c.in-Some.distance (search rules), fits_array.0, c.at-label.ensures, c.labels-labels.ensures) more

pub returns-clause-distances : goal.returns-clause-distances
returns-clause-distances c =
    let b = c.args.block.now in
    let over : length b.labels ≡ c.loop-i.i = omega (arith, c.loop-i-test.false, c.loop-i.auto.i-end, c.len-i-end.ensures, ap length c.labels-labels.ensures) in
    reached_all b c.args.nodes (fresh_apart b.source b.labels c.requires.fresh) c.loop-i.distances.items c.loop-i.i over c.loop-i.invariant
