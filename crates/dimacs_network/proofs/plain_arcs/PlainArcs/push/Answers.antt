use Rattle.std.proofs.{Common.{◌≡◌, ◌<◌, ◌+◌, ◌∙◌, length, arith, refl, ap}, lemmas.List.{length_push}}
use Rattle.dimacs_lines.specs.Limits.{most_count}
use Rattle.dimacs_network.proofs.KeptLemmas.{kept_long, kept_push}
use Rattle.dimacs_network.proofs.plain_arcs.PlainArcs.push.Goals as goal

pub invariant_of-self-2 : goal.invariant_of-self-2
invariant_of-self-2 g c =
    let ends = c.self.inside.ends.items in
    let numbers = c.self.inside.numbers in
    let long = kept_long g.A.StoredArc.arc_of ends numbers c.self.invariant.1 in
    let few = rw (← c.self.view_is) at c.requires in
    let room : length ends < most_count = omega (arith, few, long) in
    let longer : length c.push.new.self ≡ length numbers + 1 = ap length c.in_ok-push.ensures.pushed ∙ length_push numbers _ in
    let more : length c.push_reserved.new.self.items ≡ length ends + 1 = ap length c.push_reserved.ensures.items ∙ length_push _ c.into_parts-numbers.result.0 ∙ ap (λ items. length items + 1) c.in_ok-reserve.ensures.items in
    (omega (arith, room, more), omega (arith, longer, more, c.self.invariant.1))

pub returns-clause-pushed : goal.returns-clause-pushed
returns-clause-pushed g c =
    rw (← c.self.view_is, c.in_ok-push.ensures.pushed, c.push_reserved.ensures.items, c.in_ok-reserve.ensures.items, kept_push g.A.StoredArc.arc_of c.self.inside.ends.items _ c.self.invariant.1 _ _, c.into_parts-numbers.ensures) refl
