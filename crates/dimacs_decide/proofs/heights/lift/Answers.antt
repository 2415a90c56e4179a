use Rattle.std.proofs.Common.{rules, ◌≡◌, ◌∙◌, arith, ap, sym, subst, refl, SFits, ◌+◌, ◌+ℤ◌}
use Rattle.std.proofs.{lemmas.Int.{ints, to_z-of_z}, lemmas.Option.{get_or_from_slice_get}}
use Rattle.std.specs.Int.{w128}
use Rattle.dimacs_network.specs.{AdjacencyLists.{end_of, other_end}, Arcs.{arc_at, no_arc}, Tables.{value_of}}
use Rattle.dimacs_instance.specs.MinFlows.{HasBounds}
use Rattle.dimacs_decide.specs.{declared.heights.HeightLabel.{HeightLabel}, inside.Heights.{gain_at, height_of}}
use Rattle.dimacs_decide.proofs.HeightLemmas.{arc_bounds, gain_least, gain_most}
use Rattle.dimacs_decide.proofs.heights.lift.Goals as goal

pub returns-then-residual_capacity_from-le0 : goal.returns-then-residual_capacity_from-le0
returns-then-residual_capacity_from-le0 g c = (λ v. refl, λ residual_capacity. absurd (omega (arith, ints, residual_capacity, c.residual_capacity_from.ensures, c.if-residual_capacity_from-le0.true)))

pub overflow_add-height : goal.overflow_add-height
overflow_add-height g c =
    let arcs = g.N.Network.list c.args.network.now in
    let is : arc_at arcs c.args.parent_arc ≡ c.arc-arc.result = get_or_from_slice_get arcs c.args.parent_arc c.arc-arc.result no_arc c.arc-arc.ensures in
    let has : HasBounds c.arc-arc.result = subst HasBounds is (arc_bounds arcs c.args.parent_arc c.requires.bounds c.requires.parent_arc) in
    let height : c.get.result.height ≡ height_of (value_of c.args.labels.now) c.end_of.result = ap (λ (l : HeightLabel). l.height) c.get.ensures.value in
    rw (to_z-of_z w128 c.get.result.height (search rules), to_z-of_z w128 c.gain.result (search rules)) (omega (arith, ints, height, c.gain.ensures, c.requires.not_negative c.end_of.result, c.requires.bounded c.end_of.result, gain_most c.args.side c.arc-arc.result has, gain_least c.args.side c.arc-arc.result has))

pub returns-then-height-get : goal.returns-then-height-get
returns-then-height-get g c =
    let arcs = g.N.Network.list c.args.network.now in
    let labels = value_of c.args.labels.now in
    let is : arc_at arcs c.args.parent_arc ≡ c.arc-arc.result = get_or_from_slice_get arcs c.args.parent_arc c.arc-arc.result no_arc c.arc-arc.ensures in
    let near : c.end_of.result ≡ end_of c.args.side (arc_at arcs c.args.parent_arc) = c.end_of.ensures ∙ ap (end_of c.args.side) (sym is) in
    let far : c.other_end-to.result ≡ other_end c.args.side (arc_at arcs c.args.parent_arc) = c.other_end-to.ensures ∙ ap (other_end c.args.side) (sym is) in
    let has : HasBounds c.arc-arc.result = subst HasBounds is (arc_bounds arcs c.args.parent_arc c.requires.bounds c.requires.parent_arc) in
    let gain : c.gain.result ≡ gain_at c.args.side (arc_at arcs c.args.parent_arc) = c.gain.ensures ∙ ap (gain_at c.args.side) (sym is) in
    let from : c.get.result.height ≡ height_of labels (end_of c.args.side (arc_at arcs c.args.parent_arc)) = ap (λ (l : HeightLabel). l.height) c.get.ensures.value ∙ ap (height_of labels) near in
    let to : c.get-2.result.height ≡ height_of labels (other_end c.args.side (arc_at arcs c.args.parent_arc)) = ap (λ (l : HeightLabel). l.height) c.get-2.ensures.value ∙ ap (height_of labels) far in
    let fits_sum : SFits w128 (c.get.result.height +ℤ c.gain.result) = omega (arith, ints, from, c.gain.ensures, c.requires.not_negative (end_of c.args.side (arc_at arcs c.args.parent_arc)), c.requires.bounded (end_of c.args.side (arc_at arcs c.args.parent_arc)), gain_most c.args.side c.arc-arc.result has, gain_least c.args.side c.arc-arc.result has) in
    let low = rw (to_z-of_z w128 c.get.result.height (search rules), to_z-of_z w128 c.gain.result (search rules)) at c.if-height-get.true in
    (λ v. refl, λ residual_capacity. omega (arith, ints, from, to, gain, low, fits_sum))

pub returns : goal.returns
returns g c =
    let arcs = g.N.Network.list c.args.network.now in
    let labels = value_of c.args.labels.now in
    let k = c.args.parent_arc in
    let is : arc_at arcs k ≡ c.arc-arc.result = get_or_from_slice_get arcs k c.arc-arc.result no_arc c.arc-arc.ensures in
    let has : HasBounds c.arc-arc.result = subst HasBounds is (arc_bounds arcs k c.requires.bounds c.requires.parent_arc) in
    let near : c.end_of.result ≡ end_of c.args.side (arc_at arcs k) = c.end_of.ensures ∙ ap (end_of c.args.side) (sym is) in
    let far : c.other_end-to.result ≡ other_end c.args.side (arc_at arcs k) = c.other_end-to.ensures ∙ ap (other_end c.args.side) (sym is) in
    let gain : c.gain.result ≡ gain_at c.args.side (arc_at arcs k) = c.gain.ensures ∙ ap (gain_at c.args.side) (sym is) in
    let from : c.get.result.height ≡ height_of labels (end_of c.args.side (arc_at arcs k)) = ap (λ (l : HeightLabel). l.height) c.get.ensures.value ∙ ap (height_of labels) near in
    let to : c.get-2.result.height ≡ height_of labels (other_end c.args.side (arc_at arcs k)) = ap (λ (l : HeightLabel). l.height) c.get-2.ensures.value ∙ ap (height_of labels) far in
    let more = rw (to_z-of_z w128 c.get.result.height (search rules), to_z-of_z w128 c.gain.result (search rules)) at c.if-height-get.false in
    let fits_sum : SFits w128 (c.get.result.height +ℤ c.gain.result) = omega (arith, ints, from, c.gain.ensures, c.requires.not_negative (end_of c.args.side (arc_at arcs k)), c.requires.bounded (end_of c.args.side (arc_at arcs k)), gain_most c.args.side c.arc-arc.result has, gain_least c.args.side c.arc-arc.result has) in
    let set : value_of c.set.new.self (other_end c.args.side (arc_at arcs k)) ≡ record { height = c.get.result.height +ℤ c.gain.result; arc_number = k + 1; side = c.args.side } = rw (far, to_z-of_z w128 c.get.result.height (search rules), to_z-of_z w128 c.gain.result (search rules), to_z-of_z w128 (c.get.result.height +ℤ c.gain.result) fits_sum) at c.in_ok-set.ensures.set in
    let sum = ap (λ (l : HeightLabel). l.height) set in
    record {
      residual_capacity = omega (arith, ints, c.if-residual_capacity_from-le0.false, c.residual_capacity_from.ensures);
      rises = omega (arith, ints, more, from, to, gain);
      height = omega (arith, ints, sum, from, gain);
      arc_number = ap (λ (l : HeightLabel). l.arc_number) set;
      side_is = ap (λ (l : HeightLabel). l.side) set;
      others = λ v ne. c.in_ok-set.ensures.others v (λ e. ne (e ∙ far));
    }
