use Rattle.std.proofs.{Common.{rules, ◌≡◌, pos, arith, ap, w64}, lemmas.Int.{ints, to_z-of_z}}
use Rattle.std.proofs.{lemmas.Option.{get_or_from_slice_get}, lemmas.Slice.Zip.{AllZip-long}}
use Rattle.dimacs_network.specs.{declared.network.ArcView.{ArcView}, Arcs.{arc_at, no_arc}}
use Rattle.dimacs_judging.specs.Rows.{amount_at}
use Rattle.dimacs_judging.proofs.Passing.{pair_at}
use Rattle.dimacs_decide.proofs.HeightLemmas.{arc_bounds}
use Rattle.dimacs_decide.proofs.residual_capacity.residual_capacity_from.Goals as goal

pub amount-requires : goal.amount-requires
amount-requires g c = omega (arith, c.requires.arc_index, AllZip-long _ _ _ c.requires.within)

pub capacity_left-requires : goal.capacity_left-requires
capacity_left-requires g c =
    let arcs = g.N.Network.list c.args.network.now in
    let x = c.args.flow.now in
    let k = c.args.arc_index in
    let is : arc_at arcs k ≡ c.arc.result = get_or_from_slice_get arcs k c.arc.result no_arc c.arc.ensures in
    let low = ap (λ (a : ArcView). a.low) is in
    let cap = ap (λ (a : ArcView). a.cap) is in
    let carries : amount_at x k ≡ c.amount.result = get_or_from_slice_get x k c.amount.result (pos 0) c.amount.ensures in
    let bounds = pair_at _ arcs x k no_arc (pos 0) c.requires.within c.requires.arc_index in
    rw (to_z-of_z w64 c.amount.result (search rules)) (record {
      not_negative = omega (arith, ints, low, (arc_bounds arcs k c.requires.bounds c.requires.arc_index).0);
      low = omega (arith, ints, bounds.0, carries, low);
      high = omega (arith, ints, bounds.1, carries, cap);
    })

pub returns : goal.returns
returns g c =
    let arcs = g.N.Network.list c.args.network.now in
    let k = c.args.arc_index in
    let is : arc_at arcs k ≡ c.arc.result = get_or_from_slice_get arcs k c.arc.result no_arc c.arc.ensures in
    let carries : amount_at c.args.flow.now k ≡ c.amount.result = get_or_from_slice_get c.args.flow.now k c.amount.result (pos 0) c.amount.ensures in
    rw (is, carries, to_z-of_z w64 c.capacity_left.result (search rules)) (rw (to_z-of_z w64 c.amount.result (search rules)) at c.capacity_left.ensures)
