use Rattle.std.proofs.Common.{rules, ◌≡◌, ◌<◌, [], length, get_or, pos, ◌-ℤ◌, SFits, w64, sym, ap, ◌∙◌, arith}
use Rattle.std.proofs.{lemmas.Int.{ints, to_z-of_z}, lemmas.Option.{get_or_from_slice_get}}
use Rattle.std.specs.Int.{w128}
use Rattle.dimacs_network.specs.{declared.network.ArcView.{ArcView}, Arcs.{arc_at, no_arc}}
use Rattle.dimacs_solve.proofs.EndLemmas.{first_itself}
use Rattle.dimacs_solve.proofs.RestLemmas.{fits_less, lows_more, lows_none, rests_changed, rests_zero, sums_moved, sums_none}
use Rattle.dimacs_solve.proofs.rests.put_lows.Goals as goal

pub overflow_sub-rests : goal.overflow_sub-rests
overflow_sub-rests g c =
    let low : SFits w64 c.arc-low.result.low = search rules in
    let from : c.from.result ≡ c.arc-low.result.low = c.from.ensures ∙ to_z-of_z w64 c.arc-low.result.low low in
    let few : c.loop-arc.arc < 4294967296 = omega (arith, c.loop-arc-test.true, c.len-arc-end.type_inv) in
    let fits = fits_less c.loop-arc.arc (get_or c.loop-arc.rests c.first_parallel.result (pos 0)) c.arc-low.result.low few (c.loop-arc.invariant.rests.small c.first_parallel.result) low in
    omega (arith, ints, fits.0, fits.1, from, low)

pub loop-arc-init : goal.loop-arc-init
loop-arc-init g c = record {
  rests = rests_zero c.args.arcs.now c.args.rests.now c.requires.no_rests;
  lows = lows_none c.args.arcs.now c.args.amounts.now c.requires.no_amounts;
  sums = sums_none c.args.arcs.now c.args.rests.now c.args.amounts.now c.requires.no_rests c.requires.no_amounts;
}

pub loop-arc-preserved : goal.loop-arc-preserved
loop-arc-preserved g c =
    let arcs = c.args.arcs.now in
    let rests = c.loop-arc.rests in
    let n = c.loop-arc.arc in
    let first = c.first_parallel.result in
    let a = c.arc-low.result in
    let low : SFits w64 a.low = search rules in
    let from : c.from.result ≡ a.low = c.from.ensures ∙ to_z-of_z w64 a.low low in
    let few : n < 4294967296 = omega (arith, c.loop-arc-test.true, c.len-arc-end.type_inv) in
    let inside : n < length arcs = omega (arith, c.loop-arc-test.true, c.len-arc-end.ensures) in
    let fits = fits_less n (get_or rests first (pos 0)) a.low few (c.loop-arc.invariant.rests.small first) low in
    let wide : SFits w128 c.from.result = omega (arith, ints, from, low) in
    let same : a.low ≡ (arc_at arcs n).low = ap (λ (b : ArcView). b.low) (sym (get_or_from_slice_get arcs n a no_arc c.arc-low.ensures)) in
    let here = c.loop-arc.invariant in
    rw (to_z-of_z w64 a.low low, to_z-of_z w128 c.from.result wide, from, to_z-of_z w128 (get_or rests first (pos 0)) fits.0, to_z-of_z w128 (get_or rests first (pos 0) -ℤ a.low) fits.1) (record {
      rests = rests_changed arcs n rests first (get_or rests first (pos 0) -ℤ a.low) here.rests c.first_parallel.ensures.0 (first_itself arcs (arc_at arcs n).tail (arc_at arcs n).head first c.first_parallel.ensures) fits.2;
      lows = lows_more arcs n c.loop-arc.amounts a.low inside same here.lows;
      sums = sums_moved arcs [] rests c.loop-arc.amounts n first a.low a.low here.rests.one_each here.lows.one_each inside c.first_parallel.ensures (let e = here.lows.none n (omega arith) in omega (arith, ints, e)) here.sums;
    })

pub returns : goal.returns
returns g c =
    let all : c.loop-arc.arc ≡ length c.args.arcs.now = omega (arith, c.loop-arc-test.false, c.len-arc-end.ensures, c.loop-arc.auto.arc-end) in
    rw (← all) (record { rests = c.loop-arc.invariant.rests; lows = c.loop-arc.invariant.lows; sums = c.loop-arc.invariant.sums })
