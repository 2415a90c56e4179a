use Rattle.std.proofs.{Common.{rules, ◌^◌, arith, w64, SFits}, lemmas.Int.{ints}}
use Rattle.dimacs_judging.specs.{inside.Ranges.{IsOfSize}, Cuts.{members}}
use Rattle.dimacs_judging.proofs.CrossLemmas.{bound_more}
use Rattle.dimacs_judging.proofs.crossing.bounds_across.Goals as goal

pub loop-i-preserved : goal.loop-i-preserved
loop-i-preserved g c =
    let fits_cap : SFits w64 c.arc.result.cap = search rules in
    let fits_low : SFits w64 c.arc.result.low = search rules in
    let cap : IsOfSize (2 ^ 63) c.arc.result.cap = omega (arith, ints) in
    let low : IsOfSize (2 ^ 63) c.arc.result.low = omega (arith, ints) in
    record {
      most = bound_more (λ a. a.cap) (λ a. a.low) _ (members c.args.set.now) c.loop-i.i c.arc.result _ _ c.arc.ensures cap low c.loop-i.invariant.most c.with-crossing.ensures.most;
      least = bound_more (λ a. a.low) (λ a. a.cap) _ (members c.args.set.now) c.loop-i.i c.arc.result _ _ c.arc.ensures low cap c.loop-i.invariant.least c.with-crossing.ensures.least;
    }
