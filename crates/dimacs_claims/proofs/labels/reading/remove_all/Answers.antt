use Rattle.std.proofs.Common.{arith}
use Rattle.dimacs_claims.proofs.BuilderLemmas.{removed_all, removed_more}
use Rattle.dimacs_claims.proofs.labels.reading.remove_all.Goals as goal

pub loop-place-preserved : goal.loop-place-preserved
loop-place-preserved c =
    rw (c.remove.ensures, c.at.ensures) (removed_more c.args.labels.now c.loop-place.place c.loop-place.nodes (rw c.len-place-end.ensures at c.loop-place-test.true) c.loop-place.invariant)

pub returns : goal.returns
returns c = removed_all c.args.labels.now _ _ (omega (arith, c.len-place-end.ensures)) c.loop-place.invariant
