use Rattle.std.proofs.Common.{◌≡◌, length}
use Rattle.dimacs_claims.specs.inside.ById.{AreIndexed}
use Rattle.dimacs_claims.proofs.labels.index_others.Given as goal

-- the blocks so far are indexed
abbrev pub invariant-loop-i : goal.invariant-loop-i
invariant-loop-i l = record {
  indexed : AreIndexed l.blocks l.indices.items;
  count : length l.indices.items ≡ l.i;
}
