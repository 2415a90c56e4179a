use Rattle.std.proofs.Common.{◌≡◌, ◌≤◌, take}
use Rattle.dimacs_facts.specs.Facts.{tight_count}
use Rattle.dimacs_facts.proofs.only.tight_arcs.Given as goal

abbrev pub invariant-loop-i : goal.invariant-loop-i
invariant-loop-i g l = record {
  counted : l.count ≡ tight_count (take l.i (g.N.Network.list l.network)) l.potentials;
  few : l.count ≤ l.i;
}
