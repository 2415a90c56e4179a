use Rattle.std.proofs.Common.{◌≡◌, ℕ, ◌<◌, ◌≤◌, ◌*◌, false}
use Rattle.dimacs_network.specs.Sets.{has_node}
use Rattle.dimacs_network.proofs.node_set.next_byte.Given as goal

-- the bytes so far have no node
abbrev pub invariant-loop-place : goal.invariant-loop-place
invariant-loop-place l = (id : ℕ) → l.from ≤ id → id < 8 * l.place → has_node l.bytes id ≡ false
