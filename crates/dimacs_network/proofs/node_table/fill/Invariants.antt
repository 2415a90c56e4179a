use Rattle.std.proofs.Common.{◌≡◌, ◌<◌, ℕ, length, slice_index_or}
use Rattle.dimacs_network.proofs.node_table.fill.Given as goal

abbrev pub invariant-loop-i : goal.invariant-loop-i
invariant-loop-i g l = record {
  same_length : length l.items ≡ length l.fn.items;
  filled : (k : ℕ) → k < l.i → slice_index_or l.items k l.value ≡ l.value;
}
