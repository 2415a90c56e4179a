-- Inside: a block's labels in one piece, for a yes.
use Rattle.std.specs.Prelude.{ℕ, ◌≡◌, ◌^◌, ◌-◌, ◌⊎◌, ℤ, pos, ◌<ℤ◌}
use Rattle.dimacs_network.specs.{DenseTables.{value_at}, declared.dense_table.DenseTable.{DenseTable}}
use Rattle.dimacs_judging.specs.{Distances.{below}, declared.node_label.NodeLabel.{NodeLabel}}
use Rattle.dimacs_judging.specs.inside.NodeLabels.{NodeEntry, entry_of}

abbrev pub entries_at : DenseTable (NodeLabel ℤ) → ℕ → NodeEntry
entries_at table v = entry_of (below (pos (2 ^ 31 - 1))) (value_at table v)

-- the number is small, or stands for no distance
abbrev pub IsSmallOrNone : ℤ → Type 0
IsSmallOrNone d = (d <ℤ pos (2 ^ 30)) ⊎ (d ≡ pos (2 ^ 31 - 1))

abbrev pub AreSmall : DenseTable (NodeLabel ℤ) → Type 0
AreSmall table = (v : ℕ) → IsSmallOrNone (value_at table v).dist
