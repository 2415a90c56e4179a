use Rattle.std.proofs.Common.{◌≡◌, ℕ, ◌<◌, ◌≤◌, ◌*◌}
use Rattle.dimacs_network.specs.Tables.{blank_of, value_of}
use Rattle.dimacs_network.proofs.node_table.NodeTable.next_page.Given as goal

-- the pages so far aren't allocated
abbrev pub invariant-loop-page : goal.invariant-loop-page
invariant-loop-page g l = (id : ℕ) → l.from ≤ id → id < 64 * l.page → value_of l.self id ≡ blank_of l.self
