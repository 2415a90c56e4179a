-- Rows of tests: for each arc, for each node, and single tests.
use Rattle.std.specs.Prelude.{ℕ, ◌≡◌, ◌+◌, ◌<◌, List, length, get_or, ℤ, pos}
use Rattle.dimacs_network.specs.{declared.network.ArcView.{ArcView}, Arcs.{arc_at}}
use Rattle.dimacs_records.specs.declared.reasons.Reason.{Reason}
use Rattle.dimacs_judging.specs.{declared.verdict.Where.{Where}, declared.verdict.Where.TheVariants.{Arc, Node}}
use Rattle.dimacs_judging.specs.Tests.{Row}
use Rattle.dimacs_lines.specs.Limits.{IsNode}

-- the amount on the arc with this index
abbrev pub amount_at : List ℤ → ℕ → ℤ
amount_at x k = get_or x k (pos 0)

-- a test of each arc, by index; the places count from 1
abbrev pub arc_row : List ArcView → (ℕ → Reason → Type 0) → Row
arc_row arcs fails k place reason = (k < length arcs) × (place ≡ Arc (k + 1)) × fails k reason

-- a test of each arc with its amount
abbrev pub flow_row : (ArcView → ℤ → Reason → Type 0) → List ArcView → List ℤ → Row
flow_row fails arcs x = arc_row arcs (λ k reason. fails (arc_at arcs k) (amount_at x k) reason)

-- a test of each node
abbrev pub node_row : ℕ → (ℕ → Reason → Type 0) → Row
node_row nodes fails v place reason = IsNode nodes v × (place ≡ Node v) × fails v reason

-- a single test
abbrev pub one_test : Where → Reason → Type 0 → Row
one_test at why fails k place reason = (k ≡ 0) × (place ≡ at) × (reason ≡ why) × fails
