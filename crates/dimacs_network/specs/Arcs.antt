-- Arcs and their ends.
use Rattle.std.specs.Prelude.{ℕ, ◌≡◌, ◌==◌, ◌<◌, ◌≤◌, ◌&&◌, Bool, true, List, Option, Some, None, length, take, count_by, get_or, pos, IfSome, slice_get}
use Rattle.dimacs_lines.specs.Limits.{IsNode}
use Rattle.dimacs_network.specs.declared.network.ArcView.{ArcView}

abbrev pub joins : ℕ → ℕ → ArcView → Bool
joins tail head a = (a.tail == tail) && (a.head == head)

-- the index of the arc from tail to head that comes after k such arcs; none if there are no more than k
abbrev pub IsKthBetween : List ArcView → ℕ → ℕ → ℕ → Option ℕ → Type 0
IsKthBetween arcs tail head k None = count_by (joins tail head) arcs ≤ k
IsKthBetween arcs tail head k (Some i) =
    (i < length arcs) × IfSome (slice_get arcs i) (λ a. joins tail head a ≡ true) × (count_by (joins tail head) (take i arcs) ≡ k)

-- both ends are nodes
abbrev pub JoinsNodes : ℕ → ArcView → Type 0
JoinsNodes nodes a = IsNode nodes a.tail × IsNode nodes a.head

-- a number of nodes, and the arcs in order
pub record NetworkValue : Type 0 where
  pub nodes : ℕ
  pub arcs : List ArcView

abbrev pub no_arc : ArcView
no_arc = record { tail = 0; head = 0; low = pos 0; cap = pos 0; cost = pos 0 }

-- the arc with this index
abbrev pub arc_at : List ArcView → ℕ → ArcView
arc_at arcs k = get_or arcs k no_arc
