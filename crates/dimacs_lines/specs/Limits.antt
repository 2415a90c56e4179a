-- The limits of a text, and of what a line reader holds and reads at once, as numbers.
use Rattle.std.specs.Prelude.{ℕ, ◌≤◌}

-- the most bytes of a line, without its end
abbrev pub longest_line : ℕ
longest_line = 1048576

-- the most lines of a text
abbrev pub most_lines : ℕ
most_lines = 1000000000000

-- the most nodes, and the greatest ID
abbrev pub most_nodes : ℕ
most_nodes = 134217728

-- an ID of a network with so many nodes
abbrev pub IsNode : ℕ → ℕ → Type 0
IsNode nodes id = (1 ≤ id) × (id ≤ nodes)

-- the greatest number of arcs, labels or other lines that a text may declare
abbrev pub most_count : ℕ
most_count = 268435456

-- the most bytes that a line reader holds: a line of full length and one piece
abbrev pub most_held : ℕ
most_held = 1114112

-- the most bytes that one call reads
abbrev pub greatest_piece : ℕ
greatest_piece = 65536
