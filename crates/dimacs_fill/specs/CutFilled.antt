-- Sets of nodes in the arrays of a caller.
use Rattle.std.specs.{Prelude.{ℕ, List, map, Result, if◌then◌else◌}, FinSet.{contains}, List.{range_with_len}}
use Rattle.dimacs_records.specs.{declared.faults.ReadError.{ReadError}, declared.kinds.TextKind.TheVariants.{Cut}}
use Rattle.dimacs_claims.specs.Cuts.{CutValue, SpellsCut, empty_cut}
use Rattle.dimacs_fill.specs.Filling.{Array, IsFilled, ReadsInto}

-- 1 if the node is in the set, otherwise 0
abbrev pub byte_of : CutValue → ℕ → ℕ
byte_of c id = if contains c.ids id then 1 else 0

-- the byte of each node, by ID
abbrev pub inside_of : CutValue → List ℕ
inside_of c = map (byte_of c) (range_with_len 1 c.nodes)

abbrev pub ReadsCutInto : List ℕ → Array ℕ → Result ℕ ReadError → Type 0
ReadsCutInto text inside = ReadsInto Cut text (SpellsCut text) (empty_cut 0) (λ c. c.nodes) (λ c. IsFilled (inside_of c) inside)
