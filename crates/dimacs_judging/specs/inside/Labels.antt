-- Inside: the conditions under which labels are distances.
use Rattle.std.specs.Prelude.{ℕ, List, [], get_or, None}
use Rattle.dimacs_claims.specs.Labels.{BlockValue}

-- the block with this number, from 0
abbrev pub block_at : List BlockValue → ℕ → BlockValue
block_at blocks k = get_or blocks k (record { source = 0; radius = None; labels = [] })
