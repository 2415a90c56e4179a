-- Inside: the IDs of queries in arrays, one by one.
use Rattle.std.specs.Prelude.{ℕ, ◌<◌, List, IfSome, get_or, slice_get}
use Rattle.dimacs_records.specs.Ranges.{IsId}

-- the IDs of the query are in range
abbrev pub AreInRange : List ℕ → List ℕ → ℕ → Type 0
AreInRange froms tos k = IsId (get_or froms k 0) × IfSome (slice_get tos k) IsId

-- those of the first n queries
abbrev pub AreInRangeBelow : List ℕ → List ℕ → ℕ → Type 0
AreInRangeBelow froms tos n = (k : ℕ) → k < n → AreInRange froms tos k
