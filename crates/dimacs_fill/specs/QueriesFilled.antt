-- Queries in the arrays of a caller.
use Rattle.std.specs.Prelude.{ℕ, List, [], length, map, Result}
use Rattle.dimacs_records.specs.declared.faults.ReadError.{ReadError}
use Rattle.dimacs_instance.specs.QueryTexts.{QueriesValue, Sources, Pairs, SpellsQueries, kind_asked, query_lines}
use Rattle.dimacs_fill.specs.{declared.queries.QuerySizes.{QuerySizes}, Filling.{Array, IsFilled, ReadsInto}}
use Rattle.dimacs_records.specs.declared.kinds.TextKind.TheVariants as kinds

abbrev pub query_sizes : QueriesValue → QuerySizes
query_sizes queries = record { kind = kind_asked queries; count = length (query_lines queries) }

-- the nodes that distances are asked from, and to
abbrev pub froms_of : QueriesValue → List ℕ
froms_of (Sources ids) = ids
froms_of (Pairs pairs) = map (λ (p : ℕ × ℕ). p.0) pairs

abbrev pub tos_of : QueriesValue → List ℕ
tos_of (Sources ids) = []
tos_of (Pairs pairs) = map (λ (p : ℕ × ℕ). p.1) pairs

abbrev pub HoldQueries : Array ℕ → Array ℕ → QueriesValue → Type 0
HoldQueries froms tos queries = IsFilled (froms_of queries) froms × IsFilled (tos_of queries) tos

abbrev pub ReadsQueriesInto : List ℕ → Array ℕ → Array ℕ → Result QuerySizes ReadError → Type 0
ReadsQueriesInto text froms tos = ReadsInto kinds.Queries text (SpellsQueries text) (Sources []) query_sizes (HoldQueries froms tos)
