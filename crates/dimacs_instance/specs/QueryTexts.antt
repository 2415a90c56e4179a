-- Queries for distances, and the texts that spell them.
use Rattle.std.specs.{Prelude.{ℕ, ◌≡◌, ◌≤◌, List, ◌∷◌, map, length, [], codes}, Fmt.{decimal}, List.{All}}
use Rattle.dimacs_lines.specs.{Limits.{most_count}, Lines.{lines}}
use Rattle.dimacs_records.specs.{declared.records.QueryKind.{QueryKind}, declared.records.Record.{Record}}
use Rattle.dimacs_records.specs.declared.records.Record.TheVariants.{QueriesProblem, SourceQuery, PairQuery}
use Rattle.dimacs_records.specs.{Canonical.{canonical_text}, Printed.{shown}, Ranges.{IsId}, Texts.{SpellsValue}}
use Rattle.dimacs_records.specs.Readings.{LineRecord, records_of}
use Rattle.dimacs_instance.specs.declared.queries.Queries.{Queries}
use Rattle.dimacs_records.specs.declared.kinds.TextKind.TheVariants as kinds
use Rattle.dimacs_records.specs.declared.records.QueryKind.TheVariants as asks
use Rattle.dimacs_instance.specs.declared.queries.Queries.TheVariants as query_lists

-- the distances from sources to all nodes, or from one node to another
pub data QueriesValue : Type 0 where
  Sources : List ℕ → QueriesValue
  Pairs : List (ℕ × ℕ) → QueriesValue

-- the mathematical value; it doesn't depend on capacities of lists
abbrev pub asked : Queries → QueriesValue
asked (query_lists.Sources ids) = Sources ids.items
asked (query_lists.Pairs pairs) = Pairs pairs.items

abbrev pub kind_asked : QueriesValue → QueryKind
kind_asked (Sources ids) = asks.Sources
kind_asked (Pairs pairs) = asks.Pairs

abbrev pub pair_query : ℕ × ℕ → Record
pair_query pair = PairQuery pair.0 pair.1

abbrev pub query_lines : QueriesValue → List Record
query_lines (Sources ids) = map SourceQuery ids
query_lines (Pairs pairs) = map pair_query pairs

-- the problem line, then the queries
abbrev pub query_records : QueriesValue → List Record
query_records queries = QueriesProblem (kind_asked queries) (length (query_lines queries)) ∷ query_lines queries

abbrev pub AreIds : ℕ × ℕ → Type 0
AreIds pair = IsId pair.0 × IsId pair.1

abbrev pub HaveIds : QueriesValue → Type 0
HaveIds (Sources ids) = All IsId ids
HaveIds (Pairs pairs) = All AreIds pairs

-- the IDs and the number of queries are in their ranges
pub record AreLawful (queries : QueriesValue) : Type 0 where
  pub few : length (query_lines queries) ≤ most_count
  pub ids : HaveIds queries

abbrev pub GivesQueries : List LineRecord → QueriesValue → Type 0
GivesQueries rs queries = (records_of rs ≡ query_records queries) × AreLawful queries

-- the text spells these queries
abbrev pub SpellsQueries : List ℕ → QueriesValue → Type 0
SpellsQueries text queries = SpellsValue kinds.Queries GivesQueries (lines text) queries

abbrev pub canonical_queries : QueriesValue → List ℕ
canonical_queries queries = canonical_text (query_records queries)

abbrev pub shown_queries : QueriesValue → List ℕ
shown_queries (Sources ids) = shown (codes "ss" ∷ decimal (length ids) ∷ [])
shown_queries (Pairs pairs) = shown (codes "p2p" ∷ decimal (length pairs) ∷ [])
