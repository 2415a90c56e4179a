-- Inside: queries while their text is read.
use Rattle.std.specs.Prelude.{◌≤◌, length}
use Rattle.dimacs_lines.specs.Limits.{most_count}
use Rattle.dimacs_instance.specs.{QueryTexts.{HaveIds, query_lines}, QueriesReading.{QueriesBegun}}

-- a lawful state
pub record AreQueriesBegun (begun : QueriesBegun) : Type 0 where
  pub few : begun.declared ≤ most_count
  pub no_more : length (query_lines begun.queries) ≤ begun.declared
  pub ids : HaveIds begun.queries
