-- Queries while their text is read.
use Rattle.std.specs.Prelude.{ℕ, List, ◌∷◌, length, Bool, false, true, None, Some}
use Rattle.dimacs_records.specs.{declared.records.Record.{Record}, declared.order.Context.{Context}}
use Rattle.dimacs_records.specs.declared.records.Record.TheVariants.{QueriesProblem, SourceQuery, PairQuery}
use Rattle.dimacs_records.specs.Tests.{plain_context_of}
use Rattle.dimacs_instance.specs.QueryTexts.{QueriesValue, kind_asked, query_lines, Sources, Pairs}

-- the declared number, and the queries so far
pub record QueriesBegun : Type 0 where
  pub declared : ℕ
  pub queries : QueriesValue

-- the records so far
abbrev pub queries_begun_records : QueriesBegun → List Record
queries_begun_records begun = QueriesProblem (kind_asked begun.queries) begun.declared ∷ query_lines begun.queries

-- the record is a query of the other kind
abbrev pub is_of_others : Record → QueriesValue → Bool
is_of_others (SourceQuery id) (Pairs pairs) = true
is_of_others (PairQuery from to) (Sources ids) = true
is_of_others r queries = false

-- what the tests need after the problem line and these queries
abbrev pub plain_context : QueriesBegun → Context
plain_context begun = plain_context_of (Some (record { nodes = None; count = begun.declared })) (length (query_lines begun.queries))

-- the same for one more record
abbrev pub context : QueriesBegun → Record → Context
context begun r = record (plain_context begun) { misplaced = is_of_others r begun.queries }
