-- One more record of queries while their text is read.
use Rattle.std.proofs.Common.{◌≡◌, ℕ, suc, ◌<◌, ◌≤◌, ◌∷◌, ◌++◌, [], List, true, false, Some, length, map, refl, ap, ap₂, sym, ◌∙◌, arith, inl, inr, ◌⊎◌}
use Rattle.std.proofs.{lemmas.Int.{ints}, lemmas.List.{map-id, length-append, length-map}, lemmas.Simd.{map-map}}
use Rattle.std.proofs.{lemmas.List.Elements.{All-cons, All-map}, lemmas.Bool.Decides.{nat_tests}}
use Rattle.std.specs.{Prelude.{codes, nat_lt, nat_le}, List.{All, list_any}}
use Rattle.dimacs_lines.specs.Limits.{most_count}
use Rattle.dimacs_records.specs.{declared.order.Context.{Context}, declared.records.QueryKind.{QueryKind}}
use Rattle.dimacs_records.specs.{declared.records.Record.{Record}, Earlier.{asks_for, counted_in, is_counted}}
use Rattle.dimacs_records.specs.declared.records.Record.TheVariants.{QueriesProblem, SourceQuery, PairQuery}
use Rattle.dimacs_records.specs.{Forms.{form, Word, Either, Count, Id}, Canonical.{CanBeSpelled}, Ranges.{IsId}}
use Rattle.dimacs_records.specs.{Readings.{LineRecord, IsAllowed, IsComplete, records_of}, Texts.{AreFaultless}}
use Rattle.dimacs_records.specs.Spelling.{kind_of, query_word}
use Rattle.dimacs_records.specs.Tests.{plain_context_after, plain_context_of, context_after}
use Rattle.dimacs_records.proofs.{CanonicalLaws.{canonical_spelled, numbered_all}, SplitLemmas.{image_at}}
use Rattle.dimacs_records.proofs.ConditionLemmas.{is_allowed, is_complete, allowed_at}
use Rattle.dimacs_instance.specs.QueryTexts.{QueriesValue, Sources, Pairs, AreIds, AreLawful, GivesQueries, HaveIds, SpellsQueries, canonical_queries, kind_asked, pair_query, query_lines, query_records}
use Rattle.dimacs_instance.specs.QueriesReading.{QueriesBegun, queries_begun_records, plain_context, is_of_others, context}
use Rattle.dimacs_records.specs.declared.kinds.TextKind.TheVariants as kinds
use Rattle.dimacs_records.specs.declared.records.QueryKind.TheVariants as asks

all_counted : {X : Type 0} (say : X → Record) → ((x : X) → is_counted (say x) ≡ true) → (xs : List X) → counted_in (map say xs) ≡ length (map say xs)
all_counted say each [] = refl
all_counted say each (x ∷ xs) = rw (each x) (ap suc (all_counted say each xs))

counted_in-query_lines : (queries : QueriesValue) → counted_in (query_lines queries) ≡ length (query_lines queries)
counted_in-query_lines (Sources ids) = all_counted SourceQuery (λ id. refl) ids
counted_in-query_lines (Pairs pairs) = all_counted pair_query (λ pair. refl) pairs

-- queries are no problem lines
no_problem_in_sources : (ids : List ℕ) → list_any (asks_for asks.Pairs) (map SourceQuery ids) ≡ false
no_problem_in_sources [] = refl
no_problem_in_sources (id ∷ ids) = no_problem_in_sources ids

no_problem_in_pairs : (pairs : List (ℕ × ℕ)) → list_any (asks_for asks.Sources) (map pair_query pairs) ≡ false
no_problem_in_pairs [] = refl
no_problem_in_pairs (pair ∷ pairs) = no_problem_in_pairs pairs

-- after the problem line and these queries
module _ (n : ℕ) (queries : QueriesValue) where
  abbrev earlier : List Record
  earlier = QueriesProblem (kind_asked queries) n ∷ query_lines queries

  not_full : length (query_lines queries) < n → nat_le n (counted_in (query_lines queries)) ≡ false
  not_full room = rw (counted_in-query_lines queries) (grind (arith, nat_tests, room))

  all_queries : n ≤ length (query_lines queries) → IsComplete kinds.Queries earlier
  all_queries full =
      let counted : nat_lt (counted_in (query_lines queries)) n ≡ false = rw (counted_in-query_lines queries) (grind (arith, nat_tests, full)) in
      is_complete kinds.Queries earlier (rw counted refl)

-- what the tests know follows from the records
pub plain_context_by_records : (b : QueriesBegun) → plain_context b ≡ plain_context_after (queries_begun_records b)
plain_context_by_records b = ap (plain_context_of (plain_context b).problem) (sym (counted_in-query_lines b.queries))

-- only the problem line announces the kind of query
source_by_records : (id n : ℕ) (queries : QueriesValue) → list_any (asks_for asks.Pairs) (earlier n queries) ≡ is_of_others (SourceQuery id) queries
source_by_records id n (Sources ids) = no_problem_in_sources ids
source_by_records id n (Pairs pairs) = refl

pair_by_records : (from to n : ℕ) (queries : QueriesValue) → list_any (asks_for asks.Sources) (earlier n queries) ≡ is_of_others (PairQuery from to) queries
pair_by_records from to n (Sources ids) = refl
pair_by_records from to n (Pairs pairs) = no_problem_in_pairs pairs

pub context_by_records : (b : QueriesBegun) (r : Record) → kind_of r ≡ kinds.Queries → context b r ≡ context_after (queries_begun_records b) r
context_by_records b (QueriesProblem kind n) of_kind = plain_context_by_records b
context_by_records b (SourceQuery id) of_kind = ap₂ (λ (e : Context) t. record e { misplaced = t }) (plain_context_by_records b) (sym (source_by_records id b.declared b.queries))
context_by_records b (PairQuery from to) of_kind = ap₂ (λ (e : Context) t. record e { misplaced = t }) (plain_context_by_records b) (sym (pair_by_records from to b.declared b.queries))
context_by_records b r of_kind = absurd (cc)

-- the records of queries have no fault
source_allowed : (n : ℕ) (ids : List ℕ) (id : ℕ) → length (map SourceQuery ids) < n → IsAllowed (earlier n (Sources ids)) (SourceQuery id)
source_allowed n ids id room = is_allowed (earlier n (Sources ids)) (SourceQuery id) (rw (no_problem_in_sources ids, not_full n (Sources ids) room) refl)

pair_allowed : (n : ℕ) (pairs : List (ℕ × ℕ)) (pair : ℕ × ℕ) → length (map pair_query pairs) < n → IsAllowed (earlier n (Pairs pairs)) (pair_query pair)
pair_allowed n pairs pair room = is_allowed (earlier n (Pairs pairs)) (pair_query pair) (rw (no_problem_in_pairs pairs, not_full n (Pairs pairs) room) refl)

lines_allowed : {X : Type 0} (kind : QueryKind) (say : X → Record) → ((n : ℕ) (xs : List X) (x : X) → length (map say xs) < n → IsAllowed (QueriesProblem kind n ∷ map say xs) (say x))
    → (xs : List X) (before after : List Record) (r : Record) → QueriesProblem kind (length (map say xs)) ∷ map say xs ≡ before ++ r ∷ after → IsAllowed before r
lines_allowed kind say each xs [] after r e = let first : r ≡ QueriesProblem kind (length (map say xs)) = cc in rw first (is_allowed [] (QueriesProblem kind (length (map say xs))) refl)
lines_allowed kind say each xs (b ∷ bs) after r e =
    let n = length (map say xs) in
    let first : b ≡ QueriesProblem kind n = cc in
    let at = image_at say xs bs after r (cc) in
    let room : length (map say at.front) < n = omega (arith, length-map xs say, length-map at.front say, ap length at.xs_are, length-append at.front (at.x ∷ at.back)) in
    allowed_at (b ∷ bs) (QueriesProblem kind n ∷ map say at.front) r (say at.x) (ap₂ (λ x xs. x ∷ xs) first at.before_is) at.y_is (each n at.front at.x room)

queries_allowed : (queries : QueriesValue) (before after : List Record) (r : Record) → query_records queries ≡ before ++ r ∷ after → IsAllowed before r
queries_allowed (Sources ids) = lines_allowed asks.Sources SourceQuery source_allowed ids
queries_allowed (Pairs pairs) = lines_allowed asks.Pairs pair_query pair_allowed pairs

pub queries_faultless : (rs : List LineRecord) (queries : QueriesValue) → GivesQueries rs queries → AreFaultless kinds.Queries (records_of rs)
queries_faultless rs queries h = rw h.0 (record { allowed = queries_allowed queries; complete = all_queries (length (query_lines queries)) queries (omega arith) })

-- the query of a record, and the queries of a problem line and others
id_of : Record → ℕ
id_of (SourceQuery id) = id
id_of r = 0

pair_of : Record → ℕ × ℕ
pair_of (PairQuery from to) = (from, to)
pair_of r = (0, 0)

queries_of : List Record → QueriesValue
queries_of (QueriesProblem asks.Pairs count ∷ rs) = Pairs (map pair_of rs)
queries_of (r ∷ rs) = Sources (map id_of rs)
queries_of [] = Sources []

queries_of-query_records : (queries : QueriesValue) → queries_of (query_records queries) ≡ queries
unfolding queries_of id_of pair_of
queries_of-query_records (Sources ids) = ap Sources (map-map id_of SourceQuery ids ∙ map-id ids)
queries_of-query_records (Pairs pairs) = ap Pairs (map-map pair_of pair_query pairs ∙ map-id pairs)

-- records give only one value
pub one_queries : (rs : List LineRecord) (queries others : QueriesValue) → GivesQueries rs queries → GivesQueries rs others → queries ≡ others
one_queries rs queries others a b = sym (queries_of-query_records queries) ∙ (ap queries_of (sym a.0 ∙ b.0) ∙ queries_of-query_records others)

one_of_both : (kind : QueryKind) → (query_word kind ≡ codes "ss") ⊎ (query_word kind ≡ codes "p2p")
one_of_both asks.Sources = inl refl
one_of_both asks.Pairs = inr refl

problem_fits : (kind : QueryKind) (count : ℕ) → count ≤ most_count → CanBeSpelled kinds.Queries (QueriesProblem kind count)
problem_fits kind count few = record {
  form = form (codes "p") (Word (codes "aux") ∷ Word (codes "sp") ∷ Either (codes "ss") (codes "p2p") ∷ Count ∷ []);
  of_kind = (0, omega arith, refl);
  for_kind = refl;
  letter = refl;
  fit = (refl, (refl, (one_of_both kind, ((omega (arith, ints), omega (arith, ints, few)), tt))));
}

source_fits : (id : ℕ) → IsId id → CanBeSpelled kinds.Queries (SourceQuery id)
source_fits id is = record {
  form = form (codes "s") (Id ∷ []);
  of_kind = (1, omega arith, refl);
  for_kind = refl;
  letter = refl;
  fit = ((omega (arith, ints, is.0), omega (arith, ints, is.1)), tt);
}

pair_fits : (pair : ℕ × ℕ) → AreIds pair → CanBeSpelled kinds.Queries (pair_query pair)
pair_fits pair are = record {
  form = form (codes "q") (Id ∷ Id ∷ []);
  of_kind = (2, omega arith, refl);
  for_kind = refl;
  letter = refl;
  fit = ((omega (arith, ints, are.0.0), omega (arith, ints, are.0.1)), ((omega (arith, ints, are.1.0), omega (arith, ints, are.1.1)), tt));
}

query_lines_fit : (queries : QueriesValue) → HaveIds queries → All (CanBeSpelled kinds.Queries) (query_lines queries)
query_lines_fit (Sources ids) are = All-map (CanBeSpelled kinds.Queries) SourceQuery ids (λ k d below. source_fits _ (are k d below))
query_lines_fit (Pairs pairs) are = All-map (CanBeSpelled kinds.Queries) pair_query pairs (λ k d below. pair_fits _ (are k d below))

-- the canonical text of lawful queries spells them
pub queries_round_trip : (queries : QueriesValue) → AreLawful queries → SpellsQueries (canonical_queries queries) queries
queries_round_trip queries are =
    let problem = QueriesProblem (kind_asked queries) (length (query_lines queries)) in
    let fit : All (CanBeSpelled kinds.Queries) (query_records queries) = All-cons (CanBeSpelled kinds.Queries) problem (query_lines queries) (problem_fits (kind_asked queries) (length (query_lines queries)) are.few) (query_lines_fit queries are.ids) in
    record {
      by_line = map (λ (r : Record). Some r) (query_records queries);
      spelled = canonical_spelled kinds.Queries (query_records queries) fit (omega (arith, are.few));
      given = (numbered_all (query_records queries), are);
    }
