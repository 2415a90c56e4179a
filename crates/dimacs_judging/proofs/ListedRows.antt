-- Tests of the nodes of a list, node by node.
use Rattle.std.proofs.Common.{◌≡◌, ℕ, zero, suc, ◌+◌, ◌*◌, ◌<◌, ◌≤◌, List, [], ◌∷◌, length, get_or, refl, arith, below_more}
use Rattle.std.proofs.lemmas.List.{length-map}
use Rattle.std.specs.List.{flat_map}
use Rattle.dimacs_records.specs.{declared.reasons.Reason.{Reason}, declared.records.Record.TheVariants.{SourceQuery}}
use Rattle.dimacs_instance.specs.QueryTexts.{QueriesValue, Sources, Pairs, pair_query, query_lines}
use Rattle.dimacs_judging.specs.{declared.verdict.Where.{Where}, declared.verdict.Where.TheVariants.{Node}}
use Rattle.dimacs_judging.specs.{QueryTests.{listed_row, sources_asked}, inside.QueryTests.{ends_of}}
use Rattle.dimacs_judging.specs.Tests.{ClearBelow, Clear, FirstOfRow}

module _ (ids : List ℕ) (why : Reason) (fails : ℕ → Type 0) where
  pub listed_clear_end : (n : ℕ) → length ids ≤ n → ClearBelow (listed_row ids why fails) n → Clear (listed_row ids why fails)
  listed_clear_end n all below k place reason f = below k (omega (arith, f.0)) place reason f

  module _ (k id : ℕ) (here : get_or ids k 0 ≡ id) where
    pub listed_clear_more : ClearBelow (listed_row ids why fails) k → (¬ fails id) → ClearBelow (listed_row ids why fails) (k + 1)
    listed_clear_more below at = below_more (λ k. (place : Where) (reason : Reason) → ¬ listed_row ids why fails k place reason) k below (λ place reason f. at (rw here at f.3))

    pub listed_first : k < length ids → ClearBelow (listed_row ids why fails) k → fails id → FirstOfRow (listed_row ids why fails) (Node id) why
    listed_first inside below at = record { number = k; fails = (inside, rw here refl, refl, rw here at); earlier = below }

-- ---- the nodes of pairs: FROM at even places, TO after it
pub length-ends : (pairs : List (ℕ × ℕ)) → length (flat_map ends_of pairs) ≡ 2 * length pairs
length-ends [] = refl
length-ends (p ∷ pairs) = omega (arith, length-ends pairs)

pub from_at : (pairs : List (ℕ × ℕ)) (i : ℕ) (d : ℕ × ℕ) → i < length pairs → get_or (flat_map ends_of pairs) (2 * i) 0 ≡ (get_or pairs i d).0
from_at [] i d inside = absurd (omega (arith, inside))
from_at (p ∷ pairs) zero d inside = refl
from_at (p ∷ pairs) (suc i) d inside = let e : 2 * suc i ≡ suc (suc (2 * i)) = omega arith in rw e (from_at pairs i d (omega (arith, inside)))

pub to_at : (pairs : List (ℕ × ℕ)) (i : ℕ) (d : ℕ × ℕ) → i < length pairs → get_or (flat_map ends_of pairs) (2 * i + 1) 0 ≡ (get_or pairs i d).1
to_at [] i d inside = absurd (omega (arith, inside))
to_at (p ∷ pairs) zero d inside = refl
to_at (p ∷ pairs) (suc i) d inside = let e : 2 * suc i + 1 ≡ suc (suc (2 * i + 1)) = omega arith in rw e (to_at pairs i d (omega (arith, inside)))

-- ---- sources, one for each query
pub length-sources : (queries : QueriesValue) → length (sources_asked queries) ≡ length (query_lines queries)
length-sources (Sources ids) = omega (arith, length-map ids SourceQuery)
length-sources (Pairs pairs) = omega (arith, length-map pairs (λ pair. pair.0), length-map pairs pair_query)
