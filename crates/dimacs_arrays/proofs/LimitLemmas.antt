-- The limits of arcs and counts.
use Rattle.std.proofs.Common.{◌≡◌, inl, inr, ℕ, ◌+◌, ◌<◌, ◌≤◌, List, [], ◌∷◌, ◌++◌, length, All, refl, sym, ◌∙◌, below_more, arith}
use Rattle.std.proofs.{lemmas.Int.{ints}, lemmas.List.Elements.{All-from_get_or, All-get_or}}
use Rattle.std.specs.Prelude.{pos, ◌≤ℤ◌}
use Rattle.dimacs_lines.specs.Limits.{most_count, most_nodes}
use Rattle.dimacs_records.specs.{declared.reasons.Reason.{Reason}, declared.reasons.Reason.TheVariants.{NumberRange}}
use Rattle.dimacs_network.specs.{declared.network.ArcView.{ArcView}, Arcs.{JoinsNodes, arc_at, no_arc}}
use Rattle.dimacs_judging.specs.{declared.verdict.Where.{Where}, declared.verdict.Where.TheVariants.{Arc, Node}}
use Rattle.dimacs_judging.specs.{Rows.{one_test}, Tests.{AllClear, Clear, FirstOfRow, Row}}
use Rattle.dimacs_judging.proofs.{Firsts.{AllOneWay, OneWay, arc_one_way, one_test_one_way}, RowLemmas.{arc_first}}
use Rattle.dimacs_judging.proofs.RowLists.{all_clear-append, all_one_way-append}
use Rattle.dimacs_arrays.specs.{Limits.{ArcFails, count_rows, limit_row}, inside.Lent.{IsInRange}}

-- a single test fails, or passes
pub one_first : (place : Where) (why : Reason) (fails : Type 0) → fails → FirstOfRow (one_test place why fails) place why
one_first place why fails f = record { number = 0; fails = (refl, refl, refl, f); earlier = λ k below. absurd (omega (arith, below)) }

pub one_clear : (place : Where) (why : Reason) (fails : Type 0) → (¬ fails) → Clear (one_test place why fails)
one_clear place why fails off k p r f = off f.3

counts_clear : (nodes arcs : ℕ) → nodes ≤ most_nodes → arcs ≤ most_count → AllClear (count_rows nodes arcs)
counts_clear nodes arcs nodes_few arcs_few = (
  one_clear (Node (most_nodes + 1)) NumberRange (most_nodes < nodes) (λ more. omega (arith, more, nodes_few)),
  (one_clear (Arc (most_count + 1)) NumberRange (most_count < arcs) (λ more. omega (arith, more, arcs_few)), tt),
)

counts_one_way : (nodes arcs : ℕ) → AllOneWay (count_rows nodes arcs)
counts_one_way nodes arcs = (one_test_one_way (Node (most_nodes + 1)) NumberRange (most_nodes < nodes), (one_test_one_way (Arc (most_count + 1)) NumberRange (most_count < arcs), tt))

one_fault : (nodes : ℕ) (a : ArcView) (r s : Reason) → ArcFails nodes a r → ArcFails nodes a s → r ≡ s
one_fault nodes a r s (inl f) (inl g) = f.0 ∙ sym g.0
one_fault nodes a r s (inl f) (inr g) = absurd (f.1 g.1)
one_fault nodes a r s (inr f) (inl g) = absurd (g.1 f.1)
one_fault nodes a r s (inr f) (inr g) = f.0 ∙ sym g.0

limit_one_way : (nodes : ℕ) (arcs : List ArcView) → OneWay (limit_row nodes arcs)
limit_one_way nodes arcs = arc_one_way arcs _ (λ k r s f g. one_fault nodes (arc_at arcs k) r s f g)

-- an arc that joins nodes and has lawful bounds
abbrev pub HasLawfulBounds : ArcView → Type 0
HasLawfulBounds a = (pos 0 ≤ℤ a.low) × (a.low ≤ℤ a.cap)

no_fault : (nodes : ℕ) (a : ArcView) (reason : Reason) → JoinsNodes nodes a → HasLawfulBounds a → ¬ ArcFails nodes a reason
no_fault nodes a reason joined bounds (inl f) = f.1 joined
no_fault nodes a reason joined bounds (inr f) = elim f.2 [ inl low ↦ omega (arith, ints, low, bounds.0) | inr less ↦ omega (arith, ints, less, bounds.1) ]

limits_clear : (nodes : ℕ) (arcs : List ArcView) → All (JoinsNodes nodes) arcs → All HasLawfulBounds arcs → Clear (limit_row nodes arcs)
limits_clear nodes arcs joined bounds k place reason f =
    no_fault nodes (arc_at arcs k) reason (All-get_or (JoinsNodes nodes) arcs k no_arc f.0 joined) (All-get_or HasLawfulBounds arcs k no_arc f.0 bounds) f.2

-- ---- the arcs before i are in range
module _ (nodes : ℕ) (arcs : List ArcView) (i : ℕ) where
  abbrev pub AreInRangeBelow : Type 0
  AreInRangeBelow = (k : ℕ) → k < i → IsInRange nodes (arc_at arcs k)

  pub first_past : (reason : Reason) → i < length arcs → AreInRangeBelow → ArcFails nodes (arc_at arcs i) reason → FirstOfRow (limit_row nodes arcs) (Arc (i + 1)) reason
  first_past reason inside below fails = arc_first arcs _ i reason inside (λ k less place why f. no_fault nodes (arc_at arcs k) why (below k less).0 ((below k less).1.0, (below k less).1.1) f.2) fails

  pub one_more : AreInRangeBelow → IsInRange nodes (arc_at arcs i) → (k : ℕ) → k < i + 1 → IsInRange nodes (arc_at arcs k)
  one_more below at = below_more (λ k. IsInRange nodes (arc_at arcs k)) i below at

  pub all_in_range : length arcs ≤ i → AreInRangeBelow → All (IsInRange nodes) arcs
  all_in_range end below = All-from_get_or (IsInRange nodes) arcs no_arc (λ k inside. below k (omega (arith, inside, end)))

-- ---- the limits of the counts, then others, then those of each arc
module _ (nodes count : ℕ) (others : List Row) (arcs : List ArcView) where
  abbrev limits : List Row
  limits = count_rows nodes count ++ (others ++ limit_row nodes arcs ∷ [])

  pub limits_one_way : AllOneWay others → AllOneWay limits
  limits_one_way one =
      all_one_way-append (count_rows nodes count) (others ++ limit_row nodes arcs ∷ []) (counts_one_way nodes count)
      (all_one_way-append others (limit_row nodes arcs ∷ []) one (limit_one_way nodes arcs, tt))

  pub all_limits_clear : nodes ≤ most_nodes → count ≤ most_count → AllClear others → All (JoinsNodes nodes) arcs → All HasLawfulBounds arcs → AllClear limits
  all_limits_clear nodes_few arcs_few clear joined bounds =
      all_clear-append (count_rows nodes count) (others ++ limit_row nodes arcs ∷ []) (counts_clear nodes count nodes_few arcs_few)
      (all_clear-append others (limit_row nodes arcs ∷ []) clear (limits_clear nodes arcs joined bounds, tt))
