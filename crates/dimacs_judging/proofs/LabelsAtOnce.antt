-- A block's labels in one piece, for a yes.
use Rattle.std.proofs.Common.{◌≡◌, ◌≢◌, inl, inr, ℕ, ◌^◌, ◌-◌, ◌≤◌, Bool, true, false, Some, None, ℤ, pos, ◌+ℤ◌, ◌<ℤ◌, ◌≤ℤ◌, arith}
use Rattle.std.proofs.{lemmas.Bool.{cases_Bool, cases_eq}, lemmas.Int.{ints}}
use Rattle.std.specs.{Int.{from_bool}, Prelude.{int_lt}}
use Rattle.dimacs_network.specs.{declared.dense_table.DenseTable.{DenseTable}, DenseTables.{value_at}}
use Rattle.dimacs_judging.specs.{Distances.{below}, declared.node_label.NodeLabel.{NodeLabel}}
use Rattle.dimacs_judging.specs.{inside.Distances.{Improves}, inside.LabelsAtOnce.{AreSmall, IsSmallOrNone}}

-- ---- the distance in a number
pub below_some : (end d a : ℤ) → below end d ≡ Some a → (d ≡ a) × (d <ℤ end)
below_some end d a is = elim (cases_Bool (int_lt d end)) [
  | inl less ↦ (let e : Some d ≡ Some a = rw less at is in (cc, omega (arith, ints, less)))
  | inr most ↦ absurd (let e : None ≡ Some a = rw most at is in cc)
]

pub below_none : (end d : ℤ) → below end d ≡ None → end ≤ℤ d
below_none end d is = elim (cases_Bool (int_lt d end)) [
  | inl less ↦ absurd (let e : Some d ≡ None = rw less at is in cc)
  | inr most ↦ omega (arith, ints, most)
]

-- ---- numbers that are small, or stand for no distance
abbrev pub none_from : ℤ
none_from = pos (2 ^ 31 - 1)

pub is_none_number : (d : ℤ) → below none_from d ≡ None → d ≤ℤ none_from → IsSmallOrNone d
is_none_number d none most = inr (let least = below_none none_from d none in omega (arith, ints, least, most))

pub is_small_number : (d a : ℤ) → below none_from d ≡ Some a → a <ℤ pos (2 ^ 30) → IsSmallOrNone d
is_small_number d a some small = inl (let is = (below_some none_from d a some).0 in omega (arith, ints, is, small))

pub small_all : (table : DenseTable (NodeLabel ℤ)) (label : NodeLabel ℤ) → ((v : ℕ) → value_at table v ≡ label) → IsSmallOrNone label.dist → AreSmall table
small_all table label all small v = rw (all v) small

pub small_set : (id : ℕ) (label : NodeLabel ℤ) (old new : DenseTable (NodeLabel ℤ)) → value_at new id ≡ label → ((v : ℕ) → v ≢ id → value_at new v ≡ value_at old v) → IsSmallOrNone label.dist → AreSmall old → AreSmall new
small_set id label old new set others small all v = elim (cases_eq v id) [
  | inl same ↦ rw (same, set) small
  | inr off ↦ rw (others v off) (all v)
]

-- a small sum that isn't less than a number improves nothing
pub improves_nothing : (from to weight : ℤ) → IsSmallOrNone from → pos 0 ≤ℤ weight → weight <ℤ pos (2 ^ 30) → (¬ ((from +ℤ weight) <ℤ to)) → ¬ Improves (below none_from from) (below none_from to) weight
improves_nothing from to weight small low high holds (a, is, inl none) =
    let some = below_some none_from from a is in
    let far = below_none none_from to none in
    elim small [
      | inl less ↦ holds (omega (arith, ints, less, high, far))
      | inr most ↦ absurd (let below_end = some.1 in omega (arith, ints, most, below_end))
    ]
improves_nothing from to weight small low high holds (a, is, inr (b, to_is, less)) =
    let some = (below_some none_from from a is).0 in
    let reached = (below_some none_from to b to_is).0 in
    holds (omega (arith, ints, some, reached, less))

pub one_at_most : (t : Bool) → from_bool t ≤ 1
one_at_most true = omega arith
one_at_most false = omega arith
