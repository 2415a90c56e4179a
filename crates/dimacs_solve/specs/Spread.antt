-- Flows that deal out the sums between any two nodes to the arcs between them.
use Rattle.std.specs.Prelude.{ℕ, ◌≡◌, ◌<◌, ◌^◌, ◌⊎◌, true, List, [], ◌∷◌, length, map, Some, ℤ, pos, neg_ℤ, ◌+ℤ◌, ◌-ℤ◌, ◌*ℤ◌, ◌≤ℤ◌, ◌<ℤ◌}
use Rattle.std.specs.List.{AllZip}
use Rattle.dimacs_claims.specs.declared.place.Entry.{Entry}
use Rattle.dimacs_network.specs.{declared.network.ArcView.{ArcView}, Arcs.{joins, IsKthBetween, arc_at}}
use Rattle.dimacs_records.specs.declared.reasons.Reason.{Reason}
use Rattle.dimacs_records.specs.declared.reasons.Reason.TheVariants.{UnknownArc, BelowLow, AboveCap}
use Rattle.dimacs_judging.specs.{declared.verdict.Where.TheVariants.{Solution}, Claims.{is_between, entry_at, IsKnown}}
use Rattle.dimacs_judging.specs.{Flows.{sum_arcs, when}, Rows.{amount_at, arc_row}, Tests.{Row}}

-- the sum of the entries from one node to another
abbrev pub entry_sum : List Entry → ℕ → ℕ → ℤ
entry_sum [] tail head = pos 0
entry_sum (e ∷ entries) tail head = when (is_between tail head e) e.flow +ℤ entry_sum entries tail head

-- the sum of the amounts on the arcs from one node to another
abbrev pub arc_sum : List ArcView → List ℤ → ℕ → ℕ → ℤ
arc_sum arcs x tail head = sum_arcs (λ a z. when (joins tail head a) z) arcs x

-- the cost of these amounts
abbrev pub arc_cost : List ArcView → List ℤ → ℕ → ℕ → ℤ
arc_cost arcs x tail head = sum_arcs (λ a z. when (joins tail head a) (a.cost *ℤ z)) arcs x

abbrev pub lows : List ArcView → List ℤ
lows arcs = map (λ a. a.low) arcs

abbrev pub caps : List ArcView → List ℤ
caps arcs = map (λ a. a.cap) arcs

-- every arc from one node to another carries from its lower bound to its capacity
abbrev pub KeepsBounds : List ArcView → List ℤ → ℕ → ℕ → Type 0
KeepsBounds arcs x tail head = AllZip (λ a z. joins tail head a ≡ true → (a.low ≤ℤ z) × (z ≤ℤ a.cap)) arcs x

-- all arcs from one node to another but the first carry these amounts
abbrev pub OthersCarry : List ArcView → List ℤ → List ℤ → ℕ → ℕ → Type 0
OthersCarry arcs x amounts tail head = (j k : ℕ) → 0 < j → IsKthBetween arcs tail head j (Some k) → amount_at x k ≡ amount_at amounts k

-- an amount for each arc; between any two nodes their sum is that of the entries, and all arcs keep their bounds if they
-- can; if the sum is too little or too much, all but the first carry their lower bounds, or their capacities
pub record Deals (arcs : List ArcView) (entries : List Entry) (x : List ℤ) : Type 0 where
  pub one_each : length x ≡ length arcs
  pub sums : (tail head : ℕ) → arc_sum arcs x tail head ≡ entry_sum entries tail head
  pub kept : (tail head : ℕ) → arc_sum arcs (lows arcs) tail head ≤ℤ entry_sum entries tail head
      → entry_sum entries tail head ≤ℤ arc_sum arcs (caps arcs) tail head → KeepsBounds arcs x tail head
  pub too_little : (tail head : ℕ) → entry_sum entries tail head <ℤ arc_sum arcs (lows arcs) tail head → OthersCarry arcs x (lows arcs) tail head
  pub too_much : (tail head : ℕ) → arc_sum arcs (caps arcs) tail head <ℤ entry_sum entries tail head → OthersCarry arcs x (caps arcs) tail head

-- between any two nodes, no amounts with the sum of the entries and within the bounds cost less
abbrev pub NoneCheaper : List ArcView → List Entry → List ℤ → Type 0
NoneCheaper arcs entries x =
    (tail head : ℕ) (y : List ℤ) → arc_sum arcs y tail head ≡ entry_sum entries tail head → KeepsBounds arcs y tail head
    → arc_cost arcs x tail head ≤ℤ arc_cost arcs y tail head

-- an entry without an arc, named by its line
abbrev pub unknown_row : List ArcView → List Entry → Row
unknown_row arcs entries k place reason =
    (k < length entries) × (place ≡ Solution (entry_at entries k).line 0) × (reason ≡ UnknownArc) × (¬ IsKnown arcs (entry_at entries k))

-- what is left for an arc of the sum between its ends, if the other arcs between them carry these amounts
abbrev pub left_for : List ArcView → List Entry → List ℤ → ℕ → ℤ
left_for arcs entries amounts k =
    entry_sum entries (arc_at arcs k).tail (arc_at arcs k).head
    -ℤ (arc_sum arcs amounts (arc_at arcs k).tail (arc_at arcs k).head -ℤ amount_at amounts k)

-- the arc is the first between its ends, and what is left for it doesn't fit 64 bits: too little, if the others carry
-- their lower bounds, or too much, if they carry their capacities
abbrev pub AmountFails : List ArcView → List Entry → ℕ → Reason → Type 0
AmountFails arcs entries k reason =
    IsKthBetween arcs (arc_at arcs k).tail (arc_at arcs k).head 0 (Some k)
    × (((reason ≡ BelowLow) × (left_for arcs entries (lows arcs) k <ℤ neg_ℤ (pos (2 ^ 63))))
    ⊎ ((reason ≡ AboveCap) × (pos (2 ^ 63) ≤ℤ left_for arcs entries (caps arcs) k)))

-- the tests of entries to be dealt out: each has an arc, and each first arc's amount fits
abbrev pub spread_rows : List ArcView → List Entry → List Row
spread_rows arcs entries = unknown_row arcs entries ∷ arc_row arcs (AmountFails arcs entries) ∷ []
