-- Inside: rests, stored at the first arc between two nodes.
use Rattle.std.specs.Prelude.{ℕ, ◌≡◌, ◌≢◌, ◌+◌, ◌*◌, ◌<◌, ◌≤◌, ◌^◌, ◌⊎◌, List, length, Some, ℤ, pos, neg_ℤ, ◌+ℤ◌, ◌≤ℤ◌, ◌<ℤ◌}
use Rattle.dimacs_claims.specs.declared.place.Entry.{Entry}
use Rattle.dimacs_network.specs.{declared.network.ArcView.{ArcView}, Arcs.{IsKthBetween, arc_at}}
use Rattle.dimacs_records.specs.declared.reasons.Reason.{Reason}
use Rattle.dimacs_records.specs.declared.reasons.Reason.TheVariants.{BelowLow, AboveCap}
use Rattle.dimacs_judging.specs.{declared.verdict.Where.TheVariants.{Arc}, Rows.{amount_at}, Tests.{Row}}
use Rattle.dimacs_judging.specs.inside.Ranges.{IsOfSize}
use Rattle.dimacs_solve.specs.Spread.{arc_sum, entry_sum}

-- f is the first arc with the ends of arc k
abbrev pub IsFirstParallel : List ArcView → ℕ → ℕ → Type 0
IsFirstParallel arcs k f = IsKthBetween arcs (arc_at arcs k).tail (arc_at arcs k).head 0 (Some f)

-- a rest for each arc, after this many sums; 0 unless the arc is the first between its ends
pub record AreRests (arcs : List ArcView) (so_many : ℕ) (rests : List ℤ) : Type 0 where
  pub one_each : length rests ≡ length arcs
  pub at_first : (k : ℕ) → k < length arcs → amount_at rests k ≢ pos 0 → IsFirstParallel arcs k k
  pub small : (k : ℕ) → IsOfSize (so_many * 2 ^ 63) (amount_at rests k)

-- between any two nodes the rests and the amounts add up to the sum of the entries
abbrev pub AddUp : List ArcView → List Entry → List ℤ → List ℤ → Type 0
AddUp arcs entries rests x = (tail head : ℕ) → (arc_sum arcs rests tail head +ℤ arc_sum arcs x tail head) ≡ entry_sum entries tail head

-- the first arcs carry their lower bounds, the others nothing
pub record AreLows (arcs : List ArcView) (so_many : ℕ) (x : List ℤ) : Type 0 where
  pub one_each : length x ≡ length arcs
  pub low : (k : ℕ) → k < so_many → amount_at x k ≡ (arc_at arcs k).low
  pub none : (k : ℕ) → so_many ≤ k → amount_at x k ≡ pos 0

-- the rest is negative, or positive
abbrev pub RestFails : ℤ → Reason → Type 0
RestFails rest reason = ((reason ≡ BelowLow) × (rest <ℤ pos 0)) ⊎ ((reason ≡ AboveCap) × (pos 0 <ℤ rest))

-- an amount is less than 64 bits can hold, or more
abbrev pub LeavesRange : ℤ → Reason → Type 0
LeavesRange z reason = ((reason ≡ BelowLow) × (z <ℤ neg_ℤ (pos (2 ^ 63)))) ⊎ ((reason ≡ AboveCap) × (pos (2 ^ 63) ≤ℤ z))

-- an amount that leaves the range with its rest
abbrev pub rest_row : List ℤ → List ℤ → Row
rest_row x rests k place reason = (k < length rests) × (place ≡ Arc (k + 1)) × LeavesRange (amount_at x k +ℤ amount_at rests k) reason
