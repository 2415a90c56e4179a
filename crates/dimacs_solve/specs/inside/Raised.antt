-- Inside: amounts within the bounds while arcs are raised.
use Rattle.std.specs.Prelude.{ℕ, ◌≡◌, ◌<◌, ◌⊎◌, List, length, set, ℤ, pos, ◌+ℤ◌, ◌-ℤ◌, ◌≤ℤ◌, ◌<ℤ◌}
use Rattle.dimacs_network.specs.{declared.network.ArcView.{ArcView}, Arcs.{arc_at}}
use Rattle.dimacs_judging.specs.Rows.{amount_at}
use Rattle.dimacs_solve.specs.{declared.arcs_by_cost.ArcOfCost.{ArcOfCost}, inside.ArcsByCost.{place_at}}
use Rattle.dimacs_solve.specs.inside.Rests.{IsFirstParallel}

-- every arc carries from its lower bound to its capacity
pub record AreWithin (arcs : List ArcView) (x : List ℤ) : Type 0 where
  pub one_each : length x ≡ length arcs
  pub low : (k : ℕ) → k < length arcs → (arc_at arcs k).low ≤ℤ amount_at x k
  pub cap : (k : ℕ) → k < length arcs → amount_at x k ≤ℤ (arc_at arcs k).cap

-- two arcs with the same ends
abbrev pub AreParallel : List ArcView → ℕ → ℕ → Type 0
AreParallel arcs i j = ((arc_at arcs i).tail ≡ (arc_at arcs j).tail) × ((arc_at arcs i).head ≡ (arc_at arcs j).head)

-- if an arc carries more than its lower bound, the cheaper arcs with its ends are full
abbrev pub CheapestAreFull : List ArcView → List ℤ → Type 0
CheapestAreFull arcs x =
    (i j : ℕ) → i < length arcs → j < length arcs → AreParallel arcs i j → (arc_at arcs i).cost <ℤ (arc_at arcs j).cost
    → (arc_at arcs j).low <ℤ amount_at x j → amount_at x i ≡ (arc_at arcs i).cap

-- if a rest is positive, the arcs with its ends are full; if it is negative, they carry their lower bounds
pub record AreDealt (arcs : List ArcView) (rests x : List ℤ) : Type 0 where
  pub rests_long : length rests ≡ length arcs
  pub at_first : (k : ℕ) → k < length arcs → (amount_at rests k ≡ pos 0 → ⊥) → IsFirstParallel arcs k k
  pub within : AreWithin arcs x
  pub full : (k f : ℕ) → k < length arcs → IsFirstParallel arcs k f → pos 0 <ℤ amount_at rests f → amount_at x k ≡ (arc_at arcs k).cap
  pub low : (k f : ℕ) → k < length arcs → IsFirstParallel arcs k f → amount_at rests f <ℤ pos 0 → amount_at x k ≡ (arc_at arcs k).low
  pub cheapest_first : CheapestAreFull arcs x

-- the same while arcs are raised: of the arcs with a positive rest, those at the first places are full
pub record AreDealtUpTo (arcs : List ArcView) (order : List ArcOfCost) (so_many : ℕ) (rests x : List ℤ) : Type 0 where
  pub rests_long : length rests ≡ length arcs
  pub at_first : (k : ℕ) → k < length arcs → (amount_at rests k ≡ pos 0 → ⊥) → IsFirstParallel arcs k k
  pub within : AreWithin arcs x
  pub full : (q f : ℕ) → q < so_many → IsFirstParallel arcs (place_at order q).arc f → pos 0 <ℤ amount_at rests f
      → amount_at x (place_at order q).arc ≡ (arc_at arcs (place_at order q).arc).cap
  pub low : (k f : ℕ) → k < length arcs → IsFirstParallel arcs k f → amount_at rests f <ℤ pos 0 → amount_at x k ≡ (arc_at arcs k).low
  pub cheapest_first : CheapestAreFull arcs x

-- `more` of a rest is put on an arc, as much as fits
pub record IsMore (rest residual more : ℤ) : Type 0 where
  pub not_less : pos 0 ≤ℤ more
  pub within_residual : more ≤ℤ residual
  pub from_rest : (more ≡ pos 0) ⊎ (more ≤ℤ rest)
  pub all_residual : more <ℤ rest → more ≡ residual

-- one arc is raised, and the rest between its ends gets less by the same amount
pub record IsRaised (arcs : List ArcView) (k : ℕ) (rests x rests_then x_then : List ℤ) : Type 0 where
  pub first : ℕ
  pub more : ℤ
  pub is_first : IsFirstParallel arcs k first
  pub is_more : IsMore (amount_at rests first) ((arc_at arcs k).cap -ℤ amount_at x k) more
  pub rest_is : rests_then ≡ set rests first (amount_at rests first -ℤ more)
  pub amount_is : x_then ≡ set x k (amount_at x k +ℤ more)
