-- Facts about flows.
use Rattle.std.specs.{Prelude.{ℕ, ◌≡◌, ◌≢◌, ◌<◌, List, cond, length, sum_by, ℤ, pos, neg_ℤ, ◌≤ℤ◌}, List.{All}}
use Rattle.std.specs.Ordering.{int_eq}
use Rattle.dimacs_claims.specs.{Potentials.{PotentialsValue, potential_of}, SolutionTexts.{SolutionValue}}
use Rattle.dimacs_network.specs.{Arcs.{JoinsNodes, arc_at}, declared.network.ArcView.{ArcView}}
use Rattle.dimacs_instance.specs.{MaxFlows.{MaxValue}, MinFlows.{MinValue}}
use Rattle.dimacs_judging.specs.{Feasible.{FeasibleMax, FeasibleMin, value}, Flows.{cost}, Claims.{Carries}}
use Rattle.dimacs_judging.specs.{Optimum.{Least}, Potentials.{Slack, reduced_cost}, Rows.{amount_at}}

-- with the opposite sign of each potential they are slack for the flow, and it costs least
abbrev pub OppositeShows : MinValue → List ℤ → PotentialsValue → Type 0
OppositeShows i x p = Slack i.arcs x (λ v. neg_ℤ (potential_of p v)) × Least i x

-- the flow is feasible, and has this value
abbrev pub HasValue : MaxValue → List ℤ → ℤ → Type 0
HasValue i x v = FeasibleMax i x × (v ≡ value i x)

-- the flow is feasible, and costs this
abbrev pub HasCost : MinValue → List ℤ → ℤ → Type 0
HasCost i x c = FeasibleMin i x × (c ≡ cost i.arcs x)

-- a feasible flow that costs as little as the claimed one carries the same on each arc whose reduced cost isn't 0
abbrev pub SameButTight : MinValue → SolutionValue → PotentialsValue → Type 0
SameButTight i s p =
    (x : List ℤ) × Carries i.arcs s.entries x × ((y : List ℤ) → FeasibleMin i y → cost i.arcs y ≤ℤ cost i.arcs x
    → (k : ℕ) → k < length i.arcs → reduced_cost (potential_of p) (arc_at i.arcs k) ≢ pos 0 → amount_at x k ≡ amount_at y k)

-- 1 for an arc with the reduced cost 0, else 0; and how many arcs have it
abbrev pub one_tight : PotentialsValue → ArcView → ℕ
one_tight p a = cond (int_eq (reduced_cost (potential_of p) a) (pos 0)) 1 0

abbrev pub tight_count : List ArcView → PotentialsValue → ℕ
tight_count arcs p = sum_by (one_tight p) arcs

-- no arc has the reduced cost 0
abbrev pub NoneTight : List ArcView → (ℕ → ℤ) → Type 0
NoneTight arcs p = (k : ℕ) → k < length arcs → reduced_cost p (arc_at arcs k) ≢ pos 0

-- if potentials are slack for a flow, and no arc has the reduced cost 0, no other flow costs as little
abbrev pub OnlyFlowLaw : Type 0
OnlyFlowLaw =
    (i : MinValue) → All (JoinsNodes i.nodes) i.arcs → (x y : List ℤ) (p : ℕ → ℤ) → FeasibleMin i x → Slack i.arcs x p → NoneTight i.arcs p
    → FeasibleMin i y → cost i.arcs y ≤ℤ cost i.arcs x → x ≡ y

-- a feasible flow that costs as little as the claimed one is that flow
abbrev pub OnlyFlow : MinValue → SolutionValue → Type 0
OnlyFlow i s = (x : List ℤ) × Carries i.arcs s.entries x × ((y : List ℤ) → FeasibleMin i y → cost i.arcs y ≤ℤ cost i.arcs x → x ≡ y)
