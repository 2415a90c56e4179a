-- What runs that spread write: a solution with an entry for every arc, or a report. The other text is empty here.
use Rattle.std.specs.Prelude.{ℕ, ◌≡◌, List, [], ◌∷◌, ℤ, map}
use Rattle.dimacs_records.specs.{declared.kinds.TextKind.{TextKind}, declared.reasons.Reason.{Reason}}
use Rattle.dimacs_claims.specs.declared.place.Entry.{Entry}
use Rattle.dimacs_claims.specs.SolutionTexts.{SolutionValue, GivesSolution, canonical_solution}
use Rattle.dimacs_instance.specs.{MaxTexts.{GivesMax}, MinTexts.{GivesMin}}
use Rattle.dimacs_judging.specs.{declared.verdict.Where.{Where}, Tests.{AllClear, First}}
use Rattle.dimacs_decide.specs.Entries.{IsSolutionOf}
use Rattle.dimacs_network.specs.declared.network.ArcView.{ArcView}
use Rattle.dimacs_solve.specs.Spread.{Deals, NoneCheaper, spread_rows}
use Rattle.dimacs_jobs.specs.{declared.jobs.SpreadKind.{SpreadKind}, declared.jobs.SpreadKind.TheVariants.{Max, Min}}
use Rattle.dimacs_jobs.specs.declared.status.Status.{Status}
use Rattle.dimacs_jobs.specs.declared.status.Status.TheVariants.{Done, Refused, GaveUp}
use Rattle.dimacs_runs.specs.{Certified.{uncertified}, Solved.{FaultAloneOr}, Verdicts.{failure_line}}
use Rattle.dimacs_records.specs.declared.kinds.TextKind.TheVariants as kinds

-- the solution has the claimed value, and an entry for every arc with the amount on it
pub record IsSpreadOf (arcs : List ArcView) (s : SolutionValue) (x : List ℤ) (t : SolutionValue) : Type 0 where
  pub value : t.value ≡ s.value
  pub all_arcs : IsSolutionOf arcs t
  pub flows : map (λ (e : Entry). e.flow) t.entries ≡ x

-- at least cost, if the instance has costs
abbrev pub IsBestOf : SpreadKind → List ArcView → SolutionValue → List ℤ → Type 0
IsBestOf Max arcs s x = Unit {0}
IsBestOf Min arcs s x = NoneCheaper arcs s.entries x

-- all tests pass, and it is the text of such a solution; or the line of the first test that fails
abbrev pub SpreadsClaim : SpreadKind → List ArcView → SolutionValue → Status → List (List ℕ) → Type 0
SpreadsClaim kind arcs s Done out =
    AllClear (spread_rows arcs s.entries)
    × ((x : List ℤ) × Deals arcs s.entries x × IsBestOf kind arcs s x × (t : SolutionValue) × IsSpreadOf arcs s x t × (out ≡ canonical_solution t ∷ [] ∷ []))
SpreadsClaim kind arcs s Refused out =
    (place : Where) × (reason : Reason) × First (spread_rows arcs s.entries) place reason × (out ≡ uncertified (failure_line place reason))
SpreadsClaim kind arcs s GaveUp out = ⊥

-- what is written for an instance and a claimed flow
abbrev pub Spreads : SpreadKind → List ℕ → List ℕ → Status → List (List ℕ) → Type 0
Spreads Max instance claim =
    FaultAloneOr uncertified kinds.Max GivesMax instance (λ i.
    FaultAloneOr uncertified kinds.Solution GivesSolution claim (λ s.
    SpreadsClaim Max i.arcs s))
Spreads Min instance claim =
    FaultAloneOr uncertified kinds.Min GivesMin instance (λ i.
    FaultAloneOr uncertified kinds.Solution GivesSolution claim (λ s.
    SpreadsClaim Min i.arcs s))

-- the kind of the instance's text
abbrev pub spread_text : SpreadKind → TextKind
spread_text Max = kinds.Max
spread_text Min = kinds.Min
