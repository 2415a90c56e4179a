-- A claim is certified exactly if it is true, and a maximum is found with a great enough limit.
use Rattle.std.proofs.Common.{◌≡◌, ◌↔◌, ◌∙◌, ℕ, ℤ, List, [], Err, refl, sym, subst, inl, inr}
use Rattle.dimacs_lines.specs.Lines.{lines}
use Rattle.dimacs_records.specs.{declared.kinds.TextKind.{TextKind}, Readings.{LineRecord, records_of}}
use Rattle.dimacs_records.specs.Texts.{AreFaultless, SpellsValue}
use Rattle.dimacs_records.proofs.ReadLaws.{reads_exactly, spells_one_value}
use Rattle.dimacs_claims.specs.{DistanceTexts.{GivesDistances, SpellsDistances}, Labels.{LabelsValue}}
use Rattle.dimacs_claims.specs.SolutionTexts.{GivesSolution, SolutionValue, SpellsSolution}
use Rattle.dimacs_claims.proofs.DistanceLaws.{distances_faultless, one_distances}
use Rattle.dimacs_claims.proofs.SolutionLemmas.{one_solution, solution_faultless}
use Rattle.dimacs_network.specs.Arcs.{NetworkValue}
use Rattle.dimacs_instance.specs.{Graph.{GivesGraph}, MaxFlows.{IsMax, MaxValue}, MaxTexts.{GivesMax}}
use Rattle.dimacs_instance.specs.{MinFlows.{MinValue}, MinTexts.{GivesMin}}
use Rattle.dimacs_instance.proofs.{GraphLemmas.{graph_faultless, one_graph}, MaxTextLemmas.{max_faultless, one_max}}
use Rattle.dimacs_instance.proofs.MinTextLemmas.{min_faultless, one_min}
use Rattle.dimacs_judging.specs.{MaxJudge.{max_claim_rows}, MinJudge.{min_claim_rows}, Optimum.{Least, Maximum, NoFlow}}
use Rattle.dimacs_judging.specs.Tests.{AllClear, Row}
use Rattle.dimacs_judging.proofs.Firsts.{none_first}
use Rattle.dimacs_runs.specs.Certified.{CertificateOr, CertifiesDistances, CertifiesInfeasible, CertifiesLeast, CertifiesMaximum, uncertified}
use Rattle.dimacs_runs.specs.Laws.{AreTrueDistances, IsTrueMax, IsTrueMin, RunLimitLaw, TrueClaimLaw}
use Rattle.dimacs_runs.specs.Solved.{FaultAloneOr}
use Rattle.dimacs_jobs.specs.declared.status.Status.{Status}
use Rattle.dimacs_jobs.specs.declared.status.Status.TheVariants.{Done, GaveUp, Refused}
use Rattle.dimacs_solve.specs.Climbing.{GivesUp}
use Rattle.dimacs_solve.proofs.ClimbingLemmas.{enough_limit}
use Rattle.dimacs_judging.proofs.MaxJudge as max
use Rattle.dimacs_judging.proofs.MinJudge as min
use Rattle.dimacs_records.specs.declared.faults.ReadError.TheVariants as read_errors
use Rattle.dimacs_records.specs.declared.kinds.TextKind.TheVariants as kinds
use Rattle.dimacs_jobs.specs.declared.jobs.JudgeKind.TheVariants as judges

-- a text with a fault spells nothing, and one without spells one value: the end follows from it
exactly_spelled : {V : Type 0} (kind : TextKind) (gives : List LineRecord → V → Type 0)
    → ((rs : List LineRecord) (v : V) → gives rs v → AreFaultless kind (records_of rs))
    → ((rs : List LineRecord) (v w : V) → gives rs v → gives rs w → v ≡ w)
    → (alone : List ℕ → List (List ℕ)) (bytes : List ℕ) (next : V → Status → List (List ℕ) → Type 0) (holds : V → Type 0) (status : Status) (out : List (List ℕ))
    → ((v : V) → SpellsValue kind gives (lines bytes) v → next v status out → (status ≡ Done) ↔ holds v)
    → FaultAloneOr alone kind gives bytes next status out
    → (status ≡ Done) ↔ ((v : V) × SpellsValue kind gives (lines bytes) v × holds v)
exactly_spelled kind gives faultless one alone bytes next holds status out exactly (inl (l, f, r, fault, is, line)) =
    let read = reads_exactly kind gives (lines bytes) (Err (read_errors.Refused (record { line = l; field = f }) r)) faultless one fault in
    (λ done. absurd cc, λ (v, spells, true). absurd (read.2 v spells))
exactly_spelled kind gives faultless one alone bytes next holds status out exactly (inr (v, spells, h)) = (
  λ done. (v, spells, (exactly v spells h).0 done),
  λ (w, other, true). (exactly v spells h).1 (subst holds (spells_one_value kind gives (lines bytes) w v one other spells) true),
)

-- with a certificate the claim is true; a test that fails, or a better text, shows that it isn't
exactly_shown : (shows : List ℕ → Type 0) (verdict : List ℕ) (rows : List Row) (better : List ℕ → Type 0) (refusal : List ℕ) (holds : Type 0)
    → ((text : List ℕ) → shows text → holds) → (holds → AllClear rows) → ((text : List ℕ) → better text → ¬ holds)
    → (status : Status) (out : List (List ℕ)) → CertificateOr shows verdict rows better refusal status out → (status ≡ Done) ↔ holds
exactly_shown shows verdict rows better refusal holds given clear wrong Done out (text, shown, is) = (λ done. given text shown, λ true. refl)
exactly_shown shows verdict rows better refusal holds given clear wrong Refused out (inl (place, reason, first, is)) =
    (λ done. absurd cc, λ true. absurd (none_first rows place reason (clear true) first))
exactly_shown shows verdict rows better refusal holds given clear wrong Refused out (inr (text, other, is)) = (λ done. absurd cc, λ true. absurd (wrong text other true))
exactly_shown shows verdict rows better refusal holds given clear wrong GaveUp out h = absurd h

max_exactly : (i : MaxValue) (s : SolutionValue) → IsMax i → (status : Status) (out : List (List ℕ)) → CertifiesMaximum i s status out
    → (status ≡ Done) ↔ IsTrueMax i s
max_exactly i s law =
    exactly_shown _ _ (max_claim_rows i s) _ _ (IsTrueMax i s)
    (λ text (c, (x, passes, maximum), canonical, spelled). (x, passes.claim.carries, maximum, passes.claim.value_is))
    (λ (x, carries, maximum, value_is). max.claim_clear i s law x (record { carries = carries; feasible = maximum.feasible; value_is = value_is }))
    (λ text (x, y, improved, better, of, is) (z, carries, maximum, value_is). improved.not_maximum (subst (λ (f : List ℤ). Maximum i f) (carries.amounts ∙ sym improved.claim.carries.amounts) maximum))

min_exactly : (i : MinValue) (s : SolutionValue) (status : Status) (out : List (List ℕ)) → CertifiesLeast i s status out
    → (status ≡ Done) ↔ IsTrueMin i s
min_exactly i s =
    exactly_shown _ _ (min_claim_rows i s) _ _ (IsTrueMin i s)
    (λ text (p, (x, passes, least), canonical, spelled). (x, passes.claim.carries, least, passes.claim.cost_is, passes.claim.costs_wide))
    (λ (x, carries, least, cost_is, wide). min.claim_clear i s x (record { carries = carries; feasible = least.feasible; costs_wide = wide; cost_is = cost_is }))
    (λ text (x, y, improved, is) (z, carries, least, cost_is, wide). improved.not_least (subst (λ (f : List ℤ). Least i f) (carries.amounts ∙ sym improved.claim.carries.amounts) least))

set_exactly : (i : MinValue) (status : Status) (out : List (List ℕ)) → CertifiesInfeasible i status out → (status ≡ Done) ↔ NoFlow i
set_exactly i =
    exactly_shown _ _ [] _ _ (NoFlow i) (λ text (c, shown, canonical, spelled). shown.1) (λ none. tt) (λ text (x, feasible, is) none. none x feasible)

distances_exactly : (g : NetworkValue) (d : LabelsValue) (status : Status) (out : List (List ℕ)) → CertifiesDistances g d status out
    → (status ≡ Done) ↔ AreTrueDistances g d
distances_exactly g d Done out (nodes, (text, labels, is)) = (λ done. (nodes, labels.0), λ true. refl)
distances_exactly g d Refused out (inl (differ, is)) = (λ done. absurd cc, λ true. absurd (differ true.0))
distances_exactly g d Refused out (inr (nodes, wrong, more)) = (λ done. absurd cc, λ true. absurd (wrong true.1))
distances_exactly g d GaveUp out h = absurd h

pub certified_exactly : TrueClaimLaw
certified_exactly judges.Max instance claim status out =
    exactly_spelled kinds.Max GivesMax max_faultless one_max uncertified instance (λ i. FaultAloneOr uncertified kinds.Solution GivesSolution claim (λ s. CertifiesMaximum i s))
    (λ i. (s : SolutionValue) × SpellsSolution claim s × IsTrueMax i s) status out (λ i spells.
    exactly_spelled kinds.Solution GivesSolution solution_faultless one_solution uncertified claim (λ s. CertifiesMaximum i s) (IsTrueMax i) status out (λ s given. max_exactly i s spells.given.1 status out))
certified_exactly judges.Min instance claim status out =
    exactly_spelled kinds.Min GivesMin min_faultless one_min uncertified instance (λ i. FaultAloneOr uncertified kinds.Solution GivesSolution claim (λ s. CertifiesLeast i s))
    (λ i. (s : SolutionValue) × SpellsSolution claim s × IsTrueMin i s) status out (λ i spells.
    exactly_spelled kinds.Solution GivesSolution solution_faultless one_solution uncertified claim (λ s. CertifiesLeast i s) (IsTrueMin i) status out (λ s given. min_exactly i s status out))
certified_exactly judges.Infeasible instance claim status out =
    exactly_spelled kinds.Min GivesMin min_faultless one_min uncertified instance (λ i. CertifiesInfeasible i) NoFlow status out (λ i spells. set_exactly i status out)
certified_exactly judges.Paths graph claim status out =
    exactly_spelled kinds.Graph GivesGraph graph_faultless one_graph uncertified graph (λ g. FaultAloneOr uncertified kinds.Distances GivesDistances claim (λ d. CertifiesDistances g d))
    (λ g. (d : LabelsValue) × SpellsDistances claim d × AreTrueDistances g d) status out (λ g spells.
    exactly_spelled kinds.Distances GivesDistances distances_faultless one_distances uncertified claim (λ d. CertifiesDistances g d) (AreTrueDistances g) status out (λ d given. distances_exactly g d status out))

pub never_gives_up : RunLimitLaw
never_gives_up instance queries limit i best spells maximum some small Done out solved = λ same. absurd cc
never_gives_up instance queries limit i best spells maximum some small Refused out solved = λ same. absurd cc
never_gives_up instance queries limit i best spells maximum some small GaveUp out (inl (l, f, r, fault, is, line)) = absurd cc
never_gives_up instance queries limit i best spells maximum some small GaveUp out (inr (j, other, (gives_up, is))) =
    absurd (enough_limit i limit best maximum some small (subst (λ (m : MaxValue). GivesUp m limit) (spells_one_value kinds.Max GivesMax (lines instance) j i one_max other spells) gives_up))
