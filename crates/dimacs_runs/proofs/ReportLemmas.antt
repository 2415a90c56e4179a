-- The report on a text that was read or refused.
use Rattle.std.proofs.Common.{◌≡◌, ℕ, List, Result, Ok, refl, ap, ◌∙◌, inl, inr, ◌⊎◌}
use Rattle.dimacs_runs.specs.{declared.outcome.Outcome.{Outcome}, declared.early_end.EarlyEnd.{EarlyEnd}}
use Rattle.dimacs_runs.specs.{Runs.{IsPrinted, ReportsAlone}, inside.Judgings.{FaultIn, ReadsIn, StopsAt, TextSpells}}
use Rattle.dimacs_runs.specs.inside.Outcomes.{MayReport, outcome_of}
use Rattle.dimacs_jobs.specs.{declared.status.Status.{Status}, declared.status.Status.TheVariants.{Done}}
use Rattle.dimacs_runs.proofs.TextLemmas.{FaultLine, Stopped, reporting_way, unread_ends}

module _ {V : Type 0} (text : TextSpells V) (printed : V → List ℕ) where
  abbrev prints : Status → List ℕ → Type 0
  prints = FaultIn text (IsPrinted printed)

  -- a value was read
  pub value_printed : (v : V) → ReadsIn text (Ok v) → ReportsAlone prints Done (printed v)
  value_printed v read = (inr (v, read.0, (refl, refl)), alone)
    where
      alone : (s : Status) (other : List ℕ) → prints s other → (s ≡ Done) × (other ≡ printed v)
      alone s other (inl (l, f, r, fault, is, out)) = absurd (read.2 l f r fault)
      alone s other (inr (w, spelled, (is, out))) = (is, out ∙ ap printed (read.1 w spelled))

  fault_or_value : (s : Status) (out : List ℕ) → prints s out → FaultLine reporting_way text s out ⊎ ((v : V) × text.spells v)
  fault_or_value s out (inl fault) = inl fault
  fault_or_value s out (inr (v, spelled, printed)) = inr (v, spelled)

  -- no value was read
  pub unread_printed : (ended : EarlyEnd) (result : Result Outcome EarlyEnd) → Stopped ended result → StopsAt text ended → MayReport prints (outcome_of result)
  unread_printed ended result stopped stop = unread_ends reporting_way text prints (λ l f r fault. inl (l, f, r, fault, refl, refl)) fault_or_value ended result stopped stop
