-- What was written of an outcome.
use Rattle.std.proofs.Common.{◌≡◌, ◌∙◌, ◌++◌, ◌⊎◌, ℕ, List, [], ◌∷◌, Option, Some, Result, Ok, Err, ap, ap₂, arith, drop, inl, inr, length, refl, sym}
use Rattle.std.specs.Prelude.{IfOk, IsErr}
use Rattle.dimacs_lines.specs.Devices.{Written}
use Rattle.dimacs_runs.specs.{declared.outcome.Outcome.{Outcome}, Runs.{Reports}, Judgings.{CountsDevices, OneMore}}
use Rattle.dimacs_runs.specs.{Outputs.{ReportsAll}, Reports.{report_lines}, inside.Reports.{report_status}}
use Rattle.dimacs_runs.specs.inside.Outcomes.{EndsWriting, IfEnds, KeepsReport, MayReport, accepted_by, faults_by, nowhere, outcome_texts, shown_texts}
use Rattle.dimacs_jobs.specs.{declared.status.RunError.{RunError}, declared.status.Status.{Status}}
use Rattle.dimacs_jobs.specs.declared.status.RunError.TheVariants.{Device, Memory}

-- all texts
pub all_written : (a : Status → List (List ℕ) → Type 0) (outcome : Result Outcome RunError) (result : Result Status RunError) (old new : List Written)
    → IfEnds outcome_texts a outcome → EndsWriting outcome result old new → ReportsAll a result (accepted_by old) (accepted_by new)
all_written a (Ok o) (Ok status) old new may ends = rw ends.0 (outcome_texts o, may, ends.1)
all_written a (Ok o) (Err error) old new may ends = inr (report_status o.report, outcome_texts o, may, ends.1)
all_written a (Err error) result old new may ends = rw ends.0 (inl (ap accepted_by ends.1))

-- those without the claim
pub shown_written : (a : Status → List (List ℕ) → Type 0) (outcome : Result Outcome RunError) (result : Result Status RunError) (old new : List Written)
    → IfEnds shown_texts a outcome → EndsWriting outcome result (nowhere ∷ old) (nowhere ∷ new) → ReportsAll a result (accepted_by old) (accepted_by new)
shown_written a (Ok o) (Ok status) old new may ends = rw ends.0 (shown_texts o, may, ends.1.1)
shown_written a (Ok o) (Err error) old new may ends = elim ends.1 [
  | inl claim ↦ inl claim.1
  | inr others ↦ inr (report_status o.report, shown_texts o, may, others.1)
]
shown_written a (Err error) result old new may ends = rw ends.0 (let same : nowhere ∷ new ≡ nowhere ∷ old = ends.1 in inl (ap (λ (sinks : List Written). drop 1 (accepted_by sinks)) same))

-- the report
pub report_written : (a : Status → List ℕ → Type 0) (outcome : Result Outcome RunError) (result : Result Status RunError) (old new : Written)
    → MayReport a outcome → EndsWriting outcome result (nowhere ∷ nowhere ∷ old ∷ []) (nowhere ∷ nowhere ∷ new ∷ []) → Reports a result old.accepted new.accepted
report_written a (Ok o) (Ok status) old new may ends = rw ends.0 (report_lines o.report, may, ends.1.1.1.0)
report_written a (Ok o) (Err error) old new may ends = elim ends.1 [
  | inl (front, same) ↦ inl cc
  | inr (claim, inl (front, same)) ↦ inl cc
  | inr (claim, inr (certificate, inl report)) ↦ inr (report_status o.report, report_lines o.report, may, report.0)
  | inr (claim, inr (certificate, inr (report, never))) ↦ absurd never
]
report_written a (Err error) result old new may ends = rw ends.0 (let all : nowhere ∷ nowhere ∷ new ∷ [] ≡ nowhere ∷ nowhere ∷ old ∷ [] = ends.1 in let same : new ≡ old = cc in inl (ap (λ (w : Written). w.accepted) same))

-- the outcome that was kept reports what was written
pub report_kept : (outcome : Result Outcome RunError) (result : Result Status RunError) (old new : Written) (kept more : Option Outcome)
    → EndsWriting outcome result (nowhere ∷ nowhere ∷ old ∷ []) (nowhere ∷ nowhere ∷ new ∷ []) → IfOk result (λ status. (o : Outcome) × (outcome ≡ Ok o) × (more ≡ Some o)) → IfOk result (λ status. KeepsReport old new kept more)
report_kept (Ok o) (Ok status) old new kept more ends (p, same, is) = let here : p ≡ o = cc in inr (o, is ∙ ap Some here, ends.1.1.1.0)
report_kept (Err error) (Ok status) old new kept more ends (p, same, is) = absurd cc
report_kept outcome (Err error) old new kept more ends none = tt

-- nothing was written without memory, or without an outcome
pub unwritten : (outcome : Result Outcome RunError) (ended : Result Status RunError) (old new : List Written) → EndsWriting outcome ended old new → (ended ≡ Err Memory) ⊎ IsErr outcome → new ≡ old
unwritten (Ok o) (Ok status) old new ends (inl is) = absurd cc
unwritten (Ok o) (Err error) old new ends (inl is) = let same : error ≡ Memory = cc in let never : Memory ≡ Device = sym same ∙ ends.0 in absurd cc
unwritten (Ok o) ended old new ends (inr none) = absurd cc
unwritten (Err error) ended old new ends why = ends.1

pub unreported : (outcome : Result Outcome RunError) (ended : Result Status RunError) (old new : Written) → EndsWriting outcome ended (nowhere ∷ nowhere ∷ old ∷ []) (nowhere ∷ nowhere ∷ new ∷ []) → (ended ≡ Err Memory) ⊎ IsErr outcome
    → new.accepted ∷ [] ≡ old.accepted ∷ []
unreported outcome ended old new ends why = ap (λ (sinks : List Written). drop 2 (accepted_by sinks)) (unwritten outcome ended _ _ ends why)

-- ---- the devices that can fail
-- one of them never does
same_without : (xs ys old new : List ℕ) → length ys ≡ length xs → ys ++ 0 ∷ new ≡ xs ++ 0 ∷ old → ys ++ new ≡ xs ++ old
same_without [] [] old new long is = cc
same_without (x ∷ xs) (y ∷ ys) old new long is =
    let first : y ≡ x = cc in
    let rest : ys ++ 0 ∷ new ≡ xs ++ 0 ∷ old = cc in
    ap₂ (λ (n : ℕ) (ns : List ℕ). n ∷ ns) first (same_without xs ys old new (omega (arith, long)) rest)
same_without xs ys old new long is = absurd (omega (arith, long))

one_without : (xs ys old new : List ℕ) → length ys ≡ length xs → OneMore (xs ++ 0 ∷ old) (ys ++ 0 ∷ new) → OneMore (xs ++ old) (ys ++ new)
one_without [] [] old new long (inl (more, same)) = absurd (omega (arith, more))
one_without [] [] old new long (inr (same, more)) = more
one_without (x ∷ xs) (y ∷ ys) old new long (inl (more, same)) = inl (more, same_without xs ys old new (omega (arith, long)) same)
one_without (x ∷ xs) (y ∷ ys) old new long (inr (same, more)) = inr (same, one_without xs ys old new (omega (arith, long)) more)
one_without xs ys old new long more = absurd (omega (arith, long))

pub counts_without : {X : Type 0} (ended : Result X RunError) (xs ys old new : List ℕ) → length ys ≡ length xs → CountsDevices ended (xs ++ 0 ∷ old) (ys ++ 0 ∷ new) → CountsDevices ended (xs ++ old) (ys ++ new)
counts_without (Ok x) xs ys old new long counts = same_without xs ys old new long counts
counts_without (Err Memory) xs ys old new long counts = same_without xs ys old new long counts
counts_without (Err Device) xs ys old new long counts = one_without xs ys old new long counts

-- others can, too
pub one_more_with : (more old new : List ℕ) → OneMore old new → OneMore (old ++ more) (new ++ more)
one_more_with more [] new never = absurd never
one_more_with more (faults ∷ old) [] never = absurd never
one_more_with more (faults ∷ old) (counted ∷ new) (inl one) = inl (one.0, rw one.1 refl)
one_more_with more (faults ∷ old) (counted ∷ new) (inr one) = inr (one.0, one_more_with more old new one.1)

one_more_after : (read old new : List ℕ) → OneMore old new → OneMore (read ++ old) (read ++ new)
one_more_after [] old new one = one
one_more_after (faults ∷ read) old new one = inr (refl, one_more_after read old new one)

-- those of texts, and those to which the outcome of the texts is written
pub counts_both : (outcome : Result Outcome RunError) (ended : Result Status RunError) (read closed : List ℕ) (old new : List Written) → CountsDevices outcome read closed → EndsWriting outcome ended old new
    → CountsDevices ended (read ++ faults_by old) (closed ++ faults_by new)
counts_both (Ok o) (Ok status) read closed old new counts ends = rw (counts, ends.2) refl
counts_both (Ok o) (Err Device) read closed old new counts ends = rw counts (one_more_after read (faults_by old) (faults_by new) ends.2)
counts_both (Ok o) (Err Memory) read closed old new counts ends = absurd cc
counts_both (Err Device) ended read closed old new counts ends = rw (ends.0, ends.1) (one_more_with (faults_by old) read closed counts)
counts_both (Err Memory) ended read closed old new counts ends = rw (ends.0, ends.1, counts) refl

-- if only the report is written
pub counts_reported : (outcome : Result Outcome RunError) (ended : Result Status RunError) (read closed : List ℕ) (old new : Written) → length closed ≡ length read → CountsDevices outcome read closed
    → EndsWriting outcome ended (nowhere ∷ nowhere ∷ old ∷ []) (nowhere ∷ nowhere ∷ new ∷ []) → CountsDevices ended (read ++ old.faults ∷ []) (closed ++ new.faults ∷ [])
counts_reported outcome ended read closed old new long counts ends =
    counts_without ended read closed (old.faults ∷ []) (new.faults ∷ []) long (counts_without ended read closed (0 ∷ old.faults ∷ []) (0 ∷ new.faults ∷ []) long (counts_both outcome ended read closed _ _ counts ends))
