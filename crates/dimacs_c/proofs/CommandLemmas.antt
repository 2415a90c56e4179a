-- The end of a command that explains its answer.
use Rattle.std.proofs.Common.{◌≡◌, ◌∙◌, ℕ, List, [], ◌∷◌, Ok, ap, get_or, inl, inr, refl, subst, suc, sym, zero}
use Rattle.dimacs_explained.specs.Explained.{IsExplained}
use Rattle.dimacs_jobs.specs.{declared.jobs.Job.{Job}, declared.status.Status.{Status}, Outcomes.{status_number}}
use Rattle.dimacs_jobs.specs.declared.status.Status.TheVariants.{Done, Refused, GaveUp}
use Rattle.dimacs_c.specs.Command.{EndsJob}

-- a status is known by its number
abbrev status_of : ℕ → Status
status_of zero = Done
status_of (suc zero) = Refused
status_of (suc (suc more)) = GaveUp

known : (s : Status) → status_of (status_number (Ok s)) ≡ s
known Done = refl
known Refused = refl
known GaveUp = refl

-- an explanation follows the report that was printed
pub explained_ends : (job : Job) (unread : ℕ) (a b c : List ℕ) (s : Status) (made more old new : List ℕ)
    → EndsJob job (λ status report printed. printed ≡ report) unread a b c (status_number (Ok s)) (made ∷ more ∷ old ∷ []) → IsExplained job s old new
    → EndsJob job (IsExplained job) unread a b c (status_number (Ok s)) (made ∷ more ∷ new ∷ [])
explained_ends job unread a b c s made more old new (t, m, n, report, makes, inl (is, number, none)) explained = absurd cc
explained_ends job unread a b c s made more old new (t, m, n, report, makes, inr (other, (printed, is, number, out))) explained =
    let same : s ≡ t = sym (known s) ∙ ap status_of number ∙ known t in
    let text : ℕ → List (List ℕ) → List ℕ = λ (place : ℕ) (texts : List (List ℕ)). get_or texts place [] in
    let whole : old ≡ report = ap (text 2) out ∙ is in
    let follows : IsExplained job t report new = subst (λ (it : Status). IsExplained job it report new) same (subst (λ (it : List ℕ). IsExplained job s it new) whole explained) in
    (t, m, n, report, makes, inr (other, (new, follows, number, ap (λ (texts : List (List ℕ)). text 0 texts ∷ text 1 texts ∷ new ∷ []) out)))
