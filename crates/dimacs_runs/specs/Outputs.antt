-- What a run writes to several sinks, one text to each, in order.
use Rattle.std.specs.Prelude.{◌≡◌, ◌⊎◌, ℕ, List, [], ◌∷◌, Option, Result, Ok, Err}
use Rattle.dimacs_lines.specs.{Devices.{after_piece}, Puts.{AcceptsFront}}
use Rattle.dimacs_jobs.specs.{declared.status.Status.{Status}, declared.status.Status.TheVariants.{Refused}}

-- each sink has accepted its text
abbrev pub AcceptAll : List (List ℕ) → List (Option (List ℕ)) → List (Option (List ℕ)) → Type 0
AcceptAll [] old new = new ≡ old
AcceptAll (text ∷ texts) [] new = ⊥
AcceptAll (text ∷ texts) (held ∷ old) [] = ⊥
AcceptAll (text ∷ texts) (held ∷ old) (holds ∷ new) = (holds ≡ after_piece held text) × AcceptAll texts old new

-- the first sinks have accepted their texts, the next a beginning of its text, and the others nothing
abbrev pub AcceptInTurn : List (List ℕ) → List (Option (List ℕ)) → List (Option (List ℕ)) → Type 0
AcceptInTurn [] old new = ⊥
AcceptInTurn (text ∷ texts) [] new = ⊥
AcceptInTurn (text ∷ texts) (held ∷ old) [] = ⊥
AcceptInTurn (text ∷ texts) (held ∷ old) (holds ∷ new) =
    (AcceptsFront held text holds × (new ≡ old)) ⊎ ((holds ≡ after_piece held text) × AcceptInTurn texts old new)

-- this is a possible outcome; if a refusal is possible, it is the outcome
abbrev pub MayWrite : (Status → List (List ℕ) → Type 0) → Status → List (List ℕ) → Type 0
MayWrite writes status out = writes status out × ((refusal : List (List ℕ)) → writes Refused refusal → (status ≡ Refused) × (out ≡ refusal))

-- the report is the last text
abbrev pub report_of : List (List ℕ) → List ℕ
report_of [] = []
report_of (report ∷ []) = report
report_of (text ∷ texts) = report_of texts

-- this is a possible outcome, and all possible ones have its status and its report
abbrev pub WritesAlike : (Status → List (List ℕ) → Type 0) → Status → List (List ℕ) → Type 0
WritesAlike writes status out = writes status out × ((s : Status) (other : List (List ℕ)) → writes s other → (s ≡ status) × (report_of other ≡ report_of out))

-- all texts of a possible outcome were written; after an error, nothing or a beginning of them
abbrev pub ReportsAll : {E : Type 0} → (Status → List (List ℕ) → Type 0) → Result Status E → List (Option (List ℕ)) → List (Option (List ℕ)) → Type 0
ReportsAll writes (Ok status) old new = (out : List (List ℕ)) × writes status out × AcceptAll out old new
ReportsAll writes (Err error) old new = (new ≡ old) ⊎ ((status : Status) × (out : List (List ℕ)) × writes status out × AcceptInTurn out old new)
