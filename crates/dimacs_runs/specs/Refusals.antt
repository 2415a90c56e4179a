-- The lines of refusals.
use Rattle.std.specs.{Prelude.{ℕ, List, [], ◌∷◌, codes}, Fmt.{decimal}}
use Rattle.dimacs_records.specs.{declared.reasons.Reason.{Reason}, Names.{name_of}, Printed.{spaced_line}}

-- the word for the text, line, field and reason
abbrev pub refusal_line : List ℕ → ℕ → ℕ → Reason → List ℕ
refusal_line text line field reason = spaced_line (codes "x") (text ∷ decimal line ∷ decimal field ∷ name_of reason ∷ [])
