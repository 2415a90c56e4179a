-- Theorems about the faults of texts.
use Rattle.std.specs.Prelude.{ℕ, ◌≡◌, List, Option}
use Rattle.dimacs_records.specs.{declared.kinds.TextKind.{TextKind}, declared.records.Record.{Record}}
use Rattle.dimacs_records.specs.{declared.reasons.Reason.{Reason}, Faults.{Fault, IsFaultless}}

-- a text has at most one fault
abbrev pub OneFaultLaw : Type 0
OneFaultLaw = (kind : TextKind) (lines : List (List ℕ)) (l f l' f' : ℕ) (r r' : Reason)
    → Fault kind lines l f r → Fault kind lines l' f' r' → (l ≡ l') × (f ≡ f') × (r ≡ r')

-- a text without a condition that holds has no fault
abbrev pub NoFaultLaw : Type 0
NoFaultLaw = (kind : TextKind) (lines : List (List ℕ)) (by_line : List (Option Record)) (l f : ℕ) (r : Reason)
    → IsFaultless kind lines by_line → ¬ Fault kind lines l f r
