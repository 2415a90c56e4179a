-- What a text spells, defined without faults, and the result of reading it.
use Rattle.std.specs.{Prelude.{ℕ, ◌≡◌, ◌≤◌, List, length, Option, Result, Ok, Err, ◌∷◌, ◌++◌}, List.{All}}
use Rattle.dimacs_lines.specs.Limits.{longest_line, most_lines}
use Rattle.dimacs_records.specs.{declared.kinds.TextKind.{TextKind}, declared.records.Record.{Record}, Faults.{Spell}}
use Rattle.dimacs_records.specs.{declared.reasons.Reason.{Reason}, declared.faults.ReadError.{ReadError}}
use Rattle.dimacs_records.specs.Readings.{LineRecord, numbered, IsAllowed, IsComplete}
use Rattle.dimacs_records.specs.declared.faults.ReadError.TheVariants as read_errors

-- the lines are within the limits, and each is skipped or spells the record at its position
pub record AreSpelled (kind : TextKind) (all : List (List ℕ)) (by_line : List (Option Record)) : Type 0 where
  pub few : length all ≤ most_lines
  pub short : All (λ (line : List ℕ). length line ≤ longest_line) all
  pub spell : Spell kind all by_line

-- the lines are spelled, and their records give this value
pub record SpellsValue {V : Type 0} (kind : TextKind) (gives : List LineRecord → V → Type 0) (all : List (List ℕ)) (v : V) : Type 0 where
  pub by_line : List (Option Record)
  pub spelled : AreSpelled kind all by_line
  pub given : gives (numbered 1 by_line) v

-- the only value that is spelled, and then there is no fault; or the only fault, and then no value is spelled
abbrev pub Reads : {V : Type 0} → (V → Type 0) → (ℕ → ℕ → Reason → Type 0) → Result V ReadError → Type 0
Reads spells fault (Ok v) = spells v × ((other : _) → spells other → other ≡ v) × ((l f : ℕ) (r : Reason) → ¬ fault l f r)
Reads spells fault (Err (read_errors.Refused place reason)) = fault place.line place.field reason
    × ((l f : ℕ) (r : Reason) → fault l f r → (l ≡ place.line) × (f ≡ place.field) × (r ≡ reason)) × ((v : _) → ¬ spells v)
Reads spells fault (Err read_errors.Device) = Unit {0}
Reads spells fault (Err read_errors.Memory) = Unit {0}

-- the same for a reader whose result stands for a value
abbrev pub ReadsAs : {T V : Type 0} → (T → V) → (V → Type 0) → (ℕ → ℕ → Reason → Type 0) → Result T ReadError → Type 0
ReadsAs content spells fault (Ok value) = Reads spells fault (Ok (content value))
ReadsAs content spells fault (Err error) = Reads spells fault (Err error)

-- no condition holds for any record or at the end
pub record AreFaultless (kind : TextKind) (all : List Record) : Type 0 where
  pub allowed : (before after : List Record) (r : Record) → all ≡ before ++ r ∷ after → IsAllowed before r
  pub complete : IsComplete kind all
