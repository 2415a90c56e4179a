-- The fault of a text: the first line at which a condition holds, and the first condition in the order there.
use Rattle.std.specs.Prelude.{ℕ, ◌+◌, ◌≡◌, ◌⊎◌, true, false, List, [], ◌∷◌, ◌++◌, length, Option, Some, None, IsTrue}
use Rattle.dimacs_records.specs.{declared.kinds.TextKind.{TextKind}, declared.records.Record.{Record}}
use Rattle.dimacs_records.specs.{declared.reasons.Reason.{Reason}, Spelling.{SpellsRecord, texts_in, is_skip}}
use Rattle.dimacs_records.specs.{Shapes.{shape_condition}, Conditions.{limit_condition, end_condition}}
use Rattle.dimacs_records.specs.Order.{IsRefusedAt, FaultPlace, at, places, end_reasons, FirstOf}

-- the condition of the reason at place p holds for this line after the earlier records
pub data Condition (kind : TextKind) (earlier : List Record) (number : ℕ) (line : List ℕ) (p : FaultPlace) : Type 0 where
  of_limit : IsTrue (limit_condition number line p.field p.reason) → Condition kind earlier number line p
  of_shape : is_skip (texts_in line) ≡ false → IsTrue (shape_condition kind (texts_in line) p.field p.reason) → Condition kind earlier number line p
  of_record : (r : Record) → is_skip (texts_in line) ≡ false → SpellsRecord kind (texts_in line) r
      → IsRefusedAt earlier r p → Condition kind earlier number line p

-- each line is skipped or spells the record at its position
abbrev pub Spell : TextKind → List (List ℕ) → List (Option Record) → Type 0
Spell kind [] [] = Unit {0}
Spell kind (line ∷ lines) (None ∷ more) = (is_skip (texts_in line) ≡ true) × Spell kind lines more
Spell kind (line ∷ lines) (Some r ∷ more) = (is_skip (texts_in line) ≡ false) × SpellsRecord kind (texts_in line) r × Spell kind lines more
Spell kind lines by_line = ⊥

-- the records of lines, without skipped lines
abbrev pub records_in : List (Option Record) → List Record
records_in [] = []
records_in (None ∷ more) = records_in more
records_in (Some r ∷ more) = r ∷ records_in more

-- the lines spell these records, and no condition holds at any line
pub record IsClean (kind : TextKind) (lines : List (List ℕ)) (by_line : List (Option Record)) : Type 0 where
  pub spell : Spell kind lines by_line
  pub none : (before after : List (List ℕ)) (line : List ℕ) (earlier : List (Option Record)) (p : FaultPlace)
      → lines ≡ before ++ line ∷ after → Spell kind before earlier → ¬ Condition kind (records_in earlier) (length before + 1) line p

-- clean lines, then one at which this condition is the first
pub record FaultyLine (kind : TextKind) (lines : List (List ℕ)) (l f : ℕ) (r : Reason) : Type 0 where
  pub before : List (List ℕ)
  pub line : List ℕ
  pub after : List (List ℕ)
  pub by_line : List (Option Record)
  pub lines_are : lines ≡ before ++ line ∷ after
  pub number : l ≡ length before + 1
  pub clean : IsClean kind before by_line
  pub first : FirstOf (Condition kind (records_in by_line) l line) places (at f r)

-- this condition is the first at the end of a text of these records
abbrev pub FirstAtEnd : TextKind → List Record → Reason → Type 0
FirstAtEnd kind all reason = FirstOf (λ other. IsTrue (end_condition kind all other)) end_reasons reason

-- clean lines, and this condition at their end
pub record FaultyEnd (kind : TextKind) (lines : List (List ℕ)) (l f : ℕ) (r : Reason) : Type 0 where
  pub by_line : List (Option Record)
  pub number : l ≡ length lines + 1
  pub field : f ≡ 0
  pub clean : IsClean kind lines by_line
  pub first : FirstAtEnd kind (records_in by_line) r

abbrev pub Fault : TextKind → List (List ℕ) → ℕ → ℕ → Reason → Type 0
Fault kind lines l f r = FaultyLine kind lines l f r ⊎ FaultyEnd kind lines l f r

-- no condition holds at any line or at the end
pub record IsFaultless (kind : TextKind) (lines : List (List ℕ)) (by_line : List (Option Record)) : Type 0 where
  pub clean : IsClean kind lines by_line
  pub none_at_end : (reason : Reason) → ¬ IsTrue (end_condition kind (records_in by_line) reason)
