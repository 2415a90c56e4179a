-- The order of the conditions at a line, and the first of a list.
use Rattle.std.specs.{Prelude.{ℕ, ◌≡◌, List, [], ◌∷◌, ◌++◌, IsTrue}, List.{All, Contains}}
use Rattle.dimacs_records.specs.{declared.records.Record.{Record}, declared.reasons.Reason.{Reason}}
use Rattle.dimacs_records.specs.Conditions.{condition}
use Rattle.dimacs_records.specs.declared.reasons.Reason.TheVariants.{LineTooLong, UnknownLine, FieldCount, BadNumber, NumberRange, BadWord, ProblemMissing, ProblemTwice, RecordOrder, NodeRange, NodeTwice, EndTwice, EndMissing, BoundOrder, TooMany, TooFew, SolutionMissing, SolutionTwice, PredUnknown, LineLimit, PastRadius}

-- a field, 0 for the whole line, and a reason
pub record FaultPlace : Type 0 where
  pub field : ℕ
  pub reason : Reason

abbrev pub at : ℕ → Reason → FaultPlace
at field reason = record { field = field; reason = reason }

abbrev pub limit_places : List FaultPlace
limit_places = at 0 LineLimit ∷ at 0 LineTooLong ∷ []

abbrev pub field_places : ℕ → List FaultPlace
field_places f = at f BadNumber ∷ at f NumberRange ∷ at f BadWord ∷ []

-- first the letter, then the number of fields, then the fields from left to right
abbrev pub shape_places : List FaultPlace
shape_places = at 1 UnknownLine ∷ at 0 FieldCount ∷ (field_places 2 ++ (field_places 3 ++ (field_places 4 ++ (field_places 5 ++ (field_places 6 ++ [])))))

-- the conditions after earlier records; if one holds at several fields, the leftmost comes first
abbrev pub record_places : List FaultPlace
record_places = at 0 ProblemMissing ∷ at 0 ProblemTwice ∷ at 0 RecordOrder
    ∷ at 2 NodeRange ∷ at 3 NodeRange ∷ at 4 NodeRange
    ∷ at 2 NodeTwice ∷ at 3 EndTwice ∷ at 0 EndMissing
    ∷ at 4 BoundOrder ∷ at 5 BoundOrder
    ∷ at 0 TooMany ∷ at 0 TooFew ∷ at 0 SolutionTwice ∷ at 0 PredUnknown ∷ at 3 PastRadius ∷ []

-- record r is refused after the earlier ones at this place of the order
abbrev pub IsRefusedAt : List Record → Record → FaultPlace → Type 0
IsRefusedAt earlier r p = Contains record_places p × IsTrue (condition earlier r p.field p.reason)

-- the order of all conditions at a line
abbrev pub places : List FaultPlace
places = limit_places ++ (shape_places ++ record_places)

-- the order at the end of a text
abbrev pub end_reasons : List Reason
end_reasons = ProblemMissing ∷ EndMissing ∷ TooFew ∷ SolutionMissing ∷ []

-- x is the first of a list with a property
pub record FirstOf {X : Type 0} (P : X → Type 0) (all : List X) (x : X) : Type 0 where
  pub before : List X
  pub after : List X
  pub all_is : all ≡ before ++ x ∷ after
  pub none_before : All (λ y. ¬ P y) before
  pub holds : P x
