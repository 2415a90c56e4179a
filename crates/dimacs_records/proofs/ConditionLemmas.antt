-- The first condition for a record after others, by a search.
use Rattle.std.proofs.{Common.{◌≡◌, List, Bool, Option, Some, None, refl, arith}, lemmas.List.Elements.{All-contains}}
use Rattle.std.specs.{Prelude.{IsTrue}, List.{Contains}}
use Rattle.dimacs_records.specs.{declared.kinds.TextKind.{TextKind}, declared.records.Record.{Record}}
use Rattle.dimacs_records.specs.{declared.reasons.Reason.{Reason}, declared.faults.LineFault.{LineFault}}
use Rattle.dimacs_records.specs.declared.reasons.Reason.TheVariants.{ProblemMissing, EndMissing, TooFew, SolutionMissing}
use Rattle.dimacs_records.specs.{Conditions.{condition, end_condition}, Faults.{FirstAtEnd}}
use Rattle.dimacs_records.specs.Order.{FaultPlace, at, record_places, end_reasons}
use Rattle.dimacs_records.specs.Readings.{IsAllowed, IsFirstCondition, IsComplete}
use Rattle.dimacs_records.proofs.FirstLemmas.{first_by, is_first, none_is}

-- the place of the first condition
abbrev pub first_place : List Record → Record → Option FaultPlace
first_place earlier r = first_by (λ (p : FaultPlace). condition earlier r p.field p.reason) record_places

abbrev pub first_reason_at_end : TextKind → List Record → Option Reason
first_reason_at_end kind all = first_by (end_condition kind all) end_reasons

-- the order at the end lists each reason that can hold there
listed_at_end : (kind : TextKind) (all : List Record) (reason : Reason) → IsTrue (end_condition kind all reason) → Contains end_reasons reason
listed_at_end kind all ProblemMissing h = (0, omega arith, refl)
listed_at_end kind all EndMissing h = (1, omega arith, refl)
listed_at_end kind all TooFew h = (2, omega arith, refl)
listed_at_end kind all SolutionMissing h = (3, omega arith, refl)
listed_at_end kind all reason h = absurd (cc)

pub is_first_condition : (earlier : List Record) (r : Record) (fault : LineFault) → first_place earlier r ≡ Some (at fault.field fault.reason) → IsFirstCondition earlier r fault
is_first_condition earlier r fault = is_first (λ (p : FaultPlace). condition earlier r p.field p.reason) record_places (at fault.field fault.reason)

pub is_allowed : (earlier : List Record) (r : Record) → first_place earlier r ≡ None → IsAllowed earlier r
is_allowed earlier r e p h =
    let test : FaultPlace → Bool = λ p. condition earlier r p.field p.reason in
    All-contains (λ p. ¬ IsTrue (test p)) record_places p (none_is test record_places e) h.0 h.1

pub is_first_at_end : (kind : TextKind) (all : List Record) (reason : Reason) → first_reason_at_end kind all ≡ Some reason → FirstAtEnd kind all reason
is_first_at_end kind all = is_first (end_condition kind all) end_reasons

pub is_complete : (kind : TextKind) (all : List Record) → first_reason_at_end kind all ≡ None → IsComplete kind all
is_complete kind all e reason h = All-contains (λ other. ¬ IsTrue (end_condition kind all other)) end_reasons reason (none_is (end_condition kind all) end_reasons e) (listed_at_end kind all reason h) h

-- a record that is allowed, under other names
pub allowed_at : (before here : List Record) (r s : Record) → before ≡ here → r ≡ s → IsAllowed here s → IsAllowed before r
allowed_at before here r s before_is r_is h = rw (before_is, r_is) h
