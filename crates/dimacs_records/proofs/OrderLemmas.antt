-- The first fault, by what the tests know about the earlier records.
use Rattle.std.proofs.Common.{◌≡◌, [], List, false, true, Option, Some, None, Err, refl, ◌∙◌}
use Rattle.dimacs_records.specs.{declared.kinds.TextKind.{TextKind}, declared.order.Context.{Context}}
use Rattle.dimacs_records.specs.declared.kinds.TextKind.TheVariants.{Max, Labels, Distances, Solution}
use Rattle.dimacs_records.specs.{declared.records.Record.{Record}, declared.reasons.Reason.{Reason}, Order.{FaultPlace}}
use Rattle.dimacs_records.specs.declared.records.Record.TheVariants.{CutProblem, DistancesNode, DistancesProblem, GraphProblem, LabelsNode, LabelsProblem, MaxProblem, MinProblem, PotentialsProblem, QueriesProblem}
use Rattle.dimacs_records.specs.{declared.reasons.Reason.TheVariants.{ProblemMissing}, Conditions.{needs_problem}}
use Rattle.dimacs_records.specs.{declared.faults.TakeError.{TakeError}, declared.faults.TakeError.TheVariants.{Refused}}
use Rattle.dimacs_records.specs.{Earlier.{is_problem}, Faults.{FirstAtEnd}, Spelling.{kind_of}}
use Rattle.dimacs_records.specs.Readings.{IsAllowed, IsComplete, IsFirstCondition, RefusesEnd, RefusesRecord}
use Rattle.dimacs_records.specs.Tests.{Passes, PassesEnd, answer_at, answer_at_end, place_by, reason_by, end_context_of, context_after}
use Rattle.dimacs_records.proofs.ConditionLemmas.{first_place, first_reason_at_end, is_allowed, is_complete, is_first_at_end, is_first_condition}

-- what the tests know gives the first condition
noted : (e : Context) (earlier : List Record) (r : Record) → e ≡ context_after earlier r → first_place earlier r ≡ place_by e r
noted e earlier (LabelsNode id dist pred) so = rw so refl
noted e earlier (DistancesNode id dist) so = rw so refl
noted e earlier r so = rw so refl

refused_at : (earlier : List Record) (r : Record) (place : Option FaultPlace) (error : TakeError) → first_place earlier r ≡ place → Err error ≡ answer_at place → RefusesRecord earlier r error
refused_at earlier r None error is answer = absurd (cc)
refused_at earlier r (Some p) error is answer =
    let same : error ≡ Refused (record { field = p.field; reason = p.reason }) = cc in
    rw same (is_first_condition earlier r (record { field = p.field; reason = p.reason }) is)

pub refused_by_records : (e : Context) (earlier : List Record) (r : Record) (error : TakeError) → Err error ≡ answer_at (place_by e r) → e ≡ context_after earlier r → RefusesRecord earlier r error
refused_by_records e earlier r error answer so = refused_at earlier r (place_by e r) error (noted e earlier r so) answer

-- a record that passes the tests is allowed
pub allowed_by_records : (e : Context) (earlier : List Record) (r : Record) → Passes e r → e ≡ context_after earlier r → IsAllowed earlier r
allowed_by_records e earlier r p so =
    is_allowed earlier r (noted e earlier r so
    ∙ rw (p.after_problem, p.one_problem, p.placed, p.second_within, p.third_within, p.fourth_within, p.new_node, p.new_end, p.both_ends, p.low, p.cap, p.room, p.full_block, p.one_value, p.pred_known, p.within_radius) refl)

-- the same at the end
end_context_by_records : (kind : TextKind) (e : Context) (all : List Record) → e ≡ end_context_of kind all → first_reason_at_end kind all ≡ reason_by kind e
end_context_by_records Max e all so = rw so refl
end_context_by_records Labels e all so = rw so refl
end_context_by_records Distances e all so = rw so refl
end_context_by_records Solution e all so = rw so refl
end_context_by_records kind e all so = rw so refl

refused_at_end : (kind : TextKind) (all : List Record) (reason : Option Reason) (error : TakeError) → first_reason_at_end kind all ≡ reason → Err error ≡ answer_at_end reason → RefusesEnd kind all error
refused_at_end kind all None error is answer = absurd (cc)
refused_at_end kind all (Some reason) error is answer =
    let same : error ≡ Refused (record { field = 0; reason = reason }) = cc in
    rw same (refl, is_first_at_end kind all reason is)

pub end_refused_by_records : (kind : TextKind) (e : Context) (all : List Record) (error : TakeError) → Err error ≡ answer_at_end (reason_by kind e) → e ≡ end_context_of kind all → RefusesEnd kind all error
end_refused_by_records kind e all error answer so = refused_at_end kind all (reason_by kind e) error (end_context_by_records kind e all so) answer

pub complete_by_records : (kind : TextKind) (e : Context) (all : List Record) → PassesEnd kind e → e ≡ end_context_of kind all → IsComplete kind all
complete_by_records kind e all p so = is_complete kind all (end_context_by_records kind e all so ∙ rw (p.problem, p.ends, p.finished, p.value) refl)

-- the first record of a text that begins without its problem line
pub first_missing : (r : Record) → is_problem r ≡ false → needs_problem (kind_of r) ≡ true → IsFirstCondition [] r (record { field = 0; reason = ProblemMissing })
first_missing r other needs = is_first_condition [] r (record { field = 0; reason = ProblemMissing }) (rw (needs, other) refl)

pub first_allowed : (r : Record) → is_problem r ≡ true → IsAllowed [] r
first_allowed (MaxProblem n m) h = is_allowed [] (MaxProblem n m) refl
first_allowed (MinProblem n m) h = is_allowed [] (MinProblem n m) refl
first_allowed (GraphProblem n m) h = is_allowed [] (GraphProblem n m) refl
first_allowed (QueriesProblem asks k) h = is_allowed [] (QueriesProblem asks k) refl
first_allowed (CutProblem n k) h = is_allowed [] (CutProblem n k) refl
first_allowed (PotentialsProblem n k) h = is_allowed [] (PotentialsProblem n k) refl
first_allowed (LabelsProblem n k) h = is_allowed [] (LabelsProblem n k) refl
first_allowed (DistancesProblem n k) h = is_allowed [] (DistancesProblem n k) refl
first_allowed r h = absurd (cc)

pub none_at_end : (kind : TextKind) → needs_problem kind ≡ true → FirstAtEnd kind [] ProblemMissing
none_at_end kind needs = is_first_at_end kind [] ProblemMissing (rw needs refl)
