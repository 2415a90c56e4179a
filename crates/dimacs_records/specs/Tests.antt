-- The tests of one more record by what is known of the earlier ones.
use Rattle.std.specs.Prelude.{ℕ, ◌≡◌, ◌&&◌, ◌||◌, Bool, true, false, List, [], ◌∷◌, Option, Some, None, is_some, is_none, not, if◌then◌else◌, Result, Ok, Err}
use Rattle.std.specs.List.{list_any}
use Rattle.dimacs_records.specs.{declared.faults.TakeError.{TakeError}, declared.faults.TakeError.TheVariants.{Refused}}
use Rattle.dimacs_records.specs.{declared.kinds.TextKind.{TextKind}, declared.order.Declared.{Declared}}
use Rattle.dimacs_records.specs.declared.kinds.TextKind.TheVariants.{Max, Labels, Distances, Solution}
use Rattle.dimacs_records.specs.{declared.order.Context.{Context}, declared.reasons.Reason.{Reason}, Spelling.{kind_of}}
use Rattle.dimacs_records.specs.declared.reasons.Reason.TheVariants.{RecordOrder, NodeTwice, EndTwice, EndMissing, TooFew, SolutionTwice, PredUnknown, PastRadius}
use Rattle.dimacs_records.specs.{declared.records.Record.{Record}, Blocks.{block_in, is_full_block, is_short_block}}
use Rattle.dimacs_records.specs.declared.records.Record.TheVariants.{LabelsNode, DistancesNode}
use Rattle.dimacs_records.specs.Conditions.{bounded_ids, is_above_at, is_bound_wrong, is_refused_for, lacks_end, needs_problem}
use Rattle.dimacs_records.specs.Earlier.{counted_in, is_counted, is_full, is_problem, is_short, is_value, problem_in}
use Rattle.dimacs_records.specs.Order.{FaultPlace, end_reasons, record_places}

-- after this problem line and so many lines that it counts
abbrev pub plain_context_of : Option Declared → ℕ → Context
plain_context_of problem counted = record {
  problem = problem;
  counted = counted;
  misplaced = false;
  named = false;
  end_named = false;
  lacks_end = false;
  block_full = false;
  block_short = false;
  valued = false;
  pred_unknown = false;
  past_radius = false;
}

-- after these records, if only their number matters
abbrev pub plain_context_after : List Record → Context
plain_context_after rs = plain_context_of (problem_in rs) (counted_in rs)

-- the record is a label, and its block has as many as it declares
abbrev pub is_full_label : List Record → Record → Bool
is_full_label earlier (LabelsNode id dist pred) = is_full_block (block_in earlier)
is_full_label earlier (DistancesNode id dist) = is_full_block (block_in earlier)
is_full_label earlier r = false

-- what the tests of record r need from the earlier records
abbrev pub context_after : List Record → Record → Context
context_after earlier r = record {
  problem = problem_in earlier;
  counted = counted_in earlier;
  misplaced = is_refused_for RecordOrder earlier r;
  named = is_refused_for NodeTwice earlier r;
  end_named = is_refused_for EndTwice earlier r;
  lacks_end = is_refused_for EndMissing earlier r;
  block_full = is_full_label earlier r;
  block_short = is_refused_for TooFew earlier r;
  valued = is_refused_for SolutionTwice earlier r;
  pred_unknown = is_refused_for PredUnknown earlier r;
  past_radius = is_refused_for PastRadius earlier r;
}

-- what the tests at the end need from the records
abbrev pub end_context_of : TextKind → List Record → Context
end_context_of Max all = record (plain_context_after all) { lacks_end = lacks_end all }
end_context_of Labels all = record (plain_context_after all) { block_short = is_short_block (block_in all) }
end_context_of Distances all = record (plain_context_after all) { block_short = is_short_block (block_in all) }
end_context_of Solution all = record (plain_context_after all) { valued = list_any is_value all }
end_context_of kind all = plain_context_after all

abbrev pub passes_count : Context → Record → Bool
passes_count e (LabelsNode id dist pred) = e.block_full
passes_count e (DistancesNode id dist) = e.block_full
passes_count e r = is_counted r && is_full e.problem e.counted

-- the first item whose test fails; `true` stands for a failure
abbrev pub first_failing : {X : Type 0} → List X → List Bool → Option X
first_failing (x ∷ xs) (wrong ∷ more) = if wrong then Some x else first_failing xs more
first_failing xs tests = None

-- the place of the first test of record r that fails
abbrev pub place_by : Context → Record → Option FaultPlace
place_by e r =
    first_failing record_places (
    ((needs_problem (kind_of r) && not (is_problem r)) && is_none e.problem) ∷ (is_problem r && is_some e.problem) ∷ e.misplaced
    ∷ is_above_at 2 e.problem (bounded_ids r) ∷ is_above_at 3 e.problem (bounded_ids r) ∷ is_above_at 4 e.problem (bounded_ids r)
    ∷ e.named ∷ e.end_named ∷ e.lacks_end ∷ is_bound_wrong 4 r ∷ is_bound_wrong 5 r
    ∷ passes_count e r ∷ e.block_short ∷ e.valued ∷ e.pred_unknown ∷ e.past_radius ∷ []
    )

abbrev pub needs_value : TextKind → Bool
needs_value Solution = true
needs_value kind = false

-- the reason of the first test at the end that fails
abbrev pub reason_by : TextKind → Context → Option Reason
reason_by kind e =
    first_failing end_reasons (
    (needs_problem kind && is_none e.problem) ∷ e.lacks_end
    ∷ (e.block_short || is_short e.problem e.counted) ∷ (needs_value kind && not e.valued) ∷ []
    )

-- a refusal at this place, if there is one
abbrev pub answer_at : Option FaultPlace → Result Unit TakeError
answer_at None = Ok tt
answer_at (Some p) = Err (Refused (record { field = p.field; reason = p.reason }))

abbrev pub answer_at_end : Option Reason → Result Unit TakeError
answer_at_end None = Ok tt
answer_at_end (Some reason) = Err (Refused (record { field = 0; reason = reason }))

-- no test of record r fails
pub record Passes (e : Context) (r : Record) : Type 0 where
  pub after_problem : ((needs_problem (kind_of r) && not (is_problem r)) && is_none e.problem) ≡ false
  pub one_problem : (is_problem r && is_some e.problem) ≡ false
  pub placed : e.misplaced ≡ false
  pub second_within : is_above_at 2 e.problem (bounded_ids r) ≡ false
  pub third_within : is_above_at 3 e.problem (bounded_ids r) ≡ false
  pub fourth_within : is_above_at 4 e.problem (bounded_ids r) ≡ false
  pub new_node : e.named ≡ false
  pub new_end : e.end_named ≡ false
  pub both_ends : e.lacks_end ≡ false
  pub low : is_bound_wrong 4 r ≡ false
  pub cap : is_bound_wrong 5 r ≡ false
  pub room : passes_count e r ≡ false
  pub full_block : e.block_short ≡ false
  pub one_value : e.valued ≡ false
  pub pred_known : e.pred_unknown ≡ false
  pub within_radius : e.past_radius ≡ false

-- no test at the end fails
pub record PassesEnd (kind : TextKind) (e : Context) : Type 0 where
  pub problem : (needs_problem kind && is_none e.problem) ≡ false
  pub ends : e.lacks_end ≡ false
  pub finished : (e.block_short || is_short e.problem e.counted) ≡ false
  pub value : (needs_value kind && not e.valued) ≡ false
