-- Solutions over arcs in arrays.
use Rattle.std.proofs.Common.{◌≡◌, ◌≤◌, ℕ, ℤ, All, List, [], ◌∷◌, length, inl, inr, refl, sym, ap, arith, ◌∙◌}
use Rattle.std.proofs.{lemmas.List.Elements.{All-weaker}, lemmas.Result.{err_from_is_err_and}, lemmas.Int.{ints}}
use Rattle.std.specs.Prelude.{Result, Ok, Err, IsErrAnd}
use Rattle.dimacs_lines.specs.{Limits.{most_count, most_nodes}, Lines.{lines}}
use Rattle.dimacs_records.specs.{declared.faults.ReadError.{ReadError}, declared.reasons.Reason.{Reason}, Texts.{Reads}}
use Rattle.dimacs_records.specs.{declared.reasons.Reason.TheVariants.{NumberRange}, Faults.{Fault}, Ranges.{IsWhole}}
use Rattle.dimacs_network.specs.{declared.network.ArcView.{ArcView}, Arcs.{JoinsNodes}}
use Rattle.dimacs_instance.specs.Graph.{HasWeightAlone, IsGraph}
use Rattle.dimacs_claims.specs.SolutionReading.{AnswersAlike, ReadsLike}
use Rattle.dimacs_claims.specs.SolutionTexts.{SolutionValue, SpellsSolution}
use Rattle.dimacs_judging.specs.{declared.verdict.JudgeError.{JudgeError}, declared.verdict.Where.{Where}}
use Rattle.dimacs_judging.specs.{declared.verdict.JudgeError.TheVariants.{Refused, Memory}, Claims.{Carries, entry_row}}
use Rattle.dimacs_judging.specs.{declared.verdict.Where.TheVariants.{Solution}, Tests.{AllClear, FirstOfRow, Row}}
use Rattle.dimacs_judging.proofs.{Claims.{carries_clear, entry_one_way}, Firsts.{AllOneWay, one_test_one_way}}
use Rattle.dimacs_judging.proofs.Settling.{error_settles, refusal_refutes}
use Rattle.dimacs_arrays.specs.{declared.solution.ClaimedFlow.{ClaimedFlow}, declared.solution.EndArrays.{EndArrays}}
use Rattle.dimacs_arrays.specs.SolutionArrays.{ClaimsOver, IsClaimedBy, ReadsSolutionOver, end_arc, ends_limits, ends_spelled, not_read, value_row}
use Rattle.dimacs_arrays.specs.inside.Lent.{IsInRange}
use Rattle.dimacs_arrays.proofs.LentLemmas.{lent_all, lent_many}
use Rattle.dimacs_arrays.proofs.LimitLemmas.{HasLawfulBounds, all_limits_clear, limits_one_way, one_clear}
use Rattle.dimacs_records.specs.declared.faults.ReadError.TheVariants as read_errors
use Rattle.dimacs_records.specs.declared.kinds.TextKind.TheVariants as kinds

-- ---- the arcs
module _ (a : EndArrays) where
  abbrev count : ℕ
  count = length a.tails.now

  pub ends_one_way : AllOneWay (ends_limits a)
  ends_one_way = limits_one_way a.nodes count [] (ends_spelled a).arcs tt

  lawful_bounds : (b : ArcView) → HasWeightAlone b → HasLawfulBounds b
  lawful_bounds b alone = (omega (arith, ints, alone.0), omega (arith, ints, alone.0, alone.1))

  pub ends_clear : IsGraph (ends_spelled a) → AllClear (ends_limits a)
  ends_clear law =
      all_limits_clear a.nodes count [] (ends_spelled a).arcs law.nodes_few (omega (arith, law.arcs_few, lent_many (end_arc a) count)) tt law.joined
      (All-weaker HasWeightAlone HasLawfulBounds lawful_bounds (ends_spelled a).arcs law.weights)

  pub ends_lawful : a.nodes ≤ most_nodes → count ≤ most_count → All (IsInRange a.nodes) (ends_spelled a).arcs → IsGraph (ends_spelled a)
  ends_lawful nodes_few arcs_few in_range = record {
    nodes_few = nodes_few;
    arcs_few = omega (arith, arcs_few, lent_many (end_arc a) count);
    joined = All-weaker (IsInRange a.nodes) (JoinsNodes a.nodes) (λ b in_it. in_it.0) (ends_spelled a).arcs in_range;
    weights = lent_all (end_arc a) count (IsInRange a.nodes) HasWeightAlone (λ k in_it. (refl, refl, in_it.1.3)) in_range;
  }

-- ---- what a solution claims
module _ (arcs : List ArcView) (s : SolutionValue) where
  abbrev rows : List Row
  rows = entry_row arcs s.entries ∷ value_row s ∷ []

  one_way : AllOneWay rows
  one_way = (entry_one_way arcs s.entries, (one_test_one_way (Solution s.value_line 2) NumberRange (¬ IsWhole s.value), tt))

  needed : (c : ClaimedFlow) → IsClaimedBy arcs s c → AllClear rows
  needed c claim = (carries_clear arcs s.entries c.flow claim.carries, (one_clear (Solution s.value_line 2) NumberRange (¬ IsWhole s.value) (λ off. off claim.whole), tt))

  pub entry_refused : (place : Where) (reason : Reason) → FirstOfRow (entry_row arcs s.entries) place reason → (result : Result ClaimedFlow JudgeError) → IsErrAnd result (λ e. e ≡ Refused place reason) → ClaimsOver arcs s result
  entry_refused place reason first result is = error_settles (IsClaimedBy arcs s) rows one_way needed (Refused place reason) (inl first) result is

  pub value_refused : (x : List ℤ) → Carries arcs s.entries x → (¬ IsWhole s.value) → ClaimsOver arcs s (Err (Refused (Solution s.value_line 2) NumberRange))
  value_refused x carries off =
      refusal_refutes (IsClaimedBy arcs s) rows one_way needed (Refused (Solution s.value_line 2) NumberRange)
      (inr (carries_clear arcs s.entries x carries, inl (record { number = 0; fails = (refl, refl, refl, off); earlier = λ k below. absurd (omega (arith, below)) })))

-- ---- reading
module _ {W : Type 0} (like : SolutionValue → W → Type 0) (text : List ℕ) (arcs : List ArcView) where
  pub read_claims : (w : W) (result : Result ClaimedFlow JudgeError) → ReadsLike like text (Ok w) → ((s : SolutionValue) → like s w → ClaimsOver arcs s result) → ReadsSolutionOver arcs text result
  read_claims w result reads claims = by reads.answer reads.reads reads.alike
    where
      by : (answer : Result SolutionValue ReadError) → Reads (SpellsSolution text) (Fault kinds.Solution (lines text)) answer → AnswersAlike like answer (Ok w) → ReadsSolutionOver arcs text result
      by (Ok s) spelled alike = (Ok s, spelled, claims s alike)
      by (Err e) spelled alike = absurd alike

  pub read_fault : (error : ReadError) → ReadsLike like text (Err error) → ReadsSolutionOver arcs text (Err (not_read error))
  read_fault error reads = by reads.answer reads.reads reads.alike
    where
      by : (answer : Result SolutionValue ReadError) → Reads (SpellsSolution text) (Fault kinds.Solution (lines text)) answer → AnswersAlike like answer (Err error) → ReadsSolutionOver arcs text (Err (not_read error))
      by (Ok s) spelled alike = absurd alike
      by (Err e) spelled alike = (Err e, spelled, ap (λ (f : ReadError). Err (not_read f)) (sym alike))

pub out_of_memory : (text : List ℕ) (arcs : List ArcView) (result : Result ClaimedFlow JudgeError) → IsErrAnd result (λ e. e ≡ Memory) → ReadsSolutionOver arcs text result
out_of_memory text arcs result is = let p = err_from_is_err_and result is in (Err read_errors.Memory, tt, p.1 ∙ ap Err p.2)
