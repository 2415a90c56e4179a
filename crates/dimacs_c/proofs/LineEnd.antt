-- A text of a line end alone is refused.
use Rattle.std.proofs.Common.{◌≡◌, ◌∙◌, ◌+◌, ◌++◌, ℕ, false, List, [], ◌∷◌, Option, Some, None, ap, arith, inr, length, length-append, refl, sym}
use Rattle.std.proofs.lemmas.Bool.{and_right, true≢false}
use Rattle.std.specs.Prelude.{◌==◌, IsTrue}
use Rattle.dimacs_records.specs.{declared.kinds.TextKind.{TextKind}, declared.reasons.Reason.{Reason}}
use Rattle.dimacs_records.specs.{declared.records.Record.{Record}, Conditions.{end_condition, limit_condition}}
use Rattle.dimacs_records.specs.declared.kinds.TextKind.TheVariants.{Max, Min, Graph, Queries, Solution, Cut, Potentials, Labels, Distances}
use Rattle.dimacs_records.specs.declared.reasons.Reason.TheVariants.{LineLimit, LineTooLong}
use Rattle.dimacs_records.specs.Order.{FaultPlace, end_reasons}
use Rattle.dimacs_records.specs.Faults.{Condition, of_limit, of_shape, of_record, FirstAtEnd, IsClean, IsFaultless, Spell, records_in}
use Rattle.dimacs_records.proofs.FirstLemmas.{is_first}
use Rattle.dimacs_runs.specs.InMemory.{lacking}
use Rattle.dimacs_c.specs.LineEnd.{LineEndLaw}

-- no limit is exceeded by the line
within : (f : ℕ) (r : Reason) → ¬ IsTrue (limit_condition 1 [] f r)
within f LineLimit h = true≢false (sym h ∙ and_right (f == 0) false refl)
within f LineTooLong h = true≢false (sym h ∙ and_right (f == 0) false refl)
within f r h = true≢false (sym h)

-- nor is any other condition met by a line that is skipped
skipped : (kind : TextKind) (earlier : List Record) (p : FaultPlace) → ¬ Condition kind earlier 1 [] p
skipped kind earlier p c = elim c [
  | of_limit h ↦ within p.field p.reason h
  | of_shape solid h ↦ true≢false solid
  | of_record r solid spells h ↦ true≢false solid
]

clean : (kind : TextKind) → IsClean kind ([] ∷ []) (None ∷ [])
clean kind = record { spell = (refl, tt); none = none }
  where
    none : (before after : List (List ℕ)) (line : List ℕ) (earlier : List (Option Record)) (p : FaultPlace) → [] ∷ [] ≡ before ++ line ∷ after → Spell kind before earlier
        → ¬ Condition kind (records_in earlier) (length before + 1) line p
    none [] after line earlier p is spell c = let empty : line ≡ [] = cc in skipped kind (records_in earlier) p (rw empty at c)
    none (b ∷ before) after line earlier p is spell c = let long : 1 ≡ length ((b ∷ before) ++ line ∷ after) = ap length is in omega (arith, long, length-append (b ∷ before) (line ∷ after))

ends : (kind : TextKind) → FirstAtEnd kind [] (lacking kind)
ends Max = is_first (end_condition Max []) end_reasons (lacking Max) refl
ends Min = is_first (end_condition Min []) end_reasons (lacking Min) refl
ends Graph = is_first (end_condition Graph []) end_reasons (lacking Graph) refl
ends Queries = is_first (end_condition Queries []) end_reasons (lacking Queries) refl
ends Solution = is_first (end_condition Solution []) end_reasons (lacking Solution) refl
ends Cut = is_first (end_condition Cut []) end_reasons (lacking Cut) refl
ends Potentials = is_first (end_condition Potentials []) end_reasons (lacking Potentials) refl
ends Labels = is_first (end_condition Labels []) end_reasons (lacking Labels) refl
ends Distances = is_first (end_condition Distances []) end_reasons (lacking Distances) refl

-- what is lacking holds at the end of any lines that spell nothing
lacks : (kind : TextKind) (by_line : List (Option Record)) → ¬ IsFaultless kind ([] ∷ []) by_line
lacks kind (None ∷ []) faultless = faultless.none_at_end (lacking kind) (ends kind).holds
lacks kind (Some r ∷ more) faultless = true≢false faultless.clean.spell.0
lacks kind [] faultless = absurd faultless.clean.spell
lacks kind (None ∷ x ∷ more) faultless = absurd faultless.clean.spell.1

pub line_end : LineEndLaw
line_end kind = (inr (record { by_line = None ∷ []; number = refl; field = refl; clean = clean kind; first = ends kind }), lacks kind)
