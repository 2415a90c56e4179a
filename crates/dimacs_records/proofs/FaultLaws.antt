-- A text has at most one fault.
use Rattle.std.proofs.Common.{◌≡◌, ℕ, ◌+◌, ◌∷◌, ◌++◌, [], List, Option, Some, None, length, refl, ap, sym, ◌∙◌, inl, inr}
use Rattle.std.proofs.lemmas.Bool.{true≢false}
use Rattle.std.specs.Prelude.{IsTrue}
use Rattle.dimacs_records.specs.{declared.kinds.TextKind.{TextKind}, declared.records.Record.{Record}}
use Rattle.dimacs_records.specs.{declared.reasons.Reason.{Reason}, Spelling.{texts_in}, Conditions.{end_condition}}
use Rattle.dimacs_records.specs.Order.{FaultPlace, at, places, end_reasons, FirstOf}
use Rattle.dimacs_records.specs.Faults.{Condition, Spell, records_in, IsClean, FaultyLine, FirstAtEnd}
use Rattle.dimacs_records.specs.FaultLaws.{OneFaultLaw, NoFaultLaw}
use Rattle.dimacs_records.proofs.{FirstLemmas.{first_unique}, SpellLaws.{spells_one}}
use Rattle.dimacs_records.proofs.SplitLemmas.{same, sooner, later, two_places}

-- lines spell only one list of records
pub spell_same : (kind : TextKind) (lines : List (List ℕ)) (by_line by_line' : List (Option Record)) → Spell kind lines by_line → Spell kind lines by_line' → by_line ≡ by_line'
spell_same kind [] [] [] a b = refl
spell_same kind (line ∷ lines) (None ∷ more) (None ∷ more') a b = ap (λ t. None ∷ t) (spell_same kind lines more more' a.1 b.1)
spell_same kind (line ∷ lines) (Some r ∷ more) (Some s ∷ more') a b =
    let one = spells_one kind (texts_in line) r s a.1 b.1 in
    let rest = spell_same kind lines more more' a.2 b.2 in
    cc
spell_same kind (line ∷ lines) (None ∷ more) (Some s ∷ more') a b = absurd (true≢false (sym a.0 ∙ b.0))
spell_same kind (line ∷ lines) (Some r ∷ more) (None ∷ more') a b = absurd (true≢false (sym b.0 ∙ a.0))
spell_same kind (line ∷ lines) (x ∷ more) [] a b = absurd b
spell_same kind [] [] (x ∷ more) a b = absurd b
spell_same kind lines by_line by_line' a b = absurd a

-- no clean line is faulty
clean_not_faulty : (kind : TextKind) (lines fore after : List (List ℕ)) (by_line : List (Option Record)) (l f : ℕ) (r : Reason) (h : FaultyLine kind lines l f r) → IsClean kind fore by_line
    → ¬ (fore ≡ h.before ++ h.line ∷ after)
clean_not_faulty kind lines fore after by_line l f r h clean e = clean.none h.before after h.line h.by_line (at f r) e h.clean.spell (rw h.number at h.first.holds)

one_line : (kind : TextKind) (lines : List (List ℕ)) (l f l' f' : ℕ) (r r' : Reason) (g : FaultyLine kind lines l f r) (h : FaultyLine kind lines l' f' r')
    → g.before ≡ h.before → g.line ≡ h.line → (l ≡ l') × (f ≡ f') × (r ≡ r')
one_line kind lines l f l' f' r r' g h before_is line_is =
    let number : l ≡ l' = g.number ∙ (ap (λ (t : List (List ℕ)). length t + 1) before_is ∙ sym h.number) in
    let by_line = spell_same kind h.before g.by_line h.by_line (rw before_is at g.clean.spell) h.clean.spell in
    let first : FirstOf (Condition kind (records_in h.by_line) l' h.line) places (at f r) = rw (by_line, number, line_is) at g.first in
    let place = first_unique (Condition kind (records_in h.by_line) l' h.line) places (at f r) (at f' r') first h.first in
    (number, ap (λ (p : FaultPlace). p.field) place, ap (λ (p : FaultPlace). p.reason) place)

pub one_fault : OneFaultLaw
one_fault kind lines l f l' f' r r' (inl g) (inl h) =
    elim (two_places g.before h.before g.after h.after g.line h.line (sym g.lines_are ∙ h.lines_are)) [
      | same before_is line_is ↦ one_line kind lines l f l' f' r r' g h before_is line_is
      | sooner rest longer ↦ absurd (clean_not_faulty kind lines h.before rest h.by_line l f r g h.clean longer)
      | later rest longer ↦ absurd (clean_not_faulty kind lines g.before rest g.by_line l' f' r' h g.clean longer)
    ]
one_fault kind lines l f l' f' r r' (inl g) (inr h) = absurd (clean_not_faulty kind lines lines g.after h.by_line l f r g h.clean g.lines_are)
one_fault kind lines l f l' f' r r' (inr g) (inl h) = absurd (clean_not_faulty kind lines lines h.after g.by_line l' f' r' h g.clean h.lines_are)
one_fault kind lines l f l' f' r r' (inr g) (inr h) =
    let by_line = spell_same kind lines g.by_line h.by_line g.clean.spell h.clean.spell in
    let first : FirstAtEnd kind (records_in h.by_line) r = rw by_line at g.first in
    (g.number ∙ sym h.number, g.field ∙ sym h.field, first_unique (λ reason. IsTrue (end_condition kind (records_in h.by_line) reason)) end_reasons r r' first h.first)

pub no_fault : NoFaultLaw
no_fault kind lines by_line l f r s (inl h) = clean_not_faulty kind lines lines h.after by_line l f r h s.clean h.lines_are
no_fault kind lines by_line l f r s (inr h) =
    let one = spell_same kind lines h.by_line by_line h.clean.spell s.clean.spell in
    s.none_at_end r (rw one at h.first.holds)
