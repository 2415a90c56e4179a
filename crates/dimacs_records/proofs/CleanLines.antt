-- Reading a text line by line: the clean lines so far, and the first condition at the next one.
use Rattle.std.proofs.Common.{◌≡◌, ℕ, suc, ◌+◌, ◌<◌, ◌∷◌, ◌++◌, [], List, Bool, false, true, Option, Some, None, length, refl, ap, sym, ◌∙◌, arith, length-append}
use Rattle.std.proofs.{lemmas.Bool.{true≢false, ne_eqb}, lemmas.List.Elements.{All-contains, Contains-append_left}}
use Rattle.std.specs.{Prelude.{IsTrue}, List.{All}}
use Rattle.dimacs_records.specs.{declared.kinds.TextKind.{TextKind}, declared.records.Record.{Record}}
use Rattle.dimacs_records.specs.{declared.reasons.Reason.{Reason}, Forms.{FieldType, forms}, Readings.{IsAllowed}}
use Rattle.dimacs_records.specs.declared.reasons.Reason.TheVariants.{LineTooLong, LineLimit}
use Rattle.dimacs_records.specs.{Spelling.{SpellsRecord, texts_in, is_skip}, Conditions.{limit_condition, condition}}
use Rattle.dimacs_records.specs.Shapes.{fields_condition, types_in, letter_condition, shape_condition}
use Rattle.dimacs_records.specs.Order.{FaultPlace, at, limit_places, shape_places, record_places, places, FirstOf}
use Rattle.dimacs_records.specs.Faults.{Condition, of_limit, of_shape, of_record, Spell, records_in, IsClean}
use Rattle.dimacs_records.proofs.{FirstLemmas.{none_is}, PlaceLemmas.{test_at}, SpellLaws.{spells_one}}
use Rattle.dimacs_records.proofs.{FirstLaws.{first_after, first_before, first_listed}, ShapeLaws.{spelled_shape}}
use Rattle.dimacs_records.proofs.{SplitLemmas.{same, sooner, later, two_places}, FaultLaws.{spell_same}}

-- the condition holds at no field and for no reason
abbrev pub NoneHolds : (ℕ → Reason → Bool) → Type 0
NoneHolds test = (f : ℕ) (reason : Reason) → ¬ IsTrue (test f reason)

abbrev pub Holds : (ℕ → Reason → Bool) → FaultPlace → Type 0
Holds test p = IsTrue (test_at test p)

pub records_in-append : (by_line more : List (Option Record)) → records_in (by_line ++ more) ≡ records_in by_line ++ records_in more
records_in-append [] more = refl
records_in-append (None ∷ by_line) more = records_in-append by_line more
records_in-append (Some r ∷ by_line) more = ap (λ t. r ∷ t) (records_in-append by_line more)

spell_append : (kind : TextKind) (lines after : List (List ℕ)) (by_line more : List (Option Record)) → Spell kind lines by_line → Spell kind after more → Spell kind (lines ++ after) (by_line ++ more)
spell_append kind [] after [] more h rest = rest
spell_append kind (line ∷ lines) after (None ∷ by_line) more h rest = (h.0, spell_append kind lines after by_line more h.1 rest)
spell_append kind (line ∷ lines) after (Some r ∷ by_line) more h rest = (h.0, h.1, spell_append kind lines after by_line more h.2 rest)
spell_append kind lines after by_line more h rest = absurd h

pub clean_nothing : (kind : TextKind) → IsClean kind [] []
clean_nothing kind = record { spell = tt; none = λ before after line earlier p e. absurd (omega (arith, ap length e, length-append before (line ∷ after))) }

-- clean lines and one more without a condition
clean_push : (kind : TextKind) (before : List (List ℕ)) (by_line : List (Option Record)) (line : List ℕ) (x : Option Record)
    → IsClean kind before by_line → Spell kind (line ∷ []) (x ∷ [])
    → ((p : FaultPlace) → ¬ Condition kind (records_in by_line) (length before + 1) line p) → IsClean kind (before ++ line ∷ []) (by_line ++ x ∷ [])
clean_push kind before by_line line x clean spells none_here = record { spell = spell_append kind before (line ∷ []) by_line (x ∷ []) clean.spell spells; none = none_at }
  where
    none_at : (fore after : List (List ℕ)) (other : List ℕ) (earlier : List (Option Record)) (p : FaultPlace) → before ++ line ∷ [] ≡ fore ++ other ∷ after → Spell kind fore earlier
        → ¬ Condition kind (records_in earlier) (length fore + 1) other p
    none_at fore after other earlier p e spell h = elim (two_places before fore [] after line other e) [
      | same fore_is line_is ↦
          let said_is = spell_same kind fore by_line earlier (rw fore_is at clean.spell) spell in
          none_here p (rw (said_is, fore_is, line_is) h)
      | sooner rest longer ↦
          omega (arith, ap length e, ap length longer, length-append before (line ∷ []), length-append fore (other ∷ after), length-append before (line ∷ rest))
      | later rest longer ↦ clean.none fore rest other earlier p longer spell h
    ]

pub clean_skip : (kind : TextKind) (before : List (List ℕ)) (by_line : List (Option Record)) (line : List ℕ)
    → IsClean kind before by_line → is_skip (texts_in line) ≡ true → NoneHolds (limit_condition (length before + 1) line) → IsClean kind (before ++ line ∷ []) (by_line ++ None ∷ [])
clean_skip kind before by_line line clean skip within = clean_push kind before by_line line None clean (skip, tt) (λ p c. elim c [
  | of_limit h ↦ within p.field p.reason h
  | of_shape solid h ↦ true≢false (sym skip ∙ solid)
  | of_record r solid spells h ↦ true≢false (sym skip ∙ solid)
])

pub clean_record : (kind : TextKind) (before : List (List ℕ)) (by_line : List (Option Record)) (line : List ℕ) (r : Record) → IsClean kind before by_line
    → is_skip (texts_in line) ≡ false → SpellsRecord kind (texts_in line) r → NoneHolds (limit_condition (length before + 1) line) → IsAllowed (records_in by_line) r
    → IsClean kind (before ++ line ∷ []) (by_line ++ Some r ∷ [])
clean_record kind before by_line line r clean solid spells within fits = clean_push kind before by_line line (Some r) clean (solid, spells, tt) (λ p c. elim c [
  | of_limit h ↦ within p.field p.reason h
  | of_shape again h ↦ spelled_shape kind (texts_in line) r spells p.field p.reason h
  | of_record s again other h ↦ fits p (rw (spells_one kind (texts_in line) s r other spells) at h)
])

-- field 0 is the whole line, not one of its fields
fields_condition-whole : (n : ℕ) (types : List FieldType) (texts : List (List ℕ)) (reason : Reason) → 0 < n → fields_condition n types texts 0 reason ≡ false
fields_condition-whole n (type ∷ types) (text ∷ texts) reason positive = rw (ne_eqb 0 n (omega arith)) (fields_condition-whole (suc n) types texts reason (omega arith))
fields_condition-whole n (type ∷ types) [] reason positive = refl
fields_condition-whole n [] texts reason positive = refl

letter_condition-limit : (found : Option (List FieldType)) (behind : List (List ℕ)) → (letter_condition found behind 0 LineLimit ≡ false) × (letter_condition found behind 0 LineTooLong ≡ false)
letter_condition-limit None behind = (refl, refl)
letter_condition-limit (Some types) behind = (fields_condition-whole 2 types behind LineLimit (omega arith), fields_condition-whole 2 types behind LineTooLong (omega arith))

-- conditions of the shape never hold at the places of limits
no_shape : (kind : TextKind) (texts : List (List ℕ)) → All (λ p. ¬ Holds (shape_condition kind texts) p) limit_places
no_shape kind [] = none_is (test_at (shape_condition kind [])) limit_places refl
no_shape kind (letter ∷ behind) =
    let none = letter_condition-limit (types_in (forms kind) letter (length behind)) behind in
    none_is (test_at (shape_condition kind (letter ∷ behind))) limit_places (rw (none.0, none.1) refl)

-- conditions of a record never hold at the places of limits and shape
no_refusal : (earlier : List Record) (r : Record) → All (λ p. ¬ Holds (condition earlier r) p) (limit_places ++ shape_places)
no_refusal earlier r = none_is (test_at (condition earlier r)) (limit_places ++ shape_places) refl

pub first_limit : (kind : TextKind) (earlier : List Record) (number : ℕ) (line : List ℕ) (f : ℕ) (reason : Reason)
    → FirstOf (Holds (limit_condition number line)) limit_places (at f reason) → FirstOf (Condition kind earlier number line) places (at f reason)
first_limit kind earlier number line f reason =
    first_before (Holds (limit_condition number line)) (Condition kind earlier number line) limit_places (shape_places ++ record_places) (at f reason)
    (λ p inside c. elim c [
      | of_limit h ↦ h
      | of_shape solid h ↦ absurd (All-contains (λ q. ¬ Holds (shape_condition kind (texts_in line)) q) limit_places p (no_shape kind (texts_in line)) inside h)
      | of_record r solid spells h ↦
          let within = Contains-append_left limit_places shape_places p inside in
          absurd (All-contains (λ q. ¬ Holds (condition earlier r) q) (limit_places ++ shape_places) p (no_refusal earlier r) within h.1)
    ]) of_limit

pub first_shape : (kind : TextKind) (earlier : List Record) (number : ℕ) (line : List ℕ) (f : ℕ) (reason : Reason)
    → NoneHolds (limit_condition number line) → is_skip (texts_in line) ≡ false → FirstOf (Holds (shape_condition kind (texts_in line))) shape_places (at f reason)
    → FirstOf (Condition kind earlier number line) places (at f reason)
first_shape kind earlier number line f reason within solid first =
    let Shape = Holds (shape_condition kind (texts_in line)) in
    first_before Shape (Condition kind earlier number line) (limit_places ++ shape_places) record_places (at f reason)
    (λ p inside c. elim c [
      | of_limit h ↦ absurd (within p.field p.reason h)
      | of_shape again h ↦ h
      | of_record r again spells h ↦ absurd (spelled_shape kind (texts_in line) r spells f reason first.holds)
    ]) (of_shape solid) (first_after Shape limit_places shape_places (at f reason) (no_shape kind (texts_in line)) first)

pub first_record : (kind : TextKind) (earlier : List Record) (number : ℕ) (line : List ℕ) (r : Record) (f : ℕ) (reason : Reason)
    → NoneHolds (limit_condition number line) → is_skip (texts_in line) ≡ false → SpellsRecord kind (texts_in line) r → FirstOf (Holds (condition earlier r)) record_places (at f reason)
    → FirstOf (Condition kind earlier number line) places (at f reason)
first_record kind earlier number line r f reason within solid spells first =
    let Refused = Holds (condition earlier r) in
    first_before Refused (Condition kind earlier number line) places [] (at f reason)
    (λ p inside c. elim c [
      | of_limit h ↦ absurd (within p.field p.reason h)
      | of_shape again h ↦ absurd (spelled_shape kind (texts_in line) r spells p.field p.reason h)
      | of_record s again other h ↦ (rw (spells_one kind (texts_in line) s r other spells) at h).1
    ]) (λ h. of_record r solid spells (first_listed Refused record_places (at f reason) first, h)) (first_after Refused (limit_places ++ shape_places) record_places (at f reason) (no_refusal earlier r) first)
