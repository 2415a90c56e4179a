-- A text has no fault exactly if its lines are spelled and no condition holds for their records.
use Rattle.std.proofs.Common.{◌≡◌, ℕ, suc, ◌<◌, ◌≤◌, ◌+◌, ◌∷◌, ◌++◌, [], List, Option, Some, None, Result, Ok, Err, length, get_or, take, drop, refl, ap, sym, ◌∙◌, arith, inl, inr, length-take, length-append}
use Rattle.std.proofs.Math.Seq.{split_at, get_or-append_seam}
use Rattle.std.proofs.lemmas.Bool.{true≢false, ltb-false, false_from_ne_true, cases_lt}
use Rattle.dimacs_lines.specs.Limits.{longest_line, most_lines}
use Rattle.dimacs_records.specs.{declared.kinds.TextKind.{TextKind}, declared.records.Record.{Record}}
use Rattle.dimacs_records.specs.{declared.reasons.Reason.TheVariants.{LineTooLong, LineLimit}, Spelling.{texts_in}}
use Rattle.dimacs_records.specs.{declared.faults.ReadError.{ReadError}, Conditions.{limit_condition}}
use Rattle.dimacs_records.specs.{Order.{FaultPlace, at}, Texts.{AreSpelled, SpellsValue, Reads, AreFaultless}}
use Rattle.dimacs_records.specs.Faults.{Condition, of_limit, of_shape, of_record, Spell, records_in, IsClean, IsFaultless, Fault}
use Rattle.dimacs_records.specs.Readings.{LineRecord, records_of, numbered, IsAllowed, ReadsLines}
use Rattle.dimacs_records.proofs.{SpellLaws.{spells_one}, ShapeLaws.{spelled_shape}}
use Rattle.dimacs_records.proofs.FaultLaws.{spell_same, one_fault, no_fault}
use Rattle.dimacs_records.proofs.{CleanLines.{NoneHolds, records_in-append}, DriverLemmas.{within, records_of-numbered}}
use Rattle.dimacs_records.specs.declared.faults.ReadError.TheVariants as read_errors

-- what the lines before a line spell, what it spells, and what those after it spell
record SpelledAt (kind : TextKind) (before : List (List ℕ)) (line : List ℕ) (by_line : List (Option Record)) : Type 0 where
  earlier : List (Option Record)
  here : Option Record
  more : List (Option Record)
  said_is : by_line ≡ earlier ++ here ∷ more
  spell : Spell kind before earlier
  spell_here : Spell kind (line ∷ []) (here ∷ [])

spelled_at : (kind : TextKind) (before after : List (List ℕ)) (line : List ℕ) (by_line : List (Option Record)) → Spell kind (before ++ line ∷ after) by_line → SpelledAt kind before line by_line
spelled_at kind [] after line (None ∷ more) h = record { earlier = []; here = None; more = more; said_is = refl; spell = tt; spell_here = (h.0, tt) }
spelled_at kind [] after line (Some r ∷ more) h = record { earlier = []; here = Some r; more = more; said_is = refl; spell = tt; spell_here = (h.0, h.1, tt) }
spelled_at kind (first ∷ before) after line (None ∷ by_line) h =
    let rest = spelled_at kind before after line by_line h.1 in
    record { earlier = None ∷ rest.earlier; here = rest.here; more = rest.more; said_is = ap (λ t. None ∷ t) rest.said_is; spell = (h.0, rest.spell); spell_here = rest.spell_here }
spelled_at kind (first ∷ before) after line (Some r ∷ by_line) h =
    let rest = spelled_at kind before after line by_line h.2 in
    record { earlier = Some r ∷ rest.earlier; here = rest.here; more = rest.more; said_is = ap (λ t. Some r ∷ t) rest.said_is; spell = (h.0, h.1, rest.spell); spell_here = rest.spell_here }
spelled_at kind before after line by_line h = absurd h

-- no line of a clean text exceeds a limit
no_limit : (kind : TextKind) (all before after : List (List ℕ)) (line : List ℕ) (by_line : List (Option Record)) → IsClean kind all by_line → all ≡ before ++ line ∷ after
    → NoneHolds (limit_condition (length before + 1) line)
no_limit kind all before after line by_line clean e f reason h =
    let s = spelled_at kind before after line by_line (rw e at clean.spell) in
    clean.none before after line s.earlier (at f reason) e s.spell (of_limit h)

-- if neither limit's condition holds, both limits do
limits_of : (number : ℕ) (line : List ℕ) → NoneHolds (limit_condition number line) → (number ≤ most_lines) × (length line ≤ longest_line)
limits_of number line none = (ltb-false most_lines number (false_from_ne_true _ (none 0 LineLimit)), ltb-false longest_line (length line) (false_from_ne_true _ (none 0 LineTooLong)))

-- each line of a clean text is within the limits
clean_limits : (kind : TextKind) (all : List (List ℕ)) (by_line : List (Option Record)) (k : ℕ) (d : List ℕ) → IsClean kind all by_line → k < length all
    → (k < most_lines) × (length (get_or all k d) ≤ longest_line)
clean_limits kind all by_line k d clean below =
    let limits = limits_of _ _ (no_limit kind all (take k all) (drop (suc k) all) (get_or all k d) by_line clean (split_at all k d below)) in
    (omega (arith, limits.0, length-take k all), limits.1)

-- a text without a fault is spelled
pub spelled_of_faultless : (kind : TextKind) (all : List (List ℕ)) (by_line : List (Option Record)) → IsFaultless kind all by_line → AreSpelled kind all by_line
spelled_of_faultless kind all by_line h = record {
  few = elim (cases_lt most_lines (length all)) [ inl more ↦ absurd (omega (arith, (clean_limits kind all by_line most_lines [] h.clean more).0)) | inr few ↦ few ];
  short = λ k d below. (clean_limits kind all by_line k d h.clean below).1;
  spell = h.clean.spell;
}

-- a line within the limits whose record is allowed has no condition
no_condition : (kind : TextKind) (earlier : List Record) (number : ℕ) (line : List ℕ) (x : Option Record) (p : FaultPlace) → Spell kind (line ∷ []) (x ∷ [])
    → NoneHolds (limit_condition number line) → ((r : Record) → x ≡ Some r → IsAllowed earlier r) → ¬ Condition kind earlier number line p
no_condition kind earlier number line None p spells within_limits allowed c = elim c [
  | of_limit h ↦ within_limits p.field p.reason h
  | of_shape solid h ↦ true≢false (sym spells.0 ∙ solid)
  | of_record r solid other h ↦ true≢false (sym spells.0 ∙ solid)
]
no_condition kind earlier number line (Some r) p spells within_limits allowed c = elim c [
  | of_limit h ↦ within_limits p.field p.reason h
  | of_shape solid h ↦ spelled_shape kind (texts_in line) r spells.1 p.field p.reason h
  | of_record s solid other h ↦ allowed s (ap Some (spells_one kind (texts_in line) r s spells.1 other)) p h
]

-- the record of a line, with those before it and after it
records_at : (kind : TextKind) (before : List (List ℕ)) (line : List ℕ) (by_line earlier : List (Option Record)) (s : SpelledAt kind before line by_line) (r : Record)
    → s.earlier ≡ earlier → s.here ≡ Some r → records_in by_line ≡ records_in earlier ++ r ∷ records_in s.more
records_at kind before line by_line earlier s r same here = ap records_in s.said_is ∙ rw (here, same) (records_in-append earlier (Some r ∷ s.more))

-- spelled lines whose records have no condition have no fault
pub faultless_of_spelled : (kind : TextKind) (all : List (List ℕ)) (by_line : List (Option Record)) → AreSpelled kind all by_line → AreFaultless kind (records_in by_line) → IsFaultless kind all by_line
faultless_of_spelled kind all by_line spelled faultless = record { clean = record { spell = spelled.spell; none = none_at }; none_at_end = faultless.complete }
  where
    none_at : (before after : List (List ℕ)) (line : List ℕ) (earlier : List (Option Record)) (p : FaultPlace) → all ≡ before ++ line ∷ after → Spell kind before earlier
        → ¬ Condition kind (records_in earlier) (length before + 1) line p
    none_at before after line earlier p e spell =
        let s = spelled_at kind before after line by_line (rw e at spelled.spell) in
        let same : s.earlier ≡ earlier = spell_same kind before s.earlier earlier s.spell spell in
        let below : length before < length all = omega (arith, ap length e, length-append before (line ∷ after)) in
        let short = rw (e, get_or-append_seam before line after line) at (spelled.short (length before) line below) in
        let within_limits = within (length before + 1) line (omega (arith, below, spelled.few)) short in
        let allowed : (r : Record) → s.here ≡ Some r → IsAllowed (records_in earlier) r = λ r here. faultless.allowed _ _ r (records_at kind before line by_line earlier s r same here) in
        no_condition kind (records_in earlier) (length before + 1) line s.here p s.spell_here within_limits allowed

-- the result of a reader is exact if records that give a value have no fault and give no other value
pub reads_exactly : {V : Type 0} (kind : TextKind) (gives : List LineRecord → V → Type 0) (all : List (List ℕ)) (result : Result V ReadError)
    → ((rs : List LineRecord) (v : V) → gives rs v → AreFaultless kind (records_of rs))
    → ((rs : List LineRecord) (v w : V) → gives rs v → gives rs w → v ≡ w)
    → ReadsLines kind gives all result → Reads (SpellsValue kind gives all) (Fault kind all) result
reads_exactly kind gives all (Ok v) faultless same h = (
  record { by_line = h.by_line; spelled = spelled_of_faultless kind all h.by_line h.faultless; given = h.given },
  λ other s.
      let said_is = spell_same kind all s.by_line h.by_line s.spelled.spell h.faultless.clean.spell in
      same (numbered 1 h.by_line) other v (rw said_is at s.given) h.given,
  λ l f r. no_fault kind all h.by_line l f r h.faultless,
)
reads_exactly kind gives all (Err (read_errors.Refused place reason)) faultless same h = (
  h,
  λ l f r other. one_fault kind all l f place.line place.field r reason other h,
  λ v s.
      let none = faultless_of_spelled kind all s.by_line s.spelled (rw (← records_of-numbered 1 s.by_line) (faultless (numbered 1 s.by_line) v s.given)) in
      no_fault kind all s.by_line place.line place.field reason none h,
)
reads_exactly kind gives all (Err read_errors.Device) faultless same h = tt
reads_exactly kind gives all (Err read_errors.Memory) faultless same h = tt

-- a text spells one value if its records give one
pub spells_one_value : {V : Type 0} (kind : TextKind) (gives : List LineRecord → V → Type 0) (all : List (List ℕ)) (v w : V) → ((rs : List LineRecord) (v w : V) → gives rs v → gives rs w → v ≡ w)
    → SpellsValue kind gives all v → SpellsValue kind gives all w → v ≡ w
spells_one_value kind gives all v w same s t =
    let said_is = spell_same kind all s.by_line t.by_line s.spelled.spell t.spelled.spell in
    same (numbered 1 t.by_line) v w (rw said_is at s.given) t.given
