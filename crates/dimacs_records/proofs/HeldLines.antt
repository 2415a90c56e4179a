-- Reading the lines in plain form that are in the buffer.
use Rattle.std.proofs.Common.{◌≡◌, ◌+◌, ◌<◌, ◌++◌, ◌∷◌, [], ℕ, List, Option, None, Some, Result, take, drop, refl, ap, sym, ◌∙◌, arith, append_assoc, length-append}
use Rattle.std.proofs.{lemmas.List.{take_at}, Math.Seq.{take-add}}
use Rattle.std.specs.Prelude.{IfErr, OnOk}
use Rattle.dimacs_lines.specs.{Devices.{before_piece}, Lines.{lines, AreWholeLines}, Reader.{State, GivesLine}}
use Rattle.dimacs_lines.specs.{declared.reader.Progress.TheVariants.{Open}, Limits.{most_lines}}
use Rattle.dimacs_records.specs.{declared.faults.TakeError.{TakeError}, declared.kinds.TextKind.{TextKind}}
use Rattle.dimacs_records.specs.{declared.records.Record.{Record}, inside.Driver.{IsReadSoFar, ReadsNext}}
use Rattle.dimacs_records.specs.inside.Plain.{SpellsFirst}
use Rattle.dimacs_records.specs.Readings.{LineRecord, on_line, records_of, AreBefore, IsAllowed, RefusesRecord}
use Rattle.dimacs_records.proofs.DriverLemmas.{at_number, read_one, take_record}

-- a line reader's state before and after one of the lines that it holds
abbrev state : List ℕ → ℕ → List ℕ → State
state held given line = record { held = held; given = given; line = line; progress = Open }

first_given : (bytes line : List ℕ) (size : ℕ) → bytes ≡ line ++ 10 ∷ drop size bytes → ((rest : List ℕ) → lines (line ++ 10 ∷ rest) ≡ line ∷ lines rest) → (coming : Option (List ℕ)) (text : List ℕ) → before_piece bytes coming ≡ Some text
    → (rest : List ℕ) × (before_piece (drop size bytes) coming ≡ Some rest) × (lines text ≡ line ∷ lines rest)
first_given bytes line size there first None text is = absurd (cc)
first_given bytes line size there first (Some later) text is =
    let rest = drop size bytes ++ later in
    let whole : text ≡ bytes ++ later = some_is is in
    let cut : bytes ++ later ≡ line ++ 10 ∷ rest = ap (λ ys. ys ++ later) there ∙ append_assoc line (10 ∷ drop size bytes) later in
    (rest, refl, ap lines (whole ∙ cut) ∙ first rest)
  where
    some_is : ◌≡◌ {A = Option (List ℕ)} (Some (bytes ++ later)) (Some text) → text ≡ bytes ++ later
    some_is e = cc

-- the bytes held begin with this line, as if it had been given
given_line : (kind : TextKind) (bytes : List ℕ) (r : Record) (size given : ℕ) (coming : Option (List ℕ)) → (h : SpellsFirst kind bytes r size) → given < most_lines
    → GivesLine (state bytes given []) (state (drop size bytes) (given + 1) h.line) (before_piece bytes coming) (before_piece (drop size bytes) coming) (given + 1)
given_line kind bytes r size given coming h few = record {
  next = refl;
  counted = refl;
  open_still = refl;
  few = omega (arith, few);
  short = h.short;
  first = first_given bytes h.line size h.there h.first coming;
}

-- one more line in plain form is taken, or the text has its fault there
pub plain_step : (kind : TextKind) (all : List (List ℕ)) (bytes : List ℕ) (given size : ℕ) (coming : Option (List ℕ)) (r : Record) (old new : List LineRecord → Type 0) (result : Result Unit TakeError)
    → SpellsFirst kind bytes r size → given < most_lines → IsReadSoFar kind all given (before_piece bytes coming) old
    → OnOk result ((rs : List LineRecord) → old rs → IsAllowed (records_of rs) r)
    → OnOk result ((rs : List LineRecord) → old rs → AreBefore (given + 1) rs → new (rs ++ on_line (given + 1) r ∷ []))
    → IfErr result (λ error. (rs : List LineRecord) → old rs → RefusesRecord (records_of rs) r error)
    → ReadsNext kind all given (before_piece (drop size bytes) coming) new (at_number (given + 1) result)
plain_step kind all bytes given size coming r old new result spells few so_far allowed taken refused =
    read_one kind all (state bytes given []) (state (drop size bytes) (given + 1) spells.line) (before_piece bytes coming) _ (given + 1) spells.line old new result refl (given_line kind bytes r size given coming spells few) so_far
    (λ before by_line there stands. take_record kind before by_line (given + 1) spells.line r old new result there stands spells.reads.0 spells.reads.1 allowed taken refused)

-- whole lines and the first line after them are one more whole line
pub one_more_whole : (kind : TextKind) (held : List ℕ) (bytes count size : ℕ) (r : Record) → AreWholeLines (take bytes held) count → SpellsFirst kind (drop bytes held) r size → AreWholeLines (take (bytes + size) held) (count + 1)
one_more_whole kind held bytes count size r before spells =
    let line = spells.line ++ 10 ∷ [] in
    let cut : drop bytes held ≡ line ++ drop size (drop bytes held) = spells.there ∙ sym (append_assoc spells.line (10 ∷ []) (drop size (drop bytes held))) in
    let front : take size (drop bytes held) ≡ line = ap (take size) cut ∙ take_at line (drop size (drop bytes held)) size (omega (arith, spells.size_is, length-append spells.line (10 ∷ []))) in
    let taken : take (bytes + size) held ≡ take bytes held ++ line = take-add bytes size held ∙ ap (λ ys. take bytes held ++ ys) front in
    record {
      whole = before.whole ++ spells.line ∷ [];
      counted = omega (arith, before.counted, length-append before.whole (spells.line ∷ []));
      come_first = λ rest.
          ap (λ ys. lines (ys ++ rest)) taken
          ∙ ap lines (append_assoc (take bytes held) line rest)
          ∙ before.come_first (line ++ rest)
          ∙ ap (λ ys. before.whole ++ lines ys) (append_assoc spells.line (10 ∷ []) rest)
          ∙ ap (λ ls. before.whole ++ ls) (spells.first rest)
          ∙ sym (append_assoc before.whole (spells.line ∷ []) (lines rest));
    }
