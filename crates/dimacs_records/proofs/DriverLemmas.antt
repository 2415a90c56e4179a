-- Reading line by line.
use Rattle.std.proofs.Common.{◌≡◌, ◌≢◌, ℕ, suc, ◌<◌, ◌≤◌, ◌+◌, ◌++◌, ◌∷◌, [], List, true, false, Option, Some, None, Result, Ok, Err, length, refl, ap, sym, ◌∙◌, subst, arith, append_assoc, inl, inr}
use Rattle.std.proofs.{lemmas.Bool.{true≢false, and_right, le-ltb, lt-ltb}, lemmas.List.Elements.{All-nil, All-cons}}
use Rattle.std.proofs.lemmas.List.{append-nil, length-append}
use Rattle.std.specs.Prelude.{nat_lt, ◌==◌, IfErr, OnOk}
use Rattle.dimacs_lines.specs.{Lines.{lines}, Reader.{State, GivesLine, AtEnd, Stops, text_left}}
use Rattle.dimacs_lines.specs.{declared.reader.LinesError.{LinesError}, Limits.{longest_line, most_lines}}
use Rattle.dimacs_records.specs.{declared.kinds.TextKind.{TextKind}, declared.records.Record.{Record}}
use Rattle.dimacs_records.specs.{declared.faults.TakeError.{TakeError}, declared.faults.ReadError.{ReadError}}
use Rattle.dimacs_records.specs.Readings.{LineRecord, on_line, numbered, records_of, AreBefore, IsAllowed, IsFirstCondition, RefusesRecord, GiveValue, ReadsLines, RefusesEnd, IsComplete, IsReadWhole, RefusesLine}
use Rattle.dimacs_records.specs.{declared.reasons.Reason.TheVariants.{LineLimit, LineTooLong}, LineReader.{ReadsLine}}
use Rattle.dimacs_records.specs.{declared.faults.LineFault.{LineFault}, Spelling.{SpellsRecord, texts_in, is_skip}}
use Rattle.dimacs_records.specs.{Conditions.{limit_condition}, Order.{at, limit_places, places, FirstOf}}
use Rattle.dimacs_records.specs.Faults.{Condition, Spell, IsClean, records_in}
use Rattle.dimacs_records.specs.inside.Driver.{IsReadSoFar, ReadsNext, TakesLine, ComesAfter, read_error, lines_error}
use Rattle.dimacs_records.proofs.{FirstLemmas.{is_first}, PlaceLemmas.{test_at}}
use Rattle.dimacs_records.proofs.CleanLines.{NoneHolds, clean_nothing, clean_skip, clean_record, first_limit, first_shape, first_record}
use Rattle.dimacs_lines.specs.declared.reader.LinesError.TheVariants as line_errors
use Rattle.dimacs_records.specs.declared.faults.TakeError.TheVariants as take_errors
use Rattle.dimacs_records.specs.declared.faults.ReadError.TheVariants as read_errors

pub records_of-numbered : (n : ℕ) (by_line : List (Option Record)) → records_of (numbered n by_line) ≡ records_in by_line
records_of-numbered n [] = refl
records_of-numbered n (None ∷ more) = records_of-numbered (suc n) more
records_of-numbered n (Some r ∷ more) = ap (λ rs. r ∷ rs) (records_of-numbered (suc n) more)

line_number : (number : ℕ) → number ≤ most_lines → nat_lt most_lines number ≡ false
line_number number few = le-ltb most_lines number few

-- a line within the limits has no condition of a limit
pub within : (number : ℕ) (line : List ℕ) → number ≤ most_lines → length line ≤ longest_line → NoneHolds (limit_condition number line)
within number line few short f LineLimit h = true≢false (sym h ∙ and_right (f == 0) (nat_lt most_lines number) (line_number number few))
within number line few short f LineTooLong h = true≢false (sym h ∙ and_right (f == 0) (nat_lt longest_line (length line)) (le-ltb longest_line (length line) short))
within number line few short f reason h = true≢false (sym h)

-- the line after the last allowed one
too_many : (kind : TextKind) (earlier : List Record) (number : ℕ) (line : List ℕ) → most_lines < number → FirstOf (Condition kind earlier number line) places (at 0 LineLimit)
too_many kind earlier number line above =
    first_limit kind earlier number line 0 LineLimit (is_first (test_at (limit_condition number line)) limit_places (at 0 LineLimit) (rw (lt-ltb most_lines number above) refl))

too_long : (kind : TextKind) (earlier : List Record) (number : ℕ) (line : List ℕ) → number ≤ most_lines → longest_line < length line → FirstOf (Condition kind earlier number line) places (at 0 LineTooLong)
too_long kind earlier number line few long =
    first_limit kind earlier number line 0 LineTooLong (is_first (test_at (limit_condition number line)) limit_places (at 0 LineTooLong) (rw (line_number number few, lt-ltb longest_line (length line) long) refl))

numbered-append : (n : ℕ) (by_line more : List (Option Record)) → numbered n (by_line ++ more) ≡ numbered n by_line ++ numbered (n + length by_line) more
numbered-append n [] more = ap (λ k. numbered k more) (omega arith)
numbered-append n (None ∷ by_line) more = numbered-append (suc n) by_line more ∙ ap (λ k. numbered (suc n) by_line ++ numbered k more) (omega arith)
numbered-append n (Some r ∷ by_line) more = ap (λ rs. on_line n r ∷ rs) (numbered-append (suc n) by_line more ∙ ap (λ k. numbered (suc n) by_line ++ numbered k more) (omega arith))

said_each : (kind : TextKind) (before : List (List ℕ)) (by_line : List (Option Record)) → Spell kind before by_line → length by_line ≡ length before
said_each kind [] [] h = refl
said_each kind (line ∷ lines) (None ∷ by_line) h = ap suc (said_each kind lines by_line h.1)
said_each kind (line ∷ lines) (Some r ∷ by_line) h = ap suc (said_each kind lines by_line h.2)
said_each kind lines by_line h = absurd h

-- the records of n lines are before the next line
all_before : (n : ℕ) (by_line : List (Option Record)) (line : ℕ) → n + length by_line ≤ line → AreBefore line (numbered n by_line)
all_before n [] line h = All-nil _
all_before n (None ∷ by_line) line h = all_before (suc n) by_line line (omega (arith, h))
all_before n (Some r ∷ by_line) line h = All-cons (λ (r : LineRecord). r.line < line) (on_line n r) (numbered (suc n) by_line) (omega (arith, h)) (all_before (suc n) by_line line (omega (arith, h)))

-- a skipped line adds no record
pub take_skip : (kind : TextKind) (before : List (List ℕ)) (by_line : List (Option Record)) (number : ℕ) (line : List ℕ) (stands_for : List LineRecord → Type 0) (done : Unit)
    → ComesAfter kind before by_line number line → stands_for (numbered 1 by_line) → is_skip (texts_in line) ≡ true → TakesLine kind before by_line line stands_for (Ok done)
take_skip kind before by_line number line stands_for done h stands skip = (
  by_line ++ None ∷ [],
  clean_skip kind before by_line line h.clean skip (within (length before + 1) line (omega (arith, h.next, h.few)) h.short),
  subst stands_for (sym (numbered-append 1 by_line (None ∷ []) ∙ append-nil (numbered 1 by_line))) stands,
)

-- a record is taken or refused
pub take_record : (kind : TextKind) (before : List (List ℕ)) (by_line : List (Option Record)) (number : ℕ) (line : List ℕ) (r : Record) (old new : List LineRecord → Type 0) (result : Result Unit TakeError)
    → ComesAfter kind before by_line number line → old (numbered 1 by_line) → is_skip (texts_in line) ≡ false → SpellsRecord kind (texts_in line) r
    → OnOk result ((rs : List LineRecord) → old rs → IsAllowed (records_of rs) r)
    → OnOk result ((rs : List LineRecord) → old rs → AreBefore number rs → new (rs ++ on_line number r ∷ []))
    → IfErr result (λ error. (rs : List LineRecord) → old rs → RefusesRecord (records_of rs) r error)
    → TakesLine kind before by_line line new result
take_record kind before by_line number line r old new (Ok done) h stands solid spells allowed taken refused =
    let few = within (length before + 1) line (omega (arith, h.next, h.few)) h.short in
    let fits : IsAllowed (records_in by_line) r = rw (← records_of-numbered 1 by_line) (allowed (numbered 1 by_line) stands) in
    let each = said_each kind before by_line h.clean.spell in
    let here : number ≡ 1 + length by_line = omega (arith, h.next, each) in
    let stands_now = taken (numbered 1 by_line) stands (all_before 1 by_line number (omega (arith, here))) in (
      by_line ++ Some r ∷ [],
      clean_record kind before by_line line r h.clean solid spells few fits,
      subst new (sym (numbered-append 1 by_line (Some r ∷ []) ∙ ap (λ k. numbered 1 by_line ++ on_line k r ∷ []) (sym here))) stands_now,
    )
take_record kind before by_line number line r old new (Err (take_errors.Refused fault)) h stands solid spells allowed taken refused =
    let few = within (length before + 1) line (omega (arith, h.next, h.few)) h.short in
    let first : IsFirstCondition (records_in by_line) r fault = rw (← records_of-numbered 1 by_line) (refused (numbered 1 by_line) stands) in
    first_record kind (records_in by_line) (length before + 1) line r fault.field fault.reason few solid spells first
take_record kind before by_line number line r old new (Err take_errors.Memory) h stands solid spells allowed taken refused = tt

-- a line of a wrong shape
pub take_fault : (kind : TextKind) (before : List (List ℕ)) (by_line : List (Option Record)) (number : ℕ) (line : List ℕ) (fault : LineFault) (stands_for : List LineRecord → Type 0)
    → ComesAfter kind before by_line number line → ReadsLine kind (texts_in line) (Err fault) → TakesLine kind before by_line line stands_for (Err (take_errors.Refused fault))
take_fault kind before by_line number line fault stands_for h reads =
    first_shape kind (records_in by_line) (length before + 1) line fault.field fault.reason (within (length before + 1) line (omega (arith, h.next, h.few)) h.short) reads.0 reads.1

-- at the end no line is left
pub read_end : (kind : TextKind) (all : List (List ℕ)) (count : ℕ) (new : State) (left : Option (List ℕ)) (stands_for : List LineRecord → Type 0) → AtEnd new left → IsReadSoFar kind all count left stands_for → IsReadWhole kind all count stands_for
read_end kind all count new left stands_for end h =
    let all_is : all ≡ h.before = h.all_is ∙ (ap (λ ls. h.before ++ ls) (end.none h.rest h.left_is) ∙ append-nil h.before) in
    record { by_line = h.by_line; counted = h.counted ∙ ap length (sym all_is); clean = subst (λ ls. IsClean kind ls h.by_line) (sym all_is) h.clean; stands = h.stands }

abbrev pub at_number : ℕ → Result Unit TakeError → Result (Option ℕ) ReadError
at_number number (Ok done) = Ok (Some number)
at_number number (Err error) = Err (read_error number error)

-- the given line, which comes after those that were read, is taken, or the text has its fault there
pub read_one : (kind : TextKind) (all : List (List ℕ)) (old new : State) (left later : Option (List ℕ)) (number : ℕ) (line : List ℕ) (before_stands stands_for : List LineRecord → Type 0) (result : Result Unit TakeError)
    → line ≡ new.line → GivesLine old new left later number → IsReadSoFar kind all old.given left before_stands
    → ((before : List (List ℕ)) (by_line : List (Option Record)) → ComesAfter kind before by_line number line → before_stands (numbered 1 by_line) → TakesLine kind before by_line line stands_for result)
    → ReadsNext kind all old.given later stands_for (at_number number result)
read_one kind all old new left later number line before_stands stands_for result is given h takes =
    let there : ComesAfter kind h.before h.by_line number line = rw is (record { clean = h.clean; next = given.next ∙ ap (λ n. n + 1) h.counted; few = given.few; short = given.short }) in
    taken result (subst (λ l. TakesLine kind h.before h.by_line l stands_for result) is (takes h.before h.by_line there h.stands))
  where
    taken : (r : Result Unit TakeError) → TakesLine kind h.before h.by_line new.line stands_for r → ReadsNext kind all old.given later stands_for (at_number number r)
    taken (Ok done) takes =
        let more = given.first h.rest h.left_is in
        record {
          before = h.before ++ new.line ∷ [];
          by_line = takes.0;
          rest = more.0;
          left_is = more.1;
          all_is = h.all_is ∙ (ap (λ ls. h.before ++ ls) more.2 ∙ sym (append_assoc h.before (new.line ∷ []) (lines more.0)));
          counted = omega (arith, given.next, h.counted, length-append h.before (new.line ∷ []));
          clean = takes.1;
          stands = takes.2;
        }
    taken (Err (take_errors.Refused fault)) takes =
        let more = given.first h.rest h.left_is in
        let next : number ≡ length h.before + 1 = given.next ∙ ap (λ n. n + 1) h.counted in
        record {
          before = h.before;
          line = new.line;
          after = lines more.0;
          by_line = h.by_line;
          lines_are = h.all_is ∙ ap (λ ls. h.before ++ ls) more.2;
          number = next;
          clean = h.clean;
          first = rw next takes;
        }
    taken (Err take_errors.Memory) takes = tt

abbrev some_line : List (List ℕ) → Type 0
some_line ls = (line : List ℕ) × (rest : List (List ℕ)) × (ls ≡ line ∷ rest)

line_of : (ls : List (List ℕ)) → ls ≢ [] → some_line ls
line_of [] h = absurd (h refl)
line_of (line ∷ rest) h = (line, rest, refl)

-- if a limit is exceeded, the text has its fault there
pub stopped : (kind : TextKind) (all : List (List ℕ)) (old new : State) (left later : Option (List ℕ)) (before_stands stands_for : List LineRecord → Type 0) (error : LinesError)
    → Stops old new left error → IsReadSoFar kind all old.given left before_stands → ReadsNext kind all old.given later stands_for (Err (lines_error error))
stopped kind all old new left later before_stands stands_for (line_errors.TooMany number) stops h =
    let next : number ≡ length h.before + 1 = stops.comes.0 ∙ ap (λ n. n + 1) h.counted in
    let more = line_of (lines h.rest) (stops.comes.2 h.rest h.left_is) in
    record {
      before = h.before;
      line = more.0;
      after = more.1;
      by_line = h.by_line;
      lines_are = h.all_is ∙ ap (λ ls. h.before ++ ls) more.2;
      number = next;
      clean = h.clean;
      first = too_many kind (records_in h.by_line) number more.0 stops.comes.1;
    }
stopped kind all old new left later before_stands stands_for (line_errors.TooLong number) stops h =
    let next : number ≡ length h.before + 1 = stops.comes.0 ∙ ap (λ n. n + 1) h.counted in
    let more = stops.comes.2 h.rest h.left_is in
    record {
      before = h.before;
      line = more.0;
      after = more.1;
      by_line = h.by_line;
      lines_are = h.all_is ∙ ap (λ ls. h.before ++ ls) more.2;
      number = next;
      clean = h.clean;
      first = too_long kind (records_in h.by_line) number more.0 stops.comes.1 more.3;
    }
stopped kind all old new left later before_stands stands_for line_errors.Device stops h = tt
stopped kind all old new left later before_stands stands_for line_errors.Memory stops h = tt

-- before the first line
pub read_nothing : (kind : TextKind) (lines_new : State) (text : List ℕ) (coming : Option (List ℕ)) (stands_for : List LineRecord → Type 0) → lines_new.held ≡ [] → coming ≡ Some text → stands_for [] → IsReadSoFar kind (lines text) 0 (text_left lines_new coming) stands_for
read_nothing kind lines_new text coming stands_for empty h stands = record {
  before = [];
  by_line = [];
  rest = text;
  left_is = rw (empty, h) refl;
  all_is = refl;
  counted = refl;
  clean = clean_nothing kind;
  stands = stands;
}

-- all lines are read, and their records give a value
pub read_value : {V : Type 0} (kind : TextKind) (gives : List LineRecord → V → Type 0) (all : List (List ℕ)) (count : ℕ) (stands_for : List LineRecord → Type 0) (v : V) → IsReadWhole kind all count stands_for
    → ((rs : List LineRecord) → stands_for rs → gives rs v) → ((rs : List LineRecord) → stands_for rs → IsComplete kind (records_of rs)) → GiveValue kind gives all v
read_value kind gives all count stands_for v h given complete = record {
  by_line = h.by_line;
  faultless = record { clean = h.clean; none_at_end = rw (← records_of-numbered 1 h.by_line) (complete (numbered 1 h.by_line) h.stands) };
  given = given (numbered 1 h.by_line) h.stands;
}

-- one of the lines has the text's fault
pub read_fault : {V : Type 0} (kind : TextKind) (gives : List LineRecord → V → Type 0) (all : List (List ℕ)) (error : ReadError) → RefusesLine kind all error → ReadsLines kind gives all (Err error)
read_fault kind gives all (read_errors.Refused place reason) h = inl h
read_fault kind gives all read_errors.Device h = tt
read_fault kind gives all read_errors.Memory h = tt

-- the text has its fault at its end
pub read_end_fault : {V : Type 0} (kind : TextKind) (gives : List LineRecord → V → Type 0) (all : List (List ℕ)) (count : ℕ) (stands_for : List LineRecord → Type 0) (error : TakeError) → IsReadWhole kind all count stands_for
    → ((rs : List LineRecord) → stands_for rs → RefusesEnd kind (records_of rs) error) → ReadsLines kind gives all (Err (read_error (count + 1) error))
read_end_fault kind gives all count stands_for (take_errors.Refused fault) h refused =
    let end = refused (numbered 1 h.by_line) h.stands in
    inr (record {
      by_line = h.by_line;
      number = ap (λ n. n + 1) h.counted;
      field = end.0;
      clean = h.clean;
      first = rw (← records_of-numbered 1 h.by_line) end.1;
    })
read_end_fault kind gives all count stands_for take_errors.Memory h refused = tt
