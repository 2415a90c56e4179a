-- The records of a solution.
use Rattle.std.proofs.Common.{◌≡◌, ℕ, suc, ◌≤◌, ◌∷◌, ◌++◌, [], List, Bool, true, false, Option, Some, None, Result, Ok, Err, length, map, ◌+◌, refl, ap, sym, ◌∙◌, arith, append_assoc}
use Rattle.std.proofs.{lemmas.Int.{ints}, lemmas.List.{append-nil, length-append, length-map, map-append}}
use Rattle.std.proofs.lemmas.List.Elements.{All-nil, All-cons, All-head, All-map, All-tail}
use Rattle.std.specs.{Prelude.{ℤ, pos, neg_ℤ, ◌^◌, codes, is_some, IfOk, IsErrAnd}, List.{All, list_any}}
use Rattle.std.specs.Result.{result_map_both}
use Rattle.dimacs_lines.specs.{Lines.{lines}, Limits.{most_lines}, Number.{IsWithin}}
use Rattle.dimacs_records.specs.{declared.records.Record.{Record}, declared.faults.ReadError.{ReadError}}
use Rattle.dimacs_records.specs.{Earlier.{counted_in, is_value, problem_in}, Faults.{Spell}}
use Rattle.dimacs_records.specs.{Spelling.{parts_of, texts_in}, Forms.{form, Wide, Id, Whole}}
use Rattle.dimacs_records.specs.{Canonical.{CanBeSpelled, FitAll, canonical_text}, Texts.{AreSpelled, AreFaultless}}
use Rattle.dimacs_records.specs.Readings.{LineRecord, AreSpelledBefore, IsOfKind, ReadsLines, IsAllowed, on_line, records_of, numbered}
use Rattle.dimacs_records.specs.Tests.{Passes, end_context_of, context_after}
use Rattle.dimacs_records.proofs.{CanonicalLaws.{canonical_spelled}, ConditionLemmas.{is_allowed, is_complete}}
use Rattle.dimacs_records.proofs.{FitLaws.{fits_of}, OrderLemmas.{allowed_by_records}, SplitLemmas.{image_at}}
use Rattle.dimacs_records.proofs.ReadLaws.{reads_exactly, spelled_of_faultless}
use Rattle.dimacs_claims.specs.{declared.place.Entry.{Entry}, declared.solution.Solution.{Solution}}
use Rattle.dimacs_claims.specs.{declared.solution.ValueLine.{ValueLine}, inside.SolutionReading.{value_context}}
use Rattle.dimacs_claims.specs.SolutionTexts.{SolutionValue, GivesSolution, SpellsSolution, IsLawful, IsLawfulEntry, canonical_solution, claimed, entry_line, entry_record, on_lines_from, renumbered, solution_records}
use Rattle.dimacs_claims.specs.SolutionReading.{AreTaken, StandsForSolution, GivesPlaced, IsPlaced, IsPlacedLawful, AnswersAlike, ReadsLike}
use Rattle.dimacs_records.specs.declared.kinds.TextKind.TheVariants as kinds
use Rattle.dimacs_records.specs.declared.records.Record.TheVariants as records
use Rattle.dimacs_records.specs.declared.faults.ReadError.TheVariants as read_errors

abbrev IsSolutionLine : LineRecord → Type 0
IsSolutionLine r = IsOfKind kinds.Solution r.spells

abbrev value_record : ℤ → Record
value_record value = records.SolutionValue value

-- the records of entries
records_of-entries : (es : List Entry) → records_of (map entry_line es) ≡ map entry_record es
records_of-entries [] = refl
records_of-entries (e ∷ es) = ap (λ rs. entry_record e ∷ rs) (records_of-entries es)

-- there is no problem line and no line that one counts; the flag is whether a value is among the records
abbrev Say : Bool → List Record → Type 0
Say valued rs = (problem_in rs ≡ None) × ((counted_in rs ≡ 0) × (list_any is_value rs ≡ valued))

entries_say : (es : List Entry) → Say false (records_of (map entry_line es))
entries_say [] = (refl, (refl, refl))
entries_say (e ∷ es) = entries_say es

-- the records of entries with a value among them
value_says : (es : List Entry) (before after : List LineRecord) (line : ℕ) (value : ℤ) → map entry_line es ≡ before ++ after
    → Say true (records_of (before ++ on_line line (value_record value) ∷ after))
value_says es [] after line value e = let spells = rw e at (entries_say es) in (spells.0, (spells.1.0, refl))
value_says (x ∷ es) (b ∷ before) after line value e =
    let first : b ≡ entry_line x = cc in
    rw first (value_says es before after line value (cc))
value_says [] (b ∷ before) after line value e = absurd (cc)

-- an entry is allowed after any records
entry_allowed : (earlier : List Record) (e : Entry) → IsAllowed earlier (entry_record e)
entry_allowed earlier e = is_allowed earlier (entry_record e) refl

-- a record of a solution is an entry, or a value after entries
data EntryOrValue (before : List Record) (r : Record) : Type 0 where
  of_entry : (e : Entry) → r ≡ entry_record e → EntryOrValue before r
  of_value : (value : ℤ) → r ≡ value_record value → list_any is_value before ≡ false → EntryOrValue before r

place_of : (es : List Entry) (before after : List LineRecord) (line : ℕ) (value : ℤ) (earlier more : List Record) (r : Record) → map entry_line es ≡ before ++ after
    → records_of (before ++ on_line line (value_record value) ∷ after) ≡ earlier ++ r ∷ more → EntryOrValue earlier r
place_of es [] after line value [] more r e h = of_value value (cc) refl
place_of es [] after line value (b ∷ earlier) more r e h =
    let behind : records_of after ≡ earlier ++ r ∷ more = cc in
    let at = image_at entry_record es earlier more r (sym (records_of-entries es) ∙ (ap records_of e ∙ behind)) in
    of_entry at.x at.y_is
place_of (x ∷ es) (b ∷ before) after line value [] more r e h =
    let first : b ≡ entry_line x = cc in
    let spells : b.spells ≡ r = cc in
    of_entry x (sym spells ∙ ap (λ (l : LineRecord). l.spells) first)
place_of (x ∷ es) (b ∷ before) after line value (c ∷ earlier) more r e h =
    let first : b ≡ entry_line x = cc in
    let spells : b.spells ≡ c = cc in
    let c_is : c ≡ entry_record x = sym spells ∙ ap (λ (l : LineRecord). l.spells) first in
    elim (place_of es before after line value earlier more r (cc) (cc)) [
      | of_entry y r_is ↦ of_entry y r_is
      | of_value v r_is none ↦ of_value v r_is (rw c_is none)
    ]
place_of [] (b ∷ before) after line value earlier more r e h = absurd (cc)

allowed_at : (before : List Record) (r : Record) → EntryOrValue before r → IsAllowed before r
allowed_at before r (of_entry e r_is) = rw r_is (entry_allowed before e)
allowed_at before r (of_value value r_is none) = rw r_is (is_allowed before (value_record value) (rw none refl))

-- the records of a solution have no fault
pub solution_faultless : (rs : List LineRecord) (s : SolutionValue) → GivesSolution rs s → AreFaultless kinds.Solution (records_of rs)
solution_faultless rs s h =
    let spells : Say true (records_of rs) = rw h.all_are (value_says s.entries h.before h.after s.value_line s.value h.others_are) in
    record {
      allowed = λ before after r e. allowed_at before r (place_of s.entries h.before h.after s.value_line s.value before after r h.others_are (rw h.all_are at e));
      complete = is_complete kinds.Solution (records_of rs) (rw (spells.0, spells.1.1) refl);
    }

-- records give only one solution
with_line : ℕ → Record → SolutionValue → SolutionValue
with_line line (records.SolutionValue value) s = record { value = value; value_line = line; entries = s.entries }
with_line line (records.SolutionEntry tail head flow) s = record { value = s.value; value_line = s.value_line; entries = record { tail = tail; head = head; flow = flow; line = line } ∷ s.entries }
with_line line r s = s

solution_in : List LineRecord → SolutionValue
solution_in [] = record { value = pos 0; value_line = 0; entries = [] }
solution_in (r ∷ rs) = with_line r.line r.spells (solution_in rs)

-- a solution with one more entry in front
abbrev after_entry : Entry → SolutionValue → SolutionValue
after_entry e s = record { value = s.value; value_line = s.value_line; entries = e ∷ s.entries }

entries_in-entries : (es : List Entry) → (solution_in (map entry_line es)).entries ≡ es
unfolding solution_in with_line
entries_in-entries [] = refl
entries_in-entries (e ∷ es) = ap (λ xs. e ∷ xs) (entries_in-entries es)

solution_in-among : (es : List Entry) (before after : List LineRecord) (line : ℕ) (value : ℤ) → map entry_line es ≡ before ++ after
    → solution_in (before ++ on_line line (value_record value) ∷ after) ≡ record { value = value; value_line = line; entries = es }
unfolding solution_in with_line
solution_in-among es [] after line value e = ap (λ xs. record { value = value; value_line = line; entries = xs }) (ap (λ rs. (solution_in rs).entries) (sym e) ∙ entries_in-entries es)
solution_in-among (x ∷ es) (b ∷ before) after line value e =
    let first : b ≡ entry_line x = cc in
    rw first (ap (after_entry x) (solution_in-among es before after line value (cc)))
solution_in-among [] (b ∷ before) after line value e = absurd (cc)

solution_in-given : (rs : List LineRecord) (s : SolutionValue) → GivesSolution rs s → solution_in rs ≡ s
solution_in-given rs s h = ap solution_in h.all_are ∙ solution_in-among s.entries h.before h.after s.value_line s.value h.others_are

-- the records of a solution are those of no other solution
pub one_solution : (rs : List LineRecord) (s t : SolutionValue) → GivesSolution rs s → GivesSolution rs t → s ≡ t
one_solution rs s t a b = sym (solution_in-given rs s a) ∙ solution_in-given rs t b

value_fits : (s : SolutionValue) → IsLawful s → CanBeSpelled kinds.Solution (value_record s.value)
value_fits s is = record {
  form = form (codes "s") (Wide ∷ []);
  of_kind = (0, omega arith, refl);
  for_kind = refl;
  letter = refl;
  fit = (is.value, tt);
}

entry_fits : (e : Entry) → IsLawfulEntry e → CanBeSpelled kinds.Solution (entry_record e)
entry_fits e is = record {
  form = form (codes "f") (Id ∷ Id ∷ Whole ∷ []);
  of_kind = (1, omega arith, refl);
  for_kind = refl;
  letter = refl;
  fit = ((omega (arith, ints, is.tail.0), omega (arith, ints, is.tail.1)), ((omega (arith, ints, is.head.0), omega (arith, ints, is.head.1)), (is.flow, tt)));
}

numbered-entries : (line : ℕ) (es : List Entry) → numbered line (map (λ (r : Record). Some r) (map entry_record es)) ≡ map entry_line (on_lines_from line es)
numbered-entries line [] = refl
numbered-entries line (e ∷ es) = ap (λ rs. on_line line (entry_record e) ∷ rs) (numbered-entries (suc line) es)

-- the canonical text of a lawful solution spells it, with new line numbers
pub solution_round_trip : (s : SolutionValue) → IsLawful s → SpellsSolution (canonical_solution s) (renumbered s)
solution_round_trip s is =
    let entries = All-map (CanBeSpelled kinds.Solution) entry_record s.entries (λ k d below. entry_fits _ (is.entries k d below)) in
    let fit = All-cons (CanBeSpelled kinds.Solution) (value_record s.value) (map entry_record s.entries) (value_fits s is) entries in
    record {
      by_line = map (λ (r : Record). Some r) (solution_records s);
      spelled = canonical_spelled kinds.Solution (solution_records s) fit (omega (arith, length-map s.entries entry_record, is.few));
      given = record {
        before = [];
        after = map entry_line (on_lines_from 2 s.entries);
        others_are = refl;
        all_are = ap (λ rs. on_line 1 (value_record s.value) ∷ rs) (numbered-entries 2 s.entries);
      };
    }

records-on_lines_from : (line : ℕ) (es : List Entry) → map entry_record (on_lines_from line es) ≡ map entry_record es
records-on_lines_from line [] = refl
records-on_lines_from line (e ∷ es) = ap (λ rs. entry_record e ∷ rs) (records-on_lines_from (suc line) es)

-- canonical texts don't depend on line numbers
pub canonical-renumbered : (s : SolutionValue) → canonical_solution (renumbered s) ≡ canonical_solution s
canonical-renumbered s = ap (λ rs. canonical_text (value_record s.value ∷ rs)) (records-on_lines_from 2 s.entries)

-- the records of spelled lines are of this kind, at most one a line
all_of_kind : (all : List (List ℕ)) (by_line : List (Option Record)) (line : ℕ) → Spell kinds.Solution all by_line → All IsSolutionLine (numbered line by_line)
all_of_kind [] [] line h = All-nil IsSolutionLine
all_of_kind (text ∷ all) (None ∷ by_line) line h = all_of_kind all by_line (suc line) h.1
all_of_kind (text ∷ all) (Some r ∷ by_line) line h =
    All-cons IsSolutionLine (on_line line r) (numbered (suc line) by_line) (record { texts = texts_in text; spelled = h.1 }) (all_of_kind all by_line (suc line) h.2)
all_of_kind all by_line line h = absurd h

one_a_line : (all : List (List ℕ)) (by_line : List (Option Record)) (line : ℕ) → Spell kinds.Solution all by_line → length (numbered line by_line) ≤ length all
one_a_line [] [] line h = omega arith
one_a_line (text ∷ all) (None ∷ by_line) line h = omega (arith, one_a_line all by_line (suc line) h.1)
one_a_line (text ∷ all) (Some r ∷ by_line) line h = omega (arith, one_a_line all by_line (suc line) h.2)
one_a_line all by_line line h = absurd h

spelled_value : (value : ℤ) → IsOfKind kinds.Solution (value_record value) → IsWithin (neg_ℤ (pos (10 ^ 30))) (pos (10 ^ 30)) value
spelled_value value h = (fits_of kinds.Solution (value_record value) (Wide ∷ []) h refl).0

spelled_entry : (e : Entry) → IsOfKind kinds.Solution (entry_record e) → IsLawfulEntry e
spelled_entry e h =
    let fit : FitAll (Id ∷ Id ∷ Whole ∷ []) (parts_of (entry_record e)) = fits_of kinds.Solution (entry_record e) (Id ∷ Id ∷ Whole ∷ []) h refl in
    record { tail = (omega (arith, ints, fit.0.0), omega (arith, ints, fit.0.1)); head = (omega (arith, ints, fit.1.0.0), omega (arith, ints, fit.1.0.1)); flow = fit.1.1.0 }

spelled_entries : (es : List Entry) → All IsSolutionLine (map entry_line es) → All IsLawfulEntry es
spelled_entries [] are = All-nil IsLawfulEntry
spelled_entries (e ∷ es) are =
    All-cons IsLawfulEntry e es (spelled_entry e (All-head IsSolutionLine (entry_line e) (map entry_line es) are)) (spelled_entries es (All-tail IsSolutionLine (entry_line e) (map entry_line es) are))

-- a list without one of its items
all_others : (before after : List LineRecord) (r : LineRecord) → All IsSolutionLine (before ++ r ∷ after) → IsSolutionLine r × All IsSolutionLine (before ++ after)
all_others [] after r are = (All-head IsSolutionLine r after are, All-tail IsSolutionLine r after are)
all_others (b ∷ before) after r are =
    let rest = all_others before after r (All-tail IsSolutionLine b (before ++ r ∷ after) are) in
    (rest.0, All-cons IsSolutionLine b (before ++ after) (All-head IsSolutionLine b (before ++ r ∷ after) are) rest.1)

-- the solution of such records is lawful
lawful_of_records : (rs : List LineRecord) (s : SolutionValue) → All IsSolutionLine rs → length rs ≤ most_lines → GivesSolution rs s → IsLawful s
lawful_of_records rs s are few h =
    let r = on_line s.value_line (value_record s.value) in
    let parted = all_others h.before h.after r (rw h.all_are at are) in
    let entries : All IsSolutionLine (map entry_line s.entries) = rw h.others_are parted.1 in
    let count : length rs ≡ length s.entries + 1 = omega (arith, ap length h.all_are, length-append h.before (r ∷ h.after), ap length h.others_are, length-append h.before h.after, length-map s.entries entry_line) in
    record { value = spelled_value s.value parted.0; entries = spelled_entries s.entries entries; few = omega (arith, count, few) }

-- the solution of spelled lines is lawful
pub lawful_given : (all : List (List ℕ)) (by_line : List (Option Record)) (s : SolutionValue) → AreSpelled kinds.Solution all by_line → GivesSolution (numbered 1 by_line) s → IsLawful s
lawful_given all by_line s spelled h =
    lawful_of_records (numbered 1 by_line) s (all_of_kind all by_line 1 spelled.spell) (omega (arith, one_a_line all by_line 1 spelled.spell, spelled.few)) h

lawful_read : (all : List (List ℕ)) (noted : Result SolutionValue ReadError) → ReadsLines kinds.Solution GivesSolution all noted → IfOk noted IsLawful
lawful_read all (Ok s) h = lawful_given all h.by_line s (spelled_of_faultless kinds.Solution all h.by_line h.faultless) h.given
lawful_read all (Err error) h = tt

-- ---- reading into a place
module _ {W : Type 0} (value : W → ℤ) (value_line : W → ℕ) (holds : W → List Entry → Type 0) where
  abbrev like : SolutionValue → W → Type 0
  like s w = IsPlaced (value w) (value_line w) (holds w) s

  -- the result for the lines and the solution that they give is that of a reader of solutions
  read_as : (text : List ℕ) (result : Result W ReadError) (noted : Result SolutionValue ReadError) → ReadsLines kinds.Solution GivesSolution (lines text) noted → AnswersAlike like noted result → ReadsLike like text result
  read_as text result noted reads alike = record {
    answer = noted;
    reads = reads_exactly kinds.Solution GivesSolution (lines text) noted solution_faultless one_solution reads;
    lawful = lawful_read (lines text) noted reads;
    alike = alike;
  }

  pub reads_placed : (text : List ℕ) (result : Result W ReadError) → ReadsLines kinds.Solution (λ rs w. GivesPlaced (value w) (value_line w) (holds w) rs) (lines text) result → ReadsLike like text result
  reads_placed text (Ok w) h =
      let s : SolutionValue = record { value = value w; value_line = value_line w; entries = h.given.0 } in
      read_as text (Ok w) (Ok s) (record { by_line = h.by_line; faultless = h.faultless; given = h.given.2 }) (record { value_is = refl; line_is = refl; entries = h.given.1 })
  reads_placed text (Err (read_errors.Refused place reason)) h = read_as text (Err (read_errors.Refused place reason)) (Err (read_errors.Refused place reason)) h refl
  reads_placed text (Err read_errors.Device) h = read_as text (Err read_errors.Device) (Err read_errors.Device) tt refl
  reads_placed text (Err read_errors.Memory) h = read_as text (Err read_errors.Memory) (Err read_errors.Memory) tt refl

-- entries that were placed from records that lines can spell
pub placed_lawful : (value : ℤ) (value_line : ℕ) (holds : List Entry → Type 0) (rs : List LineRecord) → GivesPlaced value value_line holds rs → AreSpelledBefore kinds.Solution (most_lines + 1) rs → IsPlacedLawful value value_line holds
placed_lawful value value_line holds rs given are =
    let s : SolutionValue = record { value = value; value_line = value_line; entries = given.0 } in
    (s, record { value_is = refl; line_is = refl; entries = given.1 }, lawful_of_records rs s are.of_kind (omega (arith, are.few)) given.2)

-- ---- the records that a reading with a place stands for
module _ (holds : List Entry → Type 0) (rs : List LineRecord) where
  pub none_taken : (entries : List Entry) → holds entries → StandsForSolution None holds (map entry_line entries)
  none_taken entries stands = (entries, stands, refl)

  -- what the tests know follows from the records
  say : (value : Option ValueLine) → StandsForSolution value holds rs → Say (is_some value) (records_of rs)
  say None h = rw h.2 (entries_say h.0)
  say (Some v) h = rw h.2.all_are (value_says h.0 h.2.before h.2.after v.line v.value h.2.others_are)

  pub value_by_records : (value : Option ValueLine) (other : ℤ) → StandsForSolution value holds rs → value_context value ≡ context_after (records_of rs) (value_record other)
  value_by_records value other h = let spells = say value h in rw (spells.0, spells.1.0, spells.1.1) refl

  pub end_context_by_records : (value : Option ValueLine) → StandsForSolution value holds rs → value_context value ≡ end_context_of kinds.Solution (records_of rs)
  end_context_by_records value h = let spells = say value h in rw (spells.0, spells.1.0, spells.1.1) refl

  pub value_placed : (value : Option ValueLine) (line : ℕ) (number : ℤ) → Passes (value_context value) (value_record number) → StandsForSolution value holds rs
      → IsAllowed (records_of rs) (value_record number) × StandsForSolution (Some (record { value = number; line = line })) holds (rs ++ on_line line (value_record number) ∷ [])
  value_placed None line number p h = (allowed_by_records (value_context None) (records_of rs) (value_record number) p (value_by_records None number h), (h.0, h.1, record { before = rs; after = []; others_are = sym h.2 ∙ sym (append-nil rs); all_are = refl }))
  value_placed (Some v) line number p h = absurd (cc (p.one_value))

  pub entry_placed : (value : Option ValueLine) (e : Entry) (more : List Entry → Type 0) → ((es : List Entry) → holds es → more (es ++ e ∷ [])) → StandsForSolution value holds rs
      → IsAllowed (records_of rs) (entry_record e) × StandsForSolution value more (rs ++ entry_line e ∷ [])
  entry_placed value e more placed h = (entry_allowed (records_of rs) e, (h.0 ++ e ∷ [], placed h.0 h.1, taken_more value h.0 e h.2))
    where
      taken_more : (value : Option ValueLine) (es : List Entry) (e : Entry) → AreTaken value es rs → AreTaken value (es ++ e ∷ []) (rs ++ entry_line e ∷ [])
      taken_more None es e are = ap (λ t. t ++ entry_line e ∷ []) are ∙ sym (map-append entry_line es (e ∷ []))
      taken_more (Some v) es e among = record {
        before = among.before;
        after = among.after ++ entry_line e ∷ [];
        others_are = map-append entry_line es (e ∷ []) ∙ (ap (λ t. t ++ entry_line e ∷ []) among.others_are ∙ append_assoc among.before among.after (entry_line e ∷ []));
        all_are = ap (λ t. t ++ entry_line e ∷ []) among.all_are ∙ append_assoc among.before (on_line v.line (value_record v.value) ∷ among.after) (entry_line e ∷ []);
      }

-- a solution whose entries were kept
pub kept_solution : {W : Type 0} (value : W → ℤ) (value_line : W → ℕ) (entries : W → List Entry) (noted : Result SolutionValue ReadError) (w : W) → AnswersAlike (λ s x. IsPlaced (value x) (value_line x) (λ kept. entries x ≡ kept) s) noted (Ok w)
    → noted ≡ Ok (record { value = value w; value_line = value_line w; entries = entries w })
kept_solution value value_line entries (Ok s) w alike = rw (alike.value_is, alike.line_is, alike.entries) refl
kept_solution value value_line entries (Err e) w alike = absurd alike

pub kept_lawful : (value : ℤ) (line : ℕ) (entries : List Entry) → IsPlacedLawful value line (λ kept. entries ≡ kept) → IsLawful (record { value = value; value_line = line; entries = entries })
kept_lawful value line entries (s, is, lawful) = rw (is.value_is, is.line_is, is.entries) lawful

-- the same after an error
pub error_kept : {W : Type 0} (like : SolutionValue → W → Type 0) (noted : Result SolutionValue ReadError) (e : ReadError) (result : Result Solution ReadError) → AnswersAlike like noted (Err e) → IsErrAnd result (λ f. f ≡ e) → noted ≡ result_map_both claimed (λ f. f) result
error_kept like (Err f) e (Err h) alike is = ap Err (alike ∙ sym is)
error_kept like (Ok s) e result alike is = absurd alike
error_kept like (Err f) e (Ok s) alike is = absurd is
