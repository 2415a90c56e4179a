-- The fields after a letter, taken one after another.
use Rattle.std.proofs.Common.{◌≡◌, ℕ, suc, ◌∷◌, [], List, Bool, true, false, Option, Some, None, Result, Err, length, map, refl, ap, sym, ◌∙◌, subst, arith}
use Rattle.std.proofs.{lemmas.Bool.{eq-eqb, eqb-true, ne_eqb}, lemmas.Bool.Decides.{nat_tests}}
use Rattle.std.proofs.lemmas.List.{length-map}
use Rattle.std.specs.Prelude.{◌==◌, if◌then◌else◌}
use Rattle.dimacs_lines.specs.Fields.{Run}
use Rattle.dimacs_records.specs.{declared.kinds.TextKind.{TextKind}, declared.records.Record.{Record}}
use Rattle.dimacs_records.specs.{declared.reasons.Reason.{Reason}, declared.reasons.Reason.TheVariants.{FieldCount}}
use Rattle.dimacs_records.specs.{declared.faults.LineFault.{LineFault}, declared.field_reader.FieldReader.{FieldReader}}
use Rattle.dimacs_records.specs.{Earlier.{or_else}, Forms.{FieldType}}
use Rattle.dimacs_records.specs.Spelling.{Part, SpellFields, kind_of, letter_of, parts_of}
use Rattle.dimacs_records.specs.inside.FieldReader.{field_reason, fault_at, fault_in, fields_fault, TakesField, TakesNext, without_fault, finished, IsUntouched, ReadsForm, text_of_run, texts_left}
use Rattle.dimacs_records.proofs.FieldLemmas.{or_else-none}

-- fields of these types were taken one after another, from field f on, with these contents
abbrev pub TakesAll : ℕ → List FieldType → FieldReader → List Part → FieldReader → Type 0
TakesAll f [] old [] new = new ≡ old
TakesAll f (type ∷ types) old (part ∷ parts) new = (mid : FieldReader) × TakesField f type old part mid × TakesAll (suc f) types mid parts new
TakesAll f types old parts new = ⊥

or_else-assoc : {X : Type 0} → (a b c : Option X) → or_else (or_else a b) c ≡ or_else a (or_else b c)
or_else-assoc None b c = refl
or_else-assoc (Some x) b c = refl

pub missing_next : (f : ℕ) (type : FieldType) (runs : List Run) (old : FieldReader) (part : Part) (new : FieldReader) → old.missing ≡ true → TakesNext f type runs old part new → new.missing ≡ true
missing_next f type [] old part new h taken = taken
missing_next f type (run ∷ runs) old part new h taken = taken.1 ∙ h

-- after a missing field, the line stays incomplete
missing_all : (f : ℕ) (types : List FieldType) (old : FieldReader) (parts : List Part) (new : FieldReader) → old.missing ≡ true → TakesAll f types old parts new → new.missing ≡ true
missing_all f [] old [] new h taken = rw taken h
missing_all f [] old (part ∷ parts) new h taken = absurd taken
missing_all f (type ∷ types) old [] new h taken = absurd taken
missing_all f (type ∷ types) old (part ∷ parts) new h taken = missing_all (suc f) types taken.0 parts new (missing_next f type old.scan old part taken.0 h taken.1) taken.2

-- the result of the fields, from a state in which none is missing
abbrev outcome : ℕ → List FieldType → Option LineFault → List Run → Record → Result (Option Record) LineFault
outcome f types fault runs r = if length types == length runs then without_fault (or_else fault (fields_fault f types (map text_of_run runs))) r else Err (fault_at 0 FieldCount)

one_more : (a b : ℕ) → (a == b) ≡ (suc a == suc b)
one_more a b = grind (arith, nat_tests)

pub at_missing : (new : FieldReader) (r : Record) → new.missing ≡ true → finished new r ≡ Err (fault_at 0 FieldCount)
at_missing new r h = rw h refl

at_end : (s : FieldReader) (runs : List Run) (r : Record) (f : ℕ) → s.scan ≡ runs → s.missing ≡ false → finished s r ≡ outcome f [] s.fault runs r
at_end s [] r f h there = rw (h, there, or_else-none s.fault) refl
at_end s (run ∷ runs) r f h there = let none : (0 == suc (length runs)) ≡ false = ne_eqb 0 (suc (length runs)) (omega arith) in rw (h, there, none) refl

taken_outcome : (f : ℕ) (types : List FieldType) (s : FieldReader) (parts : List Part) (new : FieldReader) (runs : List Run) (r : Record) → s.scan ≡ runs → s.missing ≡ false → TakesAll f types s parts new → finished new r ≡ outcome f types s.fault runs r
taken_outcome f [] s [] new runs r h there taken = rw taken (at_end s runs r f h there)
taken_outcome f [] s (part ∷ parts) new runs r h there taken = absurd taken
taken_outcome f (type ∷ types) s [] new runs r h there taken = absurd taken
taken_outcome f (type ∷ types) s (part ∷ parts) new [] r h there taken =
    let mid : FieldReader = taken.0 in
    let next : TakesNext f type [] s part mid = rw h at taken.1 in
    let none : (suc (length types) == 0) ≡ false = ne_eqb (suc (length types)) 0 (omega arith) in
    at_missing new r (missing_all (suc f) types mid parts new next taken.2) ∙ rw none refl
taken_outcome f (type ∷ types) s (part ∷ parts) new (run ∷ runs) r h there taken =
    let mid : FieldReader = taken.0 in
    let next : TakesNext f type (run ∷ runs) s part mid = rw h at taken.1 in
    let rest = taken_outcome (suc f) types mid parts new runs r next.0 (next.1 ∙ there) taken.2 in
    let first = fault_in f (field_reason type run.text) in
    let faults : or_else mid.fault (fields_fault (suc f) types (map text_of_run runs)) ≡ or_else s.fault (or_else first (fields_fault (suc f) types (map text_of_run runs))) = ap (λ o. or_else o (fields_fault (suc f) types (map text_of_run runs))) next.2 ∙ or_else-assoc s.fault first (fields_fault (suc f) types (map text_of_run runs)) in
    rest ∙ (ap (λ o. if length types == length runs then without_fault o r else Err (fault_at 0 FieldCount)) faults
    ∙ ap (λ t. if t then without_fault (or_else s.fault (or_else first (fields_fault (suc f) types (map text_of_run runs)))) r else Err (fault_at 0 FieldCount)) (one_more (length types) (length runs)))

none_parts : {X : Type 0} → (a b : Option X) → or_else a b ≡ None → (a ≡ None) × (b ≡ None)
none_parts None b h = (refl, h)
none_parts (Some x) b h = absurd (cc)

no_reason : (f : ℕ) (o : Option Reason) → fault_in f o ≡ None → o ≡ None
no_reason f None h = refl
no_reason f (Some reason) h = absurd (cc)

said_all : (f : ℕ) (types : List FieldType) (s : FieldReader) (parts : List Part) (new : FieldReader) (runs : List Run) → s.scan ≡ runs → TakesAll f types s parts new → length types ≡ length runs → fields_fault f types (map text_of_run runs) ≡ None → SpellFields types (map text_of_run runs) parts
said_all f [] s [] new [] h taken same none = tt
said_all f [] s [] new (run ∷ runs) h taken same none = absurd (omega (arith, same))
said_all f [] s (part ∷ parts) new runs h taken same none = absurd taken
said_all f (type ∷ types) s [] new runs h taken same none = absurd taken
said_all f (type ∷ types) s (part ∷ parts) new [] h taken same none = absurd (omega (arith, same))
said_all f (type ∷ types) s (part ∷ parts) new (run ∷ runs) h taken same none =
    let mid : FieldReader = taken.0 in
    let next : TakesNext f type (run ∷ runs) s part mid = rw h at taken.1 in
    let both = none_parts (fault_in f (field_reason type run.text)) (fields_fault (suc f) types (map text_of_run runs)) none in
    (next.3 (no_reason f (field_reason type run.text) both.0), said_all (suc f) types mid parts new runs next.0 taken.2 (omega (arith, same)) both.1)

form_answer : (kind : TextKind) (letter : List ℕ) (types : List FieldType) (runs : List Run) (r : Record) → kind_of r ≡ kind → letter_of r ≡ letter → (length types ≡ length runs → fields_fault 2 types (map text_of_run runs) ≡ None → SpellFields types (map text_of_run runs) (parts_of r)) → ReadsForm kind letter types (map text_of_run runs) (outcome 2 types None runs r)
form_answer kind letter types runs r of_kind of_letter spells = by_length (length types == length runs) refl
  where
    by_fault : (fault : Option LineFault) → length types ≡ length runs → fields_fault 2 types (map text_of_run runs) ≡ fault → ReadsForm kind letter types (map text_of_run runs) (without_fault fault r)
    by_fault None same h = (of_kind, of_letter, rw (length-map runs text_of_run, eq-eqb (length types) (length runs) same) h, spells same h)
    by_fault (Some fault) same h = rw (length-map runs text_of_run, eq-eqb (length types) (length runs) same) h

    by_length : (t : Bool) → (length types == length runs) ≡ t → ReadsForm kind letter types (map text_of_run runs) (if t then without_fault (fields_fault 2 types (map text_of_run runs)) r else Err (fault_at 0 FieldCount))
    by_length true e = by_fault (fields_fault 2 types (map text_of_run runs)) (eqb-true (length types) (length runs) e) refl
    by_length false e = rw (length-map runs text_of_run, e) refl

-- the result of the fields after a letter, taken by their types
pub reads_form : (kind : TextKind) (letter : List ℕ) (types : List FieldType) (s new : FieldReader) (r : Record) (result : Result (Option Record) LineFault)
    → kind_of r ≡ kind → letter_of r ≡ letter → IsUntouched s → TakesAll 2 types s (parts_of r) new → result ≡ finished new r → ReadsForm kind letter types (texts_left s) result
reads_form kind letter types s new r result of_kind of_letter fresh taken h =
    let is : result ≡ outcome 2 types None s.scan r = h ∙ (taken_outcome 2 types s (parts_of r) new s.scan r refl fresh.0 taken ∙ ap (λ o. outcome 2 types o s.scan r) fresh.1) in
    subst (ReadsForm kind letter types (map text_of_run s.scan)) (sym is) (form_answer kind letter types s.scan r of_kind of_letter (said_all 2 types s (parts_of r) new s.scan refl taken))
