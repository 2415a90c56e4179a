-- The line of a block, with its optional last field.
use Rattle.std.proofs.Common.{◌≡◌, ℕ, ◌∷◌, [], List, true, false, Option, Some, None, Result, Err, length, map, refl, ap, ◌∙◌, subst, arith}
use Rattle.std.proofs.lemmas.Bool.{ne_eqb}
use Rattle.std.specs.Prelude.{◌==◌, ℤ, pos, codes}
use Rattle.dimacs_lines.specs.Fields.{Run}
use Rattle.dimacs_records.specs.{declared.kinds.TextKind.TheVariants.{Labels}, declared.records.Record.{Record}}
use Rattle.dimacs_records.specs.{declared.records.Record.TheVariants.{LabelsBlock}, Spelling.{Amount}}
use Rattle.dimacs_records.specs.{declared.reasons.Reason.TheVariants.{FieldCount}, Forms.{FieldType, Id, Count, Radius}}
use Rattle.dimacs_records.specs.{declared.faults.LineFault.{LineFault}, declared.field_reader.FieldReader.{FieldReader}}
use Rattle.dimacs_records.specs.inside.FieldReader.{fault_at, TakesField, TakesNext, TakesLast, finished, IsUntouched, ReadsForm, ReadsLetter, text_of_run, texts_left}
use Rattle.dimacs_records.proofs.FormLemmas.{missing_next, at_missing, reads_form}

abbrev short_form : List FieldType
short_form = Id ∷ Count ∷ []

abbrev long_form : List FieldType
long_form = Id ∷ Count ∷ Radius ∷ []

missing_last : (f : ℕ) (runs : List Run) (old : FieldReader) (radius : Option ℤ) (new : FieldReader) → old.missing ≡ true → TakesLast f runs old radius new → new.missing ≡ true
missing_last f [] old None new h taken = ap (λ (fields : FieldReader). fields.missing) taken ∙ h
missing_last f [] old (Some radius) new h taken = absurd taken
missing_last f (run ∷ runs) old None new h taken = absurd taken
missing_last f (run ∷ runs) old (Some radius) new h taken = taken.1 ∙ h

-- the fields, taken one after another
module _ (s one two three : FieldReader) (source count : ℕ) (radius : Option ℤ) (result : Result (Option Record) LineFault) (fresh : IsUntouched s) (at_source : TakesField 2 Id s (Amount (pos source)) one) (at_count : TakesField 3 Count one (Amount (pos count)) two) (at_radius : TakesLast 4 two.scan two radius three) (h : result ≡ finished three (LabelsBlock source count radius)) where
  too_few : two.missing ≡ true → result ≡ Err (fault_at 0 FieldCount)
  too_few there = h ∙ at_missing three _ (missing_last 4 two.scan two radius three there at_radius)

  reads_short : (radius' : Option ℤ) → radius ≡ radius' → two.scan ≡ [] → TakesLast 4 [] two radius' three → ReadsForm Labels (codes "t") short_form (texts_left s) result
  reads_short None none left taken =
      reads_form Labels (codes "t") short_form s three (LabelsBlock source count None) result refl refl fresh (one, at_source, (two, at_count, taken)) (rw none at h)
  reads_short (Some r) some left taken = absurd taken

  reads_long : (radius' : Option ℤ) (run : Run) (runs : List Run) → radius ≡ radius' → two.scan ≡ run ∷ runs → TakesLast 4 (run ∷ runs) two radius' three → ReadsForm Labels (codes "t") long_form (texts_left s) result
  reads_long None run runs none left taken = absurd taken
  reads_long (Some r) run runs some left taken =
      let taken_here : TakesField 4 Radius two (Amount r) three = rw left taken in
      reads_form Labels (codes "t") long_form s three (LabelsBlock source count (Some r)) result refl refl fresh (one, at_source, (two, at_count, (three, taken_here, refl))) (rw some at h)

  by_runs : (runs : List Run) → s.scan ≡ runs → ReadsLetter Labels (codes "t") (map text_of_run runs) result
  by_runs [] is =
      let first : TakesNext 2 Id [] s (Amount (pos source)) one = rw is at at_source in
      let missing : two.missing ≡ true = missing_next 3 Count one.scan one (Amount (pos count)) two first at_count in
      rw (too_few missing) refl
  by_runs (x ∷ []) is =
      let first : TakesNext 2 Id (x ∷ []) s (Amount (pos source)) one = rw is at at_source in
      let missing : TakesNext 3 Count [] one (Amount (pos count)) two = rw first.0 at at_count in
      rw (too_few missing) refl
  by_runs (x ∷ y ∷ []) is =
      let first : TakesNext 2 Id (x ∷ y ∷ []) s (Amount (pos source)) one = rw is at at_source in
      let second : TakesNext 3 Count (y ∷ []) one (Amount (pos count)) two = rw first.0 at at_count in
      let last : TakesLast 4 [] two radius three = subst (λ runs. TakesLast 4 runs two radius three) second.0 at_radius in
      subst (λ runs. ReadsForm Labels (codes "t") short_form (map text_of_run runs) result) is (reads_short radius refl second.0 last)
  by_runs (x ∷ y ∷ z ∷ runs) is =
      let first : TakesNext 2 Id (x ∷ y ∷ z ∷ runs) s (Amount (pos source)) one = rw is at at_source in
      let second : TakesNext 3 Count (y ∷ z ∷ runs) one (Amount (pos count)) two = rw first.0 at at_count in
      let last : TakesLast 4 (z ∷ runs) two radius three = subst (λ rest. TakesLast 4 rest two radius three) second.0 at_radius in
      let texts = map text_of_run (x ∷ y ∷ z ∷ runs) in
      let reads : ReadsForm Labels (codes "t") long_form texts result = subst (λ all. ReadsForm Labels (codes "t") long_form (map text_of_run all) result) is (reads_long radius z runs refl second.0 last) in
      let longer : (2 == length texts) ≡ false = ne_eqb 2 (length texts) (omega arith) in
      rw longer reads

  -- the line of a block, with or without a RADIUS
  pub reads_block : ReadsLetter Labels (codes "t") (texts_left s) result
  reads_block = by_runs s.scan refl
