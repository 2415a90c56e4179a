-- The line of a letter.
use Rattle.std.proofs.Common.{◌≡◌, ℕ, suc, ◌≤◌, ◌∷◌, [], List, Bool, true, false, Option, Some, None, Result, Ok, Err, length, refl, ap, sym, ◌∙◌, subst, arith}
use Rattle.std.proofs.{lemmas.Bool.{leb-true}, lemmas.List.Sums.{AllPass-from_list_all}}
use Rattle.std.proofs.lemmas.Slice.Eq.{bytes_eq-Decides}
use Rattle.std.specs.{Prelude.{IsTrue, ◌==◌, nat_le}, List.{Contains, list_all}, Str.{bytes_eq}}
use Rattle.dimacs_records.specs.{declared.kinds.TextKind.{TextKind}, declared.records.Record.{Record}}
use Rattle.dimacs_records.specs.declared.kinds.TextKind.TheVariants.{Max, Min, Graph, Queries, Solution, Cut, Potentials, Labels, Distances}
use Rattle.dimacs_records.specs.{declared.reasons.Reason.TheVariants.{UnknownLine}, Forms.{FieldType, Form, forms}}
use Rattle.dimacs_records.specs.{declared.faults.LineFault.{LineFault}, Spelling.{is_skip}, LineReader.{ReadsLine}}
use Rattle.dimacs_records.specs.Shapes.{types_in, letter_condition, shape_condition}
use Rattle.dimacs_records.specs.Order.{FaultPlace, at, shape_places, FirstOf}
use Rattle.dimacs_records.specs.inside.FieldReader.{form_fault, ReadsForm, ReadsLetter, ReadsTypes}
use Rattle.dimacs_records.proofs.FirstLemmas.{first_by, is_first}
use Rattle.dimacs_records.proofs.PlaceLemmas.{first_of_shape, place_of, place_in, test_at}

-- a form with this letter and these types
record FormOf (all : List Form) (letter : List ℕ) (types : List FieldType) : Type 0 where
  form : Form
  contained : Contains all form
  letter_is : form.letter ≡ letter
  types_are : form.types ≡ types

module _ (form : Form) (more : List Form) (letter : List ℕ) (count : ℕ) (types : List FieldType) (h : types_in (form ∷ more) letter count ≡ Some types) (rest : types_in more letter count ≡ Some types → FormOf more letter types) where
  here : bytes_eq form.letter letter ≡ true → types_in (form ∷ more) letter count ≡ Some form.types → FormOf (form ∷ more) letter types
  here e found = record { form = form; contained = (0, omega arith, refl); letter_is = (bytes_eq-Decides form.letter letter).0 e; types_are = cc }

  later : types_in (form ∷ more) letter count ≡ types_in more letter count → FormOf (form ∷ more) letter types
  later past =
      let f = rest (sym past ∙ h) in
      record { form = f.form; contained = (suc f.contained.0, omega (arith, f.contained.1), f.contained.2); letter_is = f.letter_is; types_are = f.types_are }

  by_count : (t : Bool) (others : List FieldType) → bytes_eq form.letter letter ≡ true → types_in more letter count ≡ Some others → (length form.types == count) ≡ t → FormOf (form ∷ more) letter types
  by_count true others e o c = here e (rw (e, o, c) refl)
  by_count false others e o c = later (rw (e, o, c) refl)

  by_others : (others : Option (List FieldType)) → bytes_eq form.letter letter ≡ true → types_in more letter count ≡ others → FormOf (form ∷ more) letter types
  by_others None e o = here e (rw (e, o) refl)
  by_others (Some others) e o = by_count (length form.types == count) others e o refl

  by_letter : (t : Bool) → bytes_eq form.letter letter ≡ t → FormOf (form ∷ more) letter types
  by_letter true e = by_others (types_in more letter count) e refl
  by_letter false e = later (rw e refl)

form_of : (all : List Form) (letter : List ℕ) (count : ℕ) (types : List FieldType) → types_in all letter count ≡ Some types → FormOf all letter types
form_of [] letter count types h = absurd (cc)
form_of (form ∷ more) letter count types h = by_letter form more letter count types h (form_of more letter count types) (bytes_eq form.letter letter) refl

short_forms : (kind : TextKind) → list_all (λ (form : Form). nat_le (length form.types) 5) (forms kind) ≡ true
short_forms Max = refl
short_forms Min = refl
short_forms Graph = refl
short_forms Queries = refl
short_forms Solution = refl
short_forms Cut = refl
short_forms Potentials = refl
short_forms Labels = refl
short_forms Distances = refl

short_types : (kind : TextKind) (letter : List ℕ) (types : List FieldType) → FormOf (forms kind) letter types → length types ≤ 5
short_types kind letter types f =
    let all = AllPass-from_list_all (λ (form : Form). nat_le (length form.types) 5) (forms kind) (short_forms kind) in
    let c = f.contained in
    rw (← f.types_are, ← c.2) (leb-true _ 5 (all c.0 f.form c.1))

to_place : (kind : TextKind) (letter : List ℕ) (types : List FieldType) (after : List (List ℕ)) (fault : LineFault) → types_in (forms kind) letter (length after) ≡ Some types → form_fault types after ≡ Some fault
    → FirstOf (λ (p : FaultPlace). IsTrue (shape_condition kind (letter ∷ after) p.field p.reason)) shape_places (place_of fault)
to_place kind letter types after fault known h =
    let short = short_types kind letter types (form_of (forms kind) letter (length after) types known) in
    let found : first_by (test_at (letter_condition (Some types) after)) shape_places ≡ Some (place_of fault) = first_of_shape types after short ∙ ap place_in h in
    is_first (test_at (shape_condition kind (letter ∷ after))) shape_places (place_of fault) (rw known found)

-- the line of a letter that the kind has
form_line : (kind : TextKind) (letter : List ℕ) (types : List FieldType) (after : List (List ℕ)) (result : Result (Option Record) LineFault) → is_skip (letter ∷ after) ≡ false
    → types_in (forms kind) letter (length after) ≡ Some types → ReadsForm kind letter types after result → ReadsLine kind (letter ∷ after) result
form_line kind letter types after (Ok None) solid known h = absurd h
form_line kind letter types after (Ok (Some r)) solid known h =
    let f = form_of (forms kind) letter (length after) types known in
    (solid, record { form = f.form; after = after; of_kind = f.contained; for_kind = h.0; letter = h.1 ∙ sym f.letter_is; begins = ap (λ x. x ∷ after) (sym f.letter_is); spells = rw f.types_are h.3 })
form_line kind letter types after (Err fault) solid known h = (solid, to_place kind letter types after fault known h)

types_line : (kind : TextKind) (letter : List ℕ) (found : Option (List FieldType)) (after : List (List ℕ)) (result : Result (Option Record) LineFault) → is_skip (letter ∷ after) ≡ false
    → types_in (forms kind) letter (length after) ≡ found → ReadsTypes kind letter found after result → ReadsLine kind (letter ∷ after) result
types_line kind letter None after result solid unknown h =
    let first : FirstOf (λ (p : FaultPlace). IsTrue (shape_condition kind (letter ∷ after) p.field p.reason)) shape_places (at 1 UnknownLine) = is_first (test_at (shape_condition kind (letter ∷ after))) shape_places (at 1 UnknownLine) (rw unknown refl) in
    subst (ReadsLine kind (letter ∷ after)) (sym h) (solid, first)
types_line kind letter (Some types) after result solid known h = form_line kind letter types after result solid known h

-- a line of these fields that is no comment
pub reads_line : (kind : TextKind) (letter : List ℕ) (after : List (List ℕ)) (result : Result (Option Record) LineFault) → is_skip (letter ∷ after) ≡ false
    → ReadsLetter kind letter after result → ReadsLine kind (letter ∷ after) result
reads_line kind letter after result solid h = types_line kind letter (types_in (forms kind) letter (length after)) after result solid refl h
