-- The forms of each kind have printable words and short numbers, and so do their records.
use Rattle.std.proofs.Common.{◌≡◌, ◌≤◌, ◌∷◌, [], ℕ, suc, List, Bool, true, false, length, map, refl, ap, sym, subst, arith, inl, inr}
use Rattle.std.proofs.{lemmas.Bool.{and_parts, not-true, ltb-true, leb-true}, lemmas.Int.{ints}}
use Rattle.std.proofs.{lemmas.List.Elements.{All-contains}, lemmas.List.Sums.{AllPass-from_list_all}}
use Rattle.std.specs.{Prelude.{ℤ, ◌&&◌, not, nat_lt, nat_le, int_le}, List.{Contains, list_all}}
use Rattle.std.specs.Char.{is_ascii_graphic}
use Rattle.dimacs_lines.specs.Number.{IsWithin}
use Rattle.dimacs_records.specs.{declared.kinds.TextKind.{TextKind}, Canonical.{text_of, Fits, FitAll}}
use Rattle.dimacs_records.specs.declared.kinds.TextKind.TheVariants.{Max, Min, Graph, Queries, Solution, Cut, Potentials, Labels, Distances}
use Rattle.dimacs_records.specs.Forms.{FieldType, Word, Either, Number, Form, forms}
use Rattle.dimacs_records.specs.Spelling.{Part, Text, Amount, SpellsField, SpellFields, is_comment}
use Rattle.dimacs_records.proofs.PlainLines.{IsPlain, ArePlain}
use Rattle.dimacs_records.proofs.DecimalLemmas.{lowest, highest, spells_signed_decimal, plain_signed_decimal}

abbrev is_plain : List ℕ → Bool
is_plain text = nat_lt 0 (length text) && (list_all is_ascii_graphic text && nat_le (length text) 40)

-- each content of a field of this type is printable and short
abbrev pub is_plain_type : FieldType → Bool
is_plain_type (Word w) = is_plain w
is_plain_type (Either v w) = is_plain v && is_plain w
is_plain_type (Number low high) = int_le lowest low && int_le high highest

abbrev is_plain_form : Form → Bool
is_plain_form form = (is_plain form.letter && not (is_comment form.letter)) && (list_all is_plain_type form.types && nat_le (length form.types) 5)

forms_plain : (kind : TextKind) → list_all is_plain_form (forms kind) ≡ true
forms_plain Max = refl
forms_plain Min = refl
forms_plain Graph = refl
forms_plain Queries = refl
forms_plain Solution = refl
forms_plain Cut = refl
forms_plain Potentials = refl
forms_plain Labels = refl
forms_plain Distances = refl

plain_from : (text : List ℕ) → is_plain text ≡ true → IsPlain text
plain_from text test =
    let some = and_parts (nat_lt 0 (length text)) _ test in
    let rest = and_parts (list_all is_ascii_graphic text) _ some.1 in
    record { some = ltb-true 0 (length text) some.0; visible = AllPass-from_list_all is_ascii_graphic text rest.0; short = leb-true (length text) 40 rest.1 }

-- a form whose letter begins no comment, with at most five fields of such types
pub record IsPlainForm (form : Form) : Type 0 where
  pub letter : IsPlain form.letter
  pub no_comment : is_comment form.letter ≡ false
  pub types : list_all is_plain_type form.types ≡ true
  pub few : length form.types ≤ 5

pub plain_form : (kind : TextKind) (form : Form) → Contains (forms kind) form → IsPlainForm form
plain_form kind form among =
    let test = All-contains (λ (f : Form). is_plain_form f ≡ true) (forms kind) form (AllPass-from_list_all is_plain_form (forms kind) (forms_plain kind)) among in
    let halves = and_parts (is_plain form.letter && not (is_comment form.letter)) _ test in
    let letter = and_parts (is_plain form.letter) _ halves.0 in
    let fields = and_parts (list_all is_plain_type form.types) _ halves.1 in
    record { letter = plain_from form.letter letter.0; no_comment = not-true (is_comment form.letter) letter.1; types = fields.0; few = leb-true (length form.types) 5 fields.1 }

within_widest : (low high n : ℤ) → (int_le lowest low && int_le high highest) ≡ true → IsWithin low high n → IsWithin lowest highest n
within_widest low high n test within =
    let ends = and_parts (int_le lowest low) (int_le high highest) test in
    (omega (arith, ints, ends.0, within.0), omega (arith, ints, ends.1, within.1))

plain_part : (type : FieldType) (part : Part) → is_plain_type type ≡ true → Fits type part → IsPlain (text_of part)
plain_part (Word w) (Text word) test fits = subst IsPlain (sym fits) (plain_from w test)
plain_part (Either v w) (Text word) test fits =
    let tests = and_parts (is_plain v) (is_plain w) test in
    elim fits [
      | inl e ↦ subst IsPlain (sym e) (plain_from v tests.0)
      | inr e ↦ subst IsPlain (sym e) (plain_from w tests.1)
    ]
plain_part (Number low high) (Amount n) test fits = plain_signed_decimal n (within_widest low high n test fits)
plain_part type part test fits = absurd fits

part_spells : (type : FieldType) (part : Part) → is_plain_type type ≡ true → Fits type part → SpellsField type (text_of part) part
part_spells (Word w) (Text word) test fits = (fits, fits)
part_spells (Either v w) (Text word) test fits = (fits, refl)
part_spells (Number low high) (Amount n) test fits = (spells_signed_decimal n (within_widest low high n test fits), fits)
part_spells type part test fits = absurd fits

pub plain_parts : (types : List FieldType) (parts : List Part) → list_all is_plain_type types ≡ true → FitAll types parts → ArePlain (map text_of parts)
plain_parts [] [] test fit = tt
plain_parts (type ∷ types) (part ∷ parts) test fit =
    let tests = and_parts (is_plain_type type) _ test in
    (plain_part type part tests.0 fit.0, plain_parts types parts tests.1 fit.1)
plain_parts types parts test fit = absurd fit

-- contents that fit are those of the canonical texts
pub parts_spell : (types : List FieldType) (parts : List Part) → list_all is_plain_type types ≡ true → FitAll types parts → SpellFields types (map text_of parts) parts
parts_spell [] [] test fit = tt
parts_spell (type ∷ types) (part ∷ parts) test fit =
    let tests = and_parts (is_plain_type type) _ test in
    (part_spells type part tests.0 fit.0, parts_spell types parts tests.1 fit.1)
parts_spell types parts test fit = absurd fit

pub length-parts : (types : List FieldType) (parts : List Part) → FitAll types parts → length parts ≡ length types
length-parts [] [] fit = refl
length-parts (type ∷ types) (part ∷ parts) fit = ap suc (length-parts types parts fit.1)
length-parts types parts fit = absurd fit
