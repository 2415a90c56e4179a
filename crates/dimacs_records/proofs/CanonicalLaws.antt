-- The canonical lines of records spell exactly these records.
use Rattle.std.proofs.Common.{◌≡◌, ◌≤◌, ◌++◌, ◌∷◌, [], ℕ, suc, List, Some, false, length, map, refl, ap, ◌∙◌, arith, append_assoc}
use Rattle.std.proofs.{lemmas.List.{length-map}, lemmas.List.Elements.{All-head, All-tail, All-map, All-weaker}}
use Rattle.std.specs.List.{All, flat_map}
use Rattle.dimacs_lines.specs.{Lines.{lines}, Limits.{longest_line, most_lines}}
use Rattle.dimacs_records.specs.{declared.kinds.TextKind.{TextKind}, declared.records.Record.{Record}, Faults.{Spell}}
use Rattle.dimacs_records.specs.{Spelling.{SpellsRecord, letter_of, parts_of, texts_in, is_skip}, Printed.{after_blank}}
use Rattle.dimacs_records.specs.{Canonical.{text_of, canonical_line, canonical_text, CanBeSpelled}, Texts.{AreSpelled}}
use Rattle.dimacs_records.specs.Readings.{numbered, records_of}
use Rattle.dimacs_records.proofs.PlainLines.{IsPlain, ArePlain, texts_in-spaced, lines-spaced, length-spaced}
use Rattle.dimacs_records.proofs.PlainForms.{IsPlainForm, plain_form, plain_parts, parts_spell, length-parts}

-- the line of a record without its byte 10
abbrev body_of : Record → List ℕ
body_of r = letter_of r ++ flat_map after_blank (map text_of (parts_of r))

-- the same bytes, cut before byte 10
regrouped : (letter fields rest : List ℕ) → (letter ++ (fields ++ 10 ∷ [])) ++ rest ≡ (letter ++ fields) ++ 10 ∷ rest
regrouped letter fields rest = simp append_assoc

-- for one record that some line of the kind can spell
module _ (kind : TextKind) (r : Record) (can : CanBeSpelled kind r) where
  form_is : IsPlainForm can.form
  form_is = plain_form kind can.form can.of_kind

  letter_is : IsPlain (letter_of r)
  letter_is = rw can.letter form_is.letter

  parts_are : ArePlain (map text_of (parts_of r))
  parts_are = plain_parts can.form.types (parts_of r) form_is.types can.fit

  texts_in-body : texts_in (body_of r) ≡ letter_of r ∷ map text_of (parts_of r)
  texts_in-body = texts_in-spaced (letter_of r) (map text_of (parts_of r)) letter_is parts_are

  lines-canonical : (rest : List ℕ) → lines (canonical_line r ++ rest) ≡ body_of r ∷ lines rest
  lines-canonical rest =
      ap lines (regrouped (letter_of r) (flat_map after_blank (map text_of (parts_of r))) rest) ∙ lines-spaced (letter_of r) (map text_of (parts_of r)) rest letter_is parts_are

  body_spells : SpellsRecord kind (texts_in (body_of r)) r
  body_spells = record {
    form = can.form;
    after = map text_of (parts_of r);
    of_kind = can.of_kind;
    for_kind = can.for_kind;
    letter = can.letter;
    begins = texts_in-body ∙ ap (λ letter. letter ∷ map text_of (parts_of r)) can.letter;
    spells = parts_spell can.form.types (parts_of r) form_is.types can.fit;
  }

  is_skip-body : is_skip (texts_in (body_of r)) ≡ false
  is_skip-body = rw (texts_in-body, can.letter) form_is.no_comment

  short_body : length (body_of r) ≤ longest_line
  short_body = omega (arith, length-spaced (letter_of r) (map text_of (parts_of r)) letter_is parts_are, length-map (parts_of r) text_of, length-parts can.form.types (parts_of r) can.fit, form_is.few)

abbrev IsShort : List ℕ → Type 0
IsShort line = length line ≤ longest_line

lines-canonical_text : (kind : TextKind) (rs : List Record) → All (CanBeSpelled kind) rs → lines (canonical_text rs) ≡ map body_of rs
lines-canonical_text kind [] can = refl
lines-canonical_text kind (r ∷ rs) can =
    lines-canonical kind r (All-head (CanBeSpelled kind) r rs can) (canonical_text rs) ∙ ap (λ more. body_of r ∷ more) (lines-canonical_text kind rs (All-tail (CanBeSpelled kind) r rs can))

short_bodies : (kind : TextKind) (rs : List Record) → All (CanBeSpelled kind) rs → All IsShort (map body_of rs)
short_bodies kind rs can = All-map IsShort body_of rs (All-weaker (CanBeSpelled kind) (λ (r : Record). IsShort (body_of r)) (short_body kind) rs can)

bodies_spell : (kind : TextKind) (rs : List Record) → All (CanBeSpelled kind) rs → Spell kind (map body_of rs) (map (λ (r : Record). Some r) rs)
bodies_spell kind [] can = tt
bodies_spell kind (r ∷ rs) can =
    let first = All-head (CanBeSpelled kind) r rs can in
    (is_skip-body kind r first, body_spells kind r first, bodies_spell kind rs (All-tail (CanBeSpelled kind) r rs can))

pub canonical_spelled : (kind : TextKind) (rs : List Record) → All (CanBeSpelled kind) rs → length rs ≤ most_lines
    → AreSpelled kind (lines (canonical_text rs)) (map (λ (r : Record). Some r) rs)
canonical_spelled kind rs can few =
    rw (lines-canonical_text kind rs can) (record { few = rw (length-map rs body_of) few; short = short_bodies kind rs can; spell = bodies_spell kind rs can })

records_of-numbered : (n : ℕ) (rs : List Record) → records_of (numbered n (map (λ (r : Record). Some r) rs)) ≡ rs
records_of-numbered n [] = refl
records_of-numbered n (r ∷ rs) = ap (λ more. r ∷ more) (records_of-numbered (suc n) rs)

pub numbered_all : (rs : List Record) → records_of (numbered 1 (map (λ (r : Record). Some r) rs)) ≡ rs
numbered_all = records_of-numbered 1
