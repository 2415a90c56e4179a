-- The content of a field, and why it is refused.
use Rattle.std.proofs.Common.{◌≡◌, ℕ, ◌∷◌, [], List, Bool, true, false, Option, Some, None, Err, length, refl, arith, inl, inr, SFits, w64, ◌^◌, ◌-◌}
use Rattle.std.proofs.lemmas.Bool.{false_from_ne_true, ltb-true, lt-ltb, and_from, and_right, or_from, eq-eqb, and_parts}
use Rattle.std.proofs.{lemmas.Bool.Decides.{nat_tests}, lemmas.List.Sums.{AllPass-from_list_all, list_all-from_AllPass}}
use Rattle.std.proofs.{lemmas.List.Elements.{All-weaker}, lemmas.Int.{ints}}
use Rattle.std.specs.{Prelude.{ℤ, pos, neg_ℤ, ◌≤ℤ◌, int_lt, ◌||◌, not, nat_lt}, List.{list_all}, Str.{bytes_eq}}
use Rattle.std.specs.Char.{IsAsciiDigit, is_ascii_digit}
use Rattle.dimacs_lines.specs.Number.{digits_of, IsNumber, number_in, IsWithin, Spells, ReadsNumber}
use Rattle.dimacs_lines.specs.declared.numbers.NumberFault.{NumberFault}
use Rattle.dimacs_records.specs.{declared.reasons.Reason.TheVariants.{NumberRange}, Shapes.{is_number}}
use Rattle.dimacs_records.specs.{Forms.{FieldType, Word, Either, Number}, Spelling.{Part, Text, Amount, SpellsField}}
use Rattle.dimacs_records.specs.{inside.FieldReader.{field_reason, number_reason}, Earlier.{or_else}}
use Rattle.dimacs_lines.proofs.DigitLemmas.{digit_from}
use Rattle.dimacs_lines.specs.declared.numbers.NumberFault.TheVariants as number_faults

digit_to : (b : ℕ) → IsAsciiDigit b → is_ascii_digit b ≡ true
digit_to b h = grind (arith, nat_tests, h.0, h.1)

number_from : (text : List ℕ) → is_number text ≡ true → IsNumber text
number_from text h =
    let p = and_parts (nat_lt 0 (length (digits_of text))) (list_all is_ascii_digit (digits_of text)) h in
    (ltb-true 0 (length (digits_of text)) p.0, All-weaker (λ b. is_ascii_digit b ≡ true) IsAsciiDigit digit_from (digits_of text) (AllPass-from_list_all is_ascii_digit (digits_of text) p.1))

number_to : (text : List ℕ) → IsNumber text → is_number text ≡ true
number_to text h = and_from (nat_lt 0 (length (digits_of text))) (list_all is_ascii_digit (digits_of text)) (lt-ltb 0 (length (digits_of text)) h.0)
    (list_all-from_AllPass is_ascii_digit (digits_of text) (All-weaker IsAsciiDigit (λ b. is_ascii_digit b ≡ true) digit_to (digits_of text) h.1))

no_number : (text : List ℕ) → ¬ IsNumber text → is_number text ≡ false
no_number text h = false_from_ne_true (is_number text) (λ e. h (number_from text e))

not_below : (a b : ℤ) → a ≤ℤ b → int_lt b a ≡ false
not_below a b h = false_from_ne_true (int_lt b a) (λ below. omega (arith, ints, h, below))

inside : (low high n : ℤ) → IsWithin low high n → (int_lt n low || int_lt high n) ≡ false
inside low high n h = or_from (int_lt n low) (int_lt high n) (not_below low n h.0) (not_below n high h.1)

outside : (low high n : ℤ) → ¬ IsWithin low high n → (int_lt n low || int_lt high n) ≡ true
outside low high n h = by_tests (int_lt n low) (int_lt high n) refl refl
  where
    by_tests : (s t : Bool) → int_lt n low ≡ s → int_lt high n ≡ t → (s || t) ≡ true
    by_tests true t d e = refl
    by_tests false true d e = refl
    by_tests false false d e = absurd (h (omega (arith, ints, d), omega (arith, ints, e)))

pub same_bytes : (w : List ℕ) → bytes_eq w w ≡ true
same_bytes [] = refl
same_bytes (b ∷ bs) = rw (eq-eqb b b refl) (same_bytes bs)

-- a field with a content has no reason to be refused
pub field_reason-said : (type : FieldType) (text : List ℕ) (part : Part) → SpellsField type text part → field_reason type text ≡ None
field_reason-said (Word w) text (Text word) h = rw (h.0, same_bytes w) refl
field_reason-said (Either v w) text (Text word) h = elim h.0 [
  | inl e ↦ rw (e, same_bytes v) refl
  | inr e ↦ rw (e, same_bytes w, and_right (not (bytes_eq v w)) false refl) refl
]
field_reason-said (Number low high) text (Amount n) h = rw (number_to text h.0.0, ← h.0.1, inside low high n h.1) refl
field_reason-said (Word w) text (Amount n) h = absurd h
field_reason-said (Either v w) text (Amount n) h = absurd h
field_reason-said (Number low high) text (Text word) h = absurd h

-- a field with no number, or one outside the range
pub field_reason-refused : (low high : ℤ) (text : List ℕ) (fault : NumberFault) → ReadsNumber low high text (Err fault) → field_reason (Number low high) text ≡ Some (number_reason fault)
field_reason-refused low high text number_faults.BadNumber h = rw (no_number text h) refl
field_reason-refused low high text number_faults.NumberRange h = rw (number_to text h.0, outside low high (number_in text) h.1) refl

-- a field with a number below or above the range
pub field_reason-low : (low high n : ℤ) (text : List ℕ) → Spells text n → int_lt n low ≡ true → field_reason (Number low high) text ≡ Some NumberRange
field_reason-low low high n text h below = rw (number_to text h.0, ← h.1, below) refl

pub field_reason-high : (low high n : ℤ) (text : List ℕ) → Spells text n → int_lt n low ≡ false → int_lt high n ≡ true → field_reason (Number low high) text ≡ Some NumberRange
field_reason-high low high n text h not_below above = rw (number_to text h.0, ← h.1, not_below, above) refl

-- a text that is no 64-bit number isn't one of a smaller range
pub refused_within : (low high : ℤ) (text : List ℕ) (fault : NumberFault) → SFits w64 low → SFits w64 high → ReadsNumber (neg_ℤ (pos (2 ^ 63))) (pos (2 ^ 63 - 1)) text (Err fault) → ReadsNumber low high text (Err fault)
refused_within low high text number_faults.BadNumber f g h = h
refused_within low high text number_faults.NumberRange f g h = (h.0, λ within. h.1 (omega (arith, ints, within.0, f.sfits), omega (arith, ints, within.1, g.sfits)))

-- a text that is no 128-bit number is no RADIUS
pub refused_radius : (text : List ℕ) (fault : NumberFault) → ReadsNumber (neg_ℤ (pos (10 ^ 30))) (pos (10 ^ 30)) text (Err fault) → ReadsNumber (pos 0) (pos (10 ^ 30)) text (Err fault)
refused_radius text number_faults.BadNumber h = h
refused_radius text number_faults.NumberRange h = (h.0, λ within. h.1 (omega (arith, ints, within.0), within.1))

pub or_else-none : {X : Type 0} → (o : Option X) → or_else o None ≡ o
or_else-none None = refl
or_else-none (Some x) = refl
