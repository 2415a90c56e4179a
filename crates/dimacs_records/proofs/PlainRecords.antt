-- The record of a line in the plain form.
use Rattle.std.proofs.Common.{◌≡◌, ◌+◌, ◌-◌, ◌^◌, ◌<◌, ◌≤◌, ◌++◌, ◌∷◌, [], ℕ, List, Bool, true, false, length, drop, refl, ap, sym, ◌∙◌, subst, arith, append_assoc, SFits, w64}
use Rattle.std.proofs.{lemmas.Bool.{and_parts, cond_both}, lemmas.Bool.Decides.{nat_tests}, lemmas.Int.{ints}}
use Rattle.std.proofs.lemmas.List.{append-nil, length-append}
use Rattle.std.proofs.lemmas.List.Elements.{All-nil, All-cons, All-head, All-tail, All-weaker}
use Rattle.std.specs.{Prelude.{◌==◌, ◌||◌, ℤ, pos, neg_ℤ}, List.{All, flat_map, list_all, Contains}}
use Rattle.std.specs.Char.{IsAsciiDigit}
use Rattle.dimacs_lines.specs.{Number.{Spells, IsWithin}, Plain.{StandsAt}, Limits.{most_nodes}}
use Rattle.dimacs_records.specs.{declared.kinds.TextKind.{TextKind}, declared.records.Record.{Record}}
use Rattle.dimacs_records.specs.Forms.{FieldType, Word, Either, Number, Id, Whole, Wide, Form, forms}
use Rattle.dimacs_records.specs.{inside.Plain.{Stand, IsPlainLine, SpellsFirst}, Printed.{after_blank}}
use Rattle.dimacs_records.specs.Spelling.{Part, Text, Amount, SpellsField, SpellFields, kind_of, letter_of, parts_of, texts_in, is_comment}
use Rattle.dimacs_records.proofs.{DecimalLemmas.{visible_digit}, PlainForms.{IsPlainForm, plain_form}}
use Rattle.dimacs_records.proofs.PlainLines.{IsVisible, IsPlain, ArePlain, texts_in-spaced, lines-spaced, length-spaced}

visible_sign : (b : ℕ) → (b == 43 || b == 45) ≡ true → IsVisible b
visible_sign b h = grind (arith, nat_tests)

-- a number consists of visible bytes
spells_plain : (text : List ℕ) (n : ℤ) → Spells text n → length text ≤ 40 → IsPlain text
spells_plain [] n h short = absurd (omega (arith, h.0.0))
spells_plain (b ∷ bs) n h short =
    let visible = cond_both (b == 43 || b == 45) bs (b ∷ bs) (λ digits. All IsAsciiDigit digits → All IsVisible (b ∷ bs))
    (λ sign is. All-cons IsVisible b bs (visible_sign b sign) (All-weaker IsAsciiDigit IsVisible visible_digit bs is)) (λ _ is. All-weaker IsAsciiDigit IsVisible visible_digit (b ∷ bs) is) in
    record { some = omega arith; visible = visible h.0.1; short = short }

abbrev is_number : FieldType → Bool
is_number (Number low high) = true
is_number type = false

abbrev IsShort : List ℕ → Type 0
IsShort text = length text ≤ 40

field_plain : (type : FieldType) (text : List ℕ) (part : Part) → is_number type ≡ true → SpellsField type text part → IsShort text → IsPlain text
field_plain (Number low high) text (Amount n) is spells short = spells_plain text n spells.0 short
field_plain (Number low high) text (Text word) is spells short = absurd spells
field_plain (Word w) text part is spells short = absurd (cc)
field_plain (Either v w) text part is spells short = absurd (cc)

fields_plain : (types : List FieldType) (texts : List (List ℕ)) (parts : List Part) → list_all is_number types ≡ true → SpellFields types texts parts → All IsShort texts → ArePlain texts
fields_plain [] [] [] are say short = tt
fields_plain (type ∷ types) (text ∷ texts) (part ∷ parts) are say short =
    let both = and_parts (is_number type) _ are in
    (field_plain type text part both.0 say.0 (All-head IsShort text texts short), fields_plain types texts parts both.1 say.1 (All-tail IsShort text texts short))
fields_plain types texts parts are say short = absurd say

record StandsSo (bytes : List ℕ) (at : ℕ) (body : List ℕ) (next : ℕ) : Type 0 where
  there : drop at bytes ≡ body ++ 10 ∷ drop next bytes
  passed : next ≡ at + length body + 1
  within : next ≤ length bytes

-- texts that stand one after another, as one text
stand_so : (bytes : List ℕ) (at : ℕ) (text : List ℕ) (texts : List (List ℕ)) (next : ℕ) → Stand bytes at (text ∷ texts) next → StandsSo bytes at (text ++ flat_map after_blank texts) next
stand_so bytes at text [] next ends =
    let whole : text ≡ text ++ [] = sym (append-nil text) in
    subst (λ body. StandsSo bytes at body next) whole (record { there = ends.there; passed = ends.passed; within = ends.within })
stand_so bytes at text (other ∷ texts) next (mid, ends, more) =
    let later = stand_so bytes mid other texts next more in
    let body = other ++ flat_map after_blank texts in
    record {
      there = ends.there ∙ (ap (λ ys. text ++ 32 ∷ ys) later.there ∙ sym (append_assoc text (32 ∷ body) (10 ∷ drop next bytes)));
      passed = omega (arith, ends.passed, later.passed, length-append text (32 ∷ body));
      within = later.within;
    }

-- a line of one of the kind's forms, with only numbers
module _ (kind : TextKind) (form : Form) (bytes : List ℕ) (letter : ℕ) (size : ℕ) (r : Record) where
  spaced : (text : List ℕ) (texts : List (List ℕ)) → Contains (forms kind) form → kind_of r ≡ kind → letter_of r ≡ form.letter → form.letter ≡ letter ∷ [] → list_all is_number form.types ≡ true
      → bytes ≡ letter ∷ 32 ∷ drop 2 bytes → Stand bytes 2 (text ∷ texts) size → All IsShort (text ∷ texts) → SpellFields form.types (text ∷ texts) (parts_of r) → length texts ≤ 40 → SpellsFirst kind bytes r size
  spaced text texts among of_kind of_letter is_letter numbers begins stand short spells few =
      let fields = text ∷ texts in
      let so = stand_so bytes 2 text texts size stand in
      let plain : IsPlainForm form = plain_form kind form among in
      let letter_plain : IsPlain (letter ∷ []) = subst IsPlain is_letter plain.letter in
      let solid : is_comment (letter ∷ []) ≡ false = subst (λ l. is_comment l ≡ false) is_letter plain.no_comment in
      let are : ArePlain fields = fields_plain form.types fields (parts_of r) numbers spells short in
      let line = (letter ∷ []) ++ flat_map after_blank fields in
      let read : texts_in line ≡ (letter ∷ []) ∷ fields = texts_in-spaced (letter ∷ []) fields letter_plain are in
      record {
        line = line;
        there = begins ∙ ap (λ ys. letter ∷ 32 ∷ ys) so.there;
        size_is = omega (arith, so.passed);
        within = so.within;
        first = λ rest. lines-spaced (letter ∷ []) fields rest letter_plain are;
        short = omega (arith, length-spaced (letter ∷ []) fields letter_plain are, few);
        reads = (
          rw read solid,
          record {
            form = form;
            after = fields;
            of_kind = among;
            for_kind = of_kind;
            letter = of_letter;
            begins = read ∙ ap (λ l. l ∷ fields) (sym is_letter);
            spells = spells;
          },
        );
      }

  by_texts : (texts : List (List ℕ)) → Contains (forms kind) form → kind_of r ≡ kind → letter_of r ≡ form.letter → form.letter ≡ letter ∷ [] → list_all is_number form.types ≡ true
      → bytes ≡ letter ∷ 32 ∷ drop 2 bytes → Stand bytes 2 texts size → All IsShort texts → SpellFields form.types texts (parts_of r) → length texts ≤ 40 → SpellsFirst kind bytes r size
  by_texts [] among of_kind of_letter is_letter numbers begins stand short spells few = absurd stand
  by_texts (text ∷ texts) among of_kind of_letter is_letter numbers begins stand short spells few = spaced text texts among of_kind of_letter is_letter numbers begins stand short spells (omega (arith, few))

as_many : (types : List FieldType) (texts : List (List ℕ)) (parts : List Part) → SpellFields types texts parts → length texts ≡ length types
as_many [] [] [] say = refl
as_many (type ∷ types) (text ∷ texts) (part ∷ parts) say = omega (arith, as_many types texts parts say.1)
as_many types texts parts say = absurd say

-- a plain line with a form of its kind spells its record
pub plain_spells : (kind : TextKind) (form : Form) (bytes : List ℕ) (letter : ℕ) (size : ℕ) (r : Record) → Contains (forms kind) form → kind_of r ≡ kind → letter_of r ≡ form.letter → form.letter ≡ letter ∷ [] → list_all is_number form.types ≡ true
    → IsPlainLine bytes letter form.types (parts_of r) size → SpellsFirst kind bytes r size
plain_spells kind form bytes letter size r among of_kind of_letter is_letter numbers h =
    let few : length form.types ≤ 5 = (plain_form kind form among).few in
    by_texts kind form bytes letter size r h.texts among of_kind of_letter is_letter numbers h.begins h.stand h.short h.spells (omega (arith, few, as_many form.types h.texts (parts_of r) h.spells))

within_id : (id : ℕ) → 1 ≤ id → id < 100000000 → IsWithin (pos 1) (pos most_nodes) (pos id)
within_id id some few = (omega (arith, ints), omega (arith, ints))

within_whole : (n : ℤ) → SFits w64 n → IsWithin (neg_ℤ (pos (2 ^ 63))) (pos (2 ^ 63 - 1)) n
within_whole n fits = (omega (arith, ints, fits.sfits), omega (arith, ints, fits.sfits))

-- two nodes and a number: a blank after each node, a line end after the number
pub ends_stand : (bytes : List ℕ) (letter tail head after_tail after_head size : ℕ) (n : ℤ) → bytes ≡ letter ∷ 32 ∷ drop 2 bytes → StandsAt bytes 2 32 (pos tail) after_tail → (1 ≤ tail) × (tail < 100000000)
    → StandsAt bytes after_tail 32 (pos head) after_head → (1 ≤ head) × (head < 100000000) → StandsAt bytes after_head 10 n size → SFits w64 n
    → IsPlainLine bytes letter (Id ∷ Id ∷ Whole ∷ []) (Amount (pos tail) ∷ Amount (pos head) ∷ Amount n ∷ []) size
ends_stand bytes letter tail head after_tail after_head size n begins at_tail tail_range at_head head_range at_n fits = record {
  texts = at_tail.text ∷ at_head.text ∷ at_n.text ∷ [];
  begins = begins;
  stand = (after_tail, at_tail.ends, (after_head, at_head.ends, at_n.ends));
  short = All-cons IsShort at_tail.text (at_head.text ∷ at_n.text ∷ []) at_tail.short (All-cons IsShort at_head.text (at_n.text ∷ []) at_head.short (All-cons IsShort at_n.text [] at_n.short (All-nil IsShort)));
  spells = ((at_tail.spelled, within_id tail tail_range.0 tail_range.1), ((at_head.spelled, within_id head head_range.0 head_range.1), ((at_n.spelled, within_whole n fits), tt)));
}

-- a node alone
pub node_stands : (bytes : List ℕ) (letter id size : ℕ) → bytes ≡ letter ∷ 32 ∷ drop 2 bytes → StandsAt bytes 2 10 (pos id) size → (1 ≤ id) × (id < 100000000) → IsPlainLine bytes letter (Id ∷ []) (Amount (pos id) ∷ []) size
node_stands bytes letter id size begins at_id id_range = record {
  texts = at_id.text ∷ [];
  begins = begins;
  stand = at_id.ends;
  short = All-cons IsShort at_id.text [] at_id.short (All-nil IsShort);
  spells = ((at_id.spelled, within_id id id_range.0 id_range.1), tt);
}

-- two nodes alone
pub pair_stands : (bytes : List ℕ) (letter tail head after_tail size : ℕ) → bytes ≡ letter ∷ 32 ∷ drop 2 bytes → StandsAt bytes 2 32 (pos tail) after_tail → (1 ≤ tail) × (tail < 100000000)
    → StandsAt bytes after_tail 10 (pos head) size → (1 ≤ head) × (head < 100000000) → IsPlainLine bytes letter (Id ∷ Id ∷ []) (Amount (pos tail) ∷ Amount (pos head) ∷ []) size
pair_stands bytes letter tail head after_tail size begins at_tail tail_range at_head head_range = record {
  texts = at_tail.text ∷ at_head.text ∷ [];
  begins = begins;
  stand = (after_tail, at_tail.ends, at_head.ends);
  short = All-cons IsShort at_tail.text (at_head.text ∷ []) at_tail.short (All-cons IsShort at_head.text [] at_head.short (All-nil IsShort));
  spells = ((at_tail.spelled, within_id tail tail_range.0 tail_range.1), ((at_head.spelled, within_id head head_range.0 head_range.1), tt));
}

within_wide : (n : ℤ) → IsWithin (neg_ℤ (pos (2 ^ 63))) (pos (2 ^ 63 - 1)) n → IsWithin (neg_ℤ (pos (10 ^ 30))) (pos (10 ^ 30)) n
within_wide n within = (omega (arith, ints, within.0), omega (arith, ints, within.1))

-- a node and a number
pub value_stands : (bytes : List ℕ) (letter id after_id size : ℕ) (n : ℤ) → bytes ≡ letter ∷ 32 ∷ drop 2 bytes → StandsAt bytes 2 32 (pos id) after_id → (1 ≤ id) × (id < 100000000) → StandsAt bytes after_id 10 n size → SFits w64 n
    → IsPlainLine bytes letter (Id ∷ Whole ∷ []) (Amount (pos id) ∷ Amount n ∷ []) size
value_stands bytes letter id after_id size n begins at_id id_range at_n fits = record {
  texts = at_id.text ∷ at_n.text ∷ [];
  begins = begins;
  stand = (after_id, at_id.ends, at_n.ends);
  short = All-cons IsShort at_id.text (at_n.text ∷ []) at_id.short (All-cons IsShort at_n.text [] at_n.short (All-nil IsShort));
  spells = ((at_id.spelled, within_id id id_range.0 id_range.1), ((at_n.spelled, within_whole n fits), tt));
}

widened : (id n : ℤ) (texts : List (List ℕ)) → SpellFields (Id ∷ Whole ∷ []) texts (Amount id ∷ Amount n ∷ []) → SpellFields (Id ∷ Wide ∷ []) texts (Amount id ∷ Amount n ∷ [])
widened id n [] say = absurd say
widened id n (text ∷ []) say = absurd say.1
widened id n (text ∷ other ∷ []) say = (say.0, ((say.1.0.0, within_wide n say.1.0.1), tt))
widened id n (text ∷ other ∷ third ∷ texts) say = absurd say.1.1

-- a 64-bit number in place of a 128-bit one
pub value_widened : (bytes : List ℕ) (letter id : ℕ) (n : ℤ) (size : ℕ) → IsPlainLine bytes letter (Id ∷ Whole ∷ []) (Amount (pos id) ∷ Amount n ∷ []) size → IsPlainLine bytes letter (Id ∷ Wide ∷ []) (Amount (pos id) ∷ Amount n ∷ []) size
value_widened bytes letter id n size line = record { texts = line.texts; begins = line.begins; stand = line.stand; short = line.short; spells = widened (pos id) n line.texts line.spells }

-- a node, a number and a node
pub label_stands : (bytes : List ℕ) (id pred after_id after_dist size : ℕ) (dist : ℤ) → bytes ≡ 100 ∷ 32 ∷ drop 2 bytes → StandsAt bytes 2 32 (pos id) after_id → (1 ≤ id) × (id < 100000000)
    → StandsAt bytes after_id 32 dist after_dist → SFits w64 dist → StandsAt bytes after_dist 10 (pos pred) size → (1 ≤ pred) × (pred < 100000000)
    → IsPlainLine bytes 100 (Id ∷ Wide ∷ Id ∷ []) (Amount (pos id) ∷ Amount dist ∷ Amount (pos pred) ∷ []) size
label_stands bytes id pred after_id after_dist size dist begins at_id id_range at_dist fits at_pred pred_range = record {
  texts = at_id.text ∷ at_dist.text ∷ at_pred.text ∷ [];
  begins = begins;
  stand = (after_id, at_id.ends, (after_dist, at_dist.ends, at_pred.ends));
  short = All-cons IsShort at_id.text (at_dist.text ∷ at_pred.text ∷ []) at_id.short (All-cons IsShort at_dist.text (at_pred.text ∷ []) at_dist.short (All-cons IsShort at_pred.text [] at_pred.short (All-nil IsShort)));
  spells = ((at_id.spelled, within_id id id_range.0 id_range.1), ((at_dist.spelled, within_wide dist (within_whole dist fits)), ((at_pred.spelled, within_id pred pred_range.0 pred_range.1), tt)));
}

-- two nodes and three numbers
pub bounds_stand : (bytes : List ℕ) (tail head after_tail after_head after_low after_cap size : ℕ) (low cap cost : ℤ) → bytes ≡ 97 ∷ 32 ∷ drop 2 bytes → StandsAt bytes 2 32 (pos tail) after_tail → (1 ≤ tail) × (tail < 100000000)
    → StandsAt bytes after_tail 32 (pos head) after_head → (1 ≤ head) × (head < 100000000) → StandsAt bytes after_head 32 low after_low → SFits w64 low → StandsAt bytes after_low 32 cap after_cap → SFits w64 cap → StandsAt bytes after_cap 10 cost size → SFits w64 cost
    → IsPlainLine bytes 97 (Id ∷ Id ∷ Whole ∷ Whole ∷ Whole ∷ []) (Amount (pos tail) ∷ Amount (pos head) ∷ Amount low ∷ Amount cap ∷ Amount cost ∷ []) size
bounds_stand bytes tail head after_tail after_head after_low after_cap size low cap cost begins at_tail tail_range at_head head_range at_low low_fits at_cap cap_fits at_cost cost_fits =
    let low_and_later : List (List ℕ) = at_low.text ∷ at_cap.text ∷ at_cost.text ∷ [] in
    let short : All IsShort low_and_later = All-cons IsShort at_low.text (at_cap.text ∷ at_cost.text ∷ []) at_low.short (All-cons IsShort at_cap.text (at_cost.text ∷ []) at_cap.short (All-cons IsShort at_cost.text [] at_cost.short (All-nil IsShort))) in
    record {
      texts = at_tail.text ∷ at_head.text ∷ low_and_later;
      begins = begins;
      stand = (after_tail, at_tail.ends, (after_head, at_head.ends, (after_low, at_low.ends, (after_cap, at_cap.ends, at_cost.ends))));
      short = All-cons IsShort at_tail.text (at_head.text ∷ low_and_later) at_tail.short (All-cons IsShort at_head.text low_and_later at_head.short short);
      spells = (
        (at_tail.spelled, within_id tail tail_range.0 tail_range.1),
        ((at_head.spelled, within_id head head_range.0 head_range.1), ((at_low.spelled, within_whole low low_fits), ((at_cap.spelled, within_whole cap cap_fits), ((at_cost.spelled, within_whole cost cost_fits), tt)))),
      );
    }
