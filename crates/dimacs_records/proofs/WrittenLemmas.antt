-- Records written one after another.
use Rattle.std.proofs.Common.{◌≡◌, ◌<◌, ◌≤◌, ℕ, zero, suc, ◌∷◌, ◌++◌, [], List, Option, length, map, take, slice_get, refl, ap, sym, ◌∙◌, subst, append_assoc, add-one, arith}
use Rattle.std.proofs.{lemmas.Grind.{flat_map-append}, lemmas.List.{append-nil, length-map, take_all}}
use Rattle.std.proofs.lemmas.Option.{slice_get-map}
use Rattle.std.specs.Option.{option_map}
use Rattle.dimacs_lines.specs.{Devices.{Written}, OutputBuffers.{BufferState, IsWritten}}
use Rattle.dimacs_records.specs.declared.records.Record.{Record}
use Rattle.dimacs_records.specs.Canonical.{AreLines, canonical_line, canonical_text, records_of_line}

pub canonical_text-append : (rs more : List Record) → canonical_text (rs ++ more) ≡ canonical_text rs ++ canonical_text more
canonical_text-append rs more = flat_map-append canonical_line rs more

-- one record after other text
pub line_after : (start new : Written) (output : BufferState) (text : List ℕ) (r : Record) → IsWritten start (text ++ canonical_line r) new output → IsWritten start (text ++ canonical_text (r ∷ [])) new output
line_after start new output text r h = subst (λ t. IsWritten start (text ++ t) new output) (sym (append-nil (canonical_line r))) h

-- more records after other text
pub lines_after : (start new : Written) (output : BufferState) (text : List ℕ) (before more all : List Record) → all ≡ before ++ more → IsWritten start ((text ++ canonical_text before) ++ canonical_text more) new output → IsWritten start (text ++ canonical_text all) new output
lines_after start new output text before more all is h =
    let same : (text ++ canonical_text before) ++ canonical_text more ≡ text ++ canonical_text all = append_assoc text (canonical_text before) (canonical_text more) ∙ ap (λ t. text ++ t) (sym (ap canonical_text is ∙ canonical_text-append before more)) in
    subst (λ t. IsWritten start t new output) same h

next_line : (rs : List Record) (i : ℕ) → i < length rs → take (suc i) rs ≡ take i rs ++ records_of_line (slice_get rs i)
next_line [] i within = absurd (omega (arith, within))
next_line (r ∷ rs) zero within = refl
next_line (r ∷ rs) (suc i) within = ap (λ some. r ∷ some) (next_line rs i (omega (arith, within)))

-- a line for each record of a list
pub lines_of_list : (spells : ℕ → Option Record → Type 0) (n : ℕ) (rs : List Record) → n ≤ length rs → ((i : ℕ) (rec : Option Record) → i < n → spells i rec → rec ≡ slice_get rs i) → AreLines spells n (λ i. take i rs)
lines_of_list spells n rs few each = record {
  none = refl;
  more = λ i rec within e. ap (λ k. take k rs) (add-one i) ∙ next_line rs i (omega (arith, within, few)) ∙ ap (λ o. take i rs ++ records_of_line o) (sym (each i rec within e));
}

-- a line for each item of a list
pub lines_of_items : {A : Type 0} (f : A → Record) (spells : ℕ → Option Record → Type 0) (n : ℕ) (xs : List A) → n ≤ length xs → ((i : ℕ) (rec : Option Record) → i < n → spells i rec → rec ≡ option_map f (slice_get xs i)) → AreLines spells n (λ i. take i (map f xs))
lines_of_items f spells n xs few each = lines_of_list spells n (map f xs) (omega (arith, few, length-map xs f)) (λ i rec within e. each i rec within e ∙ sym (slice_get-map f xs i))

-- these are all of them
pub all_items : {A : Type 0} (f : A → Record) (n : ℕ) (xs : List A) → n ≡ length xs → take n (map f xs) ≡ map f xs
all_items f n xs is = take_all n (map f xs) (omega (arith, is, length-map xs f))
