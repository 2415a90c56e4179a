-- Short printable texts, and the line of such texts with one blank between them.
use Rattle.std.proofs.Common.{◌≡◌, ◌+◌, ◌*◌, ◌<◌, ◌≤◌, ◌++◌, ◌∷◌, [], ℕ, suc, List, true, false, length, map, refl, ap, ◌∙◌, arith, length-append}
use Rattle.std.proofs.{lemmas.Bool.{cond_both, eq-eqb, ne_eqb}, lemmas.Bool.Decides.{nat_tests}}
use Rattle.std.proofs.lemmas.List.Elements.{All-nil, All-cons, All-head, All-tail, All-append, All-weaker}
use Rattle.std.specs.{Prelude.{◌==◌}, List.{All, flat_map}, Char.{is_ascii_graphic}}
use Rattle.dimacs_lines.specs.{Lines.{is_end, lines}, Fields.{is_blank, Run, onto_runs, runs_from}}
use Rattle.dimacs_records.specs.{Spelling.{texts_in}, inside.FieldReader.{text_of_run}, Printed.{after_blank}}

-- a printable ASCII byte: no blank and no line end
abbrev pub IsVisible : ℕ → Type 0
IsVisible b = is_ascii_graphic b ≡ true

-- one to forty visible bytes
pub record IsPlain (text : List ℕ) : Type 0 where
  pub some : 0 < length text
  pub visible : All IsVisible text
  pub short : length text ≤ 40

abbrev pub ArePlain : List (List ℕ) → Type 0
ArePlain [] = Unit {0}
ArePlain (text ∷ texts) = IsPlain text × ArePlain texts

no_blank : (b : ℕ) → IsVisible b → is_blank b ≡ false
no_blank b h = grind (arith, nat_tests)

abbrev IsNoEnd : ℕ → Type 0
IsNoEnd b = is_end b ≡ false

no_end : (b : ℕ) → IsVisible b → IsNoEnd b
no_end b h = grind (arith, nat_tests)

-- the first run starts at place i or later
abbrev StartsFrom : ℕ → List Run → Type 0
StartsFrom i [] = Unit {0}
StartsFrom i (run ∷ runs) = i ≤ run.start

starts_later : (i : ℕ) (runs : List Run) → StartsFrom (suc i) runs → StartsFrom i runs
starts_later i [] starts = tt
starts_later i (run ∷ runs) starts = omega arith

onto_starts : (b i : ℕ) (runs : List Run) → StartsFrom i (onto_runs b i runs)
onto_starts b i [] = omega arith
onto_starts b i (run ∷ runs) = cond_both (run.start == suc i) _ _ (StartsFrom i) (λ e. omega arith) (λ e. omega arith)

runs_start : (i : ℕ) (bytes : List ℕ) → StartsFrom i (runs_from i bytes)
runs_start i [] = tt
runs_start i (b ∷ bs) =
    let later = runs_from (suc i) bs in
    cond_both (is_blank b) _ _ (StartsFrom i) (λ e. starts_later i later (runs_start (suc i) bs)) (λ e. onto_starts b i later)

-- nothing stands here, or first a blank
abbrev BeginsBlank : List ℕ → Type 0
BeginsBlank [] = Unit {0}
BeginsBlank (b ∷ bs) = is_blank b ≡ true

past_blank : (i : ℕ) (rest : List ℕ) → BeginsBlank rest → StartsFrom (suc i) (runs_from i rest)
past_blank i [] blank = tt
past_blank i (b ∷ bs) blank = rw blank (runs_start (suc i) bs)

-- a byte is a run by itself if the next run doesn't start right after it
alone : (b i : ℕ) (runs : List Run) → StartsFrom (suc (suc i)) runs → onto_runs b i runs ≡ record { text = b ∷ []; start = i } ∷ runs
alone b i [] starts = refl
alone b i (run ∷ runs) starts = let apart : (run.start == suc i) ≡ false = ne_eqb run.start (suc i) (λ e. omega arith) in rw apart refl

-- visible bytes up to a blank are the first run
first_run : (i j b : ℕ) (bs rest : List ℕ) → All IsVisible (b ∷ bs) → BeginsBlank rest → j ≡ i + length (b ∷ bs)
    → runs_from i ((b ∷ bs) ++ rest) ≡ record { text = b ∷ bs; start = i } ∷ runs_from j rest
first_run i j b [] rest visible blank is =
    let next : j ≡ suc i = omega arith in
    rw (no_blank b (visible 0 b (omega arith)), next) (alone b i (runs_from (suc i) rest) (past_blank (suc i) rest blank))
first_run i j b (c ∷ cs) rest visible blank is =
    let after = first_run (suc i) j c cs rest (All-tail IsVisible b (c ∷ cs) visible) blank (omega arith) in
    rw (no_blank b (visible 0 b (omega arith)), after, eq-eqb (suc i) (suc i) refl) refl

texts_from : (i : ℕ) (text : List ℕ) (texts : List (List ℕ)) → IsPlain text → ArePlain texts → map text_of_run (runs_from i (text ++ flat_map after_blank texts)) ≡ text ∷ texts
texts_from i [] texts plain more = absurd (omega (arith, plain.some))
texts_from i (b ∷ bs) [] plain more = ap (map text_of_run) (first_run i (i + length (b ∷ bs)) b bs [] plain.visible tt refl)
texts_from i (b ∷ bs) (text ∷ texts) plain more =
    let next = i + length (b ∷ bs) in
    ap (map text_of_run) (first_run i next b bs (flat_map after_blank (text ∷ texts)) plain.visible refl refl)
    ∙ ap (λ more. (b ∷ bs) ∷ more) (texts_from (suc next) text texts more.0 more.1)

-- the fields of a line of such texts with one blank between them
pub texts_in-spaced : (text : List ℕ) (texts : List (List ℕ)) → IsPlain text → ArePlain texts → texts_in (text ++ flat_map after_blank texts) ≡ text ∷ texts
texts_in-spaced = texts_from 0

plain_ends : (text : List ℕ) → IsPlain text → All IsNoEnd text
plain_ends text plain = All-weaker IsVisible IsNoEnd no_end text plain.visible

after_ends : (texts : List (List ℕ)) → ArePlain texts → All IsNoEnd (flat_map after_blank texts)
after_ends [] plain = All-nil IsNoEnd
after_ends (text ∷ texts) plain =
    All-cons IsNoEnd 32 _ refl (All-append IsNoEnd text (flat_map after_blank texts) (plain_ends text plain.0) (after_ends texts plain.1))

lines_first : (line rest : List ℕ) → All IsNoEnd line → lines (line ++ 10 ∷ rest) ≡ line ∷ lines rest
lines_first [] rest no_ends = refl
lines_first (b ∷ bs) rest no_ends = rw (All-head IsNoEnd b bs no_ends, lines_first bs rest (All-tail IsNoEnd b bs no_ends)) refl

pub lines-spaced : (text : List ℕ) (texts : List (List ℕ)) (rest : List ℕ) → IsPlain text → ArePlain texts
    → lines ((text ++ flat_map after_blank texts) ++ 10 ∷ rest) ≡ (text ++ flat_map after_blank texts) ∷ lines rest
lines-spaced text texts rest plain more =
    lines_first (text ++ flat_map after_blank texts) rest (All-append IsNoEnd text (flat_map after_blank texts) (plain_ends text plain) (after_ends texts more))

length-after_blanks : (texts : List (List ℕ)) → ArePlain texts → length (flat_map after_blank texts) ≤ 41 * length texts
length-after_blanks [] plain = omega arith
length-after_blanks (text ∷ texts) plain = omega (arith, length-append text (flat_map after_blank texts), plain.0.short, length-after_blanks texts plain.1)

pub length-spaced : (text : List ℕ) (texts : List (List ℕ)) → IsPlain text → ArePlain texts → length (text ++ flat_map after_blank texts) ≤ 40 + 41 * length texts
length-spaced text texts plain more = omega (arith, length-append text (flat_map after_blank texts), plain.short, length-after_blanks texts more)
