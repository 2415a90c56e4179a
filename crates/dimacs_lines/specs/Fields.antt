-- The fields of a line.
use Rattle.std.specs.Prelude.{ℕ, suc, ◌+◌, ◌<◌, ◌≤◌, ◌≡◌, ◌≢◌, ◌==◌, Bool, false, ◌||◌, List, [], ◌∷◌, length, slice_range, slice_index, if◌then◌else◌}
use Rattle.std.specs.List.{All, Any}

-- blanks are the bytes 32, 9 and 13
abbrev pub is_blank : ℕ → Bool
is_blank b = b == 32 || b == 9 || b == 13

-- a run: successive bytes of a line, and the place of the first
pub record Run : Type 0 where
  pub text : List ℕ
  pub start : ℕ

-- a byte at place i joins the first of the later runs if that starts right after it; otherwise it is a run by itself
abbrev pub onto_runs : ℕ → ℕ → List Run → List Run
onto_runs b i [] = record { text = b ∷ []; start = i } ∷ []
onto_runs b i (run ∷ runs) = if run.start == suc i then record { text = b ∷ run.text; start = i } ∷ runs else record { text = b ∷ []; start = i } ∷ run ∷ runs

-- the maximal runs without blanks; the first byte has place i
abbrev pub runs_from : ℕ → List ℕ → List Run
runs_from i [] = []
runs_from i (b ∷ bs) = if is_blank b then runs_from (suc i) bs else onto_runs b i (runs_from (suc i) bs)

abbrev pub fields_of : List ℕ → List Run
fields_of line = runs_from 0 line

-- at least one byte stands between each run and the next
abbrev pub AreApart : List Run → Type 0
AreApart [] = Unit {0}
AreApart (run ∷ []) = Unit {0}
AreApart (run ∷ next ∷ runs) = (run.start + length run.text < next.start) × AreApart (next ∷ runs)

abbrev pub IsInRun : ℕ → Run → Type 0
IsInRun place run = (run.start ≤ place) × (place < run.start + length run.text)

-- the fields of a line, defined without a scan: what `runs_from` computes
pub record AreFields (line : List ℕ) (runs : List Run) : Type 0 where
  pub some : All (λ (run : Run). run.text ≢ []) runs
  pub no_blank : All (λ (run : Run). All (λ b. is_blank b ≡ false) run.text) runs
  pub in_place : All (λ (run : Run). slice_range line run.start (run.start + length run.text) ≡ run.text) runs
  pub apart : AreApart runs
  pub none_left_out : (place : ℕ) → place < length line → is_blank (slice_index line place) ≡ false → Any (IsInRun place) runs
