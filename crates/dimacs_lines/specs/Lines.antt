-- The lines of a text.
use Rattle.std.specs.{Prelude.{ℕ, ◌==◌, ◌≡◌, ◌++◌, Bool, List, [], ◌∷◌, length, if◌then◌else◌}, List.{onto_first}}

-- byte 10, the line feed, ends a line
abbrev pub is_end : ℕ → Bool
is_end b = b == 10

-- the pieces between line ends; an empty piece after the last end is no line
abbrev pub lines : List ℕ → List (List ℕ)
lines [] = []
lines (b ∷ bs) = if is_end b then [] ∷ lines bs else onto_first b (lines bs)

-- so many whole lines with their ends: whatever text follows, its lines come after these
pub record AreWholeLines (bytes : List ℕ) (count : ℕ) : Type 0 where
  pub whole : List (List ℕ)
  pub counted : length whole ≡ count
  pub come_first : (rest : List ℕ) → lines (bytes ++ rest) ≡ whole ++ lines rest
