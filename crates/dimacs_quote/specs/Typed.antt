-- A text as it is typed in a command.
use Rattle.std.specs.Prelude.{ℕ, ◌≡◌, ◌<◌, ◌⊎◌, ◌++◌, ◌||◌, Bool, true, false, eqb, List, length, IsTrue, codes}
use Rattle.std.specs.{List.{starts_with}, String.{string_bytes}}
use Rattle.dimacs_records.specs.declared.kinds.TextKind.{TextKind}
use Rattle.dimacs_quote.specs.{ShellWords.{EndsInLineFeed, Reads, path_of}, declared.prose.Prose.{Prose}}
use Rattle.dimacs_quote.specs.declared.texts.TextFile.{TextFile}
use Rattle.dimacs_records.specs.declared.kinds.TextKind.TheVariants as kinds

-- the word for a text in the forms of commands
abbrev pub usage_word : TextKind → List ℕ
usage_word kinds.Max = codes "INSTANCE"
usage_word kinds.Min = codes "INSTANCE"
usage_word kinds.Graph = codes "GRAPH"
usage_word kinds.Queries = codes "QUERY"
usage_word kinds.Solution = codes "SOLUTION"
usage_word kinds.Cut = codes "CUT"
usage_word kinds.Potentials = codes "POTENTIALS"
usage_word kinds.Labels = codes "LABELS"
usage_word kinds.Distances = codes "DISTANCES"

-- a pipe that the run alone has open
abbrev pub is_open_here : List ℕ → Bool
is_open_here name = starts_with eqb name (codes "/dev/fd/") || (starts_with eqb name (codes "/dev/stdin") || starts_with eqb name (codes "/proc/self/fd/"))

-- a word that a shell takes for the file's name; the word of the forms if there is no name, it is such a pipe, or it ends in
-- a line feed
abbrev pub IsTyped : TextFile → List ℕ → Type 0
IsTyped text word =
    let name = text.file.now in
    ((word ≡ usage_word text.kind) × ((length name ≡ 0) ⊎ ((is_open_here name ≡ true) ⊎ EndsInLineFeed (path_of name))))
    ⊎ ((0 < length name) × (is_open_here name ≡ false) × Reads word (path_of name))

-- unless memory ran out, the prose grows by such a word
abbrev pub GrowsByTyped : TextFile → Prose → Prose → Type 0
GrowsByTyped text old new = ¬ IsTrue new.is_lost → (word : List ℕ) × (string_bytes new.text ≡ string_bytes old.text ++ word) × IsTyped text word
