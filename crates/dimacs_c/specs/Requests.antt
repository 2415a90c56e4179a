-- What is handed out for the words of a command.
use Rattle.std.specs.{Prelude.{ℕ, ◌≡◌, ◌==◌, ◌++◌, ◌⊎◌, List, [], ◌∷◌}, List.{slice_split}, Str.{IsUtf8}}
use Rattle.std.specs.String.{string_bytes}
use Rattle.dimacs_usage.specs.{Answers.{Answers}, Plans.{BeginsWithMarks}, declared.asked.Asked.{Asked}}
use Rattle.dimacs_usage.specs.declared.asked.Asked.TheVariants.{Nothing, Text, Run}
use Rattle.dimacs_c.specs.Calls.{Handed, HandsNothing, HandsOut}

-- each word ends with a byte 0; what comes after the last one is no word
abbrev pub AreWords : List ℕ → List (List ℕ) → Type 0
AreWords bytes words = (rest : List ℕ) × (slice_split (λ byte. byte == 0) bytes ≡ words ++ rest ∷ [])

-- the status and the text of an answer: what is told, a text to print, or a plan
abbrev pub Tells : Asked → ℕ → List ℕ → Type 0
Tells (Nothing told) status text = (status ≡ 2) × (text ≡ string_bytes told)
Tells (Text told) status text = (status ≡ 0) × (text ≡ string_bytes told)
Tells (Run run) status text = (status ≡ 6) × BeginsWithMarks run text

-- bytes that aren't UTF-8 are told of with 2; otherwise what their words are answered
abbrev pub TellsWords : List ℕ → List ℕ → ℕ → List ℕ → Type 0
TellsWords bytes same status text =
    ((¬ IsUtf8 bytes) × (status ≡ 2))
    ⊎ (IsUtf8 bytes × ((words : List (List ℕ)) × (asked : Asked) × AreWords bytes words × Answers words same asked × Tells asked status text))

-- that is handed out, or memory ran out
abbrev pub AnswersRequest : List ℕ → List ℕ → ℕ → Handed ℕ → Type 0
AnswersRequest bytes same status h =
    ((text : List ℕ) × TellsWords bytes same status text × HandsOut text h) ⊎ ((status ≡ 4) × HandsNothing h)
