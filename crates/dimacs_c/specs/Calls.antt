-- What calls return and hand out.
use Rattle.std.specs.Prelude.{ℕ, ◌≡◌, ◌++◌, ◌⊎◌, List, [], ◌∷◌, Option, None, Some, Ok, length, take, drop}
use Rattle.dimacs_jobs.specs.{declared.status.Status.{Status}, Outcomes.{status_number}}
use Rattle.dimacs_runs.specs.Runs.{ReportsAlone}

-- a caller's buffer for bytes or numbers, before and after the call, and the length that the call set
pub record Handed (X : Type 0) : Type 0 where
  pub buffer : List X
  pub after : List X
  pub needed : ℕ

abbrev pub handed : {X : Type 0} → List X → List X → ℕ → Handed X
handed buffer after needed = record { buffer = buffer; after = after; needed = needed }

-- as many items as fit are at the front of the buffer, and the length is the number of all
pub record HandsOut {X : Type 0} (items : List X) (h : Handed X) : Type 0 where
  pub needed : h.needed ≡ length items
  pub front : h.after ≡ take (length h.buffer) items ++ drop (length items) h.buffer

-- the buffer is as it was, and the length is 0
pub record HandsNothing {X : Type 0} (h : Handed X) : Type 0 where
  pub needed : h.needed ≡ 0
  pub unchanged : h.after ≡ h.buffer

-- the only possible text is handed out, and the call returns the command's exit status; or memory ran out
abbrev pub Answers : (Status → List ℕ → Type 0) → ℕ → Handed ℕ → Type 0
Answers writes exit_status h =
    ((s : Status) × (text : List ℕ) × ReportsAlone writes s text × (exit_status ≡ status_number (Ok s)) × HandsOut text h)
    ⊎ ((exit_status ≡ 4) × HandsNothing h)

-- the same if the number names a kind; otherwise 2
abbrev pub AnswersKind : {K : Type 0} → Option K → (K → Status → List ℕ → Type 0) → ℕ → Handed ℕ → Type 0
AnswersKind None writes exit_status h = (exit_status ≡ 2) × HandsNothing h
AnswersKind (Some kind) writes exit_status h = Answers (writes kind) exit_status h

-- each text is handed out to its buffer, in order; a buffer after the last text gets an empty one
abbrev pub HandsEach : List (List ℕ) → List (Handed ℕ) → Type 0
HandsEach [] [] = Unit {0}
HandsEach [] (h ∷ buffers) = HandsOut [] h × HandsEach [] buffers
HandsEach (text ∷ texts) [] = ⊥
HandsEach (text ∷ texts) (h ∷ buffers) = HandsOut text h × HandsEach texts buffers

abbrev pub HandNothing : List (Handed ℕ) → Type 0
HandNothing [] = Unit {0}
HandNothing (h ∷ buffers) = HandsNothing h × HandNothing buffers

-- possible texts are handed out, the report last, and the call returns the command's exit status; or memory ran out
abbrev pub AnswersTexts : (Status → List (List ℕ) → Type 0) → ℕ → List (Handed ℕ) → Type 0
AnswersTexts writes exit_status buffers =
    ((s : Status) × (texts : List (List ℕ)) × writes s texts × (exit_status ≡ status_number (Ok s)) × HandsEach texts buffers)
    ⊎ ((exit_status ≡ 4) × HandNothing buffers)

-- the same if the number names a kind; otherwise 2
abbrev pub AnswersTextsKind : {K : Type 0} → Option K → (K → Status → List (List ℕ) → Type 0) → ℕ → List (Handed ℕ) → Type 0
AnswersTextsKind None writes exit_status buffers = (exit_status ≡ 2) × HandNothing buffers
AnswersTextsKind (Some kind) writes exit_status buffers = AnswersTexts (writes kind) exit_status buffers
