-- The state of a line reader, and its next line.
use Rattle.std.specs.Prelude.{ℕ, ◌+◌, ◌≡◌, ◌≢◌, ◌≤◌, ◌<◌, List, [], ◌∷◌, length, Option, Some, None, Result, Ok, Err}
use Rattle.dimacs_lines.specs.{declared.reader.LinesError.{LinesError}, declared.reader.Progress.{Progress}}
use Rattle.dimacs_lines.specs.{declared.reader.LinesError.TheVariants.{TooMany, TooLong, Device, Memory}, Lines.{lines}}
use Rattle.dimacs_lines.specs.declared.reader.Progress.TheVariants.{Open, Ended, Failed}
use Rattle.dimacs_lines.specs.{Limits.{longest_line, most_lines}, Devices.{before_piece, one_more}}

pub record State : Type 0 where
  -- the bytes that were read and aren't given yet
  pub held : List ℕ
  -- how many lines were given
  pub given : ℕ
  -- the line that was given last
  pub line : List ℕ
  pub progress : Progress

-- the text still to be given: the bytes held, then those to come from the source
abbrev pub text_left : State → Option (List ℕ) → Option (List ℕ)
text_left reader coming = before_piece reader.held coming

-- the next line: the first of the text that was left, within the limits, with the next number
pub record GivesLine (old new : State) (left later : Option (List ℕ)) (number : ℕ) : Type 0 where
  pub next : number ≡ old.given + 1
  pub counted : new.given ≡ number
  pub open_still : new.progress ≡ Open
  pub few : number ≤ most_lines
  pub short : length new.line ≤ longest_line
  pub first : (text : List ℕ) → left ≡ Some text → (rest : List ℕ) × (later ≡ Some rest) × (lines text ≡ new.line ∷ lines rest)

-- no line was left
pub record AtEnd (new : State) (left : Option (List ℕ)) : Type 0 where
  pub ended : new.progress ≡ Ended
  pub no_line : new.line ≡ []
  pub none : (text : List ℕ) → left ≡ Some text → lines text ≡ []

-- when each error comes; `TooMany` comes before `TooLong` if both apply
abbrev pub ComesAt : State → Option (List ℕ) → LinesError → Type 0
ComesAt old left (TooMany number) = (number ≡ old.given + 1) × (most_lines < number) × ((text : List ℕ) → left ≡ Some text → lines text ≢ [])
ComesAt old left (TooLong number) =
    (number ≡ old.given + 1) × (number ≤ most_lines)
    × ((text : List ℕ) → left ≡ Some text → (line : List ℕ) × (rest : List (List ℕ)) × (lines text ≡ line ∷ rest) × (longest_line < length line))
ComesAt old left Device = Unit {0}
ComesAt old left Memory = Unit {0}

pub record Stops (old new : State) (left : Option (List ℕ)) (error : LinesError) : Type 0 where
  pub comes : ComesAt old left error
  pub given : new.given ≡ old.given
  pub failed : new.progress ≡ Failed error
  pub no_line : new.line ≡ []

-- the result of a call before any end or error; `left` is the text before the call, `later` the text after it
abbrev pub NextLine : State → State → Option (List ℕ) → Option (List ℕ) → Result (Option ℕ) LinesError → Type 0
NextLine old new left later (Ok (Some number)) = GivesLine old new left later number
NextLine old new left later (Ok None) = AtEnd new left
NextLine old new left later (Err error) = Stops old new left error

-- the source's faults after a call: one more after the error `Device`, otherwise the same
abbrev pub CountsDevice : {V : Type 0} → Result V LinesError → ℕ → ℕ → Type 0
CountsDevice (Ok value) old new = new ≡ old
CountsDevice (Err (TooMany number)) old new = new ≡ old
CountsDevice (Err (TooLong number)) old new = new ≡ old
CountsDevice (Err Device) old new = new ≡ one_more old
CountsDevice (Err Memory) old new = new ≡ old
