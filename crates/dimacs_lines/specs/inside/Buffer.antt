-- Inside: the steps of a line reader within its buffer.
use Rattle.std.specs.Prelude.{ℕ, ◌+◌, ◌≡◌, ◌≢◌, ◌≤◌, ◌<◌, ◌⊎◌, ◌++◌, List, [], length, Option, Some, None, Result, Ok, Err}
use Rattle.std.specs.List.{position_or_len, before_first, after_first}
use Rattle.dimacs_lines.specs.{declared.reader.LinesError.{LinesError}, Limits.{longest_line, most_lines, most_held}}
use Rattle.dimacs_lines.specs.declared.reader.LinesError.TheVariants.{TooMany, TooLong, Device, Memory}
use Rattle.dimacs_lines.specs.{declared.reader.Progress.TheVariants.{Ended, Failed}, Devices.{before_piece}}
use Rattle.dimacs_lines.specs.{Lines.{is_end}, Reader.{State}}

-- the last line and the held bytes lie within the buffer, and the buffer is bounded
pub record IsLaidOut (line_start line_end next end given size : ℕ) : Type 0 where
  pub line_ordered : line_start ≤ line_end
  pub line_within : line_end ≤ size
  pub held_ordered : next ≤ end
  pub held_within : end ≤ size
  pub few : given ≤ most_lines
  pub bounded : size ≤ most_held

-- a piece of this size was appended to what was held
pub record PullsMore (old new : State) (before after : Option (List ℕ)) (count : ℕ) : Type 0 where
  pub piece : List ℕ
  pub size : length piece ≡ count
  pub held : new.held ≡ old.held ++ piece
  pub given : before ≡ before_piece piece after

-- what is held has a whole first line, or is all that is left, or its first line is too long already
abbrev pub IsEnough : List ℕ → Option (List ℕ) → Type 0
IsEnough held coming =
    (position_or_len is_end held < length held)
    ⊎ (((bytes : List ℕ) → coming ≡ Some bytes → bytes ≡ []) ⊎ (longest_line < position_or_len is_end held))

-- an error that doesn't depend on the text
abbrev pub IsInterruption : LinesError → Type 0
IsInterruption (TooMany number) = ⊥
IsInterruption (TooLong number) = ⊥
IsInterruption Device = Unit {0}
IsInterruption Memory = Unit {0}

-- the first line held is given, with the next number
pub record GivesFirst (old new : State) (number : ℕ) : Type 0 where
  pub next : number ≡ old.given + 1
  pub counted : new.given ≡ number
  pub same_progress : new.progress ≡ old.progress
  pub few : number ≤ most_lines
  pub short : position_or_len is_end old.held ≤ longest_line
  pub some : old.held ≢ []
  pub line : new.line ≡ before_first is_end old.held
  pub rest : new.held ≡ after_first is_end old.held

-- when the first line held is refused
abbrev pub RefusesFirst : State → LinesError → Type 0
RefusesFirst old (TooMany number) = (number ≡ old.given + 1) × (most_lines < number) × (old.held ≢ [])
RefusesFirst old (TooLong number) = (number ≡ old.given + 1) × (number ≤ most_lines) × (longest_line < position_or_len is_end old.held)
RefusesFirst old Device = ⊥
RefusesFirst old Memory = ⊥

-- the result for the bytes held
abbrev pub GivesHeld : State → State → Result (Option ℕ) LinesError → Type 0
GivesHeld old new (Ok (Some number)) = GivesFirst old new number
GivesHeld old new (Ok None) = (old.held ≡ []) × (new ≡ record old { line = []; progress = Ended })
GivesHeld old new (Err error) = RefusesFirst old error × (new ≡ record old { line = []; progress = Failed error })
