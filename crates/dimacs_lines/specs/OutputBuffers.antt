-- What was written to a sink through a buffer.
use Rattle.std.specs.{Prelude.{ℕ, ℤ, ◌≡◌, ◌++◌, ◌∷◌, [], List, Bool, true, false}, List.{flat_map}}
use Rattle.std.specs.Fmt.{signed_decimal}
use Rattle.dimacs_lines.specs.{Devices.{Written, after_piece, one_more}, Puts.{AcceptsFront}}

-- the bytes in the buffer, and whether a write has failed
pub record BufferState : Type 0 where
  pub kept : List ℕ
  pub failed : Bool

-- the sink accepted the text up to an end, and the buffer holds this end
pub record Keeps (old : Written) (text : List ℕ) (new : Written) (kept : List ℕ) : Type 0 where
  pub front : List ℕ
  pub whole : text ≡ front ++ kept
  pub accepted : new.accepted ≡ after_piece old.accepted front
  pub sound : new.faults ≡ old.faults

abbrev pub IsWrittenBy : Bool → Written → List ℕ → Written → List ℕ → Type 0
IsWrittenBy false old text new kept = Keeps old text new kept
IsWrittenBy true old text new kept = AcceptsFront old.accepted text new.accepted × (new.faults ≡ one_more old.faults)

-- the text was accepted, or its rest is in the buffer; after a fault, which is counted, its first bytes were accepted
abbrev pub IsWritten : Written → List ℕ → Written → BufferState → Type 0
IsWritten old text new output = IsWrittenBy output.failed old text new output.kept

-- more was appended to whatever was written: the sink accepted it, or the buffer holds it
abbrev pub Appends : List ℕ → Written → BufferState → Written → BufferState → Type 0
Appends more old output new after = (start : Written) (text : List ℕ) → IsWritten start text old output → IsWritten start (text ++ more) new after

-- a blank and a number
abbrev pub number_field : ℤ → List ℕ
number_field n = 32 ∷ signed_decimal n

-- a line: a letter, then each number after a blank
abbrev pub numbers_line : ℕ → List ℤ → List ℕ
numbers_line letter numbers = letter ∷ (flat_map number_field numbers ++ 10 ∷ [])
