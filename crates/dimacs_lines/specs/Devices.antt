-- What sources have still to give, what sinks have accepted, and how faults are counted.
use Rattle.std.specs.Prelude.{ℕ, ◌+◌, ◌%◌, ◌^◌, ◌++◌, ◌≡◌, ◌-◌, ◌==◌, ◌&&◌, nat_lt, Bool, if◌then◌else◌, List, [], ◌∷◌, Option, None, Some, IsSome, Result, Ok, Err, length, drop, min, max}
use Rattle.std.specs.{List.{list_any}, declared.io.Error.{Error}}

-- The bytes to come before a piece was given, from those after it. Unknown bytes stay unknown.
abbrev pub before_piece : List ℕ → Option (List ℕ) → Option (List ℕ)
before_piece piece None = None
before_piece piece (Some rest) = Some (piece ++ rest)

-- The bytes accepted after one more piece. Unknown bytes stay unknown.
abbrev pub after_piece : Option (List ℕ) → List ℕ → Option (List ℕ)
after_piece None piece = None
after_piece (Some held) piece = Some (held ++ piece)

-- the bytes that a sink has accepted, if they are known, and how many calls failed, modulo 2^64
pub record Written : Type 0 where
  pub accepted : Option (List ℕ)
  pub faults : ℕ

-- one more fault, modulo 2^64
abbrev pub one_more : ℕ → ℕ
one_more faults = (faults + 1) % 2 ^ 64

-- a call that fails adds one fault; any other adds none
abbrev pub CountsFault : {V E : Type 0} → Result V E → ℕ → ℕ → Type 0
CountsFault (Ok value) old new = new ≡ old
CountsFault (Err error) old new = new ≡ one_more old

-- the same for a put; it also adds a fault if it accepts nothing of a piece that isn't empty
abbrev pub CountsPut : {E : Type 0} → Result ℕ E → List ℕ → ℕ → ℕ → Type 0
CountsPut (Ok count) bytes old new = new ≡ (if count == 0 && nat_lt 0 (length bytes) then one_more old else old)
CountsPut (Err error) bytes old new = new ≡ one_more old

-- input or output by a file, a reader or a writer: its faults, and the error of the last call that failed
pub record OverFile (F : Type 0) : Type 0 where
  pub file : F
  pub faults : ℕ
  pub reason : Option Error

-- a call that fails keeps a reason; any other leaves the one before
abbrev pub NamesReason : {V E : Type 0} → Result V E → Option Error → Option Error → Type 0
NamesReason (Ok value) old new = new ≡ old
NamesReason (Err error) old new = IsSome new

-- a source or sink in memory: the bytes to give, or accepted, and its faults
pub record InMemory : Type 0 where
  pub bytes : List ℕ
  pub faults : ℕ

-- how many of so many bytes pass: at most the next listed size; a 0 counts as 1
abbrev pub cut_by : List ℕ → ℕ → ℕ
cut_by [] most = most
cut_by (size ∷ sizes) most = min most (max size 1)

-- a source in memory that cuts its text: the bytes to come, and the sizes of the next pieces
pub record InPieces : Type 0 where
  pub bytes : List ℕ
  pub sizes : List ℕ

-- a source or sink in memory that cuts pieces and fails at the listed calls; `calls` counts those made
pub record Flaky : Type 0 where
  pub bytes : List ℕ
  pub faults : ℕ
  pub sizes : List ℕ
  pub fails : List ℕ
  pub calls : ℕ

-- the number of the next call: calls count from 1, up to 2^64 - 1
abbrev pub next_call : Flaky → ℕ
next_call device = min (device.calls + 1) (2 ^ 64 - 1)

-- whether the next call is listed to fail
abbrev pub fails_next : Flaky → Bool
fails_next device = list_any (λ call. call == next_call device) device.fails

-- the sizes left after the next call: one that is listed to fail uses up none
abbrev pub sizes_left : Flaky → List ℕ
sizes_left device = if fails_next device then device.sizes else drop 1 device.sizes
