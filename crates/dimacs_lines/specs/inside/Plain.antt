-- Inside: numbers in a buffer with a given byte right after them.
use Rattle.std.specs.Prelude.{ℕ, ◌≡◌, ◌≤◌, ◌<◌, ◌+◌, ◌*◌, ◌/◌, ◌%◌, ◌^◌, ◌==◌, Bool, not, List, length, map, take, drop, slice_index}
use Rattle.std.specs.{List.{All}, Char.{IsAsciiDigit, is_ascii_digit}}
use lib.Lanes.{mask_l}
use Rattle.dimacs_lines.specs.{Number.{place_sum}, Plain.{EndsAt, NumbersLeft}}

-- the bit of 16 is set, as in all digits
abbrev pub has_sixteen : ℕ → Bool
has_sixteen b = b / 16 % 2 == 1

-- the byte `stop` stands right after a run of digits of this length, and at least 8 bytes follow its start
pub record IsRunOfDigits (bytes : List ℕ) (at stop count next : ℕ) : Type 0 where
  pub each : All IsAsciiDigit (take count (drop at bytes))
  pub stops : slice_index bytes (at + count) ≡ stop
  pub passed : next ≡ at + count + 1
  pub within : next ≤ length bytes
  pub room : at + 8 ≤ length bytes

-- one to sixteen digits stand there, and their value is n
pub record DigitsAt (bytes : List ℕ) (at stop n next : ℕ) : Type 0 where
  pub digits : List ℕ
  pub nonempty : 0 < length digits
  pub at_most_sixteen : length digits ≤ 16
  pub each : All IsAsciiDigit digits
  pub value : n ≡ place_sum digits
  pub ends : EndsAt bytes at stop digits next

-- a minus stands there, and the numbers left begin after it
pub record TakesMinus (before after : NumbersLeft) : Type 0 where
  pub within : before.at < length before.bytes
  pub minus : slice_index before.bytes before.at ≡ 45
  pub passed : after ≡ record before { at = before.at + 1 }

-- a bit for each byte that is no digit, the first byte's lowest
abbrev pub ends_of : List ℕ → ℕ
ends_of bytes = mask_l (map (λ b. not (is_ascii_digit b)) bytes)

-- the bits of the 32 bytes from `start` on, without those of the first `at` bytes
abbrev pub ends_from : List ℕ → ℕ → ℕ → ℕ
ends_from bytes start at = ends_of (drop at (take 32 (drop start bytes))) * 2 ^ at
