-- Numbers in a buffer with a given byte right after them.
use Rattle.std.specs.Prelude.{ℕ, ◌+◌, ◌≡◌, ◌≤◌, List, ◌∷◌, ◌++◌, length, drop, ℤ}
use Rattle.dimacs_lines.specs.Number.{Spells}

-- this text stands at `at`, then the byte `stop`; `next` is the place after it
pub record EndsAt (bytes : List ℕ) (at stop : ℕ) (text : List ℕ) (next : ℕ) : Type 0 where
  pub there : drop at bytes ≡ text ++ stop ∷ drop next bytes
  pub passed : next ≡ at + length text + 1
  pub within : next ≤ length bytes

-- up to forty bytes stand there, and they spell n
pub record StandsAt (bytes : List ℕ) (at stop : ℕ) (n : ℤ) (next : ℕ) : Type 0 where
  pub text : List ℕ
  pub spelled : Spells text n
  pub short : length text ≤ 40
  pub ends : EndsAt bytes at stop text next

-- the bytes from the start of a line on, and the place of the numbers that aren't taken yet
pub record NumbersLeft : Type 0 where
  pub bytes : List ℕ
  pub at : ℕ
