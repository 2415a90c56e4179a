-- Inside: the sizes of numbers.
use Rattle.std.specs.Prelude.{ℕ, ℤ, pos, neg_ℤ}
use Rattle.dimacs_lines.specs.Number.{IsWithin}

-- from -h to h
abbrev pub IsOfSize : ℕ → ℤ → Type 0
IsOfSize h z = IsWithin (neg_ℤ (pos h)) (pos h) z
