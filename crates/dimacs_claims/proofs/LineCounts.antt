-- A text has no more records than lines.
use Rattle.std.proofs.Common.{ℕ, suc, ◌≤◌, List, [], ◌∷◌, Option, None, Some, length, arith}
use Rattle.dimacs_records.specs.{declared.kinds.TextKind.{TextKind}, declared.records.Record.{Record}, Faults.{Spell}}
use Rattle.dimacs_records.specs.Readings.{numbered}

pub one_a_line : (kind : TextKind) (all : List (List ℕ)) (by_line : List (Option Record)) (line : ℕ) → Spell kind all by_line → length (numbered line by_line) ≤ length all
one_a_line kind [] [] line h = omega arith
one_a_line kind (text ∷ all) (None ∷ by_line) line h = omega (arith, one_a_line kind all by_line (suc line) h.1)
one_a_line kind (text ∷ all) (Some r ∷ by_line) line h = omega (arith, one_a_line kind all by_line (suc line) h.2)
one_a_line kind all by_line line h = absurd h
