use Rattle.std.proofs.Common.{ℕ, ◌<◌, map}
use Rattle.std.specs.String.{string_bytes}
use Rattle.dimacs_usage.specs.Slips.{IsWrongAt}
use Rattle.dimacs_usage.proofs.slips.first_wrong.Given as goal

-- no file before this one is wrong
abbrev pub invariant-loop-place : goal.invariant-loop-place
invariant-loop-place l = (earlier : ℕ) → earlier < l.place → ¬ IsWrongAt l.kept (map string_bytes l.names) l.numbers earlier
