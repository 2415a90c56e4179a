use Rattle.std.proofs.Common.{◌≡◌, take}
use Rattle.dimacs_lines.specs.Number.{place_sum}
use Rattle.dimacs_lines.proofs.numbers.short_size.Given as goal

abbrev pub invariant-loop-b : goal.invariant-loop-b
invariant-loop-b l = l.total ≡ place_sum (take l.b-index l.digits)
