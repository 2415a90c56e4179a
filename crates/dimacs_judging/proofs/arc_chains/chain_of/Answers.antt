use Rattle.std.proofs.{Common.{◌+◌, ◌*◌, ◌/◌, bit_and, arith}, lemmas.Nat.{and_le_r}}
use Rattle.dimacs_judging.proofs.arc_chains.chain_of.Goals as goal

pub returns-clause-inside : goal.returns-clause-inside
returns-clause-inside g = λ some.
    let below = and_le_r (g.from-2.result * g.from-3.result + bit_and (g.from.result * 2654435761 / 1048576) 4095) g.saturating_sub.result in
    omega (arith, some, below, g.saturating_sub.ensures)
