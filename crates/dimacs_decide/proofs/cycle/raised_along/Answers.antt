use Rattle.std.proofs.Common.{◌≡◌, ◌<◌, ◌-◌, ◌∙◌, arith, length}
use Rattle.dimacs_network.specs.Tables.{value_of}
use Rattle.dimacs_decide.proofs.CycleLemmas.{saving_cycle}
use Rattle.dimacs_decide.proofs.cycle.raised_along.Goals as goal

pub returns : goal.returns
returns g c =
    let path = c.args.cycle.now.path.items in
    let first = c.args.cycle.now.first in
    let last : c.len-last.result - 1 ≡ length path - 1 = omega (arith, c.len-last.ensures) in
    let all : c.loop-k.k ≡ length path - 1 - first = omega (arith, c.loop-k-test.false, c.loop-k.auto.k-end, last) in
    saving_cycle (g.N.Network.list c.args._network.now) c.args._flow.now (value_of c.args.labels.now) path first (length path - 1) c.requires.heights c.requires.cycle c.loop-k.residuals.items (c.loop-k.invariant.long ∙ all)
    (λ k short. let inside : k < c.loop-k.k = omega (arith, short, all) in rw last at (c.loop-k.invariant.outcome k inside))
