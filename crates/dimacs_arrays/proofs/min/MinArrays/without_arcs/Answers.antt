use Rattle.std.proofs.{Common.{get_or, pos, w64, rules, arith}, lemmas.Int.{to_z-of_z}}
use Rattle.dimacs_arrays.proofs.MinLemmas.{all_supplies, no_supplies, supply_set}
use Rattle.dimacs_arrays.proofs.min.MinArrays.without_arcs.Goals as goal

pub loop-i-init : goal.loop-i-init
loop-i-init c = no_supplies c.args.self.now.supplies.now c.args.self.now.nodes _ c.new-instance.ensures

pub loop-i-preserved : goal.loop-i-preserved
loop-i-preserved c =
    let xs = c.args.self.now.supplies.now in
    supply_set xs c.args.self.now.nodes c.loop-i.i c.loop-i.instance c.set_supply.new.self _ (omega (arith, c.loop-i-test.true, c.requires.supplies)) (to_z-of_z w64 (get_or xs c.loop-i.i (pos 0)) (search rules)) c.loop-i.invariant c.in_ok-set_supply.ensures.set

pub returns : goal.returns
returns c = all_supplies c.args.self.now.supplies.now c.args.self.now.nodes c.loop-i.i _ (omega (arith, c.loop-i-test.false, c.requires.supplies)) c.loop-i.invariant
