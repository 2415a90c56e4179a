use Rattle.std.proofs.{Common.{◌≡◌, ◌∙◌, ap, length, w64, rules, arith}, lemmas.Int.{to_z-of_z}}
use Rattle.std.specs.Int.{w128}
use Rattle.dimacs_claims.specs.Potentials.{PotentialsValue, potential_of}
use Rattle.dimacs_arrays.proofs.ByNodeLemmas.{all_numbers, no_numbers, number_set}
use Rattle.dimacs_arrays.proofs.by_node.potentials_of.Goals as goal

pub loop-i-init : goal.loop-i-init
loop-i-init c = record {
  nodes = ap (λ (p : PotentialsValue). p.nodes) c.new-potentials.ensures;
  numbers = λ v. ap (λ (p : PotentialsValue). potential_of p v) c.new-potentials.ensures ∙ no_numbers c.args.numbers.now c.args.nodes v;
}

pub loop-i-preserved : goal.loop-i-preserved
loop-i-preserved c =
    record {
      nodes = ap (λ (p : PotentialsValue). p.nodes) c.in_ok-set.ensures.set ∙ c.loop-i.invariant.nodes;
      numbers = number_set c.args.numbers.now c.loop-i.potentials c.set.new.self c.loop-i.i _ (to_z-of_z w128 c.from.result (search rules) ∙ c.from.ensures ∙ to_z-of_z w64 _ (search rules)) c.in_ok-set.ensures.set c.loop-i.invariant.numbers;
    }

pub returns-clause-numbers : goal.returns-clause-numbers
returns-clause-numbers c =
    let all : c.loop-i.i ≡ length c.args.numbers.now = omega (arith, c.loop-i-test.false, c.loop-i.auto.i-end, c.requires.one_each) in
    all_numbers c.args.numbers.now c.loop-i.potentials (rw (← all) c.loop-i.invariant.numbers)
