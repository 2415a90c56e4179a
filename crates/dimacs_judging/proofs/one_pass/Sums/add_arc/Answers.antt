use Rattle.std.proofs.Common.{rules, ◌≡◌, ◌==◌, ◌∙◌, refl, ◌+ℤ◌, ◌-ℤ◌, pos, arith, w32, w64, SFits}
use Rattle.std.proofs.lemmas.Int.{ints, to_z-of_z}
use Rattle.std.specs.Int.{w128}
use Rattle.dimacs_judging.specs.inside.OnePass.{IsSmall}
use Rattle.dimacs_judging.proofs.StepLemmas.{when_back}
use Rattle.dimacs_judging.proofs.one_pass.Sums.add_arc.Goals as goal

pub overflow_sub-reduced : goal.overflow_sub-reduced
overflow_sub-reduced g c =
    let a = c.args.arc in
    let small : IsSmall a.cost c.args.amount = search rules in
    let narrow : SFits w32 c.in_ok-tail.tail = search rules in
    let is : c.from.result ≡ c.in_ok-tail.tail = c.from.ensures ∙ to_z-of_z w32 c.in_ok-tail.tail narrow in
    rw (to_z-of_z w64 a.cost (search rules), to_z-of_z w64 c.from.result (search rules)) (omega (arith, ints, small.0, is, narrow))

pub overflow_add-reduced : goal.overflow_add-reduced
overflow_add-reduced g c =
    let a = c.args.arc in
    let small : IsSmall a.cost c.args.amount = search rules in
    let tail_narrow : SFits w32 c.in_ok-tail.tail = search rules in
    let head_narrow : SFits w32 c.in_ok-head.head = search rules in
    let tail_is : c.from.result ≡ c.in_ok-tail.tail = c.from.ensures ∙ to_z-of_z w32 c.in_ok-tail.tail tail_narrow in
    let head_is : c.from-2.result ≡ c.in_ok-head.head = c.from-2.ensures ∙ to_z-of_z w32 c.in_ok-head.head head_narrow in
    let less : SFits w64 (a.cost -ℤ c.from.result) = omega (arith, ints, small.0, tail_is, tail_narrow) in
    rw (to_z-of_z w64 a.cost (search rules), to_z-of_z w64 c.from.result (search rules), to_z-of_z w64 c.from-2.result (search rules), to_z-of_z w64 (a.cost -ℤ c.from.result) less) (omega (arith, ints, small.0, tail_is, head_is, tail_narrow, head_narrow))

pub overflow_add-self : goal.overflow_add-self
overflow_add-self g c =
    rw (to_z-of_z w128 c.args.self.now.cost (search rules), to_z-of_z w128 c.product.result (search rules)) (omega (arith, ints, c.requires, c.product.ensures.size))

pub returns : goal.returns
returns g c =
    let a = c.args.arc in
    let x = c.args.amount in
    let old = c.args.self.now in
    let fits : SFits w64 x = search rules in
    let small : IsSmall a.cost x = search rules in
    let back : SFits w64 (pos 0 -ℤ x) = omega (arith, ints, small.1) in
    let out = rw (to_z-of_z w64 x fits) at c.in_ok-tail.ensures.adds.balances in
    let into = rw (to_z-of_z w64 x fits, to_z-of_z w64 (pos 0 -ℤ x) back) at c.in_ok-head.ensures.adds.balances in
    let tail_narrow : SFits w32 c.in_ok-tail.tail = search rules in
    let head_narrow : SFits w32 c.in_ok-head.head = search rules in
    let tail_is : c.from.result ≡ c.in_ok-tail.tail = c.from.ensures ∙ to_z-of_z w32 c.in_ok-tail.tail tail_narrow in
    let head_is : c.from-2.result ≡ c.in_ok-head.head = c.from-2.ensures ∙ to_z-of_z w32 c.in_ok-head.head head_narrow in
    let less : SFits w64 (a.cost -ℤ c.from.result) = omega (arith, ints, small.0, tail_is, tail_narrow) in
    let reduced : SFits w64 ((a.cost -ℤ c.from.result) +ℤ c.from-2.result) = omega (arith, ints, small.0, tail_is, head_is, tail_narrow, head_narrow) in
    let tail_potential = tail_is ∙ c.in_ok-tail.ensures.potential in
    let head_potential = head_is ∙ (c.in_ok-head.ensures.potential ∙ c.in_ok-tail.ensures.adds.potentials a.head) in
    let sum : SFits w128 (old.cost +ℤ c.product.result) = omega (arith, ints, c.requires, c.product.ensures.size) in
    let product = rw (to_z-of_z w64 a.cost (search rules), to_z-of_z w64 x fits) at c.product.ensures.value in
    record {
      small = small;
      passes = rw (to_z-of_z w64 x fits, to_z-of_z w64 a.cost (search rules), to_z-of_z w64 c.from.result (search rules), to_z-of_z w64 c.from-2.result (search rules), to_z-of_z w64 (a.cost -ℤ c.from.result) less, to_z-of_z w64 ((a.cost -ℤ c.from.result) +ℤ c.from-2.result) reduced, tail_potential, head_potential) at (c.if-not-passes.ensures refl);
      balances = λ v. omega (arith, ints, out v, into v, when_back (a.head == v) x);
      potentials = λ v. c.in_ok-head.ensures.adds.potentials v ∙ c.in_ok-tail.ensures.adds.potentials v;
      cost_is = rw (to_z-of_z w128 old.cost (search rules), to_z-of_z w128 c.product.result (search rules), to_z-of_z w128 (old.cost +ℤ c.product.result) sum, product) refl;
    }
