use Rattle.std.proofs.Common.{◌≡◌, ◌≢◌, ◌≤◌, ◌+◌, ◌-◌, length, ◌∙◌, sym, ap, arith, of_z, to_z, rules}
use Rattle.std.proofs.lemmas.Int.{to_z-of_z}
use Rattle.std.specs.{Prelude.{pos}, Int.{w128}}
use Rattle.dimacs_claims.specs.Potentials.{potential_of}
use Rattle.dimacs_claims.proofs.NodeLists.{passing_few, skipped_passing}
use Rattle.dimacs_claims.proofs.PotentialsLemmas.{nonzero_at, count_below_in, count_below_out, skips_nonzero}
use Rattle.dimacs_claims.proofs.potentials.Potentials.count_nonzero.Goals.{then-of-ne0, else-of-ne0}
use Rattle.dimacs_claims.proofs.potentials.Potentials.count_nonzero.Goals as goal

pub overflow_add-count : goal.overflow_add-count
overflow_add-count c = omega (arith, c.loop-id.invariant.counted, c.loop-id.invariant.least, passing_few (nonzero_at c.args.self.now) (c.loop-id.id - 1), c.loop-id.auto.id-fits)

pub loop-id-preserved : goal.loop-id-preserved
loop-id-preserved c =
    let least = c.loop-id.invariant.least in
    let nonzero = nonzero_at c.args.self.now in
    let skip = c.next-id.ensures in
    let more : 1 ≤ c.loop-id.id + 1 = omega arith in
    let same = ap length (skipped_passing nonzero _ _ _ more (skips_nonzero c.args.self.now _ _ _ skip)) in
    elim c.if-of-ne0.branch [
      | then-of-ne0 w ↦
          let some : potential_of c.args.self.now c.loop-id.id ≢ pos 0 = λ e. w.if-of-ne0.true (ap (of_z w128) (c.of.ensures.value ∙ e)) in
          record { least = omega (arith, least, skip.onward); within = skip.within; counted = omega (arith, same, w.count-is, c.loop-id.invariant.counted, count_below_in c.args.self.now c.loop-id.id least some) }
      | else-of-ne0 w ↦
          let none : potential_of c.args.self.now c.loop-id.id ≡ pos 0 = sym c.of.ensures.value ∙ sym (to_z-of_z w128 c.of.result (search rules)) ∙ ap (to_z w128) w.if-of-ne0.false in
          record { least = omega (arith, least, skip.onward); within = skip.within; counted = omega (arith, same, w.count-is, c.loop-id.invariant.counted, count_below_out c.args.self.now c.loop-id.id least none) }
    ]
