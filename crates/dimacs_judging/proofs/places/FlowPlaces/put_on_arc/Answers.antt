use Rattle.std.proofs.{Common.{refl, w64, rules, arith}, lemmas.Int.{to_z-of_z}}
use Rattle.dimacs_judging.proofs.PlaceLemmas.{next_placed}
use Rattle.dimacs_judging.proofs.places.FlowPlaces.put_on_arc.Goals as goal

pub overflow_add-self : goal.overflow_add-self
overflow_add-self g c =
    let next = rw (← c.self.view_is) at (c.if-is_next.ensures refl) in
    omega (arith, next.1, c.self.invariant.0.arc_limit)

pub returns-then-is_next-clause-puts : goal.returns-then-is_next-clause-puts
returns-then-is_next-clause-puts g c =
    let next = rw (← c.self.view_is) at (c.if-is_next.ensures refl) in
    rw (← c.self.view_is, c.set.ensures, to_z-of_z w64 c.args.entry.flow (search rules)) (λ before placed. next_placed _ before c.args.entry placed next.0 next.1 next.2)
