use Rattle.dimacs_solve.proofs.ClimbingLemmas.{first_flow, next_flow}
use Rattle.dimacs_solve.proofs.climb.solve_max_flow.Goals.{in-Some, in_default+in_ok-cut+in-Better}
use Rattle.dimacs_solve.proofs.climb.solve_max_flow.Goals as goal

pub loop-turn-init : goal.loop-turn-init
loop-turn-init g c = first_flow c.args.instance.now c.in_ok-flow.flow c.network-network.ensures.lawful (rw (c.arcs.ensures, c.network-network.ensures.arcs) at c.in_ok-flow.ensures)

pub loop-turn-preserved : goal.loop-turn-preserved
loop-turn-preserved g c =
    let i = c.args.instance.now in
    elim c.match-raise.branch [
      | in-Some w ↦
          let feasible = rw w.in-Some.is at c.raise.ensures.feasible in
          let greater = rw w.in-Some.is at c.raise.ensures.value in
          rw w.flow-is (next_flow i c.loop-turn._turn c.loop-turn.flow w.in-Some.raised.flow c.loop-turn.invariant feasible greater)
      | in_default+in_ok-cut+in-Better w ↦
          let right = rw w.in-Better.is at w.in_ok-cut.ensures in
          rw w.flow-is (next_flow i c.loop-turn._turn c.loop-turn.flow w.in-Better.better c.loop-turn.invariant right.1 right.2)
    ]
