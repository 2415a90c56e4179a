use Rattle.std.proofs.{Common.{rules, ◌≡◌, ◌∙◌, ◌+ℤ◌, ap, refl, arith, w32, w64, SFits}, lemmas.Int.{ints, to_z-of_z}}
use Rattle.dimacs_judging.specs.declared.one_pass.NodeState.{NodeState}
use Rattle.dimacs_judging.proofs.OnePass.{adds_at}
use Rattle.dimacs_judging.proofs.one_pass.add_at.Goals as goal

pub returns-clause-adds : goal.returns-clause-adds
returns-clause-adds g c =
    let x = c.args.amount in
    let was = g.T.NodeStates.state c.args.states.now c.args.node in
    let read = c.state_at-balance.result in
    let same : read ≡ was = c.state_at-balance.ensures in
    let old : SFits w32 read.balance = search rules in
    let from_is : c.from.result ≡ read.balance = c.from.ensures ∙ to_z-of_z w32 read.balance old in
    let sum : SFits w64 (c.from.result +ℤ x) = omega (arith, ints, from_is, old, c.requires) in
    let is = rw (to_z-of_z w64 c.from.result (search rules), to_z-of_z w64 x (search rules), to_z-of_z w64 (c.from.result +ℤ x) sum) at c.in_ok-balance.ensures in
    let potential : SFits w32 read.potential = search rules in
    let more : c.in_ok-balance.balance ≡ was.balance +ℤ x = omega (arith, ints, is, from_is, ap (λ (s : NodeState). s.balance) same) in
    adds_at c.args.node x (was.balance +ℤ x) (record { balance = c.in_ok-balance.balance; potential = read.potential }) (g.T.NodeStates.state c.args.states.now) (g.T.NodeStates.state c.set_state.new.self)
    (ap (λ (s : NodeState). s.potential) same) more refl (rw (to_z-of_z w32 c.in_ok-balance.balance (search rules), to_z-of_z w32 read.potential potential) at c.in_ok-set_state.ensures)
