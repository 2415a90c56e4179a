use Rattle.std.proofs.{Common.{rules, ◌∙◌, ap, length, refl, sym}, lemmas.Int.{to_z-of_z}}
use Rattle.std.specs.Int.{w128}
use Rattle.dimacs_judging.specs.{Feasible.{value}, MaxJudge.{IsMaxClaim}}
use Rattle.dimacs_judging.proofs.{MaxJudge.{max_passed}, Passing.{value_is}}
use Rattle.dimacs_judging.proofs.max_claim.max_in_one_pass.Goals as goal

pub value_if_shown-requires : goal.value_if_shown-requires
value_if_shown-requires g c = c.in-Ok.ensures.one_each ∙ ap length c.requires.network

pub returns-in-Ok-value_agrees : goal.returns-in-Ok-value_agrees
returns-in-Ok-value_agrees g c = λ s is.
    let i = c.args.instance.now in
    let x = c.in-Ok.flow.now in
    let carries = rw c.requires.network at (c.in-Ok.ensures.carried s.entries is.entries) in
    let shown = c.in_ok-value.ensures in
    let same_nodes = rw (c.nodes.ensures, c.network-network.ensures.nodes, c.nodes-2.ensures) at c.in-Ok-nodes_agree.ensures in
    let agrees = rw (to_z-of_z w128 c.in_ok-value.value (search rules), shown.0, is.value_is, is.line_is) at c.in-Ok-value_agrees.ensures in
    let claim : IsMaxClaim i s x = record { carries = carries; feasible = shown.1.feasible; value_is = sym (value_is (value i x) s.value s.value_line agrees) } in
    let passed = max_passed i s c.args.cut.now c.network-network.ensures.lawful x claim same_nodes shown.1.tight in
    (passed.0, passed.1, rw (to_z-of_z w128 c.args.placed.now.value (search rules), is.value_is) refl)
