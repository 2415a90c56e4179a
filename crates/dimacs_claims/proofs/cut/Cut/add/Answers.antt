use Rattle.std.proofs.Common.{◌≡◌, ◌+◌, ap, sym, ◌∙◌, arith, false, true}
use Rattle.dimacs_lines.specs.Limits.{IsNode}
use Rattle.dimacs_claims.proofs.CutLemmas.{again_same, few_ids, law_with_node, one_node_more}
use Rattle.std.specs.FinSet as set
use Rattle.dimacs_claims.proofs.cut.Cut.add.Goals as goal

pub returns-then-contains-clause-added : goal.returns-then-contains-clause-added
returns-then-contains-clause-added c =
    let again : set.contains c.self.inside.ids c.args.id ≡ true = sym c.if-contains.ensures in
    rw (← c.self.view_is) (ap (λ ids. record { nodes = c.self.inside.nodes; ids = ids }) (sym (again_same c.self.inside.ids c.args.id again)))

pub overflow_add-self : goal.overflow_add-self
overflow_add-self c = omega (arith, c.self.invariant.1, few_ids _ c.self.invariant.0)

pub invariant_of-self-2 : goal.invariant_of-self-2
invariant_of-self-2 c =
    let new : set.contains c.self.inside.ids c.args.id ≡ false = sym c.if-contains.ensures in
    let node : IsNode c.self.inside.nodes c.args.id = rw (← c.self.view_is) at c.requires in
    rw (c.in_ok-insert.ensures.inserted) (law_with_node _ c.args.id c.self.invariant.0 node, ap (λ n. n + 1) c.self.invariant.1 ∙ sym (one_node_more _ c.args.id new node))
