use Rattle.std.proofs.Common.{ap, sym, ◌∙◌, ◌/◌}
use Rattle.dimacs_network.specs.Sets.{byte_at, has_bit}
use Rattle.dimacs_network.proofs.SetLemmas.{contains-nodes_in}
use Rattle.dimacs_network.proofs.node_set.NodeSet.contains.Goals as goal

pub returns : goal.returns
returns c =
    rw (← c.self.view_is) (c.has_bit.ensures ∙ ap (λ b. has_bit b c.args.id) (c.byte_at.ensures ∙ ap (λ bytes. byte_at bytes (c.args.id / 8)) c.deref.ensures.value)
    ∙ sym (contains-nodes_in c.self.inside.bytes.items c.args.id))
