use Rattle.std.proofs.Common.{ap, ◌∙◌, ◌/◌, arith}
use Rattle.dimacs_network.specs.Sets.{byte_at, has_bit}
use Rattle.dimacs_network.proofs.SetLemmas.{nodes_in-absent, nodes_in-remove}
use Rattle.dimacs_network.proofs.node_set.NodeSet.remove.Goals as goal

pub returns-then-place-len : goal.returns-then-place-len
returns-then-place-len c =
    let read = c.byte_at.ensures ∙ ap (λ bytes. byte_at bytes (c.args.id / 8)) c.deref.ensures.value in
    rw (← c.self.view_is) (nodes_in-remove c.self.inside.bytes.items c.put.new.bytes.items c.args.id
    (λ other off. ap (λ b. has_bit b other) c.put.ensures.set ∙ c.without_bit-byte.ensures.others other off ∙ ap (λ b. has_bit b other) read)
    c.put.ensures.others
    (ap (λ b. has_bit b c.args.id) c.put.ensures.set ∙ c.without_bit-byte.ensures.clear))

pub returns-else-place-len : goal.returns-else-place-len
returns-else-place-len c = rw (← c.self.view_is) (nodes_in-absent c.self.inside.bytes.items c.args.id (omega (arith, c.if-place-len.false, c.len.ensures)))
