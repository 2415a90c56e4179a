use Rattle.std.proofs.{Common.{ap, ◌∙◌, ◌/◌}, lemmas.Bool.{false≢true}}
use Rattle.dimacs_network.specs.Sets.{byte_at, has_bit}
use Rattle.dimacs_network.proofs.SetLemmas.{has_byte, nodes_in-insert, nodes_in-same, nodes_in-same_err}
use Rattle.std.specs.FinSet as set
use Rattle.dimacs_network.proofs.node_set.NodeSet.insert.Goals as goal

pub returns-in_err-reserve-clause-unchanged : goal.returns-in_err-reserve-clause-unchanged
returns-in_err-reserve-clause-unchanged c = rw (← c.self.view_is) (nodes_in-same_err c.from_residual.result _ _ c.reserve.ensures.same)

pub returns-in_err-reserve-clause-repeats : goal.returns-in_err-reserve-clause-repeats
returns-in_err-reserve-clause-repeats c = λ there. absurd (false≢true (c.in_err-reserve.ensures.repeats (has_byte _ c.args.id (rw (← c.self.view_is) at there))))

pub returns-clause-inserted : goal.returns-clause-inserted
returns-clause-inserted c =
    let read = c.byte_at.ensures ∙ ap (λ bytes. byte_at bytes (c.args.id / 8)) c.deref.ensures.value in
    rw (← c.self.view_is) (nodes_in-insert c.reserve.new.bytes.items c.put.new.bytes.items c.args.id
    (λ other off. ap (λ b. has_bit b other) c.put.ensures.set ∙ c.with_bit-byte.ensures.others other off ∙ ap (λ b. has_bit b other) read)
    c.put.ensures.others
    (ap (λ b. has_bit b c.args.id) c.put.ensures.set ∙ c.with_bit-byte.ensures.set)
    ∙ ap (λ nodes. set.insert nodes c.args.id) (nodes_in-same _ _ c.reserve.ensures.same))
