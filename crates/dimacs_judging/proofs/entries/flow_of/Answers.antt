use Rattle.std.proofs.Common.{[], ◌∷◌, inl}
use Rattle.dimacs_judging.specs.{Claims.{entry_row}, declared.verdict.JudgeError.TheVariants.{Refused}}
use Rattle.dimacs_judging.proofs.{Claims.{carries_clear, entry_one_way}, Settling.{error_settles}}
use Rattle.dimacs_judging.proofs.entries.flow_of.Goals as goal

pub returns-in_err-flow : goal.returns-in_err-flow
returns-in_err-flow g c =
    let arcs = g.N.Network.list c.args.network.now in
    let placed = rw c.deref.ensures.value at c.in_ok-places.ensures.placed in
    let first = rw c.in_ok-places.ensures.network at (c.in_err-flow.ensures _ placed) in
    error_settles _ (entry_row arcs _ ∷ []) (entry_one_way arcs _, tt) (λ x carries. (carries_clear arcs _ x carries, tt)) (Refused c.in_err-flow.field-0.0.0 c.in_err-flow.field-0.0.1) (inl first) _ c.from_residual-in_err-flow.ensures.1
