use Rattle.std.proofs.Common.{◌∙◌, sym}
use Rattle.dimacs_claims.specs.Potentials.{potential_of}
use Rattle.dimacs_facts.proofs.OnlyLemmas.{none_tight}
use Rattle.dimacs_facts.proofs.only.count_tight.Goals as goal

pub returns-clause-only : goal.returns-clause-only
returns-clause-only g c = λ zero.
    let (x, passes, least) = c.requires in
    let none = rw c.network.ensures.arcs at (none_tight (g.N.Network.list c.network.result.now) c.args.potentials.now (sym c.tight_arcs.ensures ∙ zero)) in (
      x,
      passes.claim.carries,
      λ y feasible le. c.no_other_flow.ensures c.args.min.now c.network.ensures.lawful.joined x y (potential_of c.args.potentials.now) passes.claim.feasible passes.slack none feasible le,
    )
