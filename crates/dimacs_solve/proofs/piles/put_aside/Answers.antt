use Rattle.dimacs_solve.specs.inside.Frontiers.{walk_of}
use Rattle.dimacs_solve.proofs.PileLemmas.{in_piles_after, piles_after}
use Rattle.dimacs_solve.proofs.piles.put_aside.Goals as goal

pub returns-clause-piles : goal.returns-clause-piles
returns-clause-piles g c = λ bound above are.
    let put = c.put.ensures in
    piles_after g.D.SearchDistance.value bound c.args.piles.now.items c.place-at.result c.index_mut.result.now c.put.new.pile (walk_of g.D.SearchDistance.value c.args.walk) c.put.result (rw c.deref.ensures.value at c.place-at.ensures) c.index_mut.ensures.value put.rises put.reaches put.kept put.unchanged put.put above are

pub returns-clause-put : goal.returns-clause-put
returns-clause-put g c =
    let place = rw c.deref.ensures.value at c.place-at.ensures in
    in_piles_after g.D.SearchDistance.value c.args.piles.now.items c.place-at.result c.index_mut.result.now c.put.new.pile (walk_of g.D.SearchDistance.value c.args.walk) c.put.result place.inside c.index_mut.ensures.value c.put.ensures.put
