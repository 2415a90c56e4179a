use Rattle.std.proofs.{Common.{◌≡◌, ◌∙◌}, lemmas.List.{take_at}, lemmas.Result.{err_from_is_err_and}}
use Rattle.dimacs_solve.specs.Spread.{NoneCheaper}
use Rattle.dimacs_solve.proofs.spread.spread.Goals as goal

pub returns-in_err-deal-clause-refused : goal.returns-in_err-deal-clause-refused
returns-in_err-deal-clause-refused g c =
    let p = err_from_is_err_and c.from_residual-in_err-deal.result c.from_residual-in_err-deal.ensures.1 in
    let refused = rw (c.in_ok-arcs.ensures, c.deref-2.ensures.value) at c.in_err-deal.ensures.refused in
    rw (p.1, p.2) refused

pub returns-clause-least : goal.returns-clause-least
returns-clause-least g c =
    let least : NoneCheaper (g.N.Network.list c.args.network.now) c.args.solution.now.entries.items c.deal.new.amounts = rw (c.in_ok-arcs.ensures, c.deref-2.ensures.value) at c.in_ok-deal.ensures.least in
    let same : c.from_vec.result ≡ c.deal.new.amounts = c.from_vec.ensures ∙ take_at c.deal.new.amounts _ c.in_ok-amounts.amounts.len (c.deal.auto.amounts ∙ c.deref_mut-2.ensures.len) in
    rw same least

pub returns-clause-tested : goal.returns-clause-tested
returns-clause-tested g c = rw (c.in_ok-arcs.ensures, c.deref-2.ensures.value) at c.in_ok-deal.ensures.tested
