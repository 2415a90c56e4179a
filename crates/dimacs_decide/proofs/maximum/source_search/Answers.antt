use Rattle.std.proofs.Common.{◌≡◌, ℕ, ℤ, ap, sym, subst}
use Rattle.dimacs_network.specs.Tables.{value_of}
use Rattle.dimacs_decide.specs.inside.Residual.{IsResidualSearch}
use Rattle.dimacs_decide.proofs.maximum.source_search.Goals as goal

pub returns-clause-search : goal.returns-clause-search
returns-clause-search c nodes arcs x node =
    let old = c.new-search.result in
    let new = c.begin.new.self in
    let same : value_of old.imbalance ≡ value_of c.set-2.new.self = ap value_of c.new-search.ensures.imbalance in
    let kept : value_of new.imbalance ≡ value_of old.imbalance = ap value_of c.in_ok-begin.ensures.imbalance in
    let none = subst (λ (s : ℕ → ℤ). IsResidualSearch nodes arcs x s (value_of old.visits) old.queue.items 0) (sym same) (c.new-search.ensures.search nodes arcs x) in
    subst (λ (s : ℕ → ℤ). IsResidualSearch nodes arcs x s (value_of new.visits) new.queue.items 0) (sym kept) (c.in_ok-begin.ensures.search nodes arcs x node none)
