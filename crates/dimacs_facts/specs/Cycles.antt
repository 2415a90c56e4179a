-- Cycles of negative weight.
use Rattle.std.specs.Prelude.{ℕ, List, ℤ, pos, ◌<ℤ◌}
use Rattle.dimacs_network.specs.declared.network.ArcView.{ArcView}
use Rattle.dimacs_judging.specs.Walks.{Dist}
use Rattle.dimacs_facts.specs.Walks.{HasWalk}

-- a walk from s leads to a node from which one leads back that weighs less than 0
pub record HasNegativeCycle (g : List ArcView) (s : ℕ) : Type 0 where
  pub node : ℕ
  pub there : (d : ℤ) × HasWalk g s node d
  pub around : ℤ
  pub back : HasWalk g node node around
  pub negative : around <ℤ pos 0

-- a node to which a negative cycle leads that the source reaches has no distance
abbrev pub NegativeCycleLaw : Type 0
NegativeCycleLaw = (g : List ArcView) (s t : ℕ) (c : HasNegativeCycle g s) (e : ℤ) → HasWalk g c.node t e → (d : ℤ) → ¬ Dist g s t d
