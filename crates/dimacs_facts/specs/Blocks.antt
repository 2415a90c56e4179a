-- What a block of labels that are distances says of nodes without one.
use Rattle.std.specs.Prelude.{ℕ, ◌≡◌, ◌≢◌, List, Option, None, ℤ}
use Rattle.dimacs_network.specs.declared.network.ArcView.{ArcView}
use Rattle.dimacs_claims.specs.Labels.{BlockValue, label}
use Rattle.dimacs_judging.specs.Walks.{IsDistance, Unreachable}

-- its labels are distances
abbrev pub IsBlockOf : List ArcView → BlockValue → Type 0
IsBlockOf g b = (v : ℕ) → IsDistance g b.source v (label b v) b.radius

-- no walk leads from s to another node, or none within the radius
abbrev pub IsAlone : List ArcView → ℕ → Option ℤ → Type 0
IsAlone g s radius = (v : ℕ) → s ≢ v → IsDistance g s v None radius

-- no walk leads from its source to a node without a label
abbrev pub OthersUnreached : List ArcView → BlockValue → Type 0
OthersUnreached g b = (v : ℕ) → label b v ≡ None → Unreachable g b.source v
