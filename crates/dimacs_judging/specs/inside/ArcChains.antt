-- Inside: the first arcs of a network, in chains by their ends.
use Rattle.std.specs.Prelude.{ℕ, ◌≤◌, ◌+◌, ◌*◌, ◌-◌, ◌/◌, ◌^◌, List, Option, Some, None, length, map, get_or, bit_and}
use Rattle.dimacs_network.specs.{declared.network.ArcView.{ArcView}, declared.adjacency_lists.Side.TheVariants.{Tail}}
use Rattle.dimacs_network.specs.{Arcs.{IsKthBetween, no_arc}, AdjacencyLists.{AreLinked}}
use Rattle.dimacs_judging.specs.declared.arc_chains.ArcChains.{ArcChains}

-- the first arc between two nodes
abbrev pub IsFirstBetween : List ArcView → ℕ → ℕ → ℕ → Type 0
IsFirstBetween arcs tail head arc = IsKthBetween arcs tail head 0 (Some arc)

-- the number of the arc's chain among these; it depends on its ends alone
abbrev pub chain_of : ℕ → ℕ → ArcView → ℕ
chain_of step chains a = bit_and (a.tail * step + bit_and (a.head * 2654435761 / 2 ^ 20) 4095) (chains - 1)

-- an arc that leaves the node with the number of this arc's chain
abbrev pub in_chain : ℕ → ℕ → ArcView → ArcView
in_chain step chains a = record no_arc { tail = chain_of step chains a }

-- the arcs, each leaving the node with the number of its chain
abbrev pub by_chain : ArcChains → List ArcView → List ArcView
by_chain p arcs = map (in_chain p.step (length p.last.items)) arcs

-- the first arcs are in their chains
pub record AreChained (arcs : List ArcView) (p : ArcChains) : Type 0 where
  pub has_chain : 1 ≤ length p.last.items
  pub within : length p.before.items ≤ length arcs
  pub linked : AreLinked Tail (by_chain p arcs) (length p.before.items) (λ chain. get_or p.last.items chain 0) p.before.items

-- the first arcs are in their chains, if they are kept
abbrev pub AreChainedIf : List ArcView → Option ArcChains → Type 0
AreChainedIf arcs None = Unit {0}
AreChainedIf arcs (Some p) = AreChained arcs p
