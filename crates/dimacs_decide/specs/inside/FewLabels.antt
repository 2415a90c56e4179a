-- Inside: blocks that label few nodes.
use Rattle.std.specs.Prelude.{ℕ, ◌≡◌, ◌<◌, Bool, false, List, Contains, length, get_or, IfSome, Option, Some, None, ℤ}
use Rattle.dimacs_network.specs.{declared.network.ArcView.{ArcView}, Arcs.{NetworkValue, arc_at}, Tables.{value_of}}
use Rattle.dimacs_network.specs.{AdjacencyLists.{AreAdjacencyLists}, declared.adjacency_lists.Side.TheVariants.{Tail}}
use Rattle.dimacs_records.specs.declared.reasons.Reason.{Reason}
use Rattle.dimacs_judging.specs.{CertificateTests.{RelaxFails}, LightestArcs.{Covers}}
use Rattle.dimacs_claims.specs.Labels.{BlockValue, distance_in, no_label}
use Rattle.dimacs_decide.specs.declared.few_labels.Tables.{Tables}

-- the place of each label, by its node; those of other nodes may be any
abbrev pub ArePlaced : BlockValue → (ℕ → ℕ) → Type 0
ArePlaced b places = (j : ℕ) → j < length b.labels → places (get_or b.labels j no_label).id ≡ j

-- each label is the one of its node
abbrev pub AreNamed : BlockValue → Type 0
AreNamed b = (j : ℕ) → j < length b.labels → distance_in b.labels (get_or b.labels j no_label).id ≡ Some (get_or b.labels j no_label).dist

-- no arc that leaves this node fails
abbrev pub ArcsHoldFrom : List ArcView → (ℕ → Option ℤ) → ℕ → Type 0
ArcsHoldFrom arcs claim v =
    (k : ℕ) → k < length arcs → (arc_at arcs k).tail ≡ v
    → (reason : Reason) → ¬ RelaxFails None (claim (arc_at arcs k).tail) (claim (arc_at arcs k).head) (arc_at arcs k).cost reason

-- no node is reached
abbrev pub IsUnreached : (ℕ → Bool) → Type 0
IsUnreached reached = (v : ℕ) → reached v ≡ false

-- each lightest arc is one of all, and each of all has a lightest one with its ends that weighs no more
pub record AreLightest (all lightest : List ArcView) : Type 0 where
  pub within : (a : ArcView) → Contains lightest a → Contains all a
  pub cover : (a : ArcView) → Contains all a → (b : ArcView) × Contains lightest b × Covers b a

-- the arcs of this network, if there is one
abbrev pub arcs_followed : List ArcView → Option NetworkValue → List ArcView
arcs_followed arcs None = arcs
arcs_followed arcs (Some lightest) = lightest.arcs

-- a search can begin in these tables, over the lightest arcs of the graph
pub record AreFree (g : NetworkValue) (tables : Tables) : Type 0 where
  pub unreached : IsUnreached (value_of tables.reached)
  pub nodes : IfSome tables.lightest (λ network. network.nodes ≡ g.nodes)
  pub lightest : IfSome tables.lightest (λ network. AreLightest g.arcs network.arcs)
  pub lists : AreAdjacencyLists Tail (arcs_followed g.arcs tables.lightest) tables.lists
