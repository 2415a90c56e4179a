-- The tests of queries: their nodes, and the blocks that answer them.
use Rattle.std.specs.{Prelude.{ℕ, ◌≡◌, ◌<◌, List, [], ◌∷◌, map, length, get_or, Some, None}, List.{Any, flat_map}}
use Rattle.dimacs_instance.specs.QueryTexts.{QueriesValue, Sources, Pairs}
use Rattle.dimacs_claims.specs.Labels.{BlockValue}
use Rattle.dimacs_records.specs.declared.reasons.Reason.{Reason}
use Rattle.dimacs_records.specs.declared.reasons.Reason.TheVariants.{QueryNode, BlockMissing}
use Rattle.dimacs_judging.specs.{declared.verdict.Where.TheVariants.{Node}, Answers.{block_of}, Tests.{Row}}

-- the nodes that queries name, query by query: of a pair FROM before TO
abbrev pub nodes_asked : QueriesValue → List ℕ
nodes_asked (Sources ids) = ids
nodes_asked (Pairs pairs) = flat_map (λ (pair : ℕ × ℕ). pair.0 ∷ pair.1 ∷ []) pairs

-- the source of each query: its node, or FROM
abbrev pub sources_asked : QueriesValue → List ℕ
sources_asked (Sources ids) = ids
sources_asked (Pairs pairs) = map (λ pair. pair.0) pairs

-- some block has this source
abbrev pub HasBlock : List BlockValue → ℕ → Type 0
HasBlock blocks source = Any (λ b. b.source ≡ source) blocks

-- the block of this source has no radius
abbrev pub HasFullBlock : List BlockValue → ℕ → Type 0
HasFullBlock blocks source = (b : BlockValue) × (block_of blocks source ≡ Some b) × (b.radius ≡ None)

-- a block answers the query; one that asks for all distances needs a block without a radius
abbrev pub IsServed : List BlockValue → QueriesValue → ℕ → Type 0
IsServed blocks (Sources ids) source = HasFullBlock blocks source
IsServed blocks (Pairs pairs) source = HasBlock blocks source

-- a test of each node of a list, in order
abbrev pub listed_row : List ℕ → Reason → (ℕ → Type 0) → Row
listed_row ids why fails k place reason = (k < length ids) × (place ≡ Node (get_or ids k 0)) × (reason ≡ why) × fails (get_or ids k 0)

-- a query has a node above the number of nodes
abbrev pub query_node_row : ℕ → QueriesValue → Row
query_node_row nodes queries = listed_row (nodes_asked queries) QueryNode (λ id. nodes < id)

-- no block answers a query
abbrev pub block_row : List BlockValue → QueriesValue → Row
block_row blocks queries = listed_row (sources_asked queries) BlockMissing (λ source. ¬ IsServed blocks queries source)
