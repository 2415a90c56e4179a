-- Inside: the tests of queries: their nodes, and the blocks that answer them.
use Rattle.std.specs.{Prelude.{ℕ, ◌≡◌, List, [], ◌∷◌, Option, Result, Ok, Err, ℤ, option_and_then}, List.{position}}
use Rattle.std.specs.{Ordering.{nat_cmp}, FinMap.{FinMap, get}}
use Rattle.dimacs_instance.specs.QueryTexts.{QueriesValue}
use Rattle.dimacs_claims.specs.Labels.{BlockValue, has_source}
use Rattle.dimacs_judging.specs.{declared.verdict.JudgeError.{JudgeError}, Answers.{block_of}, QueryTests.{block_row}}
use Rattle.dimacs_judging.specs.Tests.{Clear, FirstOfRow, Refuses}

-- the nodes of a pair, FROM before TO
abbrev pub ends_of : ℕ × ℕ → List ℕ
ends_of pair = pair.0 ∷ pair.1 ∷ []

-- the radius of a block, if there are both
abbrev pub radius_in : Option BlockValue → Option ℤ
radius_in block = option_and_then (λ (b : BlockValue). b.radius) block

-- the radius of a node's block; none without a radius or without a block
abbrev pub radius_from : List BlockValue → ℕ → Option ℤ
radius_from blocks from = radius_in (block_of blocks from)

-- each source has the number of its first block, from 0; a node without a block has none
abbrev pub AreNumbers : List BlockValue → FinMap nat_cmp ℕ → Type 0
AreNumbers blocks numbers = (source : ℕ) → get numbers source ≡ position (has_source source) blocks

-- the numbers of the blocks if each query has a block that answers it; otherwise the first that has none
abbrev pub TestsBlocks : List BlockValue → QueriesValue → Result (FinMap nat_cmp ℕ) JudgeError → Type 0
TestsBlocks blocks queries (Ok numbers) = AreNumbers blocks numbers × Clear (block_row blocks queries)
TestsBlocks blocks queries (Err error) = Refuses (FirstOfRow (block_row blocks queries)) error
