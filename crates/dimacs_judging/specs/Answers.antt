-- The answers that labels give to queries.
use Rattle.std.specs.Prelude.{ℕ, ◌≡◌, if◌then◌else◌, List, map, is_some, length, Option, None, option_and_then, ℤ}
use Rattle.std.specs.List.{find}
use Rattle.dimacs_instance.specs.QueryTexts.{QueriesValue}
use Rattle.dimacs_claims.specs.Labels.{BlockValue, has_source, label_in}
use Rattle.dimacs_judging.specs.{declared.verdict.Answer.{Answer}, declared.verdict.Verdict.{Verdict}}
use Rattle.dimacs_instance.specs.QueryTexts as queries
use Rattle.dimacs_judging.specs.declared.verdict.Verdict.TheVariants as verdicts

-- the first block with this source
abbrev pub block_of : List BlockValue → ℕ → Option BlockValue
block_of blocks source = find (has_source source) blocks

-- the label of a node in the block of another; none without a label or without a block
abbrev pub distance_from : List BlockValue → ℕ → ℕ → Option ℤ
distance_from blocks from to = label_in (block_of blocks from) to

-- the radius of a node's block, if it has one and the other node has no label in it
abbrev pub beyond_from : List BlockValue → ℕ → ℕ → Option ℤ
beyond_from blocks from to = if is_some (distance_from blocks from to) then None else option_and_then (λ (b : BlockValue). b.radius) (block_of blocks from)

abbrev pub answer_to : List BlockValue → ℕ × ℕ → Answer
answer_to blocks pair = record {
  from = pair.0;
  to = pair.1;
  distance = distance_from blocks pair.0 pair.1;
  beyond = beyond_from blocks pair.0 pair.1;
}

-- the verdict has the number of sources, or the answer to each pair in order
abbrev pub AnswersQueries : List BlockValue → QueriesValue → Verdict → Type 0
AnswersQueries blocks (queries.Sources ids) (verdicts.Sources count) = count ≡ length ids
AnswersQueries blocks (queries.Pairs pairs) (verdicts.Pairs answers) = answers.items ≡ map (answer_to blocks) pairs
AnswersQueries blocks asked verdict = ⊥
