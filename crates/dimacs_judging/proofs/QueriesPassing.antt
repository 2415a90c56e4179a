-- If queries pass all tests, they have blocks that answer them.
use Rattle.std.proofs.Common.{◌≡◌, ◌⊎◌, inl, inr, ℕ, ◌<◌, ◌≤◌, List, All, get_or, Option, Some, None, ℤ, refl, sym, ap, ◌∙◌, arith}
use Rattle.std.proofs.{lemmas.Bool.{cases_lt}, lemmas.List.Elements.{All-get_or, All-from_get_or}}
use Rattle.std.specs.List.{position}
use Rattle.dimacs_records.specs.declared.reasons.Reason.{Reason}
use Rattle.dimacs_instance.specs.QueryTexts.{QueriesValue}
use Rattle.dimacs_judging.specs.{Answers.{block_of}, Tests.{Clear}}
use Rattle.dimacs_judging.specs.QueryTests.{HasBlock, HasFullBlock, IsServed, nodes_asked, sources_asked, listed_row, query_node_row, block_row}
use Rattle.dimacs_claims.specs.Labels.{BlockValue, has_source}
use Rattle.dimacs_judging.proofs.{BlockNumbers.{has_block, no_block}, Firsts.{OneWay}}
use Rattle.dimacs_records.specs.declared.reasons.Reason.TheVariants as reasons
use Rattle.dimacs_instance.specs.QueryTexts as kinds
use Rattle.dimacs_judging.specs.declared.verdict.Where.TheVariants as places

listed_one_way : (ids : List ℕ) (why : Reason) (fails : ℕ → Type 0) → OneWay (listed_row ids why fails)
listed_one_way ids why fails k p q r s f g = (f.1 ∙ sym g.1, f.2 ∙ sym g.2)

pub query_node_one_way : (nodes : ℕ) (queries : QueriesValue) → OneWay (query_node_row nodes queries)
query_node_one_way nodes queries = listed_one_way (nodes_asked queries) reasons.QueryNode (λ id. nodes < id)

pub block_one_way : (blocks : List BlockValue) (queries : QueriesValue) → OneWay (block_row blocks queries)
block_one_way blocks queries = listed_one_way (sources_asked queries) reasons.BlockMissing (λ source. ¬ IsServed blocks queries source)

-- if no test of a list fails, each node has the property; if each has it, none fails
listed_hold : (ids : List ℕ) (why : Reason) (fails holds : ℕ → Type 0) → ((id : ℕ) → (¬ fails id) → holds id) → Clear (listed_row ids why fails) → All holds ids
listed_hold ids why fails holds not_failed clear = All-from_get_or holds ids 0 (λ k inside. not_failed (get_or ids k 0) (λ off. clear k (places.Node (get_or ids k 0)) why (inside, refl, refl, off)))

listed_clear : (ids : List ℕ) (why : Reason) (fails holds : ℕ → Type 0) → ((id : ℕ) → holds id → ¬ fails id) → All holds ids → Clear (listed_row ids why fails)
listed_clear ids why fails holds kept all k place reason f = kept (get_or ids k 0) (All-get_or holds ids k 0 f.0 all) f.3

-- ---- nodes
pub query_nodes_hold : (nodes : ℕ) (queries : QueriesValue) → Clear (query_node_row nodes queries) → All (λ id. id ≤ nodes) (nodes_asked queries)
query_nodes_hold nodes queries clear = listed_hold (nodes_asked queries) reasons.QueryNode (λ id. nodes < id) (λ id. id ≤ nodes) (λ id off. elim (cases_lt nodes id) [ inl above ↦ absurd (off above) | inr within ↦ within ]) clear

pub query_nodes_clear : (nodes : ℕ) (queries : QueriesValue) → All (λ id. id ≤ nodes) (nodes_asked queries) → Clear (query_node_row nodes queries)
query_nodes_clear nodes queries all = listed_clear (nodes_asked queries) reasons.QueryNode (λ id. nodes < id) (λ id. id ≤ nodes) (λ id within above. omega (arith, within, above)) all

-- ---- blocks
block_or_none : (blocks : List BlockValue) (source : ℕ) → HasBlock blocks source ⊎ (¬ HasBlock blocks source)
block_or_none blocks source = by_number (position (has_source source) blocks) refl
  where
    by_number : (number : Option ℕ) → position (has_source source) blocks ≡ number → HasBlock blocks source ⊎ (¬ HasBlock blocks source)
    by_number None is = inr (no_block blocks source is)
    by_number (Some i) is = inl (has_block blocks source i is)

full_or_not : (blocks : List BlockValue) (source : ℕ) → HasFullBlock blocks source ⊎ (¬ HasFullBlock blocks source)
full_or_not blocks source = by_block (block_of blocks source) refl
  where
    by_radius : (b : BlockValue) → block_of blocks source ≡ Some b → (radius : Option ℤ) → b.radius ≡ radius → HasFullBlock blocks source ⊎ (¬ HasFullBlock blocks source)
    by_radius b is None none = inl (b, is, none)
    by_radius b is (Some r) some = inr (λ full.
        let both : Some b ≡ Some full.0 = sym is ∙ full.1 in
        let same : b ≡ full.0 = cc in
        let f : Some r ≡ None = sym some ∙ (ap (λ (d : BlockValue). d.radius) same ∙ full.2) in
        cc)

    by_block : (outcome : Option BlockValue) → block_of blocks source ≡ outcome → HasFullBlock blocks source ⊎ (¬ HasFullBlock blocks source)
    by_block None is = inr (λ full. let f : None ≡ Some full.0 = sym is ∙ full.1 in cc)
    by_block (Some b) is = by_radius b is b.radius refl

served_or_not : (blocks : List BlockValue) (queries : QueriesValue) (source : ℕ) → IsServed blocks queries source ⊎ (¬ IsServed blocks queries source)
served_or_not blocks (kinds.Sources ids) source = full_or_not blocks source
served_or_not blocks (kinds.Pairs pairs) source = block_or_none blocks source

pub query_blocks_hold : (blocks : List BlockValue) (queries : QueriesValue) → Clear (block_row blocks queries) → All (IsServed blocks queries) (sources_asked queries)
query_blocks_hold blocks queries clear =
    listed_hold (sources_asked queries) reasons.BlockMissing (λ source. ¬ IsServed blocks queries source) (IsServed blocks queries) (λ source off. elim (served_or_not blocks queries source) [ inl has ↦ has | inr none ↦ absurd (off none) ]) clear

pub query_blocks_clear : (blocks : List BlockValue) (queries : QueriesValue) → All (IsServed blocks queries) (sources_asked queries) → Clear (block_row blocks queries)
query_blocks_clear blocks queries all =
    listed_clear (sources_asked queries) reasons.BlockMissing (λ source. ¬ IsServed blocks queries source) (IsServed blocks queries) (λ source has none. none has) all
