-- The blocks of all sources pass the judge's tests.
use Rattle.std.proofs.Common.{◌≡◌, inl, ℕ, ◌+◌, ◌<◌, ◌≤◌, true, false, cond, List, [], ◌∷◌, ◌++◌, All, length, refl, sym, ap, subst, ◌∙◌, arith, Some, None, ℤ, pos}
use Rattle.std.proofs.{Math.IntN.{pos-+ℤ-pos}, Math.Seq.{get_or-append_seam}, lemmas.Bool.{eqb-true, eq-eqb}}
use Rattle.std.proofs.{lemmas.Int.{ints}, lemmas.List.{get_or_append_left, length-append, map-append}}
use Rattle.std.proofs.lemmas.List.Elements.{All-weaker, All-nil, All-cons, All-head, All-tail, All-from_get_or, All-push, All-contains}
use Rattle.std.proofs.lemmas.List.Folds.{Any-from_list_any, list_any-from_Any}
use Rattle.std.specs.{Prelude.{◌==◌, ◌||◌, ◌+ℤ◌, map}, List.{list_any, flat_map}}
use Rattle.dimacs_lines.specs.Limits.{IsNode}
use Rattle.dimacs_network.specs.Arcs.{NetworkValue, arc_at, no_arc}
use Rattle.dimacs_instance.specs.QueryTexts.{QueriesValue, AreIds, HaveIds, Sources, Pairs}
use Rattle.dimacs_claims.specs.declared.label_list.Label.{Label}
use Rattle.dimacs_claims.specs.Labels.{AreLabels, BlockValue, LabelsValue, IsNewSource, has_source, label}
use Rattle.dimacs_judging.specs.{Labels.{HasWeights, HasTightArc, IsRelaxed, LabelsOk}, Laws.{PassingShowsLaw}}
use Rattle.dimacs_judging.specs.{PathsJudge.{PassesPaths}, inside.QueryTests.{ends_of}}
use Rattle.dimacs_judging.specs.QueryTests.{HasBlock, HasFullBlock, IsServed, nodes_asked, sources_asked}
use Rattle.dimacs_judging.proofs.BlockNumbers.{block_found}
use Rattle.dimacs_solve.specs.{declared.adjacency.Adjacency.{Adjacency}, declared.packed_arc.WeightedArc.{WeightedArc}}
use Rattle.dimacs_solve.specs.inside.Adjacency.{out, out_arc_to, IsOutArcOf, IsAdjacencyOf}
use Rattle.dimacs_solve.specs.{inside.Blocks.{AddsBlock, AreSolved}, inside.Search.{HasTightOutArc, IsPathTree}}
use Rattle.dimacs_solve.specs.Paths.{AreProduced, IsNearestFirst, block_source, distinct_after, noted}

-- ---- the labels of one search pass
module _ (g : NetworkValue) (a : Adjacency) (by : IsAdjacencyOf g.nodes g.arcs a) (b : BlockValue) (tree : IsPathTree a b.source b) where
  out_arc_tight : (l : Label) → HasTightOutArc a b l → HasTightArc g.arcs b l
  out_arc_tight l is =
      let arc : IsOutArcOf g.arcs l.pred (out_arc_to l.id is.weight) = All-contains (IsOutArcOf g.arcs l.pred) (out a l.pred) (out_arc_to l.id is.weight) (by.leaving l.pred).sound is.out_arc in
      let sum : (pos is.base +ℤ arc.arc.cost) ≡ l.dist = ap (λ c. pos is.base +ℤ c) arc.weighs ∙ (pos-+ℤ-pos is.base is.weight ∙ sym is.adds) in
      (pos is.base, is.pred, record { arc = arc.arc; present = arc.present; from = arc.from; to = arc.to; adds = sum })

  closed_relaxed : (k : ℕ) → k < length g.arcs → IsRelaxed b (arc_at g.arcs k)
  closed_relaxed k inside d h =
      let arc = arc_at g.arcs k in
      let at = tree.positive arc.tail d h in
      let among = (by.leaving arc.tail).complete k inside refl in
      let next = All-contains (λ (out_arc : WeightedArc). (e : ℕ) × (label b out_arc.head ≡ Some (pos e)) × (e ≤ at.0 + out_arc.weight)) (out a arc.tail) (out_arc_to arc.head among.0) (tree.closed arc.tail at.0 (h ∙ ap (λ (z : ℤ). Some z) at.1)) among.2 in
      inl (pos next.0, next.1, omega (arith, ints, next.2, at.1, among.1))

  tree_passes : LabelsOk g.arcs b
  tree_passes = record {
    weights = subst (λ radius. HasWeights radius g.arcs) (sym tree.unbounded) tt;
    tight = All-weaker (HasTightOutArc a b) (HasTightArc g.arcs b) out_arc_tight b.labels tree.tight;
    relaxed = All-from_get_or (IsRelaxed b) g.arcs no_arc closed_relaxed;
  }

-- ---- the distinct sources
noted_last : (old ns : List ℕ) (n : ℕ) → distinct_after old (ns ++ n ∷ []) ≡ noted (distinct_after old ns) n
noted_last old [] n = refl
noted_last old (m ∷ ns) n = noted_last (noted old m) ns n

sources_any : (source : ℕ) (blocks : List BlockValue) → list_any (λ m. m == source) (map block_source blocks) ≡ list_any (has_source source) blocks
sources_any source [] = refl
sources_any source (b ∷ blocks) = ap (λ t. (b.source == source) || t) (sources_any source blocks)

has_more : (blocks : List BlockValue) (b : BlockValue) (source : ℕ) → HasBlock blocks source → HasBlock (blocks ++ b ∷ []) source
has_more blocks b source (k, x, inside, is, p) = (k, x, omega (arith, inside, length-append blocks (b ∷ [])), get_or_append_left blocks (b ∷ []) x k inside ∙ is, p)

has_last : (blocks : List BlockValue) (b : BlockValue) → HasBlock (blocks ++ b ∷ []) b.source
has_last blocks b = (length blocks, b, omega (arith, length-append blocks (b ∷ [])), get_or-append_seam blocks b [] b, refl)

has_found : (blocks : List BlockValue) (source : ℕ) → list_any (has_source source) blocks ≡ true → HasBlock blocks source
has_found blocks source some =
    let any = Any-from_list_any (has_source source) blocks some in
    (any.0, any.1, any.2, any.3, eqb-true any.1.source source any.4)

pub solved_none : (a : Adjacency) (labels : LabelsValue) → labels ≡ record { nodes = a.nodes; blocks = [] } → AreLabels labels → AreSolved a [] labels
solved_none a labels is lawful = record {
  lawful = lawful;
  nodes = ap (λ (l : LabelsValue). l.nodes) is;
  trees = rw is (All-nil (λ (b : BlockValue). IsPathTree a b.source b));
  sources_are = ap (λ (l : LabelsValue). map block_source l.blocks) is;
  found = All-nil (HasBlock labels.blocks);
}

pub solved_more : (a : Adjacency) (sources : List ℕ) (source : ℕ) (old new : LabelsValue) → list_any (has_source source) old.blocks ≡ false → AddsBlock a source old new → AreSolved a sources old → AreSolved a (sources ++ source ∷ []) new
solved_more a sources source old new fresh adds is =
    let b = adds.block in
    let from : b.source ≡ source = adds.tree.from in
    let blocks : new.blocks ≡ old.blocks ++ b ∷ [] = ap (λ (l : LabelsValue). l.blocks) adds.with in
    let none : list_any (λ m. m == source) (distinct_after [] sources) ≡ false = subst (λ ms. list_any (λ m. m == source) ms ≡ false) is.sources_are (sources_any source old.blocks ∙ fresh) in
    record {
      lawful = adds.lawful;
      nodes = ap (λ (l : LabelsValue). l.nodes) adds.with ∙ is.nodes;
      trees = subst (All (λ (b : BlockValue). IsPathTree a b.source b)) (sym blocks) (All-push (λ (b : BlockValue). IsPathTree a b.source b) old.blocks b is.trees (subst (λ s. IsPathTree a s b) (sym from) adds.tree));
      sources_are = ap (map block_source) blocks ∙ (map-append block_source old.blocks (b ∷ []) ∙ (ap (λ s. map block_source old.blocks ++ s ∷ []) from
          ∙ (ap (λ ms. ms ++ source ∷ []) is.sources_are ∙ (sym (ap (λ t. cond t (distinct_after [] sources) (distinct_after [] sources ++ source ∷ [])) none) ∙ sym (noted_last [] sources source)))));
      found = subst (λ bs. All (HasBlock bs) (sources ++ source ∷ [])) (sym blocks)
          (All-push (HasBlock (old.blocks ++ b ∷ [])) sources source (All-weaker (HasBlock old.blocks) (HasBlock (old.blocks ++ b ∷ [])) (has_more old.blocks b) sources is.found) (subst (HasBlock (old.blocks ++ b ∷ [])) from (has_last old.blocks b)));
    }

pub solved_again : (a : Adjacency) (sources : List ℕ) (source : ℕ) (labels : LabelsValue) → list_any (has_source source) labels.blocks ≡ true → AreSolved a sources labels → AreSolved a (sources ++ source ∷ []) labels
solved_again a sources source labels there is =
    let some : list_any (λ m. m == source) (distinct_after [] sources) ≡ true = subst (λ ms. list_any (λ m. m == source) ms ≡ true) is.sources_are (sources_any source labels.blocks ∙ there) in
    record {
      lawful = is.lawful;
      nodes = is.nodes;
      trees = is.trees;
      sources_are = is.sources_are ∙ (sym (ap (λ t. cond t (distinct_after [] sources) (distinct_after [] sources ++ source ∷ [])) some) ∙ sym (noted_last [] sources source));
      found = All-push (HasBlock labels.blocks) sources source is.found (has_found labels.blocks source there);
    }

pub new_source : (source : ℕ) (blocks : List BlockValue) → list_any (has_source source) blocks ≡ false → (b : BlockValue) → b.source ≡ source → IsNewSource blocks b
new_source source blocks none b from other (k, inside, is) same =
    let some = list_any-from_Any (has_source source) blocks (k, other, inside, is, eq-eqb other.source source (same ∙ from)) in
    cc

-- ---- the nodes asked for
pairs_within : (nodes : ℕ) (pairs : List (ℕ × ℕ)) → All AreIds pairs → All (λ id. id ≤ nodes) (flat_map ends_of pairs) → All (IsNode nodes) (map (λ (pair : ℕ × ℕ). pair.0) pairs)
pairs_within nodes [] ids within = All-nil (IsNode nodes)
pairs_within nodes (p ∷ pairs) ids within =
    let P : ℕ → Type 0 = λ id. id ≤ nodes in
    All-cons (IsNode nodes) p.0 (map (λ (pair : ℕ × ℕ). pair.0) pairs) ((All-head AreIds p pairs ids).0.0, All-head P p.0 (p.1 ∷ flat_map ends_of pairs) within)
    (pairs_within nodes pairs (All-tail AreIds p pairs ids) (All-tail P p.1 (flat_map ends_of pairs) (All-tail P p.0 (p.1 ∷ flat_map ends_of pairs) within)))

pub sources_are_nodes : (nodes : ℕ) (q : QueriesValue) → HaveIds q → All (λ id. id ≤ nodes) (nodes_asked q) → All (IsNode nodes) (sources_asked q)
sources_are_nodes nodes (Sources ids) are within = λ k d h. ((are k d h).0, within k d h)
sources_are_nodes nodes (Pairs pairs) are within = pairs_within nodes pairs are within

-- ---- blocks without a radius answer all queries
has_full : (blocks : List BlockValue) (source : ℕ) → All (λ (b : BlockValue). b.radius ≡ None) blocks → HasBlock blocks source → HasFullBlock blocks source
has_full blocks source unbounded has =
    let (i, b, inside, there, found, same) = block_found blocks source has in
    (b, found, All-contains (λ (d : BlockValue). d.radius ≡ None) blocks b unbounded (i, inside, there))

served : (q : QueriesValue) (blocks : List BlockValue) (sources : List ℕ) → All (λ (b : BlockValue). b.radius ≡ None) blocks → All (HasBlock blocks) sources → All (IsServed blocks q) sources
served (Sources ids) blocks sources unbounded found = All-weaker (HasBlock blocks) (HasFullBlock blocks) (λ source. has_full blocks source unbounded) sources found
served (Pairs pairs) blocks sources unbounded found = found

-- ---- all together
pub produced : (g : NetworkValue) (q : QueriesValue) (a : Adjacency) (labels : LabelsValue) → PassingShowsLaw → IsAdjacencyOf g.nodes g.arcs a → All (λ id. id ≤ g.nodes) (nodes_asked q) → AreSolved a (sources_asked q) labels → AreProduced g q labels
produced g q a labels passing_shows by within is =
    let T : BlockValue → Type 0 = λ b. IsPathTree a b.source b in
    let unbounded = All-weaker T (λ (b : BlockValue). b.radius ≡ None) (λ b tree. tree.unbounded) labels.blocks is.trees in
    let passes : PassesPaths g q labels = record {
      nodes = is.nodes ∙ by.of_nodes;
      queries = within;
      blocks = served q labels.blocks (sources_asked q) unbounded is.found;
      labels = All-weaker T (LabelsOk g.arcs) (λ b tree. tree_passes g a by b tree) labels.blocks is.trees;
    } in
    record {
      shows = passing_shows g q labels is.lawful passes;
      nearest_first = All-weaker T (λ (b : BlockValue). IsNearestFirst b.labels) (λ b tree. tree.nearest_first) labels.blocks is.trees;
      unbounded = unbounded;
      sources = is.sources_are;
    }
