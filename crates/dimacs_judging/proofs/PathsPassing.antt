-- If labels and queries pass all tests, the answers are distances.
use Rattle.std.proofs.Common.{◌≡◌, ℕ, List, [], ◌∷◌, All, map, Option, Some, None, ℤ, Result, Err, inl, inr, subst}
use Rattle.std.proofs.lemmas.List.Elements.{All-nil, All-cons, All-head, All-tail}
use Rattle.std.specs.Prelude.{IsErrAnd, if◌then◌else◌, is_some}
use Rattle.dimacs_network.specs.{declared.network.ArcView.{ArcView}, Arcs.{NetworkValue}}
use Rattle.dimacs_instance.specs.QueryTexts.{QueriesValue}
use Rattle.dimacs_claims.specs.Labels.{AreLabels, BlockValue, LabelsValue, label}
use Rattle.dimacs_judging.specs.{declared.verdict.JudgeError.{JudgeError}, declared.verdict.Verdict.{Verdict}}
use Rattle.dimacs_judging.specs.{declared.verdict.JudgeError.TheVariants.{Refused, Memory}, Agreement.{nodes_row}}
use Rattle.dimacs_judging.specs.{Answers.{AnswersQueries, beyond_from, distance_from}, CertificateTests.{label_rows}}
use Rattle.dimacs_judging.specs.{Labels.{AreDistances}, Tests.{Clear, AllClear, FirstOfRow, First, Judges, Refuses}}
use Rattle.dimacs_judging.specs.PathsJudge.{paths_rows, PassesPaths, AnswersAreDistances, ShowsDistances}
use Rattle.dimacs_judging.specs.QueryTests.{HasBlock, IsServed, sources_asked, query_node_row, block_row}
use Rattle.dimacs_judging.specs.{inside.Tests.{TestsAll}, Walks.{IsDistance}}
use Rattle.dimacs_judging.proofs.{BlockNumbers.{block_found}, Firsts.{AllOneWay, one_test_one_way}}
use Rattle.dimacs_judging.proofs.LabelsPassing.{labels_hold, labels_clear, passing_are_distances}
use Rattle.dimacs_judging.proofs.{Passing.{nodes_are, nodes_clear}, Reasons.{labels_one_way}, Settling.{error_judges}}
use Rattle.dimacs_judging.proofs.QueriesPassing.{query_node_one_way, block_one_way, query_nodes_hold, query_nodes_clear, query_blocks_hold, query_blocks_clear}
use Rattle.dimacs_instance.specs.QueryTexts as queries
use Rattle.dimacs_records.specs.declared.reasons.Reason.TheVariants as reasons
use Rattle.dimacs_judging.specs.declared.verdict.Where.TheVariants as places

paths_pass : (g : NetworkValue) (q : QueriesValue) (l : LabelsValue) → AllClear (paths_rows g q l) → PassesPaths g q l
paths_pass g q l clear = record {
  nodes = nodes_are g.nodes l.nodes clear.0;
  queries = query_nodes_hold g.nodes q clear.1.0;
  blocks = query_blocks_hold l.blocks q clear.1.1.0;
  labels = labels_hold g.arcs l.blocks clear.1.1.1;
}

pub paths_clear : (g : NetworkValue) (q : QueriesValue) (l : LabelsValue) → PassesPaths g q l → AllClear (paths_rows g q l)
paths_clear g q l passes =
    (nodes_clear g.nodes l.nodes passes.nodes, (query_nodes_clear g.nodes q passes.queries, (query_blocks_clear l.blocks q passes.blocks, labels_clear g.arcs l.blocks passes.labels)))

paths_one_way : (g : NetworkValue) (q : QueriesValue) (l : LabelsValue) → AllOneWay (paths_rows g q l)
paths_one_way g q l = (one_test_one_way places.Certificate reasons.NodesDiffer _, (query_node_one_way g.nodes q, (block_one_way l.blocks q, labels_one_way g.arcs l.blocks)))

-- ---- distances
-- the answer of the labels is the distance
abbrev HasDistance : List ArcView → List BlockValue → ℕ × ℕ → Type 0
HasDistance arcs blocks pair = IsDistance arcs pair.0 pair.1 (distance_from blocks pair.0 pair.1) (beyond_from blocks pair.0 pair.1)

-- an answer with a distance needs no radius
told_beyond : (arcs : List ArcView) (s t : ℕ) (outcome radius : Option ℤ) → IsDistance arcs s t outcome radius → IsDistance arcs s t outcome (if is_some outcome then None else radius)
told_beyond arcs s t (Some d) radius is = is
told_beyond arcs s t None radius is = is

one_distance : (arcs : List ArcView) (blocks : List BlockValue) (from to : ℕ) → AreDistances arcs blocks → HasBlock blocks from → IsDistance arcs from to (distance_from blocks from to) (beyond_from blocks from to)
one_distance arcs blocks from to all has =
    let (i, b, inside, there, found, same) = block_found blocks from has in
    let here : IsDistance arcs b.source to (label b to) b.radius = rw there at (all i b inside to) in
    rw found (told_beyond arcs from to (label b to) b.radius (subst (λ (source : ℕ). IsDistance arcs source to (label b to) b.radius) same here))

answered : (arcs : List ArcView) (blocks : List BlockValue) (pairs : List (ℕ × ℕ)) → AreDistances arcs blocks → All (HasBlock blocks) (map (λ pair. pair.0) pairs) → All (HasDistance arcs blocks) pairs
answered arcs blocks [] all has = All-nil (HasDistance arcs blocks)
answered arcs blocks (p ∷ pairs) all has =
    All-cons (HasDistance arcs blocks) p pairs
    (one_distance arcs blocks p.0 p.1 all (All-head (HasBlock blocks) p.0 (map (λ pair. pair.0) pairs) has))
    (answered arcs blocks pairs all (All-tail (HasBlock blocks) p.0 (map (λ pair. pair.0) pairs) has))

answers_are_distances : (arcs : List ArcView) (blocks : List BlockValue) (q : QueriesValue) → AreDistances arcs blocks → All (IsServed blocks q) (sources_asked q) → AnswersAreDistances arcs blocks q
answers_are_distances arcs blocks (queries.Sources ids) all has = tt
answers_are_distances arcs blocks (queries.Pairs pairs) all has = answered arcs blocks pairs all has

-- ---- what passing shows
pub passing_shows : (g : NetworkValue) (q : QueriesValue) (l : LabelsValue) → AreLabels l → PassesPaths g q l → ShowsDistances g q l
passing_shows g q l lawful passes =
    let labels = passing_are_distances g.arcs l lawful passes.labels in
    record { passes = passes; labels = labels; answers = answers_are_distances g.arcs l.blocks q labels passes.blocks }

pub paths_shown : (g : NetworkValue) (q : QueriesValue) (l : LabelsValue) → AreLabels l → AllClear (paths_rows g q l) → ShowsDistances g q l
paths_shown g q l lawful clear = passing_shows g q l lawful (paths_pass g q l clear)

-- the first test that fails is the judge's error
pub paths_judged : (g : NetworkValue) (q : QueriesValue) (l : LabelsValue) (error : JudgeError) → Refuses (First (paths_rows g q l)) error → (result : Result Verdict JudgeError) → IsErrAnd result (λ e. e ≡ error)
    → Judges (paths_rows g q l) (ShowsDistances g q l) (AnswersQueries l.blocks q) result
paths_judged g q l error first result is = error_judges (paths_rows g q l) (ShowsDistances g q l) (AnswersQueries l.blocks q) (paths_one_way g q l) (λ shows. paths_clear g q l shows.passes) error first result is

pub blocks_refused : (g : NetworkValue) (q : QueriesValue) (l : LabelsValue) → Clear (nodes_row g.nodes l.nodes) → Clear (query_node_row g.nodes q) → (error : JudgeError) → Refuses (FirstOfRow (block_row l.blocks q)) error → Refuses (First (paths_rows g q l)) error
blocks_refused g q l nodes named (Refused place reason) first = inr (nodes, inr (named, inl first))
blocks_refused g q l nodes named Memory first = tt

pub labels_refused : (g : NetworkValue) (q : QueriesValue) (l : LabelsValue) → Clear (nodes_row g.nodes l.nodes) → Clear (query_node_row g.nodes q) → Clear (block_row l.blocks q) → (error : JudgeError) → TestsAll (label_rows g.arcs l.blocks) (Err error) → Refuses (First (paths_rows g q l)) error
labels_refused g q l nodes named found (Refused place reason) first = inr (nodes, inr (named, inr (found, first)))
labels_refused g q l nodes named found Memory first = tt
