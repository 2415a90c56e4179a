-- If each distance has a tight arc of positive weight, the distances are right.
use Rattle.std.proofs.Common.{◌≡◌, ◌≢◌, inl, inr, ℕ, ◌≤◌, List, [], ◌∷◌, All, Option, Some, Ok, IsSome, is_some, ℤ, pos, ◌+ℤ◌, refl, sym, ap, subst, ◌∙◌, arith}
use Rattle.std.proofs.{lemmas.Bool.{cases_eq}, lemmas.Bool.Decides.{eqb_tells}, lemmas.Int.{ints}}
use Rattle.std.proofs.lemmas.List.Elements.{All-cons, All-nil}
use Rattle.dimacs_lines.specs.Limits.{most_nodes, IsNode}
use Rattle.dimacs_records.specs.Ranges.{IsWide}
use Rattle.dimacs_network.specs.Arcs.{JoinsNodes, NetworkValue}
use Rattle.dimacs_instance.specs.QueryTexts.{Sources}
use Rattle.dimacs_claims.specs.Labels.{BlockValue, AreLabels, LabelsValue}
use Rattle.dimacs_claims.proofs.BlockLemmas.{each_after_nil, labels_push}
use Rattle.dimacs_judging.proofs.{Passing.{nodes_clear}, PathsPassing.{passing_shows}, LabelsPassing.{labels_clear}}
use Rattle.dimacs_judging.proofs.QueriesPassing.{query_blocks_clear, query_nodes_clear}
use Rattle.dimacs_judging.specs.{Answers.{block_of}, Labels.{LabelsOk}, PathsJudge.{PassesPaths, paths_rows}}
use Rattle.dimacs_judging.specs.{QueryTests.{HasFullBlock}, Tests.{AllClear}}
use Rattle.dimacs_decide.specs.{Claims.{claimed_by_node}, Distances.{AreDistancesFrom}, TightTails.{HasTail}}
use Rattle.dimacs_decide.specs.{Predecessors.{NeedsPredecessor, pred_by_node}, inside.DistanceBlocks.{IsBlockOf}}
use Rattle.dimacs_decide.proofs.{ClaimLemmas.{shown}, TightTailLemmas.{all_tight}}
use Rattle.dimacs_arrays.specs.Paths.{AreLabelsBy, ArePredecessors, JudgesByNode}
use Rattle.dimacs_arrays.specs.inside.TightPredecessors.{AreTightPredecessorsFrom}
use Rattle.dimacs_arrays.proofs.{DistanceLemmas.{distance_within}, SinkLemmas.{AreNearer, IsNearer, sink_labels}}
use Rattle.dimacs_judging.specs.declared.verdict.Verdict.TheVariants as verdicts

module _ (g : NetworkValue) (s : ℕ) (distances : List ℤ) (preds : List ℕ) (node : IsNode g.nodes s) (small : g.nodes ≤ most_nodes) (joined : All (JoinsNodes g.nodes) g.arcs) (are : AreTightPredecessorsFrom g.nodes s g.arcs distances preds) where
  abbrev claim : ℕ → Option ℤ
  claim = claimed_by_node distances

  abbrev pred : ℕ → ℕ
  pred = pred_by_node preds

  inside : (v : ℕ) → IsSome (claim v) → IsNode g.nodes v
  inside v some = subst (λ n. IsNode n v) are.whole (distance_within distances v some)

  --   a tight arc of positive weight to a node from its predecessor
  tail_of : (v : ℕ) (d : ℤ) → v ≢ s → claim v ≡ Some d → HasTail g.arcs claim v (pred v)
  tail_of v d apart named = are.tails v (are.predecessors v (apart, ap is_some named))

  nearer : (v : ℕ) (d : ℤ) → v ≢ s → claim v ≡ Some d → IsNearer claim (pred v) d
  nearer v d apart named =
      let (a, has, tail, head, up) = tail_of v d apart named in
      let (e, tight) = up in
      let both : Some (e +ℤ a.cost) ≡ Some d = sym tight.head ∙ (ap claim head ∙ named) in
      let adds : e +ℤ a.cost ≡ d = cc in
      (e, ap claim (sym tail) ∙ tight.tail, omega (arith, ints, adds, tight.more))

  wide : (v : ℕ) (d : ℤ) → claim v ≡ Some d → IsWide d
  wide v d named = elim (cases_eq v s) [
    | inl same ↦
        let both : Some d ≡ Some (pos 0) = sym named ∙ (ap claim same ∙ are.source) in
        let none : pos 0 ≡ d = cc in
        subst IsWide none (omega (arith, ints), omega (arith, ints))
    | inr apart ↦
        let (a, has, tail, head, up) = tail_of v d apart named in
        let (e, tight) = up in
        let both : Some (e +ℤ a.cost) ≡ Some d = sym tight.head ∙ (ap claim head ∙ named) in
        let adds : e +ℤ a.cost ≡ d = cc in
        subst IsWide adds tight.wide
  ]

  others : (v : ℕ) → (¬ NeedsPredecessor s claim v) → pred v ≡ 0
  others v free = elim (cases_eq (pred v) 0) [
    | inl none ↦ none
    | inr some ↦
        let (a, has, tail, head, up) = are.tails v some in
        let (e, tight) = up in
        let named : claim v ≡ Some (e +ℤ a.cost) = ap claim (sym head) ∙ tight.head in
        let apart : v ≢ s = λ same. some (ap pred same ∙ are.root) in
        absurd (free (apart, ap is_some named))
  ]

  are_nearer : AreNearer g.nodes s claim pred
  are_nearer = record { source = node; at = are.source; inside = inside; wide = wide; nearer = nearer; others = others }

  module _ (labels : LabelsValue) (by : AreLabelsBy g.nodes s claim pred labels) where
    abbrev b : BlockValue
    b = by.block

    shows : AreDistancesFrom g s claim × IsBlockOf g s claim b
    shows = shown g s claim b joined by.source by.whole by.lawful (all_tight g claim pred b by.lawful by.agrees by.preds are.tails) by.agrees are.relaxed

    found_block : block_of (b ∷ []) s ≡ Some b
    found_block = elim (eqb_tells b.source s) [ inl same ↦ rw same.0 refl | inr apart ↦ absurd (apart.1 by.source) ]

    pub tight_pass : PassesPaths g (Sources (s ∷ [])) labels
    tight_pass =
        let alone : labels.blocks ≡ b ∷ [] = ap (λ (l : LabelsValue). l.blocks) by.alone in
        record {
          nodes = ap (λ (l : LabelsValue). l.nodes) by.alone;
          queries = All-cons (λ id. id ≤ g.nodes) s [] node.1 (All-nil _);
          blocks = All-cons (HasFullBlock labels.blocks) s [] (b, ap (λ blocks. block_of blocks s) alone ∙ found_block, by.whole) (All-nil _);
          labels = subst (All (LabelsOk g.arcs)) (sym alone) (All-cons (LabelsOk g.arcs) b [] shows.1.passes (All-nil _));
        }

    pub tight_true : AreDistancesFrom g s claim
    tight_true = shows.0

  --   the distances are right, and the predecessors show it
  pub tight_certified : AreDistancesFrom g s claim × ArePredecessors g s claim preds
  tight_certified =
      let (labels, by, order) = sink_labels g.nodes s claim pred small are_nearer in
      (tight_true labels by, record { each = are.each; some = (labels, by); pass = tight_pass })

  --   the judge accepts the labels that they spell
  pub tight_judged : JudgesByNode g s claim pred (Ok (verdicts.Sources 1))
  tight_judged =
      let (labels, by, order) = sink_labels g.nodes s claim pred small are_nearer in
      let passes = tight_pass labels by in
      let none : AreLabels (record { nodes = g.nodes; blocks = [] }) = record { nodes_few = small; blocks_few = omega arith; blocks = All-nil _; sources = each_after_nil _ } in
      let one = labels_push g.nodes [] by.block none by.lawful (λ other among. absurd (omega (arith, among.1))) (omega arith) in
      let lawful : AreLabels labels = subst AreLabels (sym by.alone) one in
      let clear : AllClear (paths_rows g (Sources (s ∷ [])) labels) = (nodes_clear g.nodes labels.nodes passes.nodes, (query_nodes_clear g.nodes (Sources (s ∷ [])) passes.queries, (query_blocks_clear labels.blocks (Sources (s ∷ [])) passes.blocks, labels_clear g.arcs labels.blocks passes.labels))) in
      inl (labels, by, order, (clear, passing_shows g (Sources (s ∷ [])) labels lawful passes, refl))
