use Rattle.std.proofs.{Common.{◌∙◌, IsSome, inl, inr, refl, sym, ap, subst, arith}, lemmas.Bool.{cases_order}}
use Rattle.dimacs_records.specs.declared.reasons.Reason.TheVariants.{PredUnknown}
use Rattle.dimacs_judging.proofs.RowLemmas.{node_first}
use Rattle.dimacs_network.specs.Tables.{value_of}
use Rattle.dimacs_decide.specs.{Predecessors.{pred_by_node}, inside.LabelTrees.{IsLabelTree}}
use Rattle.dimacs_decide.proofs.{LabelTreeLemmas.{all_agree}, PathBackLemmas.{labelled_so}}
use Rattle.dimacs_decide.proofs.label_tree.labelled_block.Goals as goal

pub loop-v-init : goal.loop-v-init
loop-v-init g c = record {
  same_claim = c.in_ok-tree.ensures.claim;
  same_pred = c.in_ok-tree.ensures.predecessors;
  tree = c.in_ok-tree.ensures.tree c.args.nodes c.requires.source;
  labelled = λ u less some. absurd (let inside = c.requires.within u some in omega (arith, less, inside.0));
}

pub label_from-requires : goal.label_from-requires
label_from-requires g c =
    let so_far = c.loop-v.invariant in
    let claim = g.C.DistanceClaim.claimed c.args.claim.now in
    rw (so_far.same_claim, so_far.same_pred) (record {
      proposed = record { small = c.requires.node_limit; within = c.requires.within; preds = c.requires.preds };
      tree = subst (λ s. IsLabelTree c.args.nodes s claim (pred_by_node c.args.predecessors.now) c.loop-v.tree.block (value_of c.loop-v.tree.labelled)) (sym so_far.tree.source) so_far.tree;
      earlier = so_far.labelled;
    })

pub returns-then-not-branch-clause-first : goal.returns-then-not-branch-clause-first
returns-then-not-branch-clause-first g c =
    let so_far = c.loop-v.invariant in
    let off = rw (c.if-not-branch.true, so_far.same_claim, so_far.same_pred, so_far.tree.source) at c.in_ok-label_from.ensures.labelled in
    node_first c.args.nodes _ c.loop-v.v PredUnknown c.loop-v.auto.v (omega (arith, c.loop-v-test.true))
    (λ u less place reason f. f.2.2 (so_far.tree.leads u (so_far.labelled u less f.2.1))) (refl, off.0, off.1)

pub loop-v-preserved : goal.loop-v-preserved
loop-v-preserved g c =
    let so_far = c.loop-v.invariant in
    let claim = g.C.DistanceClaim.claimed c.args.claim.now in
    let after = value_of c.label_from.new.self.labelled in
    let labelled = rw (c.if-not-branch.false, so_far.same_claim) at c.in_ok-label_from.ensures.labelled in
    record {
      same_claim = c.label_from.ensures.claim ∙ so_far.same_claim;
      same_pred = c.label_from.ensures.predecessors ∙ so_far.same_pred;
      tree = rw (so_far.same_claim, so_far.same_pred, so_far.tree.source) at c.in_ok-label_from.ensures.tree;
      labelled = λ u less some. elim (cases_order u _) [
        | inl same ↦ ap after same ∙ labelled_so claim after _ labelled (subst (λ w. IsSome (claim w)) same some)
        | inr other ↦ elim other [
          | inl before ↦ c.in_ok-label_from.ensures.keeps u (so_far.labelled u before some)
          | inr past ↦ absurd (omega (arith, past, less))
        ]
      ];
    }

pub returns-clause-agrees : goal.returns-clause-agrees
returns-clause-agrees g c =
    let claim = g.C.DistanceClaim.claimed c.args.claim.now in
    all_agree c.args.nodes c.args.source claim (pred_by_node c.args.predecessors.now) c.loop-v.tree.block (value_of c.loop-v.tree.labelled) c.loop-v.invariant.tree
    (λ v some. c.loop-v.invariant.labelled v (omega (arith, (c.requires.within v some).1, c.loop-v-test.false)) some)
