use Rattle.std.proofs.Common.{◌≡◌, ◌∙◌, ◌≤◌, Some, length, sym, subst, arith, rules}
use Rattle.dimacs_claims.specs.Labels.{IsBlock}
use Rattle.dimacs_decide.specs.Claims.{claimed_by_node}
use Rattle.dimacs_arrays.specs.PathsSpelled.{label_with}
use Rattle.dimacs_arrays.proofs.PathsOverLemmas.{few_yet, has_source, lawful_label, near, none_more, none_yet, one_more}
use Rattle.dimacs_arrays.proofs.paths_over.block_by_id.Goals.{in-Some+in_ok-add, in_default}
use Rattle.dimacs_arrays.proofs.paths_over.block_by_id.Goals as goal

pub add-requires : goal.add-requires
add-requires c =
    let s = c.args.source in
    let claim = claimed_by_node c.args.distances.now in
    let labelled : label_with s c.loop-id.id (claim c.loop-id.id) ≡ Some c.in-Some.label = rw c.of.ensures.claimed at (sym c.label_to.ensures ∙ c.in-Some.is) in
    none_yet s claim c.loop-id.id c.loop-id.block c.in-Some.label (search rules) c.loop-id.invariant.0 labelled

pub loop-id-preserved : goal.loop-id-preserved
loop-id-preserved c =
    let s = c.args.source in
    let claim = claimed_by_node c.args.distances.now in
    let id = c.loop-id.id in
    let some : 1 ≤ id = search rules in
    let within : id ≤ length c.args.distances.now = search rules in
    elim c.match-label_to.branch [
      | in-Some+in_ok-add w ↦
          let l = w.in-Some.label in
          let labelled : label_with s id (claim id) ≡ Some l = rw c.of.ensures.claimed at (sym c.label_to.ensures ∙ w.in-Some.is) in
          let is = c.loop-id.invariant.0 in
          let label = lawful_label s claim id c.loop-id.block l some is labelled (length c.args.distances.now) c.of.result c.of.ensures.claimed c.of.ensures.wide c.requires.source within in (
            w.block-is ∙ w.in_ok-add.ensures.added ∙ one_more s claim id c.loop-id.block l some is labelled,
            subst (IsBlock (length c.args.distances.now)) (sym w.block-is)
                (w.in_ok-add.ensures.lawful (length c.args.distances.now) c.loop-id.invariant.1 label (few_yet s claim id c.loop-id.block l some is labelled (omega (arith, within, c.requires.node_limit)))
                (has_source s claim id c.loop-id.block l some is labelled) (near s claim id c.loop-id.block l some is labelled)),
          )
      | in_default w ↦
          (w.block-is ∙ none_more s claim id c.loop-id.block some c.loop-id.invariant.0 (search rules), subst (IsBlock (length c.args.distances.now)) (sym w.block-is) c.loop-id.invariant.1)
    ]
