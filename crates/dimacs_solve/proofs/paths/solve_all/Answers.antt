use Rattle.std.proofs.Common.{◌≡◌, ◌+◌, ◌<◌, ◌++◌, ◌∷◌, [], length, get_or, take, arith, sym, ap, ◌∙◌, true, false}
use Rattle.std.proofs.{lemmas.List.{take_more, length-append}, lemmas.List.Elements.{All-get_or}}
use Rattle.std.proofs.lemmas.Option.{get_or_from_slice_get}
use Rattle.std.specs.{FinSet.{contains-empty}, List.{list_any}, Ordering.{nat_cmp}}
use Rattle.dimacs_lines.specs.Limits.{IsNode}
use Rattle.dimacs_instance.specs.QueryTexts.{asked}
use Rattle.dimacs_claims.specs.Labels.{LabelsValue, has_source}
use Rattle.dimacs_judging.specs.QueryTests.{sources_asked}
use Rattle.dimacs_solve.proofs.BlocksLemmas.{new_source, solved_again, solved_more, solved_none}
use Rattle.dimacs_solve.proofs.paths.solve_all.Goals.{then-not-contains+in_ok-solve_one+in_ok-insert, else-not-contains}
use Rattle.dimacs_solve.proofs.paths.solve_all.Goals as goal

pub solve_one-requires-clause-source : goal.solve_one-requires-clause-source
solve_one-requires-clause-source g c =
    let sources = sources_asked (asked c.args.queries.now) in
    let i = c.loop-i.i in
    let inside : i < length sources = omega (arith, c.loop-i-test.true, c.len-i-end.ensures, c.requires.one_source_each) in
    let is : get_or sources i 0 ≡ c.source_asked-source.result = get_or_from_slice_get sources i c.source_asked-source.result 0 c.source_asked-source.ensures in
    rw (← is) (All-get_or (IsNode c.args.adjacency.now.nodes) sources i 0 inside c.requires.sources)

pub solve_one-requires-clause-new : goal.solve_one-requires-clause-new
solve_one-requires-clause-new g c =
    let source = c.source_asked-source.result in
    let blocks = c.loop-i.labels.blocks in
    let fresh : list_any (has_source source) blocks ≡ false = sym (c.contains.ensures ∙ c.loop-i.invariant.done source) ∙ c.if-not-contains.true in
    new_source source blocks fresh

pub loop-i-init : goal.loop-i-init
loop-i-init g c =
    let made = c.new-labels.ensures.empty in
    let blocks : c.new-labels.result.blocks ≡ [] = ap (λ (l : LabelsValue). l.blocks) made in
    record {
      solved = solved_none c.args.adjacency.now c.new-labels.result (rw c.nodes.ensures at made) c.new-labels.ensures.lawful;
      rounds = c.new-node_states.ensures ∙ sym (ap length blocks);
      done = rw (blocks, c.new-done.ensures) (λ id. contains-empty nat_cmp id);
      blocks_bounded = omega (arith, ap length blocks);
      empty = c.new-frontier.ensures;
    }

pub loop-i-preserved : goal.loop-i-preserved
loop-i-preserved g c =
    let sources = sources_asked (asked c.args.queries.now) in
    let i = c.loop-i.i in
    let source = c.source_asked-source.result in
    let a = c.args.adjacency.now in
    let inside : i < length sources = omega (arith, c.loop-i-test.true, c.len-i-end.ensures, c.requires.one_source_each) in
    let is : get_or sources i 0 ≡ source = get_or_from_slice_get sources i source 0 c.source_asked-source.ensures in
    let taken : take (i + 1) sources ≡ take i sources ++ source ∷ [] = take_more sources i 0 inside ∙ ap (λ s. take i sources ++ s ∷ []) is in
    let outcome : c.contains.result ≡ list_any (has_source source) c.loop-i.labels.blocks = c.contains.ensures ∙ c.loop-i.invariant.done source in
    elim c.if-not-contains.branch [
      | then-not-contains+in_ok-solve_one+in_ok-insert w ↦
          let e = w.in_ok-solve_one.ensures in
          let fresh : list_any (has_source source) c.loop-i.labels.blocks ≡ false = sym outcome ∙ w.if-not-contains.true in
          let blocks = ap (λ (l : LabelsValue). l.blocks) e.block.with in
          record {
            solved = rw (taken, w.labels-is) (solved_more a (take i sources) source c.loop-i.labels w.solve_one.new.labels fresh e.block c.loop-i.invariant.solved);
            rounds = rw (w.labels-is, w.node_states-is) e.rounds;
            done = rw (w.done-is, w.labels-is, w.in_ok-insert.ensures.inserted) (e.block.sources c.loop-i.done c.loop-i.invariant.done);
            blocks_bounded = rw w.labels-is (omega (arith, c.loop-i.invariant.blocks_bounded, ap length blocks, length-append c.loop-i.labels.blocks (e.block.block ∷ [])));
            empty = w.frontier-is ∙ e.empty;
          }
      | else-not-contains w ↦
          let there : list_any (has_source source) c.loop-i.labels.blocks ≡ true = sym outcome ∙ w.if-not-contains.false in
          record {
            solved = rw (taken, w.labels-is) (solved_again a (take i sources) source c.loop-i.labels there c.loop-i.invariant.solved);
            rounds = rw (w.labels-is, w.node_states-is) c.loop-i.invariant.rounds;
            done = rw (w.done-is, w.labels-is) c.loop-i.invariant.done;
            blocks_bounded = rw w.labels-is (omega (arith, c.loop-i.invariant.blocks_bounded));
            empty = w.frontier-is ∙ c.loop-i.invariant.empty;
          }
    ]
