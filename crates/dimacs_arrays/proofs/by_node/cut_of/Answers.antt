use Rattle.std.proofs.{Common.{◌≡◌, ◌∙◌, ap, length, arith}, lemmas.Bool.{le-ltb, lt-ltb}}
use Rattle.dimacs_claims.specs.Cuts.{CutValue}
use Rattle.dimacs_judging.specs.Cuts.{members}
use Rattle.dimacs_arrays.proofs.ByNodeLemmas.{all_nodes, no_nodes, node_in, node_out}
use Rattle.dimacs_arrays.proofs.by_node.cut_of.Goals.{then-inside-i-gt0+in_ok-add, else-inside-i-gt0}
use Rattle.dimacs_arrays.proofs.by_node.cut_of.Goals as goal

pub loop-i-init : goal.loop-i-init
loop-i-init c = record {
  nodes = ap (λ (k : CutValue). k.nodes) c.new-cut.ensures;
  members = λ v. ap (λ (k : CutValue). members k v) c.new-cut.ensures ∙ no_nodes c.args.inside.now c.args.nodes v;
}

pub loop-i-preserved : goal.loop-i-preserved
loop-i-preserved c =
    elim c.if-inside-i-gt0.branch [
      | then-inside-i-gt0+in_ok-add w ↦ rw w.cut-is record {
        nodes = ap (λ (k : CutValue). k.nodes) w.in_ok-add.ensures.added ∙ c.loop-i.invariant.nodes;
        members = node_in _ c.loop-i.cut w.add.new.self c.loop-i.i c.loop-i.invariant.members w.in_ok-add.ensures.added (lt-ltb 0 _ w.if-inside-i-gt0.true);
      }
      | else-inside-i-gt0 w ↦ rw w.cut-is record {
        nodes = c.loop-i.invariant.nodes;
        members = node_out _ c.loop-i.cut c.loop-i.cut c.loop-i.i c.loop-i.invariant.members (le-ltb 0 _ (omega (arith, w.if-inside-i-gt0.false)));
      }
    ]

pub returns-clause-members : goal.returns-clause-members
returns-clause-members c =
    let all : c.loop-i.i ≡ length c.args.inside.now = omega (arith, c.loop-i-test.false, c.loop-i.auto.i-end, c.requires.one_each) in
    all_nodes c.args.inside.now c.loop-i.cut (rw (← all) c.loop-i.invariant.members)
