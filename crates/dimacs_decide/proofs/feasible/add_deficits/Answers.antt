use Rattle.std.proofs.{Common.{arith}, lemmas.Int.{ints}}
use Rattle.dimacs_network.specs.Tables.{value_of}
use Rattle.dimacs_judging.specs.Cuts.{members}
use Rattle.dimacs_decide.proofs.FeasibleLemmas.{deficits_less, deficits_more, deficits_skipped, members_stay}
use Rattle.dimacs_decide.proofs.feasible.add_deficits.Goals.{then-get-lt0+in_ok-add, else-get-lt0}
use Rattle.dimacs_decide.proofs.feasible.add_deficits.Goals as goal

pub loop-id-preserved : goal.loop-id-preserved
loop-id-preserved c =
    let imbalance = value_of c.args.imbalance.now in
    let now = c.loop-id.invariant in
    let skip = c.next_nonzero-id.ensures in
    let low = now.low in
    elim c.if-get-lt0.branch [
      | then-get-lt0+in_ok-add w ↦ rw (w.set-is, w.in_ok-add.ensures.added) record {
        low = omega (arith, low, skip.onward);
        within = skip.within;
        nodes = now.nodes;
        stay = λ v there. members_stay c.loop-id.set _ v (now.stay v there);
        deficits = deficits_skipped _ _ _ imbalance _ skip (deficits_more _ imbalance c.loop-id.set now.deficits);
      }
      | else-get-lt0 w ↦ rw w.set-is record {
        low = omega (arith, low, skip.onward);
        within = skip.within;
        nodes = now.nodes;
        stay = now.stay;
        deficits = deficits_skipped _ _ _ imbalance _ skip (deficits_less _ imbalance (members c.loop-id.set) now.deficits (let no = w.if-get-lt0.false in omega (arith, ints, c.get.ensures.value, no)));
      }
    ]
