use Rattle.dimacs_decide.proofs.FewLemmas.{ArePassedFirst}
use Rattle.dimacs_decide.proofs.few_labels.leaving_arcs_hold.Given as goal

-- the arcs that leave the source and the nodes of the labels so far are passed
abbrev pub invariant-loop-i : goal.invariant-loop-i
invariant-loop-i g l = ArePassedFirst (g.N.Network.list l.network) (g.C.DistanceClaim.claimed l.claim) l.claimed l.i
