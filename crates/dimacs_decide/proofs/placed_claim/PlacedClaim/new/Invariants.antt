use Rattle.dimacs_network.specs.Tables.{value_of}
use Rattle.dimacs_decide.proofs.FewLemmas.{ArePlacedFirst}
use Rattle.dimacs_decide.proofs.placed_claim.PlacedClaim.new.Given as goal

abbrev pub invariant-loop-i : goal.invariant-loop-i
invariant-loop-i l = ArePlacedFirst l.block l.i (value_of l.places)
