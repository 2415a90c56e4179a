use Rattle.dimacs_claims.proofs.{CutLemmas.{cut_round_trip}, PotentialsLemmas.{potentials_round_trip}}
use Rattle.dimacs_runs.proofs.outcome.OutputText.be_readable.Goals as goal

pub returns-in-Cut : goal.returns-in-Cut
returns-in-Cut c = rw c.in-Cut.is (cut_round_trip c.in-Cut.cut c.len.ensures.lawful)

pub returns-in-Potentials : goal.returns-in-Potentials
returns-in-Potentials c = rw c.in-Potentials.is (potentials_round_trip c.in-Potentials.potentials c.nodes.ensures.lawful)
