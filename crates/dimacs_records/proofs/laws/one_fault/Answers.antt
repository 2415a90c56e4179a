use Rattle.dimacs_records.proofs.FaultLaws as laws
use Rattle.dimacs_records.proofs.laws.one_fault.Goals as goal

pub returns : goal.returns
returns c = laws.one_fault
