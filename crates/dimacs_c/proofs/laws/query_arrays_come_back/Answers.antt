use Rattle.dimacs_c.proofs.ClaimsBack.{queries_back}
use Rattle.dimacs_c.proofs.laws.query_arrays_come_back.Goals as goal

pub returns : goal.returns
returns c = queries_back
