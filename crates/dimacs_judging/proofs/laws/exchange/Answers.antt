use Rattle.dimacs_judging.proofs.Sums.{sums_exchange}
use Rattle.dimacs_judging.proofs.laws.exchange.Goals as goal

pub returns : goal.returns
returns c = λ nodes arcs joined y p. sums_exchange p nodes arcs y joined
