use Rattle.dimacs_jobs.proofs.OneRequest.{one_request}
use Rattle.dimacs_jobs.proofs.argument_laws.words_ask_for_one_thing.Goals as goal

pub returns : goal.returns
returns c = one_request
