use Rattle.dimacs_records.proofs.CanonicalLaws.{canonical_spelled}
use Rattle.dimacs_records.proofs.laws.canonical_texts.Goals as goal

pub returns : goal.returns
returns c = canonical_spelled
