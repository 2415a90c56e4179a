use Rattle.dimacs_decide.proofs.certified_max.certify_from.Goals as goal

pub returns-in-Some : goal.returns-in-Some
returns-in-Some g c = λ s is. (c.in-Some.ensures s is).1
