use Rattle.dimacs_facts.proofs.walks.Walks.lead_to.Goals as goal

pub returns-in-Some : goal.returns-in-Some
returns-in-Some c = λ g s are shown. (c.in-Some._walk.weight, are.are c.args.node c.in-Some._walk (cc))
