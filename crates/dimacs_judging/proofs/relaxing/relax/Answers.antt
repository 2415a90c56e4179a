use Rattle.std.proofs.{Common.{IsTrue, ◌≡◌, ◌↔◌, ◌∙◌, ap, rules, w64, true, false}, lemmas.Int.{to_z-of_z}}
use Rattle.dimacs_judging.specs.inside.Distances.{Improves, IsTight}
use Rattle.dimacs_judging.specs.inside.NodeLabels.{is_supported, entries, entry_of}
use Rattle.dimacs_judging.proofs.NodeLabelLemmas.{no_improvement, relaxes_put, tight_where}
use Rattle.dimacs_judging.proofs.relaxing.relax.Goals as goal

pub returns-in-None-clause-outcome : goal.returns-in-None-clause-outcome
returns-in-None-clause-outcome g c =
    rw (to_z-of_z w64 c.args.arc.cost (search rules), c.in-None.is) at c.arc_fault.ensures

pub returns-clause-outcome : goal.returns-clause-outcome
returns-clause-outcome g c =
    let a = c.args.arc in
    let at = entries g.D.Distance.value c.args.node_labels.now in
    let improving : IsTrue c.improves.result ↔ Improves (at a.tail).dist (at a.head).dist a.cost = rw (to_z-of_z w64 a.cost (search rules), c.in-Some.ensures.0, c.in-Some-get_slot.ensures.0) at c.improves.ensures in
    no_improvement c.args.block.now.radius (at a.tail).dist (at a.head).dist a.cost (λ leads. let yes : c.improves.result ≡ true = improving.1 leads in let no = rw yes at c.if-not-improves.true in cc)

pub returns-clause-tight : goal.returns-clause-tight
returns-clause-tight g c =
    let a = c.args.arc in
    let old = entries g.D.Distance.value c.args.node_labels.now in
    let leads : IsTrue c.is_tight.result ↔ IsTight (old a.tail).dist (old a.head).dist a.cost = rw (to_z-of_z w64 a.cost (search rules), c.in-Some.ensures.0, c.in-Some-get_slot.ensures.0) at c.is_tight.ensures in
    let lacks : IsTrue c.lacks_arc_from.result ↔ (((old a.head).pred ≡ a.tail) × (is_supported (old a.head) ≡ false)) = rw c.in-Some-get_slot.ensures.0 at c.lacks_arc_from.ensures in
    tight_where a old c.is_tight.result c.lacks_arc_from.result leads lacks

pub returns-clause-relaxes : goal.returns-clause-relaxes
returns-clause-relaxes g c =
    let value = g.D.Distance.value in
    let put = c.put.ensures.set c.args.arc.head c.in-Some-get_slot.ensures.1 in
    relaxes_put _ (entries value c.args.node_labels.now) (entries value c.put.new.self) _ (λ v off. ap (entry_of value) (c.put.ensures.others c.args.arc.head v c.in-Some-get_slot.ensures.1 off))
    (ap (λ m. value m.dist) put ∙ (ap value c.supported_if.ensures.dist ∙ ap (λ m. value m.dist) c.in-Some-get_slot.ensures.0))
    (rw (ap (λ m. m.pred) c.in-Some-get_slot.ensures.0) at (ap (λ m. m.pred) put ∙ c.supported_if.ensures.pred))
    (returns-clause-tight g c)
