use Rattle.std.proofs.{Common.{◌≤◌, ◌++◌, ◌∷◌, [], rules, subst, sym}, lemmas.Result.{on_ok_weaker}}
use Rattle.dimacs_records.specs.declared.records.Record.TheVariants.{CutNode}
use Rattle.dimacs_claims.specs.{CutReading.{IsCutBegunBy}, Cuts.{CutValue}}
use Rattle.dimacs_claims.proofs.CutLemmas.{more}
use Rattle.dimacs_claims.proofs.cut.CutBuilderBuilder.keep.Goals as goal

pub returns-clause-added : goal.returns-clause-added
returns-clause-added c =
    let id = c.in-CutNode.id in
    let passes = rw (c.in-CutNode.is, ← c.self.view_is) at c.requires.passes in
    let least : 1 ≤ c.in-CutNode.id = search rules in
    on_ok_weaker c.add.result (λ added. λ rs h.
    let now = rw (← c.self.view_is) at h in
    let new = subst (λ (cut : CutValue). IsCutBegunBy (record { declared = c.self.inside.declared; cut = cut }) (rs ++ CutNode id ∷ [])) (sym added) (more _ id least passes rs now) in
    rw c.in-CutNode.is new) c.add.ensures.added
