use Rattle.std.proofs.Common.{◌≡◌, ℤ, List, None, ap, sym, ◌∙◌, subst}
use Rattle.dimacs_judging.specs.{Claims.{Carries}, Places.{PlacesValue}}
use Rattle.dimacs_judging.proofs.PlaceLemmas.{placed_carry}
use Rattle.dimacs_judging.proofs.places.FlowPlaces.into_flow.Goals as goal

pub returns-in-None : goal.returns-in-None
returns-in-None g c = λ entries held.
    let p = c.args.self in
    let none : p.refusal ≡ None = sym (ap (λ (q : PlacesValue). q.refusal) c.self.view_is) ∙ c.in-None.is in
    subst (λ (x : List ℤ). Carries p.arcs entries x) (sym (ap (λ (q : PlacesValue). q.flow) c.self.view_is)) (placed_carry p entries p.refusal none held)
