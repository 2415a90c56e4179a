use Rattle.std.proofs.Common.{◌≡◌, false, ap, sym, ◌∙◌}
use Rattle.std.specs.Prelude.{is_some}
use Rattle.dimacs_judging.specs.Places.{PlacesValue}
use Rattle.dimacs_judging.proofs.{PlaceLemmas.{no_refusal, refused_still}, EntryLemmas.{first_new}}
use Rattle.dimacs_judging.proofs.places.FlowPlaces.put.Goals as goal

pub returns-then-is_some-clause-placed : goal.returns-then-is_some-clause-placed
returns-then-is_some-clause-placed g c = rw (← c.self.view_is) (λ before held. refused_still _ before c.args.entry c.self.inside.refusal (sym c.if-is_some.ensures) held)

pub returns-in-Err-clause-placed : goal.returns-in-Err-clause-placed
returns-in-Err-clause-placed g c =
    let p = c.args.self.now in
    let none : is_some p.refusal ≡ false = rw (← c.self.view_is) (sym c.if-is_some.ensures) in
    let same_arcs = ap (λ (q : PlacesValue). q.arcs) c.self-2.view_is ∙ c.put_on_arc.ensures.network in
    rw same_arcs (λ before held. let fails = c.in-Err.ensures.puts before (no_refusal p before p.refusal none held) in first_new p.arcs before c.args.entry c.in-Err.reason fails.0 fails.1)
