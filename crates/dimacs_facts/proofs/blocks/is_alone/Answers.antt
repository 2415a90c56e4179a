use Rattle.std.proofs.Common.{◌≡◌, ◌≢◌, ◌∙◌, ◌==◌, if◌then◌else◌, ℕ, [], None, Some, pos, ap, sym, subst}
use Rattle.std.proofs.lemmas.Bool.{ne_eqb}
use Rattle.dimacs_claims.specs.Labels.{BlockValue, distance_in, label}
use Rattle.dimacs_judging.specs.Walks.{IsDistance}
use Rattle.dimacs_facts.proofs.blocks.is_alone.Goals as goal

no_label : (b : BlockValue) (v : ℕ) → b.labels ≡ [] → b.source ≢ v → label b v ≡ None
no_label b v none apart =
    ap (λ same. if same then Some (pos 0) else distance_in b.labels v) (ne_eqb b.source v apart) ∙ ap (λ labels. distance_in labels v) none

pub returns : goal.returns
returns g c = λ shown v apart.
    let b = c.args.block.now in
    subst (λ d. IsDistance c.args._graph.now.arcs b.source v d b.radius) (no_label b v (sym c.labels.ensures ∙ c.is_empty.ensures.0 shown) apart) (c.requires v)
