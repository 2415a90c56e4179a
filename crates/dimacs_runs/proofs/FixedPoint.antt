-- A canonical text is converted to itself.
use Rattle.std.proofs.Common.{◌≡◌, ◌∙◌, ℕ, List, length, refl, sym, subst, ap, inl, inr}
use Rattle.dimacs_lines.specs.Lines.{lines}
use Rattle.dimacs_records.specs.{declared.kinds.TextKind.{TextKind}, Readings.{LineRecord}, Texts.{SpellsValue}}
use Rattle.dimacs_claims.specs.{Cuts.{GivesCut, canonical_cut}, DistanceTexts.{GivesDistances, canonical_distances}}
use Rattle.dimacs_claims.specs.LabelTexts.{GivesLabels, canonical_labels}
use Rattle.dimacs_claims.specs.Potentials.{GivesPotentials, canonical_potentials}
use Rattle.dimacs_claims.specs.SolutionTexts.{GivesSolution, canonical_solution, renumbered}
use Rattle.dimacs_claims.proofs.{CutLemmas.{cut_round_trip}, DistanceLaws.{distances_round_trip}}
use Rattle.dimacs_claims.proofs.{LabelLaws.{fit_spelled, labels_round_trip}, PotentialsLemmas.{potentials_round_trip}}
use Rattle.dimacs_claims.proofs.SolutionLemmas.{canonical-renumbered, lawful_given, solution_round_trip}
use Rattle.dimacs_instance.specs.{Graph.{GivesGraph, canonical_graph}, MaxTexts.{GivesMax, canonical_max}}
use Rattle.dimacs_instance.specs.{MinTexts.{GivesMin, canonical_min}, QueryTexts.{GivesQueries, canonical_queries}}
use Rattle.dimacs_instance.proofs.{GraphLemmas.{graph_round_trip}, MaxTextLemmas.{max_round_trip}}
use Rattle.dimacs_instance.proofs.{MinTextLemmas.{min_round_trip}, QueriesLemmas.{queries_round_trip}}
use Rattle.dimacs_jobs.specs.declared.status.Status.TheVariants.{Done}
use Rattle.dimacs_runs.specs.{Laws.{FixedPointLaw}, Runs.{FaultOr, IsPrinted}}
use Rattle.dimacs_runs.proofs.LabelCounts.{distances_fit}
use Rattle.dimacs_records.specs.declared.kinds.TextKind.TheVariants as kinds

-- if the canonical text of a value spells one with this text, it is converted to itself
again : {V : Type 0} (kind : TextKind) (gives : List LineRecord → V → Type 0) (canonical : V → List ℕ) (bytes out : List ℕ)
    → ((v : V) → SpellsValue kind gives (lines bytes) v → (w : V) × SpellsValue kind gives (lines (canonical v)) w × (canonical v ≡ canonical w))
    → FaultOr kind gives bytes (IsPrinted canonical) Done out → FaultOr kind gives out (IsPrinted canonical) Done out
again kind gives canonical bytes out spelled (inl (l, f, r, fault, is, line)) = absurd cc
again kind gives canonical bytes out spelled (inr (v, spells, (done, is))) =
    let (w, other, same) = spelled v spells in
    inr (w, subst (λ text. SpellsValue kind gives (lines text) w) (sym is) other, (refl, is ∙ same))

pub printed_alike : FixedPointLaw
printed_alike kinds.Max bytes out = again kinds.Max GivesMax canonical_max bytes out (λ m h. (m, max_round_trip m h.given.1, refl))
printed_alike kinds.Min bytes out = again kinds.Min GivesMin canonical_min bytes out (λ m h. (m, min_round_trip m h.given.is_min, refl))
printed_alike kinds.Graph bytes out = again kinds.Graph GivesGraph canonical_graph bytes out (λ g h. (g, graph_round_trip g h.given.1, refl))
printed_alike kinds.Queries bytes out = again kinds.Queries GivesQueries canonical_queries bytes out (λ q h. (q, queries_round_trip q h.given.1, refl))
printed_alike kinds.Solution bytes out = again kinds.Solution GivesSolution canonical_solution bytes out (λ s h. (renumbered s, solution_round_trip s (lawful_given (lines bytes) h.by_line s h.spelled h.given), sym (canonical-renumbered s)))
printed_alike kinds.Cut bytes out = again kinds.Cut GivesCut canonical_cut bytes out (λ c h. (c, cut_round_trip c h.given.is_cut, refl))
printed_alike kinds.Potentials bytes out = again kinds.Potentials GivesPotentials canonical_potentials bytes out (λ p h. (p, potentials_round_trip p h.given.are_potentials, refl))
printed_alike kinds.Labels bytes out = again kinds.Labels GivesLabels canonical_labels bytes out (λ l h. (l, labels_round_trip l h.given.1 (fit_spelled kinds.Labels GivesLabels (λ rs other given. ap length given.0) (lines bytes) l h), refl))
printed_alike kinds.Distances bytes out = again kinds.Distances GivesDistances canonical_distances bytes out (λ d h. (d, distances_round_trip d h.given.1 h.given.2 (distances_fit bytes d h), refl))
