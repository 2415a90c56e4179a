-- What runs write with `Done` is judged yes.
use Rattle.std.proofs.Common.{◌≡◌, ◌∙◌, ℕ, ◌≤◌, ◌<◌, List, [], ◌∷◌, Option, None, length, map, inl, inr, refl, ap, ap₂, sym, subst, arith}
use Rattle.std.proofs.lemmas.List.{get_or-map, get_or_default, length-map}
use Rattle.std.proofs.lemmas.List.Elements.{All-cons, All-head, All-tail, All-weaker}
use Rattle.std.specs.{Prelude.{ℤ, if◌then◌else◌, is_some}, List.{All, Contains, flat_map}}
use Rattle.dimacs_lines.specs.Limits.{IsNode}
use Rattle.dimacs_claims.specs.{Cuts.{CutValue, SpellsCut, canonical_cut}, DistanceTexts.{AreBare, IsBare}}
use Rattle.dimacs_claims.specs.Labels.{BlockValue, LabelsValue, label, label_in}
use Rattle.dimacs_claims.specs.LabelTexts.{SpellsLabels, canonical_labels}
use Rattle.dimacs_claims.specs.Potentials.{PotentialsValue, SpellsPotentials, canonical_potentials}
use Rattle.dimacs_claims.specs.SolutionTexts.{SolutionValue, SpellsSolution, canonical_solution}
use Rattle.dimacs_claims.proofs.LabelLaws.{labels_round_trip}
use Rattle.dimacs_network.specs.Arcs.{NetworkValue}
use Rattle.dimacs_instance.specs.{Graph.{SpellsGraph}, MaxFlows.{IsMax, MaxValue}, MaxTexts.{SpellsMax}}
use Rattle.dimacs_instance.specs.{MinFlows.{IsMin, MinValue}, MinTexts.{SpellsMin}}
use Rattle.dimacs_instance.specs.QueryTexts.{AreIds, AreLawful, Pairs, QueriesValue, Sources, SpellsQueries}
use Rattle.dimacs_judging.specs.{Answers.{answer_to, distance_from}, declared.verdict.Answer.{Answer}}
use Rattle.dimacs_judging.specs.{InfeasibleJudge.{ShowsNoFlow}, MaxJudge.{ShowsMaximum}, MinJudge.{ShowsLeast}}
use Rattle.dimacs_judging.specs.{PathsJudge.{PassesPaths, ShowsDistances}, inside.Labels.{block_at}}
use Rattle.dimacs_judging.specs.QueryTests.{HasBlock, HasFullBlock, IsServed, sources_asked}
use Rattle.dimacs_judging.specs.inside.QueryTests.{ends_of, radius_from, radius_in}
use Rattle.dimacs_judging.proofs.{BlockNumbers.{block_found}, InfeasibleJudge.{infeasible_clear}, MaxJudge.{max_clear}}
use Rattle.dimacs_judging.proofs.{MinJudge.{min_clear}, PathsPassing.{passing_shows, paths_clear}}
use Rattle.dimacs_decide.specs.CertifiedPaths.{AreLabelsOfAll, block_source, sources_of}
use Rattle.dimacs_jobs.specs.declared.jobs.JudgeKind.TheVariants.{Max, Min, Infeasible, Paths}
use Rattle.dimacs_jobs.specs.declared.status.Status.TheVariants.{Done}
use Rattle.dimacs_runs.specs.{Judged.{Judged, paths_lines}, Laws.{AskOf, CertifiedLaw, SolvedLaw}}
use Rattle.dimacs_runs.specs.Verdicts.{answer_line, distances_line, infeasible_line, max_line, min_line}
use Rattle.dimacs_runs.proofs.{JudgingLemmas.{least_shown, maximum_shown}, SolutionTexts.{max_spelled, min_spelled}}
use Rattle.dimacs_jobs.specs.declared.jobs.JudgeKind.TheVariants as judges
use Rattle.dimacs_jobs.specs.declared.jobs.SolveJob.TheVariants as solves

-- ---- texts that spell what passes are judged yes
module _ (instance claim certificate : List ℕ) where
  max_yes : (i : MaxValue) (s : SolutionValue) (c : CutValue) → SpellsMax instance i → SpellsSolution claim s → SpellsCut certificate c → ShowsMaximum i s c → Judged Max instance claim certificate Done (max_line s.value)
  max_yes i s c spells_i spells_s spells_c shown = inr (i, spells_i, inr (s, spells_s, inr (c, spells_c, (max_clear i s c spells_i.given.1 shown.0 shown.1, maximum_shown i s c shown, refl))))

  min_yes : (i : MinValue) (s : SolutionValue) (p : PotentialsValue) → SpellsMin instance i → SpellsSolution claim s → SpellsPotentials certificate p → ShowsLeast i s p → Judged Min instance claim certificate Done (min_line s.value)
  min_yes i s p spells_i spells_s spells_p shown = inr (i, spells_i, inr (s, spells_s, inr (p, spells_p, (min_clear i s p shown.0 shown.1, least_shown i s p shown, refl))))

  set_yes : (i : MinValue) (c : CutValue) → SpellsMin instance i → SpellsCut certificate c → ShowsNoFlow i c → Judged Infeasible instance claim certificate Done infeasible_line
  set_yes i c spells_i spells_c shown = inr (i, spells_i, inr (c, spells_c, (infeasible_clear i c shown.0, shown.1, refl)))

  paths_yes : (g : NetworkValue) (q : QueriesValue) (l : LabelsValue) → SpellsGraph instance g → SpellsQueries claim q → SpellsLabels certificate l → ShowsDistances g q l → Judged Paths instance claim certificate Done (paths_lines l.blocks q)
  paths_yes g q l spells_g spells_q spells_l shown = inr (g, spells_g, inr (q, spells_q, inr (l, spells_l, (paths_clear g q l shown.passes, (shown.labels, shown.answers), refl))))

-- ---- solvers
max_law : (i : MaxValue) (instance : List ℕ) → SpellsMax instance i → IsMax i
max_law i instance spells = spells.given.1

min_law : (i : MinValue) (instance : List ℕ) → SpellsMin instance i → IsMin i
min_law i instance spells = spells.given.is_min

pub solved_yes : SolvedLaw
solved_yes (solves.Max limit) instance queries out (inl (l, f, r, fault, is, line)) = absurd cc
solved_yes (solves.Max limit) instance queries out (inr (i, spells, (some, s, c, optimal, spelled, is))) =
    let (x, passes, maximum) = optimal.1 in
    let claim = max_spelled i (max_law i instance spells) s x optimal.0 passes.claim in
    (canonical_solution s, canonical_cut c, max_line s.value, is, max_yes instance (canonical_solution s) (canonical_cut c) i s c spells claim spelled optimal.1)
solved_yes (solves.Min limit) instance queries out (inl (l, f, r, fault, is, line)) = absurd cc
solved_yes (solves.Min limit) instance queries out (inr (i, spells, inl (s, p, least, spelled, is))) =
    let (x, passes, optimal) = least.1 in
    let claim = min_spelled i (min_law i instance spells) s x least.0 passes.claim in
    (canonical_solution s, canonical_potentials p, min_line s.value, is, inl (min_yes instance (canonical_solution s) (canonical_potentials p) i s p spells claim spelled least.1))
solved_yes (solves.Min limit) instance queries out (inr (i, spells, inr (c, shown, spelled, is))) =
    ([], canonical_cut c, infeasible_line, is, inr (refl, set_yes instance [] (canonical_cut c) i c spells spelled shown))
solved_yes solves.Paths graph queries out (inl (l, f, r, fault, is, line)) = absurd cc
solved_yes solves.Paths graph queries out (inr (g, spells_g, inl (l, f, r, fault, is, line))) = absurd cc
solved_yes solves.Paths graph queries out (inr (g, spells_g, inr (q, spells_q, (l, (clear, weights, produced), are, is)))) =
    ([], canonical_labels l, paths_lines l.blocks q, is, (l, refl, λ fits. paths_yes graph queries (canonical_labels l) g q l spells_g spells_q (labels_round_trip l are fits) produced.shows))

-- ---- certified distances
has_block : (blocks : List BlockValue) (s : ℕ) → Contains (sources_of blocks) s → HasBlock blocks s
has_block blocks s (k, inside, at) =
    let there : k < length blocks = omega (arith, inside, length-map blocks block_source) in
    let b = block_at blocks k in
    (k, b, there, get_or_default blocks k _ _ there, sym (get_or-map block_source blocks k _ s there) ∙ at)

-- the second node of each pair is in range
ends_within : (nodes : ℕ) (pairs : List (ℕ × ℕ)) → All AreIds pairs → All (λ id. id ≤ nodes) (flat_map ends_of pairs) → All (λ (pair : ℕ × ℕ). IsNode nodes pair.1) pairs
ends_within nodes [] ids within = λ k d below. absurd (omega (arith, below))
ends_within nodes (pair ∷ pairs) ids within =
    let below = λ (id : ℕ). id ≤ nodes in
    let rest = All-tail below pair.0 (pair.1 ∷ flat_map ends_of pairs) within in
    All-cons (λ (p : ℕ × ℕ). IsNode nodes p.1) pair pairs
    ((All-head AreIds pair pairs ids).1.0, All-head below pair.1 (flat_map ends_of pairs) rest)
    (ends_within nodes pairs (All-tail AreIds pair pairs ids) (All-tail below pair.1 (flat_map ends_of pairs) rest))

module _ (g : NetworkValue) (d l : LabelsValue) (bare : AreBare d) (of : AreLabelsOfAll g d.blocks l) where
  abbrev IsSource : ℕ → Type 0
  IsSource s = Contains (sources_of d.blocks) s

  full : (s : ℕ) → IsSource s → HasFullBlock l.blocks s
  full s (k, inside, at) = subst (HasFullBlock l.blocks) at (of.passes.blocks k s inside)

  served : (q : QueriesValue) (s : ℕ) → IsSource s → IsServed l.blocks q s
  served (Sources ids) s source = full s source
  served (Pairs pairs) s source = has_block l.blocks s (subst (λ ns. Contains ns s) (sym of.sources) source)

  passes : (q : QueriesValue) → AskOf g.nodes d.blocks q → PassesPaths g q l
  passes q ask = record {
    nodes = of.passes.nodes;
    queries = ask.within;
    blocks = All-weaker IsSource (IsServed l.blocks q) (served q) (sources_asked q) ask.sources;
    labels = of.passes.labels;
  }

  --     the labels answer what the distances claim
  same_distance : (s v : ℕ) → IsSource s → IsNode g.nodes v → distance_from d.blocks s v ≡ distance_from l.blocks s v
  same_distance s v source node =
      let (i, b, inside, at, is, from) = block_found d.blocks s (has_block d.blocks s source) in
      let agrees = subst (λ (x : BlockValue). distance_from l.blocks x.source v ≡ label x v) at (of.agrees i b inside v node) in
      ap (λ o. label_in o v) is ∙ (sym agrees ∙ ap (λ start. distance_from l.blocks start v) from)

  same_radius : (s : ℕ) → IsSource s → radius_from d.blocks s ≡ radius_from l.blocks s
  same_radius s source =
      let (i, b, inside, at, is, from) = block_found d.blocks s (has_block d.blocks s source) in
      let whole : IsBare b = subst IsBare at (bare i b inside) in
      let (m, found, unbounded) = full s source in
      ap radius_in is ∙ (whole.whole ∙ sym (ap radius_in found ∙ unbounded))

  same_answer : (pair : ℕ × ℕ) → IsSource pair.0 → IsNode g.nodes pair.1 → answer_to d.blocks pair ≡ answer_to l.blocks pair
  same_answer pair source node =
      ap₂ (λ (distance radius : Option ℤ). record { from = pair.0; to = pair.1; distance = distance; beyond = if is_some distance then None else radius }) (same_distance pair.0 pair.1 source node) (same_radius pair.0 source)

  same_answers : (pairs : List (ℕ × ℕ)) → All IsSource (map (λ (pair : ℕ × ℕ). pair.0) pairs) → All (λ (pair : ℕ × ℕ). IsNode g.nodes pair.1) pairs → map (answer_to d.blocks) pairs ≡ map (answer_to l.blocks) pairs
  same_answers [] sources nodes = refl
  same_answers (pair ∷ pairs) sources nodes =
      ap₂ (λ (first : Answer) (rest : List Answer). first ∷ rest)
      (same_answer pair (All-head IsSource pair.0 (map (λ (p : ℕ × ℕ). p.0) pairs) sources) (All-head (λ (p : ℕ × ℕ). IsNode g.nodes p.1) pair pairs nodes))
      (same_answers pairs (All-tail IsSource pair.0 (map (λ (p : ℕ × ℕ). p.0) pairs) sources) (All-tail (λ (p : ℕ × ℕ). IsNode g.nodes p.1) pair pairs nodes))

  same_report : (q : QueriesValue) → AreLawful q → AskOf g.nodes d.blocks q → paths_lines d.blocks q ≡ paths_lines l.blocks q
  same_report (Sources ids) lawful ask = refl
  same_report (Pairs pairs) lawful ask = ap (flat_map answer_line) (same_answers pairs ask.sources (ends_within g.nodes pairs lawful.ids ask.within))

  queries_yes : (graph queries certificate : List ℕ) (q : QueriesValue) → SpellsGraph graph g → SpellsQueries queries q → SpellsLabels certificate l → AskOf g.nodes d.blocks q → Judged Paths graph queries certificate Done (paths_lines d.blocks q)
  queries_yes graph queries certificate q spells_g spells_q spells_l ask =
      subst (λ line. Judged Paths graph queries certificate Done line) (sym (same_report q spells_q.given.1 ask)) (paths_yes graph queries certificate g q l spells_g spells_q spells_l (passing_shows g q l spells_l.given.1 (passes q ask)))

pub certified_yes : CertifiedLaw
certified_yes judges.Max instance claim out (inl (l, f, r, fault, is, line)) = absurd cc
certified_yes judges.Max instance claim out (inr (i, spells_i, inl (l, f, r, fault, is, line))) = absurd cc
certified_yes judges.Max instance claim out (inr (i, spells_i, inr (s, spells_s, (text, (c, shown, canonical, spelled), is)))) =
    (text, max_line s.value, is, max_yes instance claim text i s c spells_i spells_s spelled shown)
certified_yes judges.Min instance claim out (inl (l, f, r, fault, is, line)) = absurd cc
certified_yes judges.Min instance claim out (inr (i, spells_i, inl (l, f, r, fault, is, line))) = absurd cc
certified_yes judges.Min instance claim out (inr (i, spells_i, inr (s, spells_s, (text, (p, shown, canonical, spelled), is)))) =
    (text, min_line s.value, is, min_yes instance claim text i s p spells_i spells_s spelled shown)
certified_yes judges.Infeasible instance claim out (inl (l, f, r, fault, is, line)) = absurd cc
certified_yes judges.Infeasible instance claim out (inr (i, spells_i, (text, (c, shown, canonical, spelled), is))) =
    (text, infeasible_line, is, set_yes instance claim text i c spells_i spelled shown)
certified_yes judges.Paths graph claim out (inl (l, f, r, fault, is, line)) = absurd cc
certified_yes judges.Paths graph claim out (inr (g, spells_g, inl (l, f, r, fault, is, line))) = absurd cc
certified_yes judges.Paths graph claim out (inr (g, spells_g, inr (d, spells_d, (same, (text, (right, (l, of, canonical, spelled)), is))))) =
    (text, distances_line (length d.blocks), is, (g, d, spells_g, spells_d, λ queries q spells_q ask. queries_yes g d l spells_d.given.2 of graph queries text q spells_g spells_q spelled ask))
