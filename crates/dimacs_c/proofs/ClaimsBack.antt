-- Queries, claims and certificates in arrays come back from their texts.
use Rattle.std.proofs.Common.{◌≡◌, ◌∙◌, ◌<◌, ℕ, ℤ, zero, suc, pos, List, [], ◌∷◌, All, Bool, None, Some, Result, Ok, Err, length, map, refl, sym, ap, subst, arith}
use Rattle.std.proofs.{lemmas.Int.{ints}, lemmas.List.{ext_get_or, get_or-map, length-map}}
use Rattle.std.proofs.{lemmas.List.Elements.{All-get_or}, lemmas.Slice.Zip.{get_or-zip, length-zip}}
use Rattle.std.proofs.lemmas.List.FromFn.{get_or-map-range_with_len, length-map-range_with_len}
use Rattle.std.specs.{Prelude.{if◌then◌else◌}, List.{zip}}
use Rattle.dimacs_lines.specs.{Limits.{IsNode}, Lines.{lines}}
use Rattle.dimacs_records.specs.{declared.faults.ReadError.{ReadError}, declared.kinds.TextKind.{TextKind}}
use Rattle.dimacs_records.specs.{Ranges.{IsWhole, IsWide}, Readings.{LineRecord}, Texts.{SpellsValue}}
use Rattle.dimacs_records.specs.declared.records.QueryKind.{QueryKind}
use Rattle.dimacs_records.specs.declared.records.Record.TheVariants.{SourceQuery}
use Rattle.dimacs_records.proofs.ReadLaws.{spells_one_value}
use Rattle.dimacs_network.specs.Arcs.{NetworkValue}
use Rattle.dimacs_instance.specs.Graph.{IsGraph}
use Rattle.dimacs_instance.specs.QueryTexts.{GivesQueries, Sources, asked, canonical_queries, pair_query}
use Rattle.dimacs_instance.proofs.QueriesLemmas.{one_queries, queries_round_trip}
use Rattle.dimacs_claims.specs.Cuts.{CutValue, GivesCut, canonical_cut, empty_cut}
use Rattle.dimacs_claims.specs.Potentials.{GivesPotentials, canonical_potentials, potential_of}
use Rattle.dimacs_claims.specs.SolutionTexts.{GivesSolution, SolutionValue, SpellsSolution, canonical_solution, claimed}
use Rattle.dimacs_claims.proofs.{CutLemmas.{cut_round_trip, one_cut}, SolutionLemmas.{one_solution}}
use Rattle.dimacs_claims.proofs.PotentialsLemmas.{one_potentials, potentials_round_trip}
use Rattle.dimacs_judging.specs.{declared.verdict.JudgeError.{JudgeError}, Claims.{Carries}}
use Rattle.dimacs_decide.proofs.SolutionLemmas.{carried}
use Rattle.dimacs_arrays.specs.{ByNode.{number_of}, PathsSpelled.{queries_spelled, query_lengths, tos_wanted}}
use Rattle.dimacs_arrays.specs.{Answers.{first_misfit, length_of}, declared.error.Array.TheVariants.{Flows}}
use Rattle.dimacs_arrays.specs.{declared.error.ArrayError.{ArrayError}, declared.solution.ClaimedFlow.{ClaimedFlow}}
use Rattle.dimacs_arrays.specs.SolutionArrays.{ClaimsOver, IsClaimedBy, IsSolutionWith, ReadsSolutionArrays, ReadsSolutionOver, amount_lengths, ends_lengths, ends_spelled}
use Rattle.dimacs_arrays.proofs.AnswerLemmas.{all_fit, misfit_front}
use Rattle.dimacs_fill.specs.{declared.error.FillError.{FillError}, CutFilled.{byte_of, inside_of}}
use Rattle.dimacs_fill.specs.Filling.{IsFilled, IsKept, ReadsArcsInto, ReadsFitting, ReadsInto}
use Rattle.dimacs_fill.specs.PotentialsFilled.{FillsPotentials, numbers_of}
use Rattle.dimacs_fill.specs.QueriesFilled.{HoldQueries, froms_of, query_sizes, tos_of}
use Rattle.dimacs_runs.proofs.SolutionTexts.{spelled}
use Rattle.dimacs_c.specs.Laws.{ClaimsOrFails, CutArrayLaw, FillsOrFails, Gets, PotentialsArrayLaw, QueryArraysLaw, SolutionArraysLaw, bit_of}
use Rattle.dimacs_c.proofs.ArraysBack.{come_back, front}
use Rattle.dimacs_arrays.specs.declared.error.ArrayError.TheVariants as array_errors
use Rattle.dimacs_fill.specs.declared.error.FillError.TheVariants as fill_errors
use Rattle.dimacs_judging.specs.declared.verdict.JudgeError.TheVariants as judged
use Rattle.dimacs_records.specs.declared.faults.ReadError.TheVariants as read_errors
use Rattle.dimacs_records.specs.declared.kinds.TextKind.TheVariants as kinds
use Rattle.dimacs_records.specs.declared.records.QueryKind.TheVariants as asks

-- what is read with all its items is read
reads_items : {V W : Type 0} (kind : TextKind) (text : List ℕ) (spells : V → Type 0) (none : V) (size : V → W) (gets : V → Type 0) (result : Result W ReadError)
    → ReadsInto kind text spells none size gets result → ReadsArcsInto kind text spells size gets result
reads_items kind text spells none size gets result (Ok v, reads, same, got) = (Ok v, reads, same, got)
reads_items kind text spells none size gets result (Err error, reads, same, got) = (Err error, reads, same, tt)

-- ---- queries
firsts : (froms tos : List ℕ) → length tos ≡ length froms → map (λ (p : ℕ × ℕ). p.0) (zip froms tos) ≡ froms
firsts froms tos same =
    let pairs = zip froms tos in
    let long : length pairs ≡ length froms = omega (arith, same, length-zip froms tos) in
    ext_get_or 0 (map (λ (p : ℕ × ℕ). p.0) pairs) froms (length-map pairs (λ (p : ℕ × ℕ). p.0) ∙ long) (λ k below.
    let here : k < length froms = omega (arith, below, long, length-map pairs (λ (p : ℕ × ℕ). p.0)) in
    get_or-map (λ (p : ℕ × ℕ). p.0) pairs k (0, 0) 0 (omega (arith, here, long)) ∙ ap (λ (p : ℕ × ℕ). p.0) (get_or-zip froms tos k (0, 0) here (omega (arith, here, same))))

seconds : (froms tos : List ℕ) → length tos ≡ length froms → map (λ (p : ℕ × ℕ). p.1) (zip froms tos) ≡ tos
seconds froms tos same =
    let pairs = zip froms tos in
    let long : length pairs ≡ length tos = omega (arith, same, length-zip froms tos) in
    ext_get_or 0 (map (λ (p : ℕ × ℕ). p.1) pairs) tos (length-map pairs (λ (p : ℕ × ℕ). p.1) ∙ long) (λ k below.
    let here : k < length tos = omega (arith, below, long, length-map pairs (λ (p : ℕ × ℕ). p.1)) in
    get_or-map (λ (p : ℕ × ℕ). p.1) pairs k (0, 0) 0 (omega (arith, here, long)) ∙ ap (λ (p : ℕ × ℕ). p.1) (get_or-zip froms tos k (0, 0) (omega (arith, here, same)) here))

-- the nodes of queries that arrays spell are their items
module _ (froms tos : List ℕ) where
  sizes_are : (kind : QueryKind) → length tos ≡ tos_wanted kind (length froms) → query_sizes (queries_spelled kind froms tos) ≡ record { kind = kind; count = length froms }
  sizes_are asks.Sources long = ap (λ k. record { kind = asks.Sources; count = k }) (length-map froms SourceQuery)
  sizes_are asks.Pairs long =
      let count : length (map pair_query (zip froms tos)) ≡ length froms = omega (arith, long, length-map (zip froms tos) pair_query, length-zip froms tos) in
      ap (λ k. record { kind = asks.Pairs; count = k }) count

  froms_are : (kind : QueryKind) → length tos ≡ tos_wanted kind (length froms) → froms_of (queries_spelled kind froms tos) ≡ froms
  froms_are asks.Sources long = refl
  froms_are asks.Pairs long = firsts froms tos long

nothing : (tos : List ℕ) → length tos ≡ 0 → [] ≡ tos
nothing [] none = refl
nothing (t ∷ tos) none = absurd (omega (arith, none))

tos_are : (kind : QueryKind) (froms tos : List ℕ) → length tos ≡ tos_wanted kind (length froms) → tos_of (queries_spelled kind froms tos) ≡ tos
tos_are asks.Sources froms tos long = nothing tos long
tos_are asks.Pairs froms tos long = seconds froms tos long

pub queries_back : QueryArraysLaw
queries_back kind froms tos queries (fits, lawful, is) froms_read tos_read result reads =
    let own = queries_spelled kind froms tos in
    let long : length tos ≡ tos_wanted kind (length froms) = (all_fit (query_lengths kind froms tos) fits).1.0 in
    let own_reads = subst (λ q. ReadsArcsInto kinds.Queries (canonical_queries q) (SpellsValue kinds.Queries GivesQueries (lines (canonical_queries q))) query_sizes (HoldQueries froms_read tos_read) result) is
    (reads_items kinds.Queries (canonical_queries (asked queries)) (SpellsValue kinds.Queries GivesQueries (lines (canonical_queries (asked queries)))) (Sources []) query_sizes (HoldQueries froms_read tos_read) result reads) in
    come_back kinds.Queries GivesQueries (canonical_queries own) own one_queries (queries_round_trip own lawful) query_sizes (HoldQueries froms_read tos_read)
    (λ sizes. (sizes ≡ record { kind = kind; count = length froms }) × Gets froms froms_read × Gets tos tos_read)
    (λ (fs, ts). (sizes_are froms tos kind long, front _ froms froms_read (froms_are froms tos kind long) fs, front _ tos tos_read (tos_are kind froms tos long) ts)) result own_reads

-- ---- cuts
pub cut_back : CutArrayLaw
cut_back inside c lawful (few, nodes, set) inside_read result reads =
    let all = length-map-range_with_len (byte_of c) 1 c.nodes in
    let same : inside_of c ≡ map bit_of inside = ext_get_or 0 (inside_of c) (map bit_of inside) (all ∙ (nodes ∙ sym (length-map inside bit_of))) (λ k below.
    let within : k < c.nodes = omega (arith, below, all) in
    get_or-map-range_with_len (byte_of c) 1 c.nodes k (suc k) 0 within (omega arith)
    ∙ (ap (λ (f : ℕ → Bool). if f (suc k) then 1 else 0) set ∙ sym (get_or-map bit_of inside k 0 0 (omega (arith, within, nodes))))) in
    come_back kinds.Cut GivesCut (canonical_cut c) c one_cut (cut_round_trip c lawful) (λ (d : CutValue). d.nodes) (λ d. IsFilled (inside_of d) inside_read)
    (λ n. (n ≡ length inside) × Gets (map bit_of inside) inside_read) (λ filled. (nodes, front _ (map bit_of inside) inside_read same filled)) result
    (reads_items kinds.Cut (canonical_cut c) (SpellsValue kinds.Cut GivesCut (lines (canonical_cut c))) (empty_cut 0) (λ (d : CutValue). d.nodes) (λ d. IsFilled (inside_of d) inside_read) result reads)

-- ---- numbers that fit into items
-- what a text that spells this value fills
pub fill_back : {V W : Type 0} (kind : TextKind) (gives : List LineRecord → V → Type 0) (text : List ℕ) (own : V) → ((rs : List LineRecord) (v w : V) → gives rs v → gives rs w → v ≡ w)
    → SpellsValue kind gives (lines text) own → (fills : V → Result W FillError → Type 0) (kept : Type 0) (holds : W → Type 0) → ((r : Result W FillError) → fills own r → FillsOrFails holds r)
    → (result : Result W FillError) → ReadsFitting kind text (SpellsValue kind gives (lines text)) fills kept result → FillsOrFails holds result
fill_back kind gives text own one spells fills kept holds back result (Ok v, reads, filled, keeps) =
    back result (subst (λ x. fills x result) (spells_one_value kind gives (lines text) v own one reads.0 spells) filled)
fill_back kind gives text own one spells fills kept holds back result (Err (read_errors.Refused place reason), reads, filled, keeps) = absurd (reads.2 own spells)
fill_back kind gives text own one spells fills kept holds back result (Err read_errors.Device, reads, filled, keeps) = subst (FillsOrFails holds) (sym filled) tt
fill_back kind gives text own one spells fills kept holds back result (Err read_errors.Memory, reads, filled, keeps) = subst (FillsOrFails holds) (sym filled) tt

number_whole : (numbers : List ℤ) → All IsWhole numbers → (id : ℕ) → IsNode (length numbers) id → IsWhole (number_of numbers id)
number_whole numbers whole zero node = absurd (omega (arith, node.0))
number_whole numbers whole (suc k) node = All-get_or IsWhole numbers k (pos 0) (omega (arith, node.1)) whole

pub potentials_back : PotentialsArrayLaw
potentials_back numbers p whole lawful (few, nodes, are) numbers_read =
    fill_back kinds.Potentials GivesPotentials (canonical_potentials p) p one_potentials (potentials_round_trip p lawful) (FillsPotentials numbers_read) (IsKept numbers_read)
    (λ n. (n ≡ length numbers) × Gets numbers numbers_read) by
  where
    all : length (numbers_of p) ≡ p.nodes
    all = length-map-range_with_len (potential_of p) 1 p.nodes

    same : numbers_of p ≡ numbers
    same =
        ext_get_or (pos 0) (numbers_of p) numbers (all ∙ nodes) (λ k below.
        get_or-map-range_with_len (potential_of p) 1 p.nodes k (suc k) (pos 0) (omega (arith, below, all)) (omega arith) ∙ ap (λ (f : ℕ → ℤ). f (suc k)) are)

    by : (r : Result ℕ FillError) → FillsPotentials numbers_read p r → FillsOrFails (λ n. (n ≡ length numbers) × Gets numbers numbers_read) r
    by (Ok n) (is, fit, filled) = (is ∙ nodes, front (numbers_of p) numbers numbers_read same filled)
    by (Err (fill_errors.Node id reason)) (is, first) =
        let node : IsNode (length numbers) id = subst (λ n. IsNode n id) nodes first.node in
        absurd (first.past (subst IsWhole (sym (ap (λ (f : ℕ → ℤ). f id) are)) (number_whole numbers whole id node)))
    by (Err (fill_errors.Unread error)) none = absurd none

-- ---- solutions
whole_wide : (value : ℤ) → IsWhole value → IsWide value
whole_wide value is = (omega (arith, ints, is.0), omega (arith, ints, is.1))

-- this claim, or out of memory
abbrev OverOrFails : ℤ → List ℤ → Result ClaimedFlow JudgeError → Type 0
OverOrFails value flows (Ok c) = (c.value ≡ value) × (c.flow ≡ flows)
OverOrFails value flows (Err (judged.Refused place reason)) = ⊥
OverOrFails value flows (Err judged.Memory) = Unit

module _ (g : NetworkValue) (value : ℤ) (flows : List ℤ) (s : SolutionValue) (law : IsGraph g) (whole : IsWhole value) (all_whole : All IsWhole flows) (of : IsSolutionWith value g.arcs flows s) where
  carries : Carries g.arcs s.entries flows
  carries = subst (Carries g.arcs s.entries) of.amounts (carried g.arcs s.entries of.entries.all_arcs)

  spells : SpellsSolution (canonical_solution s) s
  spells = spelled g.nodes g.arcs s flows law.nodes_few law.arcs_few law.joined of.entries carries all_whole (subst IsWide (sym of.value_is) (whole_wide value whole))

  own_claim : IsClaimedBy g.arcs s (record { value = value; flow = flows })
  own_claim = record { value = sym of.value_is; whole = subst IsWhole (sym of.value_is) whole; carries = carries }

  over : (result : Result ClaimedFlow JudgeError) → ReadsSolutionOver g.arcs (canonical_solution s) result → OverOrFails value flows result
  over result (Ok v, reads, claims) = by result (subst (λ x. ClaimsOver g.arcs x result) (spells_one_value kinds.Solution GivesSolution (lines (canonical_solution s)) v s one_solution reads.0 spells) claims)
    where
      by : (r : Result ClaimedFlow JudgeError) → ClaimsOver g.arcs s r → OverOrFails value flows r
      by (Ok c) is = (is.value ∙ of.value_is, is.carries.amounts ∙ sym carries.amounts)
      by (Err (judged.Refused place reason)) none = none.1 (record { value = value; flow = flows }) own_claim
      by (Err judged.Memory) none = tt
  over result (Err (read_errors.Refused place reason), reads, claims) = absurd (reads.2 s spells)
  over result (Err read_errors.Device, reads, claims) = subst (OverOrFails value flows) (sym claims) tt
  over result (Err read_errors.Memory, reads, claims) = subst (OverOrFails value flows) (sym claims) tt

pub solution_back : SolutionArraysLaw
solution_back value a flows s whole all_whole (fits, law, of) = by
  where
    overs : (result : Result ClaimedFlow JudgeError) → ReadsSolutionOver (ends_spelled a).arcs (canonical_solution (claimed s)) result → OverOrFails value flows result
    overs = over (ends_spelled a) value flows (claimed s) law whole all_whole of

    by : (result : Result ClaimedFlow ArrayError) → ReadsSolutionArrays a (canonical_solution (claimed s)) result → ClaimsOrFails value flows result
    by (Ok c) (lengths, lawful, answer) = overs (Ok c) answer
    by (Err (array_errors.Refused place reason)) (lengths, lawful, answer) = overs (Err (judged.Refused place reason)) answer
    by (Err (array_errors.Limit place reason)) (lengths, unlawful, first) = absurd (unlawful law)
    by (Err (array_errors.Length array)) misfit =
        let same : first_misfit (amount_lengths a flows) ≡ Some array = misfit_front (ends_lengths a) (length_of Flows (length flows) (length a.tails.now) ∷ []) array misfit in
        let none : first_misfit (amount_lengths a flows) ≡ None = fits in absurd cc
    by (Err array_errors.Memory) memory = tt
