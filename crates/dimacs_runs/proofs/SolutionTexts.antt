-- The texts of solutions with an entry for every arc spell them.
use Rattle.std.proofs.Common.{◌≡◌, ℕ, suc, ◌+◌, ◌-◌, ◌*◌, ◌^◌, ◌<◌, ◌≤◌, ◌==◌, ◌∷◌, [], List, Bool, true, false, ℤ, pos, ◌≤ℤ◌, length, take, refl, ap, ap₂, sym, ◌∙◌, subst, arith}
use Rattle.std.proofs.{Math.ListN.{get_or-map}, lemmas.Int.{ints}, lemmas.List.{length-map, take_all}}
use Rattle.std.proofs.lemmas.List.Elements.{All-cons, All-from_get_or, All-head, All-nil, All-tail, All-weaker}
use Rattle.std.proofs.lemmas.Slice.Zip.{AllZip-long}
use Rattle.std.specs.List.{All, AllZip}
use Rattle.dimacs_lines.specs.Limits.{most_count, most_nodes}
use Rattle.dimacs_records.specs.Ranges.{IsWhole, IsWide}
use Rattle.dimacs_claims.specs.declared.place.Entry.{Entry}
use Rattle.dimacs_claims.specs.SolutionTexts.{IsLawful, IsLawfulEntry, SolutionValue, SpellsSolution, canonical_solution, on_lines_from, renumbered}
use Rattle.dimacs_claims.proofs.SolutionLemmas.{solution_round_trip}
use Rattle.dimacs_network.specs.{declared.network.ArcView.{ArcView}, Arcs.{JoinsNodes, no_arc}}
use Rattle.dimacs_instance.specs.{MaxFlows.{HasCapacityAlone, IsMax, MaxValue}, MinFlows.{HasBounds, IsMin, MinValue}}
use Rattle.dimacs_judging.specs.{Claims.{Carries, entry_at, no_entry}, Feasible.{value}, FlowTests.{cost_through}}
use Rattle.dimacs_judging.specs.{Flows.{cost, net, sum_arcs, when}, MaxJudge.{IsMaxClaim}, MinJudge.{IsMinClaim}}
use Rattle.dimacs_judging.specs.Rows.{amount_at}
use Rattle.dimacs_decide.specs.Entries.{IsSolutionOf}
use Rattle.dimacs_decide.proofs.SolutionLemmas.{carried}

-- ---- the lines of entries
on_line : (e : Entry) (n : ℕ) → e.line ≡ n → record e { line = n } ≡ e
on_line e n is = rw (← is) refl

lines_kept : (n : ℕ) (es : List Entry) → ((k : ℕ) → k < length es → (entry_at es k).line ≡ k + n) → on_lines_from n es ≡ es
lines_kept n [] lines = refl
lines_kept n (e ∷ es) lines =
    let first : e.line ≡ 0 + n = lines 0 (omega arith) in
    ap₂ (λ (first : Entry) (rest : List Entry). first ∷ rest) (on_line e n (omega (arith, first))) (lines_kept (suc n) es (λ k inside. let is : (entry_at es k).line ≡ suc k + n = lines (suc k) (omega (arith, inside)) in omega (arith, is)))

same_lines : (arcs : List ArcView) (s : SolutionValue) → IsSolutionOf arcs s → renumbered s ≡ s
same_lines arcs s of =
    let es : on_lines_from 2 s.entries ≡ s.entries = lines_kept 2 s.entries (λ k inside. (of.all_arcs.in_order k (omega (arith, inside, of.all_arcs.one_each))).line_is) in
    ap₂ (λ (line : ℕ) (entries : List Entry). record { value = s.value; value_line = line; entries = entries }) (sym of.value_first) es

-- ---- amounts
abbrev IsAmount : ℤ → Type 0
IsAmount z = (pos 0 ≤ℤ z) × (z ≤ℤ pos (2 ^ 63 - 1))

amount_whole : (z : ℤ) → IsAmount z → IsWhole z
amount_whole z is = (omega (arith, ints, is.0), omega (arith, ints, is.1))

zip_all : {A B : Type 0} (R : A → B → Type 0) (P : A → Type 0) (Q : B → Type 0) → ((a : A) (b : B) → P a → R a b → Q b) → (xs : List A) (ys : List B) → All P xs → AllZip R xs ys → All Q ys
zip_all R P Q gives [] [] all zip = All-nil Q
zip_all R P Q gives [] (y ∷ ys) all zip = absurd zip
zip_all R P Q gives (x ∷ xs) [] all zip = absurd zip
zip_all R P Q gives (x ∷ xs) (y ∷ ys) all zip = All-cons Q y ys (gives x y (All-head P x xs all) zip.0) (zip_all R P Q gives xs ys (All-tail P x xs all) zip.1)

amount_when : (b : Bool) (z : ℤ) → IsAmount z → IsAmount (when b z)
amount_when true z is = is
amount_when false z is = (omega (arith, ints), omega (arith, ints))

-- the sum of the amounts of some arcs is at most all of them at their most
sum_small : (test : ArcView → Bool) (arcs : List ArcView) (x : List ℤ) → All IsAmount x
    → (pos 0 ≤ℤ sum_arcs (λ a z. when (test a) z) arcs x) × (sum_arcs (λ a z. when (test a) z) arcs x ≤ℤ pos (length x * 2 ^ 63))
sum_small test [] x all = (omega (arith, ints), omega (arith, ints))
sum_small test (a ∷ arcs) [] all = (omega (arith, ints), omega (arith, ints))
sum_small test (a ∷ arcs) (z ∷ x) all =
    let first = amount_when (test a) z (All-head IsAmount z x all) in
    let rest = sum_small test arcs x (All-tail IsAmount z x all) in
    (omega (arith, ints, first.0, rest.0), omega (arith, ints, first.1, rest.1))

net_wide : (arcs : List ArcView) (x : List ℤ) (v : ℕ) → All IsAmount x → length x ≤ most_count → IsWide (net arcs x v)
net_wide arcs x v all few =
    let out = sum_small (λ a. a.tail == v) arcs x all in
    let back = sum_small (λ a. a.head == v) arcs x all in
    (omega (arith, ints, out.0, out.1, back.0, back.1, few), omega (arith, ints, out.0, out.1, back.0, back.1, few))

-- ---- solutions
module _ (nodes : ℕ) (arcs : List ArcView) (s : SolutionValue) (x : List ℤ) (nodes_few : nodes ≤ most_nodes) (arcs_few : length arcs ≤ most_count) (joined : All (JoinsNodes nodes) arcs) (of : IsSolutionOf arcs s) (carries : Carries arcs s.entries x) (amounts : All IsWhole x) (wide : IsWide s.value) where
  flow_at : (k : ℕ) → (entry_at s.entries k).flow ≡ amount_at x k
  flow_at k = sym (get_or-map (λ (e : Entry). e.flow) s.entries k no_entry) ∙ ap (λ (y : List ℤ). amount_at y k) ((carried arcs s.entries of.all_arcs).amounts ∙ sym carries.amounts)

  lawful_entry : (k : ℕ) → k < length s.entries → IsLawfulEntry (entry_at s.entries k)
  lawful_entry k inside =
      let there : k < length arcs = omega (arith, inside, of.all_arcs.one_each) in
      let long : length x ≡ length arcs = ap length carries.amounts ∙ (ap length (sym (carried arcs s.entries of.all_arcs).amounts) ∙ (length-map s.entries (λ (e : Entry). e.flow) ∙ of.all_arcs.one_each)) in
      let e = of.all_arcs.in_order k there in
      let ends = joined k no_arc there in
      let amount : IsWhole (amount_at x k) = amounts k (pos 0) (omega (arith, there, long)) in
      record {
        tail = rw e.tail_is (ends.0.0, omega (arith, ends.0.1, nodes_few));
        head = rw e.head_is (ends.1.0, omega (arith, ends.1.1, nodes_few));
        flow = rw (flow_at k) amount;
      }

  --   the text of an entry for every arc
  pub spelled : SpellsSolution (canonical_solution s) s
  spelled =
      let lawful : IsLawful s = record {
        value = wide;
        entries = All-from_get_or IsLawfulEntry s.entries no_entry lawful_entry;
        few = omega (arith, of.all_arcs.one_each, arcs_few);
      } in
      subst (SpellsSolution (canonical_solution s)) (same_lines arcs s of) (solution_round_trip s lawful)

-- the solution of a feasible flow with its value
pub max_spelled : (i : MaxValue) → IsMax i → (s : SolutionValue) (x : List ℤ) → IsSolutionOf i.arcs s → IsMaxClaim i s x → SpellsSolution (canonical_solution s) s
max_spelled i law s x of claim =
    let long = AllZip-long _ i.arcs x claim.feasible.within in
    let amounts : All IsAmount x = zip_all (λ (a : ArcView) (z : ℤ). (pos 0 ≤ℤ z) × (z ≤ℤ a.cap)) HasCapacityAlone IsAmount (λ a z has within. (within.0, omega (arith, ints, within.1, has.3.1))) i.arcs x law.capacities claim.feasible.within in
    let wide : IsWide s.value = subst IsWide claim.value_is (net_wide i.arcs x i.source amounts (omega (arith, long, law.arcs_few))) in
    spelled i.nodes i.arcs s x law.nodes_few law.arcs_few law.joined of claim.carries (All-weaker IsAmount IsWhole amount_whole x amounts) wide

cost_wide : (arcs : List ArcView) (x : List ℤ) → length x ≡ length arcs → ((k : ℕ) → k < length arcs → IsWide (cost_through arcs x k)) → IsWide (cost arcs x)
cost_wide [] x long wide = (omega (arith, ints), omega (arith, ints))
cost_wide (a ∷ arcs) x long wide =
    let all = wide (length arcs) (omega arith) in
    let whole : take (length arcs + 1) (a ∷ arcs) ≡ a ∷ arcs = take_all (length arcs + 1) (a ∷ arcs) (omega arith) in
    let whole_flow : take (length arcs + 1) x ≡ x = take_all (length arcs + 1) x (omega (arith, long)) in
    subst IsWide (ap₂ (λ (bs : List ArcView) (y : List ℤ). cost bs y) whole whole_flow) all

-- the solution of a feasible flow with its cost
pub min_spelled : (i : MinValue) → IsMin i → (s : SolutionValue) (x : List ℤ) → IsSolutionOf i.arcs s → IsMinClaim i s x → SpellsSolution (canonical_solution s) s
min_spelled i law s x of claim =
    let long = AllZip-long _ i.arcs x claim.feasible.within in
    let amounts : All IsAmount x = zip_all (λ (a : ArcView) (z : ℤ). (a.low ≤ℤ z) × (z ≤ℤ a.cap)) HasBounds IsAmount (λ a z has within. (omega (arith, ints, within.0, has.0), omega (arith, ints, within.1, has.2.1))) i.arcs x law.bounds claim.feasible.within in
    let wide : IsWide s.value = subst IsWide claim.cost_is (cost_wide i.arcs x long claim.costs_wide) in
    spelled i.nodes i.arcs s x law.nodes_few law.arcs_few law.joined of claim.carries (All-weaker IsAmount IsWhole amount_whole x amounts) wide
