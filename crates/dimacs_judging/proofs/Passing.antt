-- If all tests pass, the properties that they test hold.
use Rattle.std.proofs.Common.{◌≡◌, ◌≢◌, ◌==◌, ◌⊎◌, inl, inr, ℕ, suc, zero, ◌+◌, ◌^◌, ◌<◌, Bool, true, false, List, [], ◌∷◌, All, length, get_or, Option, Some, Result, Ok, Err, ℤ, pos, neg_ℤ, ◌≤ℤ◌, ◌<ℤ◌, refl, sym, subst, ◌∙◌, arith}
use Rattle.std.proofs.{lemmas.Int.{ints, by_lt_z}, lemmas.List.Elements.{All-head, All-tail, All-weaker}}
use Rattle.std.proofs.{lemmas.Bool.{ne_eqb}, lemmas.Bool.Decides.{eqb_tells}}
use Rattle.std.specs.{List.{AllZip}, Int.Signed.{<ℤ_irrefl}}
use Rattle.dimacs_network.specs.{declared.network.ArcView.{ArcView}, Arcs.{no_arc, arc_at}}
use Rattle.dimacs_records.specs.{declared.reasons.Reason.{Reason}, Ranges.{IsWide}}
use Rattle.dimacs_judging.specs.{declared.verdict.Where.{Where}, Flows.{net}, Feasible.{FeasibleMax, FeasibleMin}}
use Rattle.dimacs_judging.specs.{Cuts.{IsTightAt, CutTight}, Potentials.{IsSlackAt, Slack, reduced_cost}}
use Rattle.dimacs_judging.specs.{ViolatedSets.{most_out, least_out, supply_in, Violated}, inside.Ranges.{IsOfSize}}
use Rattle.dimacs_judging.specs.{Agreement.{value_row, nodes_row}, Tests.{Clear, AllClear, TestsRow}}
use Rattle.dimacs_judging.specs.{inside.Tests.{TestsRows}, Rows.{one_test, amount_at, flow_row}}
use Rattle.dimacs_judging.specs.FlowTests.{BoundFails, bound_row, balance_row, cost_through, cost_row, feasible_max_rows, feasible_min_rows, max_demand, min_demand}
use Rattle.dimacs_judging.specs.CertificateTests.{TightFails, cut_rows, SlackFails, slack_row, violated_row}
use Rattle.dimacs_instance.specs.{MaxFlows.{MaxValue, IsMax, HasCapacityAlone}, MinFlows.{MinValue, supply_of}}
use Rattle.dimacs_lines.specs.Limits.{IsNode}
use Rattle.dimacs_records.specs.declared.reasons.Reason.TheVariants as reasons
use Rattle.dimacs_judging.specs.declared.verdict.Where.TheVariants as places

-- numbers that can't differ are equal
pub same_number : (a b : ℤ) → (¬ (a ≢ b)) → a ≡ b
same_number a b h = by_lt_z a b
    (λ l. absurd (h (λ e. <ℤ_irrefl (subst (λ (z : ℤ). z <ℤ b) e l))))
    (λ m. by_lt_z b a (λ l. absurd (h (λ e. <ℤ_irrefl (subst (λ (z : ℤ). b <ℤ z) e l)))) (λ n. omega (arith, ints, m, n)))

not_below : (a b : ℤ) → (¬ (a <ℤ b)) → b ≤ℤ a
not_below a b h = by_lt_z a b (λ l. absurd (h l)) (λ l. l)

is_true : (b : Bool) → (¬ (b ≡ false)) → b ≡ true
is_true true h = refl
is_true false h = absurd (h refl)

is_false : (b : Bool) → (¬ (b ≡ true)) → b ≡ false
is_false true h = absurd (h refl)
is_false false h = refl

not_both : (b : Bool) → b ≡ true → b ≡ false → ⊥
not_both b h k = cc

-- ---- a property of each arc with its amount, by index
pub pairs_from : {A B : Type 0} (R : A → B → Type 0) (xs : List A) (ys : List B) (d : A) (e : B) → length ys ≡ length xs → ((k : ℕ) → k < length xs → R (get_or xs k d) (get_or ys k e)) → AllZip R xs ys
pairs_from R [] [] d e h each = tt
pairs_from R [] (y ∷ ys) d e h each = absurd (omega (arith, h))
pairs_from R (x ∷ xs) [] d e h each = absurd (omega (arith, h))
pairs_from R (x ∷ xs) (y ∷ ys) d e h each = (each 0 (omega arith), pairs_from R xs ys d e (omega (arith, h)) (λ k l. each (suc k) (omega (arith, l))))

pub pair_at : {A B : Type 0} (R : A → B → Type 0) (xs : List A) (ys : List B) (k : ℕ) (d : A) (e : B) → AllZip R xs ys → k < length xs → R (get_or xs k d) (get_or ys k e)
pair_at R [] ys k d e all h = absurd (omega (arith, h))
pair_at R (x ∷ xs) [] k d e all h = absurd all
pair_at R (x ∷ xs) (y ∷ ys) zero d e all h = all.0
pair_at R (x ∷ xs) (y ∷ ys) (suc k) d e all h = pair_at R xs ys k d e all.1 (omega (arith, h))

-- if no arc fails, each has the property
pub flow_row_holds : (R : ArcView → ℤ → Type 0) (fails : ArcView → ℤ → Reason → Type 0) → ((a : ArcView) (x : ℤ) → ((reason : Reason) → ¬ fails a x reason) → R a x)
    → (arcs : List ArcView) (x : List ℤ) → length x ≡ length arcs → Clear (flow_row fails arcs x) → AllZip R arcs x
flow_row_holds R fails tells arcs x long clear = pairs_from R arcs x no_arc (pos 0) long (λ k h. tells (arc_at arcs k) (amount_at x k) (λ reason f. clear k (places.Arc (k + 1)) reason (h, refl, f)))

-- if each arc has the property, none fails
pub flow_row_clear : (R : ArcView → ℤ → Type 0) (fails : ArcView → ℤ → Reason → Type 0) → ((a : ArcView) (x : ℤ) (reason : Reason) → R a x → ¬ fails a x reason)
    → (arcs : List ArcView) (x : List ℤ) → AllZip R arcs x → Clear (flow_row fails arcs x)
flow_row_clear R fails tells arcs x all k place reason f = tells (arc_at arcs k) (amount_at x k) reason (pair_at R arcs x k no_arc (pos 0) all f.0) f.2

-- ---- bounds
abbrev pub IsWithinBounds : ArcView → ℤ → Type 0
IsWithinBounds a x = (a.low ≤ℤ x) × (x ≤ℤ a.cap)

keeps_bounds : (a : ArcView) (x : ℤ) → ((reason : Reason) → ¬ BoundFails a x reason) → IsWithinBounds a x
keeps_bounds a x clear =
    let low : a.low ≤ℤ x = not_below x a.low (λ l. clear reasons.BelowLow (inl (refl, l))) in
    (low, not_below a.cap x (λ l. clear reasons.AboveCap (inr (refl, low, l))))

bounds_kept : (a : ArcView) (x : ℤ) (reason : Reason) → IsWithinBounds a x → ¬ BoundFails a x reason
bounds_kept a x reason within (inl f) = omega (arith, ints, within.0, f.1)
bounds_kept a x reason within (inr f) = omega (arith, ints, within.1, f.2)

pub bounds_hold : (arcs : List ArcView) (x : List ℤ) → length x ≡ length arcs → Clear (bound_row arcs x) → AllZip IsWithinBounds arcs x
bounds_hold arcs x = flow_row_holds IsWithinBounds BoundFails keeps_bounds arcs x

pub bounds_clear : (arcs : List ArcView) (x : List ℤ) → AllZip IsWithinBounds arcs x → Clear (bound_row arcs x)
bounds_clear arcs x = flow_row_clear IsWithinBounds BoundFails bounds_kept arcs x

-- ---- balances
pub balances_hold : (nodes : ℕ) (arcs : List ArcView) (demand : ℕ → Option ℤ) (x : List ℤ) → Clear (balance_row nodes arcs demand x) → (v : ℕ) (d : ℤ) → IsNode nodes v → demand v ≡ Some d → net arcs x v ≡ d
balances_hold nodes arcs demand x clear v d node is = same_number (net arcs x v) d (λ off. clear v (places.Node v) reasons.Balance (node, refl, (refl, (d, is, off))))

pub balances_clear : (nodes : ℕ) (arcs : List ArcView) (demand : ℕ → Option ℤ) (x : List ℤ) → ((v : ℕ) (d : ℤ) → IsNode nodes v → demand v ≡ Some d → net arcs x v ≡ d) → Clear (balance_row nodes arcs demand x)
balances_clear nodes arcs demand x hold v place reason f = let (d, is, off) = f.2.1 in off (hold v d f.0 is)

-- ---- costs
-- a number that can't be out of range is in it
is_of_size : (h : ℕ) (z : ℤ) → (¬ (¬ IsOfSize h z)) → IsOfSize h z
is_of_size h z inside =
    (not_below z (neg_ℤ (pos h)) (λ l. inside (λ is. omega (arith, ints, l, is.0))), not_below (pos h) z (λ l. inside (λ is. omega (arith, ints, l, is.1))))

pub costs_wide : (arcs : List ArcView) (x : List ℤ) → Clear (cost_row arcs x) → (k : ℕ) → k < length arcs → IsWide (cost_through arcs x k)
costs_wide arcs x clear k inside = is_of_size (10 ^ 30) (cost_through arcs x k) (λ off. clear k (places.Arc (k + 1)) reasons.CostRange (inside, refl, (refl, off)))

pub costs_clear : (arcs : List ArcView) (x : List ℤ) → ((k : ℕ) → k < length arcs → IsWide (cost_through arcs x k)) → Clear (cost_row arcs x)
costs_clear arcs x wide k place reason f = f.2.1 (wide k f.0)

-- ---- cuts
keeps_tight : (set : ℕ → Bool) (a : ArcView) (x : ℤ) → ((reason : Reason) → ¬ TightFails set a x reason) → IsTightAt set a x
keeps_tight set a x clear = (λ out. same_number x a.cap (λ off. clear reasons.NotSaturated (inl (refl, out, off))), λ back. same_number x (pos 0) (λ off. clear reasons.BackFlow (inr (refl, back, off))))

tight_kept : (set : ℕ → Bool) (a : ArcView) (x : ℤ) (reason : Reason) → IsTightAt set a x → ¬ TightFails set a x reason
tight_kept set a x reason tight (inl f) = f.2 (tight.0 f.1)
tight_kept set a x reason tight (inr f) = f.2 (tight.1 f.1)

pub cut_is_tight : (i : MaxValue) (set : ℕ → Bool) (x : List ℤ) → length x ≡ length i.arcs → AllClear (cut_rows i set x) → CutTight i x set
cut_is_tight i set x long clear = record {
  source_inside = is_true (set i.source) (λ out. clear.0 0 (places.Node i.source) reasons.SourceOutside (refl, refl, refl, out));
  sink_outside = is_false (set i.sink) (λ inside. clear.1.0 0 (places.Node i.sink) reasons.SinkInside (refl, refl, refl, inside));
  tight = flow_row_holds (IsTightAt set) (TightFails set) (keeps_tight set) i.arcs x long clear.1.1.0;
}

pub tight_cut_clear : (i : MaxValue) (set : ℕ → Bool) (x : List ℤ) → CutTight i x set → AllClear (cut_rows i set x)
tight_cut_clear i set x cut = (
  (λ k place reason f. not_both (set i.source) cut.source_inside f.3),
  (
    (λ k place reason f. not_both (set i.sink) f.3 cut.sink_outside),
    (flow_row_clear (IsTightAt set) (TightFails set) (tight_kept set) i.arcs x cut.tight, tt),
  ),
)

-- ---- potentials
abbrev slack_fails : (ℕ → ℤ) → ArcView → ℤ → Reason → Type 0
slack_fails p a = SlackFails (reduced_cost p a) a

keeps_slack : (p : ℕ → ℤ) (a : ArcView) (x : ℤ) → ((reason : Reason) → ¬ slack_fails p a x reason) → IsSlackAt p a x
keeps_slack p a x clear = (λ more. same_number x a.low (λ off. clear reasons.NotTight (refl, inl (more, off))), λ less. same_number x a.cap (λ off. clear reasons.NotTight (refl, inr (less, off))))

slack_kept : (p : ℕ → ℤ) (a : ArcView) (x : ℤ) (reason : Reason) → IsSlackAt p a x → ¬ slack_fails p a x reason
slack_kept p a x reason slack (is, inl f) = f.1 (slack.0 f.0)
slack_kept p a x reason slack (is, inr f) = f.1 (slack.1 f.0)

pub potentials_slack : (arcs : List ArcView) (p : ℕ → ℤ) (x : List ℤ) → length x ≡ length arcs → Clear (slack_row arcs p x) → Slack arcs x p
potentials_slack arcs p x = flow_row_holds (IsSlackAt p) (slack_fails p) (keeps_slack p) arcs x

pub slack_clear : (arcs : List ArcView) (p : ℕ → ℤ) (x : List ℤ) → Slack arcs x p → Clear (slack_row arcs p x)
slack_clear arcs p x = flow_row_clear (IsSlackAt p) (slack_fails p) (slack_kept p) arcs x

-- ---- feasible flows
pub feasible_min_holds : (i : MinValue) (x : List ℤ) → length x ≡ length i.arcs → AllClear (feasible_min_rows i x) → FeasibleMin i x
feasible_min_holds i x long clear = record {
  within = bounds_hold i.arcs x long clear.0;
  balanced = λ v node. balances_hold i.nodes i.arcs (min_demand i) x clear.1.0 v (supply_of i v) node refl;
}

pub feasible_min_clear : (i : MinValue) (x : List ℤ) → FeasibleMin i x → AllClear (feasible_min_rows i x)
feasible_min_clear i x feasible = (bounds_clear i.arcs x feasible.within, (balances_clear i.nodes i.arcs (min_demand i) x (λ v d node is. feasible.balanced v node ∙ (cc)), tt))

max_demanded : (i : MaxValue) (v : ℕ) → v ≢ i.source → v ≢ i.sink → max_demand i v ≡ Some (pos 0)
max_demanded i v s t =
    let not_source : (v == i.source) ≡ false = ne_eqb v i.source s in
    let not_sink : (v == i.sink) ≡ false = ne_eqb v i.sink t in
    rw (not_source, not_sink) refl

demands_zero : (i : MaxValue) (v : ℕ) (d : ℤ) → max_demand i v ≡ Some d → (v ≢ i.source) × (v ≢ i.sink) × (d ≡ pos 0)
demands_zero i v d is = elim (eqb_tells v i.source) [
  | inl s ↦ absurd (let f = rw s.0 at is in cc)
  | inr s ↦ elim (eqb_tells v i.sink) [ inl t ↦ absurd (let f = rw (s.0, t.0) at is in cc) | inr t ↦ (s.1, t.1, let f = rw (s.0, t.0) at is in cc) ]
]

-- an arc of a maximum flow has no lower bound
abbrev pub HasNoLow : ArcView → Type 0
HasNoLow a = a.low ≡ pos 0

no_lows : (i : MaxValue) → IsMax i → All HasNoLow i.arcs
no_lows i law = All-weaker HasCapacityAlone HasNoLow (λ a alone. alone.0) i.arcs law.capacities

no_low : (arcs : List ArcView) (x : List ℤ) → All HasNoLow arcs → AllZip IsWithinBounds arcs x → AllZip (λ a z. (pos 0 ≤ℤ z) × (z ≤ℤ a.cap)) arcs x
no_low [] [] lows all = tt
no_low [] (z ∷ x) lows all = absurd all
no_low (a ∷ arcs) [] lows all = absurd all
no_low (a ∷ arcs) (z ∷ x) lows all = ((rw (← All-head HasNoLow a arcs lows) all.0.0, all.0.1), no_low arcs x (All-tail HasNoLow a arcs lows) all.1)

with_low : (arcs : List ArcView) (x : List ℤ) → All HasNoLow arcs → AllZip (λ a z. (pos 0 ≤ℤ z) × (z ≤ℤ a.cap)) arcs x → AllZip IsWithinBounds arcs x
with_low [] [] lows all = tt
with_low [] (z ∷ x) lows all = absurd all
with_low (a ∷ arcs) [] lows all = absurd all
with_low (a ∷ arcs) (z ∷ x) lows all = ((rw (All-head HasNoLow a arcs lows) all.0.0, all.0.1), with_low arcs x (All-tail HasNoLow a arcs lows) all.1)

pub feasible_max_holds : (i : MaxValue) (x : List ℤ) → IsMax i → length x ≡ length i.arcs → AllClear (feasible_max_rows i x) → FeasibleMax i x
feasible_max_holds i x law long clear = record {
  within = no_low i.arcs x (no_lows i law) (bounds_hold i.arcs x long clear.0);
  balanced = λ v node s t. balances_hold i.nodes i.arcs (max_demand i) x clear.1.0 v (pos 0) node (max_demanded i v s t);
}

pub feasible_max_clear : (i : MaxValue) (x : List ℤ) → IsMax i → FeasibleMax i x → AllClear (feasible_max_rows i x)
feasible_max_clear i x law feasible = (
  bounds_clear i.arcs x (with_low i.arcs x (no_lows i law) feasible.within),
  (balances_clear i.nodes i.arcs (max_demand i) x (λ v d node is. let (s, t, zero_is) = demands_zero i v d is in feasible.balanced v node s t ∙ sym zero_is), tt),
)

-- ---- single tests
one_holds : (place : Where) (why : Reason) (fails : Type 0) → Clear (one_test place why fails) → ¬ fails
one_holds place why fails clear f = clear zero place why (refl, refl, refl, f)

one_clear : (place : Where) (why : Reason) (fails : Type 0) → (¬ fails) → Clear (one_test place why fails)
one_clear place why fails off k p r f = off f.3

pub value_is : (value claimed : ℤ) (line : ℕ) → Clear (value_row value claimed line) → claimed ≡ value
value_is value claimed line clear = same_number claimed value (one_holds (places.Solution line 2) reasons.ValueDiffers (claimed ≢ value) clear)

pub value_clear : (value claimed : ℤ) (line : ℕ) → claimed ≡ value → Clear (value_row value claimed line)
value_clear value claimed line is = one_clear (places.Solution line 2) reasons.ValueDiffers (claimed ≢ value) (λ off. off is)

pub nodes_are : (nodes claimed : ℕ) → Clear (nodes_row nodes claimed) → claimed ≡ nodes
nodes_are nodes claimed clear = elim (eqb_tells claimed nodes) [ inl is ↦ is.1 | inr off ↦ absurd (one_holds places.Certificate reasons.NodesDiffer (claimed ≢ nodes) clear off.1) ]

pub nodes_clear : (nodes claimed : ℕ) → claimed ≡ nodes → Clear (nodes_row nodes claimed)
nodes_clear nodes claimed is = one_clear places.Certificate reasons.NodesDiffer (claimed ≢ nodes) (λ off. off is)

source_clear : (i : MaxValue) (set : ℕ → Bool) → set i.source ≡ true → Clear (one_test (places.Node i.source) reasons.SourceOutside (set i.source ≡ false))
source_clear i set inside = one_clear (places.Node i.source) reasons.SourceOutside (set i.source ≡ false) (not_both (set i.source) inside)

sink_clear : (i : MaxValue) (set : ℕ → Bool) → set i.sink ≡ false → Clear (one_test (places.Node i.sink) reasons.SinkInside (set i.sink ≡ true))
sink_clear i set outside = one_clear (places.Node i.sink) reasons.SinkInside (set i.sink ≡ true) (λ within. not_both (set i.sink) within outside)

-- the tests of a cut with the source inside and the sink outside
pub cut_told : (i : MaxValue) (set : ℕ → Bool) (x : List ℤ) (outcome : Result Unit (Where × Reason)) → set i.source ≡ true → set i.sink ≡ false → TestsRow (flow_row (TightFails set) i.arcs x) outcome → TestsRows (cut_rows i set x) outcome
cut_told i set x (Ok done) inside outside clear = (source_clear i set inside, (sink_clear i set outside, (clear, tt)))
cut_told i set x (Err refusal) inside outside first = inr (source_clear i set inside, inr (sink_clear i set outside, inl first))

-- ---- sets
violated_or_not : (i : MinValue) (set : ℕ → Bool) → Violated i set ⊎ (¬ Violated i set)
violated_or_not i set =
    by_lt_z (most_out i.arcs set) (supply_in i.nodes (supply_of i) set) (λ above. inl (inl above)) (λ most.
    by_lt_z (supply_in i.nodes (supply_of i) set) (least_out i.arcs set) (λ below. inl (inr below)) (λ least.
    inr (λ violated. elim violated [ inl above ↦ omega (arith, ints, most, above) | inr below ↦ omega (arith, ints, least, below) ])))

pub set_violated : (i : MinValue) (set : ℕ → Bool) → Clear (violated_row i set) → Violated i set
set_violated i set clear = elim (violated_or_not i set) [ inl is ↦ is | inr off ↦ absurd (one_holds places.Certificate reasons.NotViolated (¬ Violated i set) clear off) ]

pub violated_clear : (i : MinValue) (set : ℕ → Bool) → Violated i set → Clear (violated_row i set)
violated_clear i set is = one_clear places.Certificate reasons.NotViolated (¬ Violated i set) (λ off. off is)
