-- Sums over the arcs so far and one more arc.
use Rattle.std.proofs.Common.{◌≡◌, ℕ, suc, zero, ◌+◌, ◌*◌, ◌^◌, ◌<◌, ◌==◌, ℤ, ◌+ℤ◌, ◌-ℤ◌, ◌*ℤ◌, Bool, true, false, List, [], ◌∷◌, length, take, get_or, slice_get, Some, refl, ap₂, ◌∙◌, ◌≤◌, pos, add-one, arith}
use Rattle.std.proofs.{lemmas.List.{take_all}, lemmas.Int.{ints}}
use Rattle.std.proofs.lemmas.Option.{get_or_from_slice_get, slice_get_within}
use Rattle.dimacs_network.specs.declared.network.ArcView.{ArcView}
use Rattle.dimacs_records.specs.{declared.reasons.Reason.TheVariants.{CostRange}, Ranges.{IsWide}}
use Rattle.dimacs_judging.specs.{declared.verdict.Where.TheVariants.{Arc}, inside.Ranges.{IsOfSize}}
use Rattle.dimacs_judging.specs.{FlowTests.{cost_row, cost_through}, Tests.{ClearBelow, FirstOfRow}}
use Rattle.dimacs_judging.specs.{Flows.{sum_arcs, when, net, cost}, ViolatedSets.{sum_where}}
use Rattle.dimacs_judging.proofs.RowLemmas.{arc_clear_more, arc_first}

sum_arcs-take_suc : (f : ArcView → ℤ → ℤ) (arcs : List ArcView) (y : List ℤ) (i : ℕ) (d : ArcView) (e : ℤ) → i < length arcs → i < length y
    → sum_arcs f (take (suc i) arcs) (take (suc i) y) ≡ sum_arcs f (take i arcs) (take i y) +ℤ f (get_or arcs i d) (get_or y i e)
sum_arcs-take_suc f [] y i d e h k = absurd (omega arith)
sum_arcs-take_suc f (a ∷ arcs) [] i d e h k = absurd (omega arith)
sum_arcs-take_suc f (a ∷ arcs) (x ∷ y) zero d e h k = omega (arith, ints)
sum_arcs-take_suc f (a ∷ arcs) (x ∷ y) (suc i) d e h k = omega (arith, ints, sum_arcs-take_suc f arcs y i d e (omega arith) (omega arith))

sum_where-take_suc : (test : ArcView → Bool) (f : ArcView → ℤ) (arcs : List ArcView) (i : ℕ) (d : ArcView) → i < length arcs
    → sum_where test f (take (suc i) arcs) ≡ sum_where test f (take i arcs) +ℤ when (test (get_or arcs i d)) (f (get_or arcs i d))
sum_where-take_suc test f [] i d h = absurd (omega arith)
sum_where-take_suc test f (a ∷ arcs) zero d h = omega (arith, ints)
sum_where-take_suc test f (a ∷ arcs) (suc i) d h = omega (arith, ints, sum_where-take_suc test f arcs i d (omega arith))

pub sum_where_more : (test : ArcView → Bool) (f : ArcView → ℤ) (arcs : List ArcView) (i : ℕ) (a : ArcView) → slice_get arcs i ≡ Some a
    → sum_where test f (take (i + 1) arcs) ≡ sum_where test f (take i arcs) +ℤ when (test a) (f a)
sum_where_more test f arcs i a here = rw (add-one, sum_where-take_suc test f arcs i a (slice_get_within arcs i a here), get_or_from_slice_get arcs i a a here) refl

-- ---- one more arc with its amount
module _ (arcs : List ArcView) (y : List ℤ) (i : ℕ) (a : ArcView) (x : ℤ) (here : slice_get arcs i ≡ Some a) (carries : slice_get y i ≡ Some x) where
  pub sum_arcs_more : (f : ArcView → ℤ → ℤ) → sum_arcs f (take (i + 1) arcs) (take (i + 1) y) ≡ sum_arcs f (take i arcs) (take i y) +ℤ f a x
  sum_arcs_more f = rw (add-one, sum_arcs-take_suc f arcs y i a x (slice_get_within arcs i a here) (slice_get_within y i x carries), get_or_from_slice_get arcs i a a here, get_or_from_slice_get y i x x carries) refl

  pub net_more : (v : ℕ) → net (take (i + 1) arcs) (take (i + 1) y) v ≡ (net (take i arcs) (take i y) v +ℤ when (a.tail == v) x) -ℤ when (a.head == v) x
  net_more v = omega (arith, ints, sum_arcs_more (λ b z. when (b.tail == v) z), sum_arcs_more (λ b z. when (b.head == v) z))

  pub cost_more : cost (take (i + 1) arcs) (take (i + 1) y) ≡ cost (take i arcs) (take i y) +ℤ a.cost *ℤ x
  cost_more = sum_arcs_more (λ b z. b.cost *ℤ z)

pub cost_step : (arcs : List ArcView) (y : List ℤ) (i : ℕ) (a : ArcView) (x old new : ℤ) → slice_get arcs i ≡ Some a → slice_get y i ≡ Some x → old ≡ cost (take i arcs) (take i y) → new ≡ old +ℤ a.cost *ℤ x → new ≡ cost_through arcs y i
cost_step arcs y i a x old new here carries was is = omega (arith, ints, cost_more arcs y i a x here carries, was, is)

-- the sums of the costs stay in range
pub cost_clear_more : (arcs : List ArcView) (y : List ℤ) (i : ℕ) (sum : ℤ) → ClearBelow (cost_row arcs y) i → sum ≡ cost_through arcs y i → IsWide sum → ClearBelow (cost_row arcs y) (i + 1)
cost_clear_more arcs y i sum below is wide = arc_clear_more arcs _ i below (λ reason f. f.1 (rw (← is) wide))

-- or they leave it
pub cost_first : (arcs : List ArcView) (y : List ℤ) (i : ℕ) (sum : ℤ) → i < length arcs → ClearBelow (cost_row arcs y) i → sum ≡ cost_through arcs y i → (¬ IsWide sum) → FirstOfRow (cost_row arcs y) (Arc (i + 1)) CostRange
cost_first arcs y i sum inside below is off = arc_first arcs _ i CostRange inside below (refl, λ wide. off (rw is wide))

pub when_back : (b : Bool) (x : ℤ) → when b (pos 0 -ℤ x) ≡ pos 0 -ℤ when b x
when_back true x = refl
when_back false x = refl

pub when_within : (b c : Bool) (h k : ℕ) (z x : ℤ) → IsOfSize h z → IsOfSize k x → IsOfSize (h + 2 * k) ((z +ℤ when b x) -ℤ when c x)
when_within true true h k z x s t = omega (arith, ints)
when_within true false h k z x s t = omega (arith, ints)
when_within false true h k z x s t = omega (arith, ints)
when_within false false h k z x s t = omega (arith, ints)

-- a balance over the arcs so far, and its size
abbrev pub IsBalanceOf : List ArcView → List ℤ → ℕ → ℕ → ℤ → Type 0
IsBalanceOf arcs y i v sum = (sum ≡ net (take i arcs) (take i y) v) × IsOfSize (i * 2 ^ 64) sum

pub balance_more : (arcs : List ArcView) (y : List ℤ) (i v : ℕ) (a : ArcView) (x old new : ℤ) → slice_get arcs i ≡ Some a → slice_get y i ≡ Some x → IsOfSize (2 ^ 63) x
    → IsBalanceOf arcs y i v old → new ≡ (old +ℤ when (a.tail == v) x) -ℤ when (a.head == v) x → IsBalanceOf arcs y (i + 1) v new
balance_more arcs y i v a x old new here carries small was e =
    let t = when_within (a.tail == v) (a.head == v) (i * 2 ^ 64) (2 ^ 63) old x was.1 small in
    (omega (arith, ints, e, was.0, net_more arcs y i a x here carries v), rw e (omega (arith, ints, t)))

pub balance_none : (arcs : List ArcView) (y : List ℤ) (v : ℕ) (sum : ℤ) → sum ≡ pos 0 → IsBalanceOf arcs y 0 v sum
balance_none arcs y v sum none = (omega (arith, ints, none), omega (arith, ints, none))

pub balance_all : (arcs : List ArcView) (y : List ℤ) (i v : ℕ) (sum : ℤ) → length arcs ≤ i → length y ≡ length arcs → IsBalanceOf arcs y i v sum → sum ≡ net arcs y v
balance_all arcs y i v sum all same is = is.0 ∙ ap₂ (λ (some : List ArcView) (zs : List ℤ). net some zs v) (take_all i arcs all) (take_all i y (omega (arith, all, same)))
