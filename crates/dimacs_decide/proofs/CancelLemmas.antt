-- Cancelling a cycle.
use Rattle.std.proofs.Common.{◌≡◌, ◌≢◌, inl, inr, ℕ, suc, zero, ◌+◌, ◌-◌, ◌<◌, ◌==◌, List, length, set, ℤ, pos, neg_ℤ, ◌+ℤ◌, ◌-ℤ◌, ◌*ℤ◌, ◌≤ℤ◌, ◌<ℤ◌, refl, sym, ap, subst, ◌∙◌, arith, add-one, All}
use Rattle.std.proofs.{lemmas.Int.{ints}, lemmas.Bool.{cases_eq, cases_order}, lemmas.Slice.Zip.{AllZip-long}}
use Rattle.std.proofs.lemmas.List.{get_or-set_other, get_or-set_same}
use Rattle.dimacs_network.specs.{declared.network.ArcView.{ArcView}, Arcs.{arc_at, no_arc}}
use Rattle.dimacs_network.specs.{declared.adjacency_lists.Side.{Side}, AdjacencyLists.{end_of, other_end}}
use Rattle.dimacs_network.specs.declared.adjacency_lists.Side.TheVariants.{Tail, Head}
use Rattle.dimacs_methods.specs.declared.potentials.claim.ResidualArc.{ResidualArc}
use Rattle.dimacs_judging.specs.{Flows.{net, cost}, Rows.{amount_at}}
use Rattle.dimacs_judging.proofs.{Products.{mul_add, mul_neg, mul_comm, mul_le}, Passing.{pair_at}}
use Rattle.dimacs_decide.specs.{inside.Heights.{gain_at}, inside.Cancelling.{IsCancelling, HasCapacityFor}}
use Rattle.dimacs_decide.specs.inside.ResidualCapacities.{carried_after, residual_capacity_at, residual_capacity_on}
use Rattle.dimacs_decide.specs.inside.Cycles.{IsSaving, LeadsFrom, ending_of, gain_after, node_after, residual_at}
use Rattle.dimacs_decide.proofs.RaiseLemmas.{AllZip-set, net-raise, sum_arcs-set, when-neg, within_at}
use Rattle.dimacs_decide.proofs.HeightLemmas.{arc_bounds}
use Rattle.dimacs_instance.specs.MinFlows.{HasBounds}
use Rattle.dimacs_records.specs.Ranges.{IsWhole}

-- ---- the bounds of arcs
cap_most : (arcs : List ArcView) (k : ℕ) → All HasBounds arcs → k < length arcs → (arc_at arcs k).cap ≤ℤ pos 9223372036854775807
cap_most arcs k all less = let w : IsWhole (arc_at arcs k).cap = (arc_bounds arcs k all less).2 in omega (arith, ints, w.1)

low_least : (arcs : List ArcView) (k : ℕ) → All HasBounds arcs → k < length arcs → pos 0 ≤ℤ (arc_at arcs k).low
low_least arcs k all less = (arc_bounds arcs k all less).0

-- ---- the new costs and balances
cost-set : (arcs : List ArcView) (y : List ℤ) (k : ℕ) (z : ℤ) → k < length arcs → k < length y → cost arcs (set y k (amount_at y k +ℤ z)) ≡ cost arcs y +ℤ (arc_at arcs k).cost *ℤ z
cost-set arcs y k z h g = omega (arith, ints, sum_arcs-set (λ a w. a.cost *ℤ w) arcs y k (amount_at y k +ℤ z) h g, mul_add (arc_at arcs k).cost (amount_at y k) z)

-- the saved cost, as a product
saved : (before after total amount gained c : ℤ) → before ≡ total -ℤ amount *ℤ gained → after ≡ before -ℤ c *ℤ amount → after ≡ total -ℤ amount *ℤ (gained +ℤ c)
saved before after total amount gained c h g = omega (arith, ints, h, g, mul_add amount gained c, mul_comm c amount)

mul_neg_left : (a b : ℤ) → a *ℤ b ≡ neg_ℤ (neg_ℤ a *ℤ b)
mul_neg_left a b = let e = mul_neg b a in omega (arith, ints, e, mul_comm a b, mul_comm (neg_ℤ a) b)

pub residual_capacity_none : (arcs : List ArcView) (x : List ℤ) (cycle : List ResidualArc) (amount : ℤ) → pos 0 <ℤ amount → HasCapacityFor arcs x cycle 0 amount
residual_capacity_none arcs x cycle amount some = record { positive = some; each = λ i less. absurd (omega (arith, less)) }

module _ (arcs : List ArcView) (x : List ℤ) (cycle : List ResidualArc) (saving : IsSaving arcs x cycle) (j : ℕ) (short : j < length cycle) where
  abbrev r : ResidualArc
  r = residual_at cycle j

  abbrev k : ℕ
  k = r.arc

  abbrev from : ℕ
  from = node_after arcs cycle j

  abbrev to : ℕ
  to = ending_of arcs r

  leads : LeadsFrom arcs x from r
  leads = saving.walked.each j short

  pub inside : k < length arcs
  inside = leads.within

  --   the least residual capacity so far, and that of this residual arc
  pub residual_capacity_more : (amount less : ℤ) → HasCapacityFor arcs x cycle j amount → less ≤ℤ amount → less ≤ℤ residual_capacity_on arcs x r.side k → (pos 0 <ℤ amount → pos 0 <ℤ residual_capacity_on arcs x r.side k → pos 0 <ℤ less) → HasCapacityFor arcs x cycle (j + 1) less
  residual_capacity_more amount less is le here some = record {
    positive = some is.positive leads.residual_capacity;
    each = λ i before. elim (cases_order i j) [
      | inl e ↦ subst (λ m. less ≤ℤ residual_capacity_on arcs x (residual_at cycle m).side (residual_at cycle m).arc) (sym e) here
      | inr apart ↦ elim apart [ inl low ↦ omega (arith, ints, is.each i low, le) | inr high ↦ absurd (omega (arith, high, before)) ]
    ];
  }

  module _ (y : List ℤ) (amount : ℤ) (is : IsCancelling arcs x y cycle j amount) (residual_capacity : HasCapacityFor arcs x cycle (length cycle) amount) where
    pub long : k < length y
    long = omega (arith, inside, AllZip-long _ arcs y is.within)

    here : ((arc_at arcs k).low ≤ℤ amount_at y k) × (amount_at y k ≤ℤ (arc_at arcs k).cap)
    here = pair_at _ arcs y k no_arc (pos 0) is.within inside

    low_here : (arc_at arcs k).low ≤ℤ amount_at y k
    low_here = here.0

    cap_here : amount_at y k ≤ℤ (arc_at arcs k).cap
    cap_here = here.1

    --     no earlier residual arc leads to the same node
    fresh : (u : ℕ) → u ≡ to → (i : ℕ) → i < j → ending_of arcs (residual_at cycle i) ≢ u
    fresh u e i less q = saving.walked.apart i j less short (q ∙ e)

    module _ (forward : r.side ≡ Tail) where
      head_is : (arc_at arcs k).head ≡ to
      head_is = subst (λ side. (arc_at arcs k).head ≡ other_end side (arc_at arcs k)) (sym forward) refl

      tail_is : (arc_at arcs k).tail ≡ from
      tail_is = subst (λ side. end_of side (arc_at arcs k) ≡ from) forward leads.begins

      residual_capacity_is : amount ≤ℤ ((arc_at arcs k).cap -ℤ amount_at x k)
      residual_capacity_is = subst (λ side. amount ≤ℤ residual_capacity_at side (arc_at arcs k) (amount_at x k)) forward (residual_capacity.each j short)

      forward_fits : (amount_at y k +ℤ amount) ≤ℤ (arc_at arcs k).cap
      forward_fits = omega (arith, ints, is.heads k inside (fresh (arc_at arcs k).head head_is), residual_capacity_is)

      cancel_forward : IsCancelling arcs x (set y k (amount_at y k +ℤ amount)) cycle (j + 1) amount
      cancel_forward = rw (add-one j) (record {
        within = AllZip-set (λ a z. (a.low ≤ℤ z) × (z ≤ℤ a.cap)) arcs y k no_arc _ is.within (omega (arith, ints, low_here, residual_capacity.positive), forward_fits);
        balance = λ u. let n = net-raise arcs y k amount u inside long in let m = rw (head_is, tail_is) at n in omega (arith, ints, is.balance u, m);
        heads = λ i less other. elim (cases_eq i k) [
          | inl same ↦ absurd (other j (omega arith) (sym (ap (λ m. (arc_at arcs m).head) same ∙ head_is)))
          | inr ne ↦ let e = get_or-set_other y k i (amount_at y k +ℤ amount) (pos 0) ne in let h = is.heads i less (λ m before. other m (omega (arith, before))) in omega (arith, ints, e, h)
        ];
        tails = λ i less other. elim (cases_eq i k) [
          | inl same ↦
              let e = get_or-set_same y k (amount_at y k +ℤ amount) (pos 0) long in
              let h = is.tails i less (λ m before. other m (omega (arith, before))) in
              let g : amount_at x k ≤ℤ amount_at y k = subst (λ m. amount_at x m ≤ℤ amount_at y m) same h in
              subst (λ m. amount_at x m ≤ℤ amount_at (set y k (amount_at y k +ℤ amount)) m) (sym same) (omega (arith, ints, e, g, residual_capacity.positive))
          | inr ne ↦ let e = get_or-set_other y k i (amount_at y k +ℤ amount) (pos 0) ne in let h = is.tails i less (λ m before. other m (omega (arith, before))) in omega (arith, ints, e, h)
        ];
        costs = saved (cost arcs y) _ (cost arcs x) amount (gain_after arcs cycle j) (gain_at r.side (arc_at arcs k)) is.costs (rw forward (let c = cost-set arcs y k amount inside long in omega (arith, ints, c, mul_neg_left (arc_at arcs k).cost amount)));
      })

    module _ (backward : r.side ≡ Head) where
      back_tail : (arc_at arcs k).tail ≡ to
      back_tail = subst (λ side. (arc_at arcs k).tail ≡ other_end side (arc_at arcs k)) (sym backward) refl

      back_head : (arc_at arcs k).head ≡ from
      back_head = subst (λ side. end_of side (arc_at arcs k) ≡ from) backward leads.begins

      back_residual_capacity : amount ≤ℤ (amount_at x k -ℤ (arc_at arcs k).low)
      back_residual_capacity = subst (λ side. amount ≤ℤ residual_capacity_at side (arc_at arcs k) (amount_at x k)) backward (residual_capacity.each j short)

      backward_fits : (arc_at arcs k).low ≤ℤ (amount_at y k -ℤ amount)
      backward_fits = omega (arith, ints, is.tails k inside (fresh (arc_at arcs k).tail back_tail), back_residual_capacity)

      cancel_backward : IsCancelling arcs x (set y k (amount_at y k -ℤ amount)) cycle (j + 1) amount
      cancel_backward = rw (add-one j) (record {
        within = AllZip-set (λ a z. (a.low ≤ℤ z) × (z ≤ℤ a.cap)) arcs y k no_arc _ is.within (backward_fits, omega (arith, ints, cap_here, residual_capacity.positive));
        balance = λ u.
            let n = net-raise arcs y k (neg_ℤ amount) u inside long in
            let m = rw (back_head, back_tail) at n in
            omega (arith, ints, is.balance u, m, when-neg (to == u) amount, when-neg (from == u) amount);
        heads = λ i less other. elim (cases_eq i k) [
          | inl same ↦
              let e = get_or-set_same y k (amount_at y k -ℤ amount) (pos 0) long in
              let h = is.heads i less (λ m before. other m (omega (arith, before))) in
              let g : amount_at y k ≤ℤ amount_at x k = subst (λ m. amount_at y m ≤ℤ amount_at x m) same h in
              subst (λ m. amount_at (set y k (amount_at y k -ℤ amount)) m ≤ℤ amount_at x m) (sym same) (omega (arith, ints, e, g, residual_capacity.positive))
          | inr ne ↦ let e = get_or-set_other y k i (amount_at y k -ℤ amount) (pos 0) ne in let h = is.heads i less (λ m before. other m (omega (arith, before))) in omega (arith, ints, e, h)
        ];
        tails = λ i less other. elim (cases_eq i k) [
          | inl same ↦ absurd (other j (omega arith) (sym (ap (λ m. (arc_at arcs m).tail) same ∙ back_tail)))
          | inr ne ↦ let e = get_or-set_other y k i (amount_at y k -ℤ amount) (pos 0) ne in let h = is.tails i less (λ m before. other m (omega (arith, before))) in omega (arith, ints, e, h)
        ];
        costs = saved (cost arcs y) _ (cost arcs x) amount (gain_after arcs cycle j) (gain_at r.side (arc_at arcs k)) is.costs (rw backward (let c = cost-set arcs y k (neg_ℤ amount) inside long in omega (arith, ints, c, mul_neg (arc_at arcs k).cost amount)));
      })

    --     the amount sent along this residual arc, from either side
    from_side : (side : Side) → r.side ≡ side → IsCancelling arcs x (set y k (carried_after side amount (amount_at y k))) cycle (j + 1) amount
    from_side Tail forward = cancel_forward forward
    from_side Head backward = cancel_backward backward

    pub cancel_more : IsCancelling arcs x (set y k (carried_after r.side amount (amount_at y k))) cycle (j + 1) amount
    cancel_more = from_side r.side refl

    pub whole : All HasBounds arcs → IsWhole (carried_after r.side amount (amount_at y k))
    whole all =
        let between = within_at arcs y k (carried_after r.side amount (amount_at y k)) cancel_more.within inside long in
        omega (arith, ints, between, cap_most arcs k all inside, low_least arcs k all inside)

-- all round the cycle
module _ (arcs : List ArcView) (x y : List ℤ) (cycle : List ResidualArc) (amount : ℤ) (saving : IsSaving arcs x cycle) (some : pos 0 <ℤ amount) (is : IsCancelling arcs x y cycle (length cycle) amount) where
  --   a cycle that saves something isn't empty
  nonempty : (n : ℕ) → pos 0 <ℤ gain_after arcs cycle n → 0 < n
  nonempty zero h = absurd (omega (arith, ints, h))
  nonempty (suc n) h = omega arith

  after_some : (n : ℕ) → 0 < n → node_after arcs cycle n ≡ ending_of arcs (residual_at cycle (n - 1))
  after_some zero h = absurd (omega (arith, h))
  after_some (suc n) h = let e : suc n - 1 ≡ n = omega arith in rw e refl

  pub round_balances : (u : ℕ) → net arcs y u ≡ net arcs x u
  round_balances u =
      let closed : node_after arcs cycle (length cycle) ≡ node_after arcs cycle 0 = after_some (length cycle) (nonempty (length cycle) saving.gain) in
      let b = rw closed at is.balance u in
      omega (arith, ints, b)

  pub round_less : cost arcs y <ℤ cost arcs x
  round_less =
      let m = mul_le amount (pos 1) (gain_after arcs cycle (length cycle)) (omega (arith, ints, some)) (omega (arith, ints, saving.gain)) in
      let n = mul_comm amount (pos 1) in
      omega (arith, ints, is.costs, m, n, some)
