-- Cycles of residual arcs.
use Rattle.std.proofs.Common.{◌≡◌, ◌≢◌, ◌⊎◌, inl, inr, ℕ, suc, zero, ◌+◌, ◌-◌, ◌*◌, ◌<◌, ◌≤◌, Bool, true, false, List, length, All, ℤ, pos, neg_ℤ, ◌+ℤ◌, ◌≤ℤ◌, ◌<ℤ◌, refl, sym, ap, subst, ◌∙◌, arith}
use Rattle.std.proofs.{lemmas.Int.{ints}, lemmas.Bool.{cases_order, false≢true}}
use Rattle.std.specs.Prelude.{slice_index}
use Rattle.dimacs_network.specs.{declared.network.ArcView.{ArcView}, Arcs.{arc_at}}
use Rattle.dimacs_methods.specs.declared.potentials.claim.ResidualArc.{ResidualArc}
use Rattle.dimacs_decide.specs.{declared.heights.HeightLabel.{HeightLabel}, inside.Traces.{IsCycle}}
use Rattle.dimacs_decide.specs.inside.Cycles.{IsSaving, IsWalked, LeadsFrom, beginning_of, ending_of, gain_after, gain_of, node_after, residual_at}
use Rattle.dimacs_decide.specs.inside.Heights.{AreHeights, IsRaised, height_of}
use Rattle.dimacs_decide.proofs.{HeightLemmas.{arc_bounds, gain_least, gain_most}, TraceLemmas.{below_some}}
use Rattle.dimacs_instance.specs.MinFlows.{HasBounds}

-- ---- a cycle of raised nodes, in the order of the cycle
-- the residual arc along which a node was raised
abbrev pub residual_by : HeightLabel → ResidualArc
residual_by l = record { arc = l.arc_number - 1; side = l.side }

module _ (arcs : List ArcView) (x : List ℤ) (labels : ℕ → HeightLabel) (path : List ℕ) (first last : ℕ) (now : AreHeights arcs x labels) (is : IsCycle arcs labels path first last) where
  --   the nodes, counted from the last one
  abbrev node : ℕ → ℕ
  node k = slice_index path (last - k)

  abbrev raised_by : ℕ → ResidualArc
  raised_by k = residual_by (labels (slice_index path (last - k - 1)))

  module _ (k : ℕ) (short : k < last - first) where
    abbrev j : ℕ
    j = last - k - 1

    abbrev l : HeightLabel
    l = labels (slice_index path j)

    behind : first ≤ j
    behind = omega (arith, short)

    before : j < last
    before = omega (arith, short)

    pub some_arc_number : 0 < l.arc_number
    some_arc_number = is.raised j behind before

    raised : IsRaised arcs x (height_of labels) now.time (slice_index path j) l
    raised = now.raised (slice_index path j) some_arc_number

    inside : l.arc_number - 1 < length arcs
    inside = omega (arith, raised.within, some_arc_number)

    ends : ending_of arcs (raised_by k) ≡ slice_index path j
    ends = raised.to

    begins : beginning_of arcs (raised_by k) ≡ node k
    begins = let next : j + 1 ≡ last - k = omega (arith, short) in sym (below_some arcs l some_arc_number) ∙ is.steps j behind before ∙ ap (slice_index path) next

    higher : slice_index path j ≡ node (suc k)
    higher = let e : j ≡ last - suc k = omega arith in ap (slice_index path) e

    climbs : height_of labels (node (suc k)) ≤ℤ (height_of labels (node k) +ℤ gain_of arcs (raised_by k))
    climbs = rw (begins, higher) at raised.low

    climbs_or_later : (height_of labels (node (suc k)) <ℤ (height_of labels (node k) +ℤ gain_of arcs (raised_by k))) ⊎ (now.time (node k) < now.time (node (suc k)))
    climbs_or_later = rw (begins, higher) at raised.strict

  --   a list of all of them
  module _ (cycle : List ResidualArc) (long : length cycle ≡ last - first) (outcome : (k : ℕ) → k < last - first → residual_at cycle k ≡ raised_by k) where
    ends_at : (k : ℕ) → k < last - first → ending_of arcs (residual_at cycle k) ≡ slice_index path (last - k - 1)
    ends_at k short = ap (ending_of arcs) (outcome k short) ∙ ends k short

    stands : (k : ℕ) → k ≤ last - first → node_after arcs cycle k ≡ node k
    stands zero h =
        let e : length cycle - 1 ≡ last - first - 1 = omega (arith, long) in
        let back : last - (last - first - 1) - 1 ≡ first = omega (arith, is.some) in
        let front : last ≡ last - 0 = omega arith in
        ap (λ m. ending_of arcs (residual_at cycle m)) e ∙ ends_at (last - first - 1) (omega (arith, is.some)) ∙ ap (slice_index path) back ∙ sym is.closed ∙ ap (slice_index path) front
    stands (suc k) h = ends_at k (omega (arith, h)) ∙ higher k (omega (arith, h))

    leads : (k : ℕ) → k < last - first → LeadsFrom arcs x (node_after arcs cycle k) (residual_at cycle k)
    leads k short = subst (λ r. LeadsFrom arcs x (node_after arcs cycle k) r) (sym (outcome k short)) (record {
      within = inside k short;
      begins = begins k short ∙ sym (stands k (omega (arith, short)));
      residual_capacity = (raised k short).residual_capacity;
    })

    apart : (i k : ℕ) → i < k → k < last - first → ending_of arcs (residual_at cycle i) ≢ ending_of arcs (residual_at cycle k)
    apart i k less short q =
        let low : i < last - first = omega (arith, less, short) in
        is.apart (last - k - 1) (last - i - 1) (behind k short) (omega (arith, less, short)) (before i low) (sym (ends_at k short) ∙ sym q ∙ ends_at i low)

    --     after some of them a node is at most as high as their gain; if it is as high, it was raised later
    abbrev Rises : ℕ → Type 0
    Rises k = (height_of labels (node k) ≤ℤ (height_of labels (node 0) +ℤ gain_after arcs cycle k))
        × ((k ≡ 0) ⊎ ((height_of labels (node k) <ℤ (height_of labels (node 0) +ℤ gain_after arcs cycle k)) ⊎ (now.time (node 0) < now.time (node k))))

    rises : (k : ℕ) → k ≤ last - first → Rises k
    rises zero h = (omega (arith, ints), inl refl)
    rises (suc k) h =
        let short : k < last - first = omega (arith, h) in
        let gain : gain_of arcs (residual_at cycle k) ≡ gain_of arcs (raised_by k) = ap (gain_of arcs) (outcome k short) in
        let low = climbs k short in
        let so_far = rises k (omega (arith, h)) in (
          omega (arith, ints, so_far.0, low, gain),
          elim (climbs_or_later k short) [
            | inl less ↦ inr (inl (omega (arith, ints, so_far.0, less, gain)))
            | inr later ↦ elim so_far.1 [
              | inl none ↦ inr (inr (subst (λ m. now.time (node m) < now.time (node (suc k))) none later))
              | inr more ↦ elim more [
                | inl less ↦ inr (inl (omega (arith, ints, less, low, gain)))
                | inr earlier ↦ inr (inr (omega (arith, earlier, later)))
              ]
            ]
          ],
        )

    gains : pos 0 <ℤ gain_after arcs cycle (last - first)
    gains =
        let e : last - (last - first) ≡ first = omega (arith, is.some) in
        let front : last ≡ last - 0 = omega arith in
        let back : node (last - first) ≡ node 0 = ap (slice_index path) e ∙ sym is.closed ∙ ap (slice_index path) front in
        elim (rises (last - first) (omega arith)).1 [
          | inl none ↦ absurd (omega (arith, none, is.some))
          | inr more ↦ elim more [
            | inl less ↦ let m = rw back at less in omega (arith, ints, m)
            | inr earlier ↦ absurd (let m = rw back at earlier in omega (arith, m))
          ]
        ]

    pub saving_cycle : IsSaving arcs x cycle
    saving_cycle = record {
      walked = record {
        each = λ k short. leads k (omega (arith, short, long));
        apart = λ i k less short. apart i k less (omega (arith, short, long));
      };
      gain = rw long gains;
    }

-- ---- a cycle that a heuristic found
module _ (arcs : List ArcView) (x : List ℤ) (cycle : List ResidualArc) (j : ℕ) where
  pub walk_more : IsWalked arcs x cycle j → LeadsFrom arcs x (node_after arcs cycle j) (residual_at cycle j) → ((i : ℕ) → i < j → ending_of arcs (residual_at cycle i) ≢ ending_of arcs (residual_at cycle j))
      → IsWalked arcs x cycle (j + 1)
  walk_more is here fresh = record {
    each = λ i h. elim (cases_order i j) [
      | inl same ↦ subst (λ m. LeadsFrom arcs x (node_after arcs cycle m) (residual_at cycle m)) (sym same) here
      | inr apart ↦ elim apart [ inl low ↦ is.each i low | inr high ↦ absurd (omega (arith, high, h)) ]
    ];
    apart = λ i k less h. elim (cases_order k j) [
      | inl same ↦ subst (λ m. ending_of arcs (residual_at cycle i) ≢ ending_of arcs (residual_at cycle m)) (sym same) (fresh i (omega (arith, less, same)))
      | inr apart ↦ elim apart [ inl low ↦ is.apart i k less low | inr high ↦ absurd (omega (arith, high, h)) ]
    ];
  }

  --   the nodes to which they lead are marked
  pub reached_more : (was now : ℕ → Bool) → ((i : ℕ) → i < j → was (ending_of arcs (residual_at cycle i)) ≡ true) → was (ending_of arcs (residual_at cycle j)) ≡ false
      → now (ending_of arcs (residual_at cycle j)) ≡ true → ((v : ℕ) → v ≢ ending_of arcs (residual_at cycle j) → now v ≡ was v) → (i : ℕ) → i < j + 1 → now (ending_of arcs (residual_at cycle i)) ≡ true
  reached_more was now marked free here others i h = elim (cases_order i j) [
    | inl same ↦ subst (λ m. now (ending_of arcs (residual_at cycle m)) ≡ true) (sym same) here
    | inr apart ↦ elim apart [
      | inl low ↦ others (ending_of arcs (residual_at cycle i)) (λ e. false≢true (sym free ∙ ap was (sym e) ∙ marked i low)) ∙ marked i low
      | inr high ↦ absurd (omega (arith, high, h))
    ]
  ]

-- the gain of some residual arcs is bounded
pub gain_size : (arcs : List ArcView) (x : List ℤ) (cycle : List ResidualArc) (n : ℕ) → All HasBounds arcs → IsWalked arcs x cycle n
    → (neg_ℤ (pos (n * 9223372036854775808)) ≤ℤ gain_after arcs cycle n) × (gain_after arcs cycle n ≤ℤ pos (n * 9223372036854775808))
gain_size arcs x cycle zero bounds is = (omega (arith, ints), omega (arith, ints))
gain_size arcs x cycle (suc n) bounds is =
    let r = residual_at cycle n in
    let has = arc_bounds arcs r.arc bounds (is.each n (omega arith)).within in
    let before = gain_size arcs x cycle n bounds (record { each = λ i h. is.each i (omega (arith, h)); apart = λ i k less h. is.apart i k less (omega (arith, h)) }) in
    (omega (arith, ints, before.0, gain_least r.side (arc_at arcs r.arc) has), omega (arith, ints, before.1, gain_most r.side (arc_at arcs r.arc) has))
