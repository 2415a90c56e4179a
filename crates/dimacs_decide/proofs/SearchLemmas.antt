-- One more node reached.
use Rattle.std.proofs.Common.{◌≡◌, ◌⊎◌, inl, inr, ℕ, suc, zero, ◌+◌, ◌-◌, ◌<◌, ◌≤◌, ◌==◌, List, [], ◌∷◌, ◌++◌, length, ℤ, pos, ◌≤ℤ◌, ◌<ℤ◌, refl, sym, ap, subst, ◌∙◌, arith}
use Rattle.std.proofs.{lemmas.Int.{ints}, lemmas.Bool.{cases_eq, cases_order}, Math.Seq.{get_or-append_seam}}
use Rattle.std.proofs.lemmas.List.{length-append, get_or_append_left}
use Rattle.std.specs.Prelude.{slice_index}
use Rattle.dimacs_network.specs.{declared.network.ArcView.{ArcView}, Arcs.{arc_at}}
use Rattle.dimacs_network.specs.{declared.adjacency_lists.Side.{Side}, AdjacencyLists.{end_of, other_end, IsLast}}
use Rattle.dimacs_network.specs.declared.adjacency_lists.Side.TheVariants.{Tail, Head}
use Rattle.dimacs_lines.specs.Limits.{IsNode}
use Rattle.dimacs_decide.specs.{declared.search.Visit.{Visit}, inside.ResidualCapacities.{residual_capacity_on}}
use Rattle.dimacs_decide.specs.inside.Residual.{unvisited, rank_of, residual_capacity_of, parent_arc_of, IsReachedBy, unreached, IsSideFollowed, IsDone, IsQueued, IsResidualSearch, IsNext, Becomes, Reaches, Grows}
use Rattle.dimacs_decide.proofs.CountLemmas.{count_most, one_zero_fewer}

-- ---- growing
pub grows_none : (nodes : ℕ) (visits : ℕ → Visit) (queue : List ℕ) → Grows nodes visits queue visits queue
grows_none nodes visits queue = record { reached = λ v h. h; places = λ j h. refl; longer = omega arith; each = refl }

pub grows_then : (nodes : ℕ) (a : ℕ → Visit) (p : List ℕ) (b : ℕ → Visit) (q : List ℕ) (c : ℕ → Visit) (r : List ℕ) → Grows nodes a p b q → Grows nodes b q c r → Grows nodes a p c r
grows_then nodes a p b q c r f g = record {
  reached = λ v h. g.reached v (f.reached v h);
  places = λ j h. g.places j (omega (arith, h, f.longer)) ∙ f.places j h;
  longer = omega (arith, f.longer, g.longer);
  each = g.each ∙ f.each;
}

pub passed_still : (arcs : List ArcView) (x : List ℤ) (visits visits' : ℕ → Visit) (v : ℕ) (side : Side) → ((u : ℕ) → 0 < rank_of visits u → 0 < rank_of visits' u) → IsSideFollowed arcs x visits v side → IsSideFollowed arcs x visits' v side
passed_still arcs x visits visits' v side more is k inside near residual_capacity = more _ (is k inside near residual_capacity)

-- ---- one more node, which wasn't reached
module _ (visits : ℕ → Visit) (at : ℕ) (e : Visit) (after : ℕ → Visit) (new : rank_of visits at ≡ 0) (becomes : Becomes visits at e after) where
  kept : (v : ℕ) → 0 < rank_of visits v → after v ≡ visits v
  kept v h = becomes.others v (λ q. let f = ap (rank_of visits) q in omega (arith, f, h, new))

  rank_kept : (v : ℕ) → 0 < rank_of visits v → rank_of after v ≡ rank_of visits v
  rank_kept v h = ap (λ (z : Visit). z.rank) (kept v h)

  residual_capacity_kept : (v : ℕ) → 0 < rank_of visits v → residual_capacity_of after v ≡ residual_capacity_of visits v
  residual_capacity_kept v h = ap (λ (z : Visit). z.residual_capacity) (kept v h)

  parent_arc_kept : (v : ℕ) → 0 < rank_of visits v → parent_arc_of after v ≡ parent_arc_of visits v
  parent_arc_kept v h = ap (λ (z : Visit). z.parent_arc) (kept v h)

  rank_here : rank_of after at ≡ e.rank
  rank_here = ap (λ (z : Visit). z.rank) becomes.here

  residual_capacity_here : residual_capacity_of after at ≡ e.residual_capacity
  residual_capacity_here = ap (λ (z : Visit). z.residual_capacity) becomes.here

  parent_arc_here : parent_arc_of after at ≡ e.parent_arc
  parent_arc_here = ap (λ (z : Visit). z.parent_arc) becomes.here

  reached_still : (v : ℕ) → 0 < rank_of visits v → 0 < rank_of after v
  reached_still v h = omega (arith, h, rank_kept v h)

  was : (arcs : List ArcView) (x : List ℤ) (v : ℕ) → 0 < rank_of visits v → IsReachedBy arcs x visits v → IsReachedBy arcs x after v
  was arcs x v h r =
      let before = end_of r.side (arc_at arcs (parent_arc_of visits v)) in
      record {
        side = r.side;
        within = rw (parent_arc_kept v h) r.within;
        to = rw (parent_arc_kept v h) r.to;
        reached = rw (parent_arc_kept v h) (reached_still before r.reached);
        rank = rw (parent_arc_kept v h) (omega (arith, r.rank, rank_kept v h, rank_kept before r.reached));
        positive = omega (arith, ints, r.positive, residual_capacity_kept v h);
        before = rw (parent_arc_kept v h) (omega (arith, ints, r.before, residual_capacity_kept v h, residual_capacity_kept before r.reached));
        residual_capacity = rw (parent_arc_kept v h) (omega (arith, ints, r.residual_capacity, residual_capacity_kept v h));
      }

  is_reached : (arcs : List ArcView) (x : List ℤ) (side : Side) (k from : ℕ) → 0 < rank_of visits from → k < length arcs → end_of side (arc_at arcs k) ≡ from → other_end side (arc_at arcs k) ≡ at → IsNext (visits from) k (residual_capacity_on arcs x side k) e → IsReachedBy arcs x after at
  is_reached arcs x side k from old within near far next =
      let parent_arc : parent_arc_of after at ≡ k = parent_arc_here ∙ next.parent_arc in
      record {
        side = side;
        within = rw parent_arc within;
        to = rw parent_arc far;
        reached = rw (parent_arc, near) (reached_still from old);
        rank = rw (parent_arc, near) (omega (arith, rank_here, next.rank, rank_kept from old));
        positive = omega (arith, ints, next.positive, residual_capacity_here);
        before = rw (parent_arc, near) (omega (arith, ints, residual_capacity_here, next.before, residual_capacity_kept from old));
        residual_capacity = rw parent_arc (omega (arith, ints, residual_capacity_here, next.residual_capacity));
      }

  cases : (v : ℕ) (P : Type 0) → (v ≡ at → P) → (rank_of after v ≡ rank_of visits v → P) → P
  cases v P same other = elim (cases_eq v at) [ inl q ↦ same q | inr q ↦ other (ap (λ (z : Visit). z.rank) (becomes.others v q)) ]

  module _ (nodes : ℕ) (queue : List ℕ) (inside : at ≤ nodes) (some : 0 < e.rank) where
    abbrev longer : List ℕ
    longer = queue ++ at ∷ []

    fewer : unreached after (nodes + 1) + 1 ≡ unreached visits (nodes + 1)
    fewer = one_zero_fewer (rank_of visits) (rank_of after) at (λ v ne. ap (λ (z : Visit). z.rank) (becomes.others v ne)) (nodes + 1) (omega (arith, inside)) new (omega (arith, rank_here, some))

    in_front : (j : ℕ) → j < length queue → slice_index longer j ≡ slice_index queue j
    in_front j h = get_or_append_left queue (at ∷ []) 0 j h

    last_is : slice_index longer (length queue) ≡ at
    last_is = get_or-append_seam queue at [] 0

    length_is : length longer ≡ length queue + 1
    length_is = length-append queue (at ∷ [])

    pub one_grows : Grows nodes visits queue after longer
    one_grows = record {
      reached = reached_still;
      places = in_front;
      longer = omega (arith, length_is);
      each = omega (arith, fewer, length_is);
    }

    module _ (arcs : List ArcView) (x : List ℤ) (imbalance : ℕ → ℤ) (done : ℕ) (now : IsResidualSearch nodes arcs x imbalance visits queue done)
        (residual_capacity : pos 0 <ℤ e.residual_capacity) (fits : e.rank + unreached visits (nodes + 1) ≤ nodes + 2) (by : 1 < e.rank → IsReachedBy arcs x after at) (root : e.rank ≡ 1 → IsNode nodes at × (e.residual_capacity ≤ℤ imbalance at)) where
      pub one_search : done ≤ length queue → IsResidualSearch nodes arcs x imbalance after longer done
      one_search short = record {
        tree = λ v h. cases v (IsReachedBy arcs x after v) (λ q. subst (IsReachedBy arcs x after) (sym q) (by (let r = ap (rank_of after) q in omega (arith, h, r, rank_here)))) (λ q. let old : 1 < rank_of visits v = omega (arith, h, q) in was arcs x v (omega (arith, old)) (now.tree v old));
        roots = λ v h. cases v (IsNode nodes v × (residual_capacity_of after v ≤ℤ imbalance v))
            (λ q. subst (λ u. IsNode nodes u × (residual_capacity_of after u ≤ℤ imbalance u)) (sym q) (let r = root (let r = ap (rank_of after) q in omega (arith, h, r, rank_here)) in (r.0, omega (arith, ints, r.1, residual_capacity_here))))
            (λ q. let old : rank_of visits v ≡ 1 = omega (arith, h, q) in let r = now.roots v old in (r.0, omega (arith, ints, r.1, residual_capacity_kept v (omega (arith, old)))));
        residual_capacities = λ v h. cases v (pos 0 <ℤ residual_capacity_of after v) (λ q. subst (λ u. pos 0 <ℤ residual_capacity_of after u) (sym q) (omega (arith, ints, residual_capacity, residual_capacity_here))) (λ q. let old : 0 < rank_of visits v = omega (arith, h, q) in omega (arith, ints, residual_capacity_kept v old, now.residual_capacities v old));
        ranks = λ v. cases v (rank_of after v + unreached after (nodes + 1) ≤ nodes + 1) (λ q. subst (λ u. rank_of after u + unreached after (nodes + 1) ≤ nodes + 1) (sym q) (omega (arith, rank_here, fits, fewer))) (λ q. omega (arith, q, now.ranks v, fewer));
        queued = λ j h. elim (cases_order j (length queue)) [
          | inl same ↦ subst (λ u. (u ≤ nodes) × (0 < rank_of after u)) (sym (ap (slice_index longer) same ∙ last_is)) (inside, omega (arith, rank_here, some))
          | inr apart ↦ elim apart [
            | inl less ↦ let q = now.queued j less in subst (λ u. (u ≤ nodes) × (0 < rank_of after u)) (sym (in_front j less)) (q.0, reached_still _ q.1)
            | inr more ↦ absurd (omega (arith, more, h, length_is))
          ]
        ];
        pending = λ v h. cases v (IsQueued longer done v ⊎ IsDone arcs x imbalance after v)
            (λ q. inl (length queue, short, omega (arith, length_is), last_is ∙ sym q))
            (λ q. elim (now.pending v (omega (arith, h, q))) [
              | inl w ↦ let (j, behind, less, is) = w in inl (j, behind, omega (arith, less, length_is), in_front j less ∙ is)
              | inr p ↦ inr (p.0, λ z. passed_still arcs x visits after v z reached_still (p.1 z))
            ]);
      }

-- from another node, by a residual arc
pub reached_search : (nodes : ℕ) (arcs : List ArcView) (x : List ℤ) (imbalance : ℕ → ℤ) (visits : ℕ → Visit) (queue : List ℕ) (done : ℕ) (side : Side) (k from at : ℕ) (e : Visit) (after : ℕ → Visit)
    → IsResidualSearch nodes arcs x imbalance visits queue done → at ≤ nodes → rank_of visits at ≡ 0 → 0 < rank_of visits from → k < length arcs → end_of side (arc_at arcs k) ≡ from → other_end side (arc_at arcs k) ≡ at
    → IsNext (visits from) k (residual_capacity_on arcs x side k) e → Becomes visits at e after → done ≤ length queue → IsResidualSearch nodes arcs x imbalance after (queue ++ at ∷ []) done
reached_search nodes arcs x imbalance visits queue done side k from at e after now inside new old within near far next becomes short =
    one_search visits at e after new becomes nodes queue inside (omega (arith, next.rank)) arcs x imbalance done now next.positive (omega (arith, next.rank, now.ranks from))
    (λ h. is_reached visits at e after new becomes arcs x side k from old within near far next) (λ one. absurd (omega (arith, one, next.rank, old))) short

-- or as a root
pub root_search : (nodes : ℕ) (arcs : List ArcView) (x : List ℤ) (imbalance : ℕ → ℤ) (visits : ℕ → Visit) (queue : List ℕ) (at : ℕ) (e : Visit) (after : ℕ → Visit)
    → IsResidualSearch nodes arcs x imbalance visits queue 0 → IsNode nodes at → rank_of visits at ≡ 0 → Becomes visits at e after → e.rank ≡ 1 → pos 0 <ℤ e.residual_capacity → e.residual_capacity ≤ℤ imbalance at
    → IsResidualSearch nodes arcs x imbalance after (queue ++ at ∷ []) 0
root_search nodes arcs x imbalance visits queue at e after now node new becomes one some enough =
    one_search visits at e after new becomes nodes queue node.1 (omega (arith, one)) arcs x imbalance 0 now some (omega (arith, one, count_most (λ v. rank_of visits v == 0) (nodes + 1)))
    (λ h. absurd (omega (arith, one, h))) (λ e. (node, enough)) (omega arith)

-- ---- one more arc, from the last arc of the node down
pub record IsPassing (nodes : ℕ) (arcs : List ArcView) (x : List ℤ) (imbalance : ℕ → ℤ) (side : Side) (at from next : ℕ) (visits : ℕ → Visit) (queue : List ℕ) (visits' : ℕ → Visit) (queue' : List ℕ) : Type 0 where
  pub within : next ≤ length arcs
  pub found : 0 < next → end_of side (arc_at arcs (next - 1)) ≡ from
  pub search : IsResidualSearch nodes arcs x imbalance visits' queue' at
  pub grows : Grows nodes visits queue visits' queue'
  pub reached : 0 < rank_of visits' from
  pub passed : (k : ℕ) → next ≤ k → k < length arcs → end_of side (arc_at arcs k) ≡ from → pos 0 <ℤ residual_capacity_on arcs x side k → 0 < rank_of visits' (other_end side (arc_at arcs k))

pub passing_none : (nodes : ℕ) (arcs : List ArcView) (x : List ℤ) (imbalance : ℕ → ℤ) (side : Side) (at from next : ℕ) (visits : ℕ → Visit) (queue : List ℕ) → slice_index queue at ≡ from → at < length queue
    → IsLast side arcs (length arcs) from next → IsResidualSearch nodes arcs x imbalance visits queue at → IsPassing nodes arcs x imbalance side at from next visits queue visits queue
passing_none nodes arcs x imbalance side at from next visits queue is inside last search = record {
  within = last.within;
  found = last.found;
  search = search;
  grows = grows_none nodes visits queue;
  reached = subst (λ u. 0 < rank_of visits u) is (search.queued at inside).1;
  passed = λ k behind short near residual_capacity. absurd (last.none_after k behind short near);
}

module _ (nodes : ℕ) (arcs : List ArcView) (x : List ℤ) (imbalance : ℕ → ℤ) (side : Side) (at from next before : ℕ) (visits : ℕ → Visit) (queue : List ℕ) (old : ℕ → Visit) (waits : List ℕ) (new : ℕ → Visit) (waits' : List ℕ)
    (is : IsPassing nodes arcs x imbalance side at from next visits queue old waits) (some : 0 < next) (last : IsLast side arcs (next - 1) from before) (short : at ≤ length waits)
    (inside : other_end side (arc_at arcs (next - 1)) ≤ nodes)
    (reaches : Reaches from (other_end side (arc_at arcs (next - 1))) (next - 1) (residual_capacity_on arcs x side (next - 1)) old waits new waits') where
  abbrev i : ℕ
  i = next - 1

  passing_with : IsResidualSearch nodes arcs x imbalance new waits' at → Grows nodes old waits new waits' → (pos 0 <ℤ residual_capacity_on arcs x side i → 0 < rank_of new (other_end side (arc_at arcs i))) → IsPassing nodes arcs x imbalance side at from before visits queue new waits'
  passing_with search grows here = record {
    within = omega (arith, last.within, is.within, some);
    found = last.found;
    search = search;
    grows = grows_then nodes visits queue old waits new waits' is.grows grows;
    reached = grows.reached from is.reached;
    passed = λ k behind inside near residual_capacity. elim (cases_order k i) [
      | inl same ↦ subst (λ j. 0 < rank_of new (other_end side (arc_at arcs j))) (sym same) (here (subst (λ j. pos 0 <ℤ residual_capacity_on arcs x side j) same residual_capacity))
      | inr apart ↦ elim apart [
        | inl less ↦ absurd (last.none_after k behind less near)
        | inr more ↦ grows.reached _ (is.passed k (omega (arith, more, some)) inside near residual_capacity)
      ]
    ];
  }

  pub passing_more : IsPassing nodes arcs x imbalance side at from before visits queue new waits'
  passing_more = elim reaches [
    | inl none ↦
        let (visits_is, queue_is, why) = none in
        let search : IsResidualSearch nodes arcs x imbalance new waits' at = rw (visits_is, queue_is) is.search in
        let grows : Grows nodes old waits new waits' = rw (visits_is, queue_is) (grows_none nodes old waits) in
        passing_with search grows (λ residual_capacity. elim why [
          | inl empty ↦ absurd (omega (arith, ints, residual_capacity, empty))
          | inr reached ↦ grows.reached _ reached
        ])
    | inr one ↦
        let (e, next_is, fresh, becomes, queue_is) = one in
        let search : IsResidualSearch nodes arcs x imbalance new waits' at = rw queue_is (reached_search nodes arcs x imbalance old waits at side i from (other_end side (arc_at arcs i)) e new is.search inside fresh is.reached (omega (arith, is.within, some)) (is.found some) refl next_is becomes short) in
        let grows : Grows nodes old waits new waits' = rw queue_is (one_grows old (other_end side (arc_at arcs i)) e new fresh becomes nodes waits inside (omega (arith, next_is.rank))) in
        passing_with search grows (λ residual_capacity. omega (arith, ap (λ (z : Visit). z.rank) becomes.here, next_is.rank))
  ]

-- all arcs of the node
pub passing_all : (nodes : ℕ) (arcs : List ArcView) (x : List ℤ) (imbalance : ℕ → ℤ) (side : Side) (at from next : ℕ) (visits : ℕ → Visit) (queue : List ℕ) (visits' : ℕ → Visit) (queue' : List ℕ) → (¬ (0 < next)) → IsPassing nodes arcs x imbalance side at from next visits queue visits' queue' → IsSideFollowed arcs x visits' from side
passing_all nodes arcs x imbalance side at from next visits queue visits' queue' over is k inside near residual_capacity = is.passed k (omega (arith, over_is next over)) inside near residual_capacity
  where
    over_is : (n : ℕ) → (¬ (0 < n)) → n ≤ 0
    over_is zero some = omega arith
    over_is (suc n) some = absurd (some (omega arith))

-- ---- the whole search
both_sides : (P : Side → Type 0) → P Tail → P Head → (side : Side) → P side
both_sides P t h Tail = t
both_sides P t h Head = h

-- the next node of the queue is done
pub search_next : (nodes : ℕ) (arcs : List ArcView) (x : List ℤ) (imbalance : ℕ → ℤ) (visits : ℕ → Visit) (queue : List ℕ) (at : ℕ) → IsResidualSearch nodes arcs x imbalance visits queue at → pos 0 ≤ℤ imbalance (slice_index queue at)
    → IsSideFollowed arcs x visits (slice_index queue at) Tail → IsSideFollowed arcs x visits (slice_index queue at) Head → IsResidualSearch nodes arcs x imbalance visits queue (at + 1)
search_next nodes arcs x imbalance visits queue at is enough tail head = record {
  tree = is.tree;
  roots = is.roots;
  residual_capacities = is.residual_capacities;
  ranks = is.ranks;
  queued = is.queued;
  pending = λ v h. elim (is.pending v h) [
    | inr p ↦ inr p
    | inl w ↦
        let (j, behind, less, here) = w in
        elim (cases_order j at) [
          | inl same ↦ inr (subst (IsDone arcs x imbalance visits) (sym (ap (slice_index queue) same) ∙ here) (enough, both_sides (IsSideFollowed arcs x visits (slice_index queue at)) tail head))
          | inr apart ↦ elim apart [ inl low ↦ absurd (omega (arith, low, behind)) | inr high ↦ inl (j, omega (arith, high), less, here) ]
        ]
  ];
}

-- no node is reached
pub search_none : (nodes : ℕ) (arcs : List ArcView) (x : List ℤ) (imbalance : ℕ → ℤ) (visits : ℕ → Visit) → ((v : ℕ) → visits v ≡ unvisited) → IsResidualSearch nodes arcs x imbalance visits [] 0
search_none nodes arcs x imbalance visits none =
    let rank : (v : ℕ) → rank_of visits v ≡ 0 = λ v. ap (λ (z : Visit). z.rank) (none v) in
    record {
      tree = λ v h. absurd (omega (arith, h, rank v));
      roots = λ v h. absurd (omega (arith, h, rank v));
      residual_capacities = λ v h. absurd (omega (arith, h, rank v));
      ranks = λ v. omega (arith, rank v, count_most (λ v. rank_of visits v == 0) (nodes + 1));
      queued = λ j h. absurd (omega (arith, h));
      pending = λ v h. absurd (omega (arith, h, rank v));
    }
