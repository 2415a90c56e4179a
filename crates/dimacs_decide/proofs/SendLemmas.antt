-- The result of a search, and the flow after sending.
use Rattle.std.proofs.Common.{◌≡◌, inl, inr, ℕ, suc, zero, ◌+◌, ◌<◌, ◌≤◌, ◌&&◌, Bool, true, false, not, nat_lt, List, length, All, ℤ, pos, ◌-ℤ◌, ◌≤ℤ◌, ◌<ℤ◌, refl, sym, ◌∙◌, arith, eq-eqb}
use Rattle.std.proofs.{lemmas.Int.{ints, by_lt_z}, lemmas.Bool.{cases_order, lt-ltb, ne_eqb, false≢true}}
use Rattle.std.proofs.lemmas.Slice.Zip.{AllZip-long}
use borrow.Author.Tests.{ltb-true}
use Rattle.std.specs.{FinSet.{contains-empty}, Ordering.{nat_cmp}}
use Rattle.dimacs_network.proofs.{Nodes.{contains-insert}, SkipLemmas.{skipped}}
use Rattle.dimacs_claims.specs.Cuts.{CutValue, empty_cut, with_node}
use Rattle.dimacs_lines.specs.Limits.{IsNode}
use Rattle.dimacs_network.specs.{declared.network.ArcView.{ArcView}, Arcs.{JoinsNodes, no_arc, arc_at}, Skips.{Skips}}
use Rattle.dimacs_network.specs.declared.adjacency_lists.Side.TheVariants.{Tail, Head}
use Rattle.dimacs_judging.specs.{Cuts.{members}, Rows.{amount_at}}
use Rattle.dimacs_judging.proofs.Passing.{pair_at, pairs_from}
use Rattle.dimacs_decide.specs.{Bounds.{KeepsBounds}, declared.search.Visit.{Visit}}
use Rattle.dimacs_decide.specs.{inside.Residual.{IsDone, is_in, rank_of}, inside.Augmentation.{IsShut, IsShutAt}}
use Rattle.dimacs_decide.proofs.SideLemmas.{near_within}

-- ---- a set that no residual arc leaves
shut_arc : (b d : Bool) (z low cap : ℤ) → low ≤ℤ z → z ≤ℤ cap → (b ≡ true → pos 0 <ℤ (cap -ℤ z) → d ≡ true) → (d ≡ true → pos 0 <ℤ (z -ℤ low) → b ≡ true) → ((b && not d) ≡ true → z ≡ cap) × ((d && not b) ≡ true → z ≡ low)
shut_arc true true z low cap h g to back = (λ e. absurd (false≢true e), λ e. absurd (false≢true e))
shut_arc true false z low cap h g to back = (λ e. by_lt_z z cap (λ l. absurd (false≢true (to refl (omega (arith, ints, l))))) (λ l. omega (arith, ints, l, g)), λ e. absurd (false≢true e))
shut_arc false true z low cap h g to back = (λ e. absurd (false≢true e), λ e. by_lt_z low z (λ l. absurd (false≢true (back refl (omega (arith, ints, l))))) (λ l. omega (arith, ints, l, h)))
shut_arc false false z low cap h g to back = (λ e. absurd (false≢true e), λ e. absurd (false≢true e))

module _ (nodes : ℕ) (arcs : List ArcView) (x : List ℤ) (imbalance : ℕ → ℤ) (visits : ℕ → Visit) (set : ℕ → Bool) (joined : All (JoinsNodes nodes) arcs) (within : KeepsBounds arcs x)
    (done : (v : ℕ) → 0 < rank_of visits v → IsDone arcs x imbalance visits v) (same : (v : ℕ) → IsNode nodes v → set v ≡ is_in visits v) where
  pub reached_inside : (v : ℕ) → IsNode nodes v → 0 < rank_of visits v → set v ≡ true
  reached_inside v node reached = same v node ∙ lt-ltb 0 (rank_of visits v) reached

  inside_reached : (v : ℕ) → IsNode nodes v → set v ≡ true → 0 < rank_of visits v
  inside_reached v node inside = ltb-true 0 (rank_of visits v) (sym (same v node) ∙ inside)

  shut_at : (k : ℕ) → k < length arcs → IsShutAt set (arc_at arcs k) (amount_at x k)
  shut_at k h =
      let a = arc_at arcs k in
      let bounds = pair_at _ arcs x k no_arc (pos 0) within h in
      let tail = near_within Tail nodes arcs k joined h in
      let head = near_within Head nodes arcs k joined h in
      shut_arc (set a.tail) (set a.head) (amount_at x k) a.low a.cap bounds.0 bounds.1
      (λ inside residual_capacity. reached_inside a.head head ((done a.tail (inside_reached a.tail tail inside)).1 Tail k h refl residual_capacity))
      (λ inside residual_capacity. reached_inside a.tail tail ((done a.head (inside_reached a.head head inside)).1 Head k h refl residual_capacity))

  pub is_shut : IsShut nodes arcs x imbalance set
  is_shut = record {
    shut = pairs_from (IsShutAt set) arcs x no_arc (pos 0) (AllZip-long _ arcs x within) shut_at;
    no_deficit = λ v node inside. (done v (inside_reached v node inside)).0;
  }

-- ---- the flow after sending
-- ---- the nodes that were reached
pub record IsCutBelow (visits : ℕ → Visit) (nodes id : ℕ) (cut : CutValue) : Type 0 where
  pub of : cut.nodes ≡ nodes
  pub below : (v : ℕ) → 1 ≤ v → v < id → members cut v ≡ is_in visits v
  pub above : (v : ℕ) → id ≤ v → members cut v ≡ false

pub cut_none : (visits : ℕ → Visit) (nodes : ℕ) → IsCutBelow visits nodes 1 (empty_cut nodes)
cut_none visits nodes = record {
  of = refl;
  below = λ v some less. absurd (omega (arith, some, less));
  above = λ v more. contains-empty nat_cmp v;
}

pub cut_more_out : (visits : ℕ → Visit) (nodes id : ℕ) (cut : CutValue) → IsCutBelow visits nodes id cut → is_in visits id ≡ false → IsCutBelow visits nodes (id + 1) cut
cut_more_out visits nodes id cut is out = record {
  of = is.of;
  below = λ v some less. elim (cases_order v id) [
    | inl same ↦ rw same (is.above id (omega arith) ∙ sym out)
    | inr apart ↦ elim apart [ inl low ↦ is.below v some low | inr high ↦ absurd (omega (arith, high, less)) ]
  ];
  above = λ v more. is.above v (omega (arith, more));
}

pub cut_more_in : (visits : ℕ → Visit) (nodes id : ℕ) (cut : CutValue) → IsCutBelow visits nodes id cut → is_in visits id ≡ true → IsCutBelow visits nodes (id + 1) (with_node cut id)
cut_more_in visits nodes id cut is inside =
    let there : members (with_node cut id) id ≡ true = contains-insert cut.ids id id ∙ rw (eq-eqb id id refl) refl in
    let other : (v : ℕ) → (v ≡ id → ⊥) → members (with_node cut id) v ≡ members cut v = λ v ne. contains-insert cut.ids id v ∙ rw (ne_eqb v id ne) refl in
    record {
      of = is.of;
      below = λ v some less. elim (cases_order v id) [
        | inl same ↦ rw same (there ∙ sym inside)
        | inr apart ↦ elim apart [ inl low ↦ other v (λ e. omega (arith, e, low)) ∙ is.below v some low | inr high ↦ absurd (omega (arith, high, less)) ]
      ];
      above = λ v more. other v (λ e. omega (arith, e, more)) ∙ is.above v (omega (arith, more));
    }

pub not_in : (rank : ℕ) → rank ≤ 0 → nat_lt 0 rank ≡ false
not_in zero h = refl
not_in (suc rank) h = absurd (omega (arith, h))

-- nodes that were not reached
pub cut_skipped : (visits : ℕ → Visit) (nodes from end to : ℕ) (cut : CutValue) → Skips (λ v. rank_of visits v ≡ 0) from end to → IsCutBelow visits nodes from cut → IsCutBelow visits nodes to cut
cut_skipped visits nodes from end to cut is =
    skipped _ (λ n. IsCutBelow visits nodes n cut) from end to is (λ v least below none so_far. cut_more_out visits nodes v cut so_far (not_in (rank_of visits v) (omega (arith, none))))
