-- Arcs in chains, and the first of them between two nodes.
use Rattle.std.proofs.Common.{◌≡◌, ◌≢◌, inl, inr, ℕ, zero, suc, ◌+◌, ◌-◌, ◌*◌, ◌/◌, ◌^◌, ◌<◌, ◌≤◌, Bool, true, false, List, [], ◌∷◌, ◌++◌, length, take, map, get_or, set, count_by, bit_and, refl, sym, ap, ap₂, subst, ◌∙◌, arith}
use Rattle.std.proofs.{lemmas.Bool.{cases_Bool, cases_order}, lemmas.Option.{slice_get-get_or}}
use Rattle.std.proofs.lemmas.List.{length-set, get_or-map, get_or-set_same, get_or-set_other}
use Rattle.std.proofs.lemmas.List.Sums.{count_by_more_no}
use Rattle.dimacs_network.specs.{declared.network.ArcView.{ArcView}, declared.adjacency_lists.Side.TheVariants.{Tail}}
use Rattle.dimacs_network.specs.{Arcs.{joins, no_arc, arc_at}, AdjacencyLists.{AreLinked, IsLast, end_at}}
use Rattle.dimacs_network.proofs.LinkLemmas.{linked_more}
use Rattle.dimacs_judging.specs.inside.ArcChains.{IsFirstBetween, chain_of, in_chain}
use Rattle.dimacs_judging.proofs.SupportLemmas.{ends_joined}

none_counted : (p : ArcView → Bool) (arcs : List ArcView) (n : ℕ) → n ≤ length arcs → ((k : ℕ) → k < n → p (arc_at arcs k) ≡ false) → count_by p (take n arcs) ≡ 0
none_counted p arcs zero within none = refl
none_counted p arcs (suc n) within none =
    let next : suc n ≡ n + 1 = omega arith in
    rw next (count_by_more_no p arcs n no_arc (omega (arith, within)) (none n (omega arith)) ∙ none_counted p arcs n (omega (arith, within)) (λ k below. none k (omega (arith, below))))

pub chain_at : (step chains : ℕ) (arcs : List ArcView) (k : ℕ) → k < length arcs → end_at Tail (map (in_chain step chains) arcs) k ≡ chain_of step chains (arc_at arcs k)
chain_at step chains arcs k inside = ap (λ (a : ArcView). a.tail) (get_or-map (in_chain step chains) arcs k no_arc no_arc inside)

-- one more arc at the end of its chain
pub chained_more : (step : ℕ) (arcs : List ArcView) (last before : List ℕ) (i chain : ℕ) → i < length arcs → chain ≡ chain_of step (length last) (arc_at arcs i) → chain < length last
    → AreLinked Tail (map (in_chain step (length last)) arcs) i (λ c. get_or last c 0) before
    → AreLinked Tail (map (in_chain step (length (set last chain (i + 1)))) arcs) (i + 1) (λ c. get_or (set last chain (i + 1)) c 0) (before ++ get_or last chain 0 ∷ [])
chained_more step arcs last before i chain inside is room linked =
    rw (length-set last chain (i + 1)) (linked_more Tail (map (in_chain step (length last)) arcs) i chain (λ c. get_or last c 0) before (λ c. get_or (set last chain (i + 1)) c 0)
    (chain_at step (length last) arcs i inside ∙ sym is) (get_or-set_same last chain (i + 1) 0 room) (λ c other. get_or-set_other last chain c (i + 1) 0 other) linked)

module _ (step chains : ℕ) (arcs : List ArcView) (tail head arc : ℕ) where
  -- no arc from this index on and before the arc has these ends
  abbrev pub NoneFrom : ℕ → Type 0
  NoneFrom from = (k : ℕ) → from ≤ k → k < arc → joins tail head (arc_at arcs k) ≡ false

  pub first_found : arc < length arcs → joins tail head (arc_at arcs arc) ≡ true → NoneFrom 0 → IsFirstBetween arcs tail head arc
  first_found inside joined none =
      (inside, rw (slice_get-get_or arcs arc no_arc inside) joined, none_counted (joins tail head) arcs arc (omega (arith, inside)) (λ k below. none k (omega arith) below))

  module _ (inside : arc < length arcs) (joined : joins tail head (arc_at arcs arc) ≡ true) where
    other_chain : (k : ℕ) → k < arc → end_at Tail (map (in_chain step chains) arcs) k ≢ end_at Tail (map (in_chain step chains) arcs) arc → joins tail head (arc_at arcs k) ≡ false
    other_chain k below other = elim (cases_Bool (joins tail head (arc_at arcs k))) [
      | inl is ↦
          (let here = ends_joined tail head (arc_at arcs k) is in
          let there = ends_joined tail head (arc_at arcs arc) joined in
          let same : chain_of step chains (arc_at arcs k) ≡ chain_of step chains (arc_at arcs arc) = ap₂ (λ t h. bit_and (t * step + bit_and (h * 2654435761 / 2 ^ 20) 4095) (chains - 1)) (here.0 ∙ sym there.0) (here.1 ∙ sym there.1) in
          absurd (other (chain_at step chains arcs k (omega (arith, below, inside)) ∙ (same ∙ sym (chain_at step chains arcs arc inside)))))
      | inr off ↦ off
    ]

    pub none_from : (from : ℕ) → IsLast Tail (map (in_chain step chains) arcs) arc (end_at Tail (map (in_chain step chains) arcs) arc) from → NoneFrom from
    none_from from last k low high = other_chain k high (last.none_after k low high)

    pub none_from_before : (from n : ℕ) → 0 < from → from ≤ arc → IsLast Tail (map (in_chain step chains) arcs) (from - 1) (end_at Tail (map (in_chain step chains) arcs) arc) n
        → joins tail head (arc_at arcs (from - 1)) ≡ false → NoneFrom from → NoneFrom n
    none_from_before from n some within last off none k low high = elim (cases_order k (from - 1)) [
      | inl same ↦ subst (λ j. joins tail head (arc_at arcs j) ≡ false) (sym same) off
      | inr (inl less) ↦ other_chain k high (last.none_after k low less)
      | inr (inr more) ↦ none k (omega (arith, some, more)) high
    ]
