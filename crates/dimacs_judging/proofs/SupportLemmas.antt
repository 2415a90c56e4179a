-- The arcs between two nodes, arc by arc.
use Rattle.std.proofs.Common.{◌≡◌, inl, inr, ℕ, ◌+◌, ◌<◌, ◌≤◌, Bool, true, cond, List, length, take, slice_get, count_by, Some, ℤ, ◌+ℤ◌, sym, ap, ◌∙◌, arith}
use Rattle.std.proofs.{lemmas.Bool.{cases_order}, lemmas.Bool.Decides.{eqb_tells}, lemmas.List.{take-take}}
use Rattle.std.proofs.lemmas.Option.{get_or_from_slice_get, slice_get-get_or, slice_get_within}
use Rattle.std.proofs.lemmas.List.Sums.{count_by_more_yes, count_by-le-length, sum_by-take-le}
use Rattle.dimacs_network.specs.{declared.network.ArcView.{ArcView}, Arcs.{joins, IsKthBetween}}
use Rattle.dimacs_claims.specs.declared.label_list.Label.{Label}
use Rattle.dimacs_judging.specs.Labels.{HasArcOfWeight}
use Rattle.dimacs_network.proofs.ArcLemmas.{joins_ends}

pub ends_joined : (tail head : ℕ) (a : ArcView) → joins tail head a ≡ true → (a.tail ≡ tail) × (a.head ≡ head)
ends_joined tail head a e = elim (eqb_tells a.tail tail) [
  | inl p ↦ elim (eqb_tells a.head head) [ inl q ↦ (p.1, q.1) | inr q ↦ absurd (let f = rw (p.0, q.0) at e in cc) ]
  | inr p ↦ absurd (let f = rw p.0 at e in cc)
]

-- fewer arcs pass before a passing arc than before a later one
pub counted_before : (p : ArcView → Bool) (arcs : List ArcView) (i j : ℕ) (a : ArcView) → slice_get arcs i ≡ Some a → p a ≡ true → i < j → count_by p (take i arcs) < count_by p (take j arcs)
counted_before p arcs i j a here passes before =
    let next = count_by_more_yes p arcs i a (slice_get_within arcs i a here) (rw (get_or_from_slice_get arcs i a a here) passes) in
    let some = rw (take-take (i + 1) j arcs (omega (arith, before))) at (sum_by-take-le (λ b. cond (p b) 1 0) (take j arcs) (i + 1)) in
    omega (arith, next, some)

pub counted_in_all : (p : ArcView → Bool) (arcs : List ArcView) (i : ℕ) (a : ArcView) → slice_get arcs i ≡ Some a → p a ≡ true → count_by p (take i arcs) < count_by p arcs
counted_in_all p arcs i a here passes =
    let next = count_by_more_yes p arcs i a (slice_get_within arcs i a here) (rw (get_or_from_slice_get arcs i a a here) passes) in
    omega (arith, next, sum_by-take-le (λ b. cond (p b) 1 0) arcs (i + 1))

module _ (arcs : List ArcView) (l : Label) (base : ℤ) where
  -- none of the first k arcs between the label's ends is tight for it
  abbrev pub NoneBelow : ℕ → Type 0
  NoneBelow k = (i : ℕ) (a : ArcView) → slice_get arcs i ≡ Some a → joins l.pred l.id a ≡ true → count_by (joins l.pred l.id) (take i arcs) < k → ¬ ((base +ℤ a.cost) ≡ l.dist)

  -- the next of them was found and isn't tight
  pub none_more : (k i : ℕ) (a : ArcView) → slice_get arcs i ≡ Some a → IsKthBetween arcs l.pred l.id k (Some i) → (¬ ((base +ℤ a.cost) ≡ l.dist)) → NoneBelow k → NoneBelow (k + 1)
  none_more k i a here found off below j b there passes few = elim (cases_order (count_by (joins l.pred l.id) (take j arcs)) k) [
    | inl is ↦ elim (cases_order j i) [
      | inl same ↦ (let both : Some b ≡ Some a = sym there ∙ (ap (slice_get arcs) same ∙ here) in let arc : b ≡ a = cc in rw arc off)
      | inr apart ↦ elim apart [
        | inl h ↦ absurd (omega (arith, is, found.2, counted_before (joins l.pred l.id) arcs j i b there passes h))
        | inr h ↦ absurd (omega (arith, is, found.2, counted_before (joins l.pred l.id) arcs i j a here (rw here at found.1) h))
      ]
    ]
    | inr m ↦ elim m [ inl h ↦ below j b there passes h | inr h ↦ absurd (omega (arith, h, few)) ]
  ]

  pub none_left : (k : ℕ) → count_by (joins l.pred l.id) arcs ≤ k → NoneBelow k → ¬ HasArcOfWeight arcs l base
  none_left k all below has =
      let (i, inside, is) = has.present in
      let here : slice_get arcs i ≡ Some has.arc = slice_get-get_or arcs i has.arc inside ∙ ap (λ (a : ArcView). Some a) is in
      let passes = joins_ends l.pred l.id has.arc has.from has.to in
      below i has.arc here passes (omega (arith, all, counted_in_all (joins l.pred l.id) arcs i has.arc here passes)) has.adds

  pub few_between : (k : ℕ) → length arcs ≤ k → count_by (joins l.pred l.id) arcs ≤ k
  few_between k all = omega (arith, all, count_by-le-length (joins l.pred l.id) arcs)

  pub arc_found : (k i : ℕ) (a : ArcView) → slice_get arcs i ≡ Some a → IsKthBetween arcs l.pred l.id k (Some i) → (base +ℤ a.cost) ≡ l.dist → HasArcOfWeight arcs l base
  arc_found k i a here found adds =
      let ends = ends_joined l.pred l.id a (rw here at found.1) in
      record { arc = a; present = (i, found.0, get_or_from_slice_get arcs i a a here); from = ends.0; to = ends.1; adds = adds }
