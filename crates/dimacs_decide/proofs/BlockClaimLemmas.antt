-- The distances of a block by node, copied from the last label to the first.
use Rattle.std.proofs.Common.{◌≡◌, ◌≢◌, inl, inr, ℕ, zero, suc, ◌+◌, ◌<◌, ◌≤◌, true, List, drop, length, get_or, Option, None, Some, IsSome, ℤ, ◌<ℤ◌, pos, refl, sym, ap, subst, ◌∙◌, ◌∷◌, [], arith}
use Rattle.std.proofs.{lemmas.Int.{ints}, lemmas.Bool.{cases_eq}, lemmas.Bool.Decides.{eqb_tells}}
use Rattle.std.proofs.{lemmas.List.{drop_all}, lemmas.List.Elements.{All-cons, All-get_or, All-nil}}
use Rattle.std.specs.{Prelude.{IfSome, int_lt}, Option.{ForSome}}
use Rattle.dimacs_lines.specs.Limits.{IsNode}
use Rattle.dimacs_records.specs.Ranges.{IsWide}
use Rattle.dimacs_claims.specs.declared.label_list.Label.{Label}
use Rattle.dimacs_claims.specs.Labels.{BlockValue, IsBlock, IsLabel, distance_in, label, no_label}
use Rattle.dimacs_claims.proofs.{BlockLemmas.{label_at_wide}, ByIdLemmas.{distance_in-from, distance_in-past}}
use Rattle.dimacs_judging.specs.Distances.{below}
use Rattle.dimacs_decide.specs.inside.TightTrees.{node_at}
use Rattle.dimacs_decide.proofs.{MarkedLemmas.{some_of}, TightLemmas.{placed}}

-- a distance below the end is the distance in its number
pub below_end : (d end : ℤ) → d <ℤ end → below end d ≡ Some d
below_end d end less = let is_less : int_lt d end ≡ true = grind (arith, ints, less) in rw is_less refl

-- the distances of the labels from a place on
abbrev pub AreFrom : List Label → ℕ → (ℕ → Option ℤ) → Type 0
AreFrom labels at distances = (v : ℕ) → distances v ≡ distance_in (drop at labels) v

pub from_end : (labels : List Label) (at : ℕ) (distances : ℕ → Option ℤ) → ((v : ℕ) → distances v ≡ None) → at ≡ length labels → AreFrom labels at distances
from_end labels at distances none end v = none v ∙ sym (ap (λ rest. distance_in rest v) (drop_all at labels (omega (arith, end))))

pub from_one_more : (labels : List Label) (at : ℕ) (l : Label) (old new : ℕ → Option ℤ) → at < length labels → l ≡ get_or labels at no_label → new l.id ≡ Some l.dist → ((v : ℕ) → v ≢ l.id → new v ≡ old v) → AreFrom labels (at + 1) old
    → AreFrom labels at new
from_one_more labels at l old new inside is here others later v = elim (cases_eq v l.id) [
  | inl same ↦ (ap new same ∙ here) ∙ sym (distance_in-from labels at v inside (ap (λ (m : Label). m.id) (sym is) ∙ sym same) ∙ ap (λ (m : Label). Some m.dist) (sym is))
  | inr apart ↦ others v apart ∙ (later v ∙ sym (distance_in-past labels at v inside (λ e. apart (sym e ∙ ap (λ (m : Label). m.id) (sym is)))))
]

pub with_source : (b : BlockValue) (old new : ℕ → Option ℤ) → new b.source ≡ Some (pos 0) → ((v : ℕ) → v ≢ b.source → new v ≡ old v) → AreFrom b.labels 0 old → (v : ℕ) → new v ≡ label b v
with_source b old new here others all v = elim (eqb_tells b.source v) [
  | inl same ↦ rw same.0 (ap new (sym same.1) ∙ here)
  | inr apart ↦ rw apart.0 (others v (λ e. apart.1 (sym e)) ∙ all v)
]

pub each_wide : (o : Option ℤ) → IfSome o IsWide → ForSome o IsWide
each_wide o wide d is = rw is at wide

pub labels_wide : (nodes : ℕ) (b : BlockValue) (distances : ℕ → Option ℤ) → IsBlock nodes b → ((v : ℕ) → distances v ≡ label b v) → (v : ℕ) → ForSome (distances v) IsWide
labels_wide nodes b distances is same v = each_wide (distances v) (rw (same v) (label_at_wide nodes (b ∷ []) 0 v (All-cons (IsBlock nodes) b [] is (All-nil (IsBlock nodes)))))

-- only nodes have labels
pub label_within : (nodes : ℕ) (b : BlockValue) → IsBlock nodes b → (v : ℕ) → IsSome (label b v) → IsNode nodes v
label_within nodes b is v some = let (d, at) = some_of (label b v) some in from (placed b v d at)
  where
    from : ((j : ℕ) × (j ≤ length b.labels) × (node_at b j ≡ v)) → IsNode nodes v
    from (zero, inside, same) = subst (IsNode nodes) same is.source_within
    from (suc k, inside, same) = subst (IsNode nodes) same (All-get_or (IsLabel nodes) b.labels k no_label (omega (arith, inside)) is.within).id
