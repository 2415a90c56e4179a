-- Potentials of the opposite sign, arc by arc.
use Rattle.std.proofs.Common.{ℕ, ◌≡◌, ◌+◌, ◌<◌, List, Some, slice_get, ℤ, pos, sym, subst, below_more}
use Rattle.std.proofs.lemmas.Option.{get_or_from_slice_get}
use Rattle.dimacs_network.specs.{declared.network.ArcView.{ArcView}, Arcs.{arc_at, no_arc}}
use Rattle.dimacs_judging.specs.{Potentials.{IsSlackAt}, Rows.{amount_at}}

-- the first i arcs are slack
abbrev pub SlackBelow : (ℕ → ℤ) → List ArcView → List ℤ → ℕ → Type 0
SlackBelow p arcs x i = (k : ℕ) → k < i → IsSlackAt p (arc_at arcs k) (amount_at x k)

pub slack_more : (p : ℕ → ℤ) (arcs : List ArcView) (x : List ℤ) (i : ℕ) (a : ArcView) (z : ℤ) → slice_get arcs i ≡ Some a → slice_get x i ≡ Some z → IsSlackAt p a z → SlackBelow p arcs x i → SlackBelow p arcs x (i + 1)
slack_more p arcs x i a z here amount slack before =
    below_more _ _ before
    (subst (λ b. IsSlackAt p b (amount_at x i)) (sym (get_or_from_slice_get arcs i a no_arc here)) (subst (IsSlackAt p a) (sym (get_or_from_slice_get x i z (pos 0) amount)) slack))
