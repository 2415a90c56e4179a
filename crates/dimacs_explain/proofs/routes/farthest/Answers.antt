use Rattle.std.proofs.Common.{◌≡◌, ◌<◌, ◌+◌, ◌≤◌, ◌≤ℤ◌, ℕ, ℤ, List, Some, All, Contains, arith, get_or, length, rules, slice_get, subst, sym, take}
use Rattle.std.proofs.{lemmas.Int.{ints}, lemmas.List.{take_all}}
use Rattle.std.proofs.lemmas.Option.{get_or_from_slice_get, slice_get_within}
use Rattle.std.proofs.lemmas.List.Elements.{All-more, All-nil, All-weaker, Contains-get_or}
use Rattle.dimacs_claims.specs.{declared.label_list.Label.{Label}, Labels.{no_label}}
use Rattle.dimacs_explain.proofs.routes.farthest.Goals.{else-label-farthest, then-label-farthest}
use Rattle.dimacs_explain.proofs.routes.farthest.Goals as goal

-- one more label is no farther either
none_farther : (labels : List Label) (place : ℕ) (old new : ℤ) → place < length labels → old ≤ℤ new → (get_or labels place no_label).dist ≤ℤ new
    → All (λ (l : Label). l.dist ≤ℤ old) (take place labels) → All (λ (l : Label). l.dist ≤ℤ new) (take (place + 1) labels)
none_farther labels place old new inside more here before =
    All-more (λ (l : Label). l.dist ≤ℤ new) labels place no_label inside
    (All-weaker (λ (l : Label). l.dist ≤ℤ old) (λ (l : Label). l.dist ≤ℤ new) (λ l h. omega (arith, ints, h, more)) (take place labels) before) here

-- what stands at a place is one of the labels
at_place : (labels : List Label) (place : ℕ) (l : Label) → slice_get labels place ≡ Some l → Contains labels l
at_place labels place l is = (place, slice_get_within labels place l is, get_or_from_slice_get labels place l l is)

pub loop-place-init : goal.loop-place-init
loop-place-init c = (at_place _ 0 _ (search rules), All-nil _)

pub loop-place-preserved : goal.loop-place-preserved
loop-place-preserved c =
    let labels = c.args.block.now.labels in
    let place = c.loop-place.place in
    let old = c.loop-place.farthest in
    let next = c.at-label.result in
    let inside : place < length labels = rw (c.len-place-end.ensures, c.labels-labels.ensures) at c.loop-place-test.true in
    let is : next ≡ get_or labels place no_label = rw c.labels-labels.ensures at c.at-label.ensures in
    elim c.if-label-farthest.branch [
      | then-label-farthest w ↦
          let more : old.dist ≤ℤ next.dist = omega (arith, ints, w.if-label-farthest.true) in
          rw w.farthest-is (
            subst (Contains labels) (sym is) (Contains-get_or labels place no_label inside),
            none_farther labels place old.dist next.dist inside more (rw (← is) (omega (arith, ints))) c.loop-place.invariant.1,
          )
      | else-label-farthest w ↦
          let less : next.dist ≤ℤ old.dist = omega (arith, ints, w.if-label-farthest.false) in
          rw w.farthest-is (c.loop-place.invariant.0, none_farther labels place old.dist old.dist inside (omega (arith, ints)) (rw (← is) less) c.loop-place.invariant.1)
    ]

pub returns : goal.returns
returns c =
    let b = c.args.block.now in
    let all : length b.labels ≤ c.loop-place.place = rw (c.len-place-end.ensures, c.labels-labels.ensures) at c.loop-place-test.false in
    (c.loop-place.invariant.0, subst (All (λ (l : Label). l.dist ≤ℤ c.loop-place.farthest.dist)) (take_all _ _ all) c.loop-place.invariant.1)
