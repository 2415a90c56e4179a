use Rattle.std.proofs.{Common.{◌<◌, heap_items, length, refl, ℕ, ◌≤◌, arith}, lemmas.Bool.Decides.{nat_tests}}
use Rattle.std.proofs.lemmas.List.Sorted.{All-permutation, IsPermutation-map}
use Rattle.dimacs_solve.specs.{declared.piles.Walk.{Walk}, declared.piles.Pile.{Pile}, inside.Frontiers.{walk_in}}
use Rattle.dimacs_solve.proofs.PileLemmas.{pile_split, walks_split}
use Rattle.dimacs_solve.proofs.frontier.Frontier.spill.Goals as goal

pub invariant_of-self-then-not-is_empty : goal.invariant_of-self-then-not-is_empty
invariant_of-self-then-not-is_empty g c =
    let value = g.D.SearchDistance.value in
    let split = rw c.as_slice-2.ensures.value at c.in_ok-closer.ensures in
    let bound = value c.self.inside.bound in
    let some : 0 < length c.in_ok-closer.farther.items = grind (arith, nat_tests, c.is_empty.ensures, c.if-not-is_empty.true, c.if-not-is_empty.ensures, c.in_ok-closer.farther.ok) in
    let pile : Pile _ = record { ceiling = c.self.inside.bound; walks = c.in_ok-closer.farther } in
    record {
      heap = c.from.ensures.2;
      within = All-permutation (λ (w : Walk ℕ). w.dist ≤ value c.middle_of-middle.result) _ _ (IsPermutation-map (walk_in value) _ _ c.from.ensures.1) split.within;
      aside = rw c.in_ok-insert.ensures.items (pile_split value (value c.middle_of-middle.result) bound (heap_items c.self.inside.near) c.in_ok-closer.closer.items pile refl some split c.self.invariant.within, c.self.invariant.aside);
    }

pub returns-in_ok-insert : goal.returns-in_ok-insert
returns-in_ok-insert g c =
    let value = g.D.SearchDistance.value in
    let split = rw c.as_slice-2.ensures.value at c.in_ok-closer.ensures in
    rw (← c.self.view_is, c.in_ok-insert.ensures.items) (walks_split value (value c.middle_of-middle.result) (heap_items c.self.inside.near) c.in_ok-closer.closer.items c.in_ok-closer.farther.items (heap_items c.from.result) _ split c.from.ensures.1)
