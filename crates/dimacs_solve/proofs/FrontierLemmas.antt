-- The order of walks in the queue.
use Rattle.std.proofs.Common.{◌≡◌, ℕ, ◌≤◌, ◌<◌, List, [], ◌∷◌, ◌++◌, map, length, true, false, Option, Some, arith}
use Rattle.std.proofs.{lemmas.Bool.Decides.{nat_tests}, lemmas.List.{nil_from_length}}
use Rattle.std.proofs.lemmas.List.Sorted.{All-permutation, IsPermutation-append_left, IsPermutation-map, IsPermutation-trans, first_le_from_greatest}
use Rattle.std.proofs.lemmas.List.Elements.{All-append, All-nil, All-cons, All-head, All-tail, All-weaker}
use Rattle.std.specs.{BinaryHeap.{IsUpperBound, lt_by_cmp}, Ordering.{is_lt, nat_cmp, ordering_then, partial_lt}}
use Rattle.std.specs.{Prelude.{IsPermutation, get_or, remove}, declared.cmp.Ordering.{Ordering}}
use Rattle.std.specs.declared.cmp.Reverse.{Reverse}
use Rattle.dimacs_solve.specs.{declared.piles.Walk.{Walk}, declared.piles.Pile.{Pile}}
use Rattle.dimacs_solve.specs.inside.Frontiers.{AreWithin, ArePiles, IsNearest, in_piles, walk_cmp, walk_in, walks_in}
use Rattle.dimacs_solve.proofs.PileLemmas.{all_beyond, first_pile}

-- the order by end and predecessor
abbrev ends_cmp : ℕ × ℕ → ℕ × ℕ → Ordering
ends_cmp a b = ordering_then (nat_cmp a.0 b.0) (nat_cmp a.1 b.1)

module _ {D : Type 0} (value : D → ℕ) (cmp : D → D → Ordering) (in_order : (a b : D) → cmp a b ≡ nat_cmp (value a) (value b)) where
  no_nearer : (x y : Reverse (Walk D)) → lt_by_cmp (λ (a b : Reverse (Walk D)). walk_cmp cmp b.0 a.0) x y ≡ false → value x.0.dist ≤ value y.0.dist
  no_nearer x y h =
      let at = rw (in_order y.0.dist x.0.dist) at h in
      All-head (λ (z : ℕ × (ℕ × ℕ)). z.0 ≤ value y.0.dist) (value x.0.dist, (x.0.node, x.0.pred)) [] (first_le_from_greatest ends_cmp (value y.0.dist, (y.0.node, y.0.pred)) ((value x.0.dist, (x.0.node, x.0.pred)) ∷ []) (at, tt))

  pub nearest : (x : Reverse (Walk D)) (xs : List (Reverse (Walk D))) → IsUpperBound (λ (a b : Reverse (Walk D)). walk_cmp cmp b.0 a.0) x xs → IsNearest (walk_in value x) (map (walk_in value) xs)
  nearest x [] h = All-nil (λ (o : Walk ℕ). value x.0.dist ≤ o.dist)
  nearest x (y ∷ ys) h = All-cons (λ (o : Walk ℕ). value x.0.dist ≤ o.dist) (walk_in value y) (map (walk_in value) ys) (no_nearer x y h.0) (nearest x ys h.1)

  pub pushed : (near new : List (Reverse (Walk D))) (x : Reverse (Walk D)) (ps : List (Pile D)) → IsPermutation (x ∷ near) new → IsPermutation (walk_in value x ∷ (walks_in value near ++ in_piles value ps)) (walks_in value new ++ in_piles value ps)
  pushed near new x ps moved = IsPermutation-append_left (in_piles value ps) _ _ (IsPermutation-map (walk_in value) (x ∷ near) new moved)

  pub pushed_within : (near new : List (Reverse (Walk D))) (x : Reverse (Walk D)) (bound : ℕ) → IsPermutation (x ∷ near) new → value x.0.dist ≤ bound → AreWithin bound (walks_in value near) → AreWithin bound (walks_in value new)
  pushed_within near new x bound moved short within = All-permutation (λ (w : Walk ℕ). w.dist ≤ bound) _ _ (IsPermutation-map (walk_in value) (x ∷ near) new moved) (All-cons (λ (w : Walk ℕ). w.dist ≤ bound) (walk_in value x) _ short within)

  pub left_within : (near left : List (Reverse (Walk D))) (x : Reverse (Walk D)) (bound : ℕ) → IsPermutation near (x ∷ left) → AreWithin bound (walks_in value near) → AreWithin bound (walks_in value left)
  left_within near left x bound moved all = All-tail (λ (w : Walk ℕ). w.dist ≤ bound) (walk_in value x) _ (All-permutation (λ (w : Walk ℕ). w.dist ≤ bound) _ _ (IsPermutation-map (walk_in value) _ _ moved) all)

  -- the top of the heap is nearest of all
  pub popped : (near left : List (Reverse (Walk D))) (x : Reverse (Walk D)) (bound : ℕ) (ps : List (Pile D)) → IsPermutation near (x ∷ left) → IsUpperBound (λ (a b : Reverse (Walk D)). walk_cmp cmp b.0 a.0) x left → AreWithin bound (walks_in value near) → ArePiles value bound ps
      → IsPermutation (walks_in value near ++ in_piles value ps) (walk_in value x ∷ (walks_in value left ++ in_piles value ps)) × IsNearest (walk_in value x) (walks_in value left ++ in_piles value ps)
  popped near left x bound ps moved top within are =
      let all = All-permutation (λ (w : Walk ℕ). w.dist ≤ bound) _ _ (IsPermutation-map (walk_in value) near (x ∷ left) moved) within in
      let short : value x.0.dist ≤ bound = All-head (λ (w : Walk ℕ). w.dist ≤ bound) _ _ all in
      let far = All-weaker (λ (w : Walk ℕ). bound < w.dist) (λ (w : Walk ℕ). value x.0.dist ≤ w.dist) (λ w h. omega (arith, h, short)) _ (all_beyond value bound ps are) in
      (IsPermutation-append_left (in_piles value ps) _ _ (IsPermutation-map (walk_in value) near (x ∷ left) moved), All-append (λ (w : Walk ℕ). value x.0.dist ≤ w.dist) _ _ (nearest x left top) far)

  -- the same, after the nearest pile became the heap
  pub popped_pile : (before heap left : List (Reverse (Walk D))) (x : Reverse (Walk D)) (floor : ℕ) (ps rest : List (Pile D)) (p : Pile D) → length before ≡ 0 → 0 < length ps → p ≡ get_or ps 0 p → rest ≡ remove ps 0 → ArePiles value floor ps → IsPermutation p.walks.items heap → IsPermutation heap (x ∷ left) → IsUpperBound (λ (a b : Reverse (Walk D)). walk_cmp cmp b.0 a.0) x left
      → IsPermutation (walks_in value before ++ in_piles value ps) (walk_in value x ∷ (walks_in value left ++ in_piles value rest)) × IsNearest (walk_in value x) (walks_in value left ++ in_piles value rest)
  popped_pile before heap left x floor ps rest p none some here others are made moved top =
      let first = first_pile value floor ps p some here are in
      rw (nil_from_length before none, others, first.2) (popped p.walks.items left x (value p.ceiling) (remove ps 0) (IsPermutation-trans _ _ _ made moved) top first.0.within first.1)

-- what a comparison of two lengths says
lt_number : (x y : ℕ) → true ≡ is_lt (nat_cmp x y) → x < y
lt_number x y e = grind (arith, nat_tests)

ge_number : (x y : ℕ) → false ≡ is_lt (nat_cmp x y) → y ≤ x
ge_number x y e = grind (arith, nat_tests)

module _ {D : Type 0} (value : D → ℕ) (cmp : D → D → Ordering) (partial-cmp : D → D → Option Ordering) (matches : (x y : D) → partial-cmp x y ≡ Some (cmp x y)) (in_order : (x y : D) → cmp x y ≡ nat_cmp (value x) (value y)) where
  pub longer : (a b : D) → true ≡ partial_lt partial-cmp a b → value a < value b
  longer a b e = lt_number (value a) (value b) (rw (matches a b, in_order a b) at e)

  pub no_longer : (a b : D) → false ≡ partial_lt partial-cmp a b → value b ≤ value a
  no_longer a b e = ge_number (value a) (value b) (rw (matches a b, in_order a b) at e)
