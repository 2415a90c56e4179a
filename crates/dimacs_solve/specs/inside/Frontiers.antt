-- Inside: the walks in the queue.
use Rattle.std.specs.Prelude.{ℕ, ◌≡◌, ◌≤◌, ◌<◌, ◌+◌, List, [], ◌∷◌, ◌++◌, All, length, map, flat_map, slice_index_or, IsPermutation}
use Rattle.std.specs.{Ordering.{nat_cmp, ordering_then}, declared.cmp.Ordering.{Ordering}, BinaryHeap.{IsHeap}}
use Rattle.std.specs.declared.cmp.Reverse.{Reverse}
use Rattle.dimacs_solve.specs.{declared.piles.Walk.{Walk}, declared.piles.Pile.{Pile}}

-- the shorter walk comes first
abbrev pub walk_cmp : {D : Type 0} → (D → D → Ordering) → Walk D → Walk D → Ordering
walk_cmp cmp a b = ordering_then (cmp a.dist b.dist) (ordering_then (nat_cmp a.node b.node) (nat_cmp a.pred b.pred))

-- a walk with its length as a number, whatever type holds it
abbrev pub walk_of : {D : Type 0} → (D → ℕ) → Walk D → Walk ℕ
walk_of value e = record { dist = value e.dist; node = e.node; pred = e.pred }

abbrev pub walk_in : {D : Type 0} → (D → ℕ) → Reverse (Walk D) → Walk ℕ
walk_in value e = walk_of value e.0

-- no walk in the queue is shorter
abbrev pub IsNearest : Walk ℕ → List (Walk ℕ) → Type 0
IsNearest e front = All (λ (other : Walk ℕ). e.dist ≤ other.dist) front

-- no walk is longer than the bound
abbrev pub AreWithin : ℕ → List (Walk ℕ) → Type 0
AreWithin bound walks = All (λ (w : Walk ℕ). w.dist ≤ bound) walks

-- all walks are longer than the bound
abbrev pub AreBeyond : ℕ → List (Walk ℕ) → Type 0
AreBeyond bound walks = All (λ (w : Walk ℕ). bound < w.dist) walks

module _ {D : Type 0} (value : D → ℕ) where
  -- the walks in a list
  abbrev pub walks_in : List (Reverse (Walk D)) → List (Walk ℕ)
  walks_in walks = map (walk_in value) walks

  -- the walks in all piles
  abbrev pub in_piles : List (Pile D) → List (Walk ℕ)
  in_piles piles = flat_map (λ (p : Pile D). walks_in p.walks.items) piles

  -- walks between the floor and the ceiling, at least one
  pub record IsPile (floor : ℕ) (p : Pile D) : Type 0 where
    pub some : 0 < length p.walks.items
    pub rises : floor ≤ value p.ceiling
    pub beyond : AreBeyond floor (walks_in p.walks.items)
    pub within : AreWithin (value p.ceiling) (walks_in p.walks.items)

  -- the ceiling of each pile is the floor of the next
  abbrev pub ArePiles : ℕ → List (Pile D) → Type 0
  ArePiles floor [] = Unit {0}
  ArePiles floor (p ∷ piles) = IsPile floor p × ArePiles (value p.ceiling) piles

  -- the heap has the walks up to the bound
  pub record IsFrontier (cmp : D → D → Ordering) (near : List (Reverse (Walk D))) (bound : ℕ) (piles : List (Pile D)) : Type 0 where
    pub heap : IsHeap (λ (x y : Reverse (Walk D)). walk_cmp cmp y.0 x.0) near
    pub within : AreWithin bound (walks_in near)
    pub aside : ArePiles bound piles

  -- the pile before this place is lower than d; the one here is not, unless it is the last
  pub record IsPlace (d : ℕ) (piles : List (Pile D)) (at : ℕ) : Type 0 where
    pub inside : at < length piles
    pub above : (k : ℕ) (p : Pile D) → k + 1 ≡ at → value (slice_index_or piles k p).ceiling < d
    pub reaches : (p : Pile D) → at + 1 < length piles → d ≤ value (slice_index_or piles at p).ceiling

  -- the walks up to the bound, and the longer ones
  pub record IsSplit (bound : ℕ) (walks closer farther : List (Reverse (Walk D))) : Type 0 where
    pub moved : IsPermutation walks (closer ++ farther)
    pub within : AreWithin bound (walks_in closer)
    pub beyond : AreBeyond bound (walks_in farther)
