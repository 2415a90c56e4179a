-- Rounds of a negative cycle.
use Rattle.std.proofs.Common.{◌≡◌, ℕ, zero, suc, ◌+◌, List, [], ◌∷◌, ◌++◌, ℤ, pos, negsuc, ◌+ℤ◌, ◌-ℤ◌, ◌≤ℤ◌, ◌<ℤ◌, subst, sym, refl, arith}
use Rattle.std.proofs.lemmas.Int.{ints}
use Rattle.dimacs_network.specs.declared.network.ArcView.{ArcView}
use Rattle.dimacs_judging.specs.Walks.{Dist, IsWalk, weight}
use Rattle.dimacs_facts.specs.{Cycles.{HasNegativeCycle}, Walks.{HasWalk}}

walk_append : (g one other : List ArcView) (s u t : ℕ) → IsWalk g s u one → IsWalk g u t other → IsWalk g s t (one ++ other)
walk_append g [] other s u t w v = subst (λ x. IsWalk g x t other) (sym w) v
walk_append g (a ∷ one) other s u t w v = (w.0, w.1, walk_append g one other a.head u t w.2 v)

weight_append : (one other : List ArcView) → weight (one ++ other) ≡ weight one +ℤ weight other
weight_append [] other = omega (arith, ints)
weight_append (a ∷ one) other = omega (arith, ints, weight_append one other)

joined : (g : List ArcView) (s u t : ℕ) (d e : ℤ) → HasWalk g s u d → HasWalk g u t e → HasWalk g s t (d +ℤ e)
joined g s u t d e one other = record {
  walk = one.walk ++ other.walk;
  leads = walk_append g one.walk other.walk s u t one.leads other.leads;
  weighs = omega (arith, ints, weight_append one.walk other.walk, one.weighs, other.weighs);
}

-- n rounds and one more weigh less than -n
rounds : (g : List ArcView) (v : ℕ) (z : ℤ) → HasWalk g v v z → z <ℤ pos 0 → (n : ℕ) → (y : ℤ) × HasWalk g v v y × ((y +ℤ pos n) <ℤ pos 0)
rounds g v z back less zero = (z, back, omega (arith, ints, less))
rounds g v z back less (suc n) =
    let (y, walk, before) = rounds g v z back less n in
    (y +ℤ z, joined g v v v y z walk back, omega (arith, ints, before, less))

exceeds : (x : ℤ) → (n : ℕ) × (x ≤ℤ pos n)
exceeds (pos n) = (n, omega (arith, ints))
exceeds (negsuc n) = (0, omega (arith, ints))

pub no_distance : (g : List ArcView) (s t : ℕ) (c : HasNegativeCycle g s) (e : ℤ) → HasWalk g c.node t e → (d : ℤ) → ¬ Dist g s t d
no_distance g s t c e on d is =
    let (d0, there) = c.there in
    let (n, far) = exceeds ((d0 +ℤ e) -ℤ d) in
    let (y, walk, low) = rounds g c.node c.around c.back c.negative n in
    let all = joined g s c.node t (d0 +ℤ y) e (joined g s c.node c.node d0 y there walk) on in
    omega (arith, ints, far, low, is.least all.walk all.leads, all.weighs)
