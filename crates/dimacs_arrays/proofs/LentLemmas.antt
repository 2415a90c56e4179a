-- Arcs that arrays hold.
use Rattle.std.proofs.Common.{◌≡◌, ℕ, ◌<◌, All, Some, length, slice_get, subst, sym, ap, ◌∙◌, arith}
use Rattle.std.proofs.{lemmas.List.Elements.{All-from_get_or, All-get_or}, lemmas.Option.{slice_get-get_or}}
use Rattle.std.proofs.lemmas.List.FromFn.{get_or-map-range_with_len, length-map-range_with_len}
use Rattle.dimacs_network.specs.{declared.network.ArcView.{ArcView}, Arcs.{arc_at, no_arc}}
use Rattle.dimacs_arrays.specs.Lent.{lent_arcs}

module _ (arc_of : ℕ → ArcView) (n : ℕ) where
  pub lent_many : length (lent_arcs arc_of n) ≡ n
  lent_many = length-map-range_with_len arc_of 0 n

  lent_at : (k : ℕ) → k < n → arc_at (lent_arcs arc_of n) k ≡ arc_of k
  lent_at k inside = get_or-map-range_with_len arc_of 0 n k k no_arc inside (omega arith)

  pub lent_get : (k : ℕ) → k < n → slice_get (lent_arcs arc_of n) k ≡ Some (arc_of k)
  lent_get k inside = slice_get-get_or (lent_arcs arc_of n) k no_arc (omega (arith, inside, lent_many)) ∙ ap Some (lent_at k inside)

  -- what follows for each arc from something else follows for all
  pub lent_all : (P Q : ArcView → Type 0) → ((k : ℕ) → P (arc_of k) → Q (arc_of k)) → All P (lent_arcs arc_of n) → All Q (lent_arcs arc_of n)
  lent_all P Q follows all =
      All-from_get_or Q (lent_arcs arc_of n) no_arc (λ k inside.
      let within : k < n = omega (arith, inside, lent_many) in
      subst Q (sym (lent_at k within)) (follows k (subst P (lent_at k within) (All-get_or P (lent_arcs arc_of n) k no_arc inside all))))
