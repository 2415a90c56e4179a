-- Arcs between given ends.
use Rattle.std.proofs.Common.{◌≡◌, ℕ, ◌+◌, List, true, false, take, count_by, Some, slice_get, arith}
use Rattle.std.proofs.{lemmas.Bool.{eq-eqb, and_from}, lemmas.Bool.Decides.{nat_tests}}
use Rattle.std.proofs.lemmas.List.Sums.{count_by_more_yes, count_by_more_no}
use Rattle.std.proofs.lemmas.Option.{slice_get_within, get_or_from_slice_get}
use Rattle.std.specs.Prelude.{◌==◌}
use Rattle.dimacs_network.specs.{declared.network.ArcView.{ArcView}, Arcs.{joins}}

pub joins_ends : (tail head : ℕ) (a : ArcView) → a.tail ≡ tail → a.head ≡ head → joins tail head a ≡ true
joins_ends tail head a same_tail same_head = and_from (a.tail == tail) (a.head == head) (eq-eqb a.tail tail same_tail) (eq-eqb a.head head same_head)

joins_not : (tail head : ℕ) (a : ArcView) → (a.tail ≡ tail → a.head ≡ head → ⊥) → joins tail head a ≡ false
joins_not tail head a other = grind (arith, nat_tests)

-- counting the arcs of these ends up to one more
module _ (arcs : List ArcView) (tail head i : ℕ) (a : ArcView) (got : slice_get arcs i ≡ Some a) where
  pub counts_joined : a.tail ≡ tail → a.head ≡ head → count_by (joins tail head) (take (i + 1) arcs) ≡ count_by (joins tail head) (take i arcs) + 1
  counts_joined same_tail same_head = count_by_more_yes (joins tail head) arcs i a (slice_get_within arcs i a got) (rw (get_or_from_slice_get arcs i a a got) (joins_ends tail head a same_tail same_head))

  pub counts_other : (a.tail ≡ tail → a.head ≡ head → ⊥) → count_by (joins tail head) (take (i + 1) arcs) ≡ count_by (joins tail head) (take i arcs)
  counts_other other = count_by_more_no (joins tail head) arcs i a (slice_get_within arcs i a got) (rw (get_or_from_slice_get arcs i a a got) (joins_not tail head a other))
