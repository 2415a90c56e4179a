-- Inside: flows that cost least by potentials.
use Rattle.std.specs.Prelude.{ℕ, ◌≡◌, ◌≤◌, ◌^◌, List, length, ℤ, pos, neg_ℤ, ◌+ℤ◌, ◌≤ℤ◌}
use Rattle.dimacs_lines.specs.{Number.{IsWithin}, Limits.{IsNode}}
use Rattle.dimacs_records.specs.Ranges.{IsWhole}
use Rattle.dimacs_claims.specs.Potentials.{PotentialsValue, potential_of}
use Rattle.dimacs_arrays.specs.{declared.certify_min.MinCertified.{MinCertified}, ByNode.{number_of}}
use Rattle.dimacs_arrays.specs.declared.certify_min.MinCertified.TheVariants.{Optimal, Wide, Better}
use Rattle.dimacs_arrays.specs.MinArrays.{IsWider}

-- a number that may be added to potentials
abbrev pub IsShift : ℤ → Type 0
IsShift shift = IsWithin (neg_ℤ (pos (10 ^ 31))) (pos (10 ^ 31)) shift

-- the numbers are the potentials of the nodes, with the same number added to each
pub record AreShifted (p : PotentialsValue) (shift : ℤ) (numbers : List ℤ) : Type 0 where
  pub each : length numbers ≡ p.nodes
  pub sums : (v : ℕ) → IsNode p.nodes v → number_of numbers v ≡ potential_of p v +ℤ shift

-- the least potential of the nodes, if there are nodes
pub record IsLeastOf (p : PotentialsValue) (least : ℤ) : Type 0 where
  pub below : (v : ℕ) → IsNode p.nodes v → least ≤ℤ potential_of p v
  pub found : 1 ≤ p.nodes → (w : ℕ) × IsNode p.nodes w × (least ≡ potential_of p w)

-- one of these sums doesn't fit into 64 bits
abbrev pub IsWiderBy : PotentialsValue → ℤ → Type 0
IsWiderBy p shift = (v : ℕ) × IsNode p.nodes v × (¬ IsWhole (potential_of p v +ℤ shift))

-- the answer with this cost and these potentials, in an array if they fit with a number added to each
abbrev pub IsLeastBy : ℤ → PotentialsValue → MinCertified → Type 0
IsLeastBy total p (Optimal outcome potentials) = (outcome ≡ total) × ((shift : ℤ) × AreShifted p shift potentials.items)
IsLeastBy total p (Wide outcome q) = (outcome ≡ total) × (q ≡ p) × IsWider p
IsLeastBy total p (Better y) = ⊥
