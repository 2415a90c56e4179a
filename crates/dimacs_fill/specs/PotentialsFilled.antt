-- Potentials in the arrays of a caller.
use Rattle.std.specs.{Prelude.{ℕ, ℤ, ◌≡◌, ◌<◌, List, map, Result, Ok, Err}, List.{range_with_len}}
use Rattle.dimacs_lines.specs.Limits.{IsNode}
use Rattle.dimacs_records.specs.{declared.reasons.Reason.TheVariants.{NumberRange}, Ranges.{IsWhole}}
use Rattle.dimacs_claims.specs.Potentials.{PotentialsValue, SpellsPotentials, potential_of}
use Rattle.dimacs_fill.specs.{declared.error.FillError.{FillError}, declared.error.FillError.TheVariants.{Unread, Node}}
use Rattle.dimacs_fill.specs.Filling.{Array, IsFilled, IsKept, ReadsFitting}
use Rattle.dimacs_records.specs.declared.kinds.TextKind.TheVariants as kinds

-- the potential of each node, by ID
abbrev pub numbers_of : PotentialsValue → List ℤ
numbers_of p = map (potential_of p) (range_with_len 1 p.nodes)

-- all fit into 64 bits
abbrev pub AllFit : PotentialsValue → Type 0
AllFit p = (v : ℕ) → IsNode p.nodes v → IsWhole (potential_of p v)

-- the first node whose potential doesn't fit
pub record IsFirstPast (p : PotentialsValue) (id : ℕ) : Type 0 where
  pub node : IsNode p.nodes id
  pub past : ¬ IsWhole (potential_of p id)
  pub first : (v : ℕ) → IsNode p.nodes v → v < id → IsWhole (potential_of p v)

-- the array gets all potentials; or one doesn't fit
abbrev pub FillsPotentials : Array ℤ → PotentialsValue → Result ℕ FillError → Type 0
FillsPotentials a p (Ok nodes) = (nodes ≡ p.nodes) × AllFit p × IsFilled (numbers_of p) a
FillsPotentials a p (Err (Node id reason)) = (reason ≡ NumberRange) × IsFirstPast p id
FillsPotentials a p (Err (Unread error)) = ⊥

abbrev pub ReadsPotentialsInto : List ℕ → Array ℤ → Result ℕ FillError → Type 0
ReadsPotentialsInto text a =
    ReadsFitting kinds.Potentials text (SpellsPotentials text) (FillsPotentials a) (IsKept a)
