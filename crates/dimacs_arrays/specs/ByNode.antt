-- Arrays by node: the item of node 1 comes first.
use Rattle.std.specs.Prelude.{ℕ, zero, suc, ◌≤◌, Bool, false, nat_lt, List, All, get_or, ℤ, pos}

-- whether the byte of the node isn't 0
abbrev pub marked : List ℕ → ℕ → Bool
marked bytes zero = false
marked bytes (suc k) = nat_lt 0 (get_or bytes k 0)

-- each byte is 0 or 1
abbrev pub AreBits : List ℕ → Type 0
AreBits bytes = All (λ byte. byte ≤ 1) bytes

-- the number of the node; 0 for an ID that is no node
abbrev pub number_of : List ℤ → ℕ → ℤ
number_of numbers zero = pos 0
number_of numbers (suc k) = get_or numbers k (pos 0)
