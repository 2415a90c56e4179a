-- Inside: the bytes of a set of nodes.
use Rattle.std.specs.Prelude.{ℕ, ◌≡◌, List}
use Rattle.dimacs_network.specs.Sets.{byte_at}

-- bytes without nodes may have come at the end
abbrev pub SameBytes : List ℕ → List ℕ → Type 0
SameBytes old new = (place : ℕ) → byte_at new place ≡ byte_at old place
