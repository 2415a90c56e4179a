-- Inside: what was written to a sink through a buffer.
use Rattle.std.specs.Prelude.{ℕ, ◌≡◌, List, Bool, true, false}
use Rattle.dimacs_lines.specs.{Devices.{Written, after_piece, one_more}, Puts.{AcceptsFront}}

-- the bytes were written, unless a write had failed before; `failed` is whether one has failed by now
abbrev pub IsPut : Bool → Written → List ℕ → Bool → Written → Type 0
IsPut true old bytes failed new = (failed ≡ true) × (new ≡ old)
IsPut false old bytes true new = AcceptsFront old.accepted bytes new.accepted × (new.faults ≡ one_more old.faults)
IsPut false old bytes false new = (new.accepted ≡ after_piece old.accepted bytes) × (new.faults ≡ old.faults)
