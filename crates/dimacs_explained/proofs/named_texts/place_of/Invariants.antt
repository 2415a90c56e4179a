use Rattle.std.proofs.Common.{◌≢◌, ◌<◌, ℕ, Some, map, slice_get}
use Rattle.std.specs.String.{string_bytes}
use Rattle.dimacs_explained.proofs.named_texts.place_of.Given as goal

-- no earlier place has the name
abbrev pub invariant-loop-place : goal.invariant-loop-place
invariant-loop-place l = (earlier : ℕ) → earlier < l.place → slice_get (map string_bytes l.names) earlier ≢ Some l.name
