-- Inside: the test of an arc that may give its head a predecessor.
use Rattle.std.specs.Prelude.{ℕ, ◌≡◌, Option, ℤ, pos, ◌+ℤ◌, ◌≤ℤ◌, ◌<ℤ◌}
use Rattle.dimacs_network.specs.declared.network.ArcView.{ArcView}
use Rattle.dimacs_decide.specs.{TightTails.{IsPositiveTight, IsRelaxedBy}, declared.tight_tails.ArcTest.{ArcTest}}
use Rattle.dimacs_decide.specs.declared.tight_tails.ArcTest.TheVariants.{Passes, Tight, Fails}

-- the result for an arc with this weight between these claims
abbrev pub IsWeightTest : ℤ → ℤ → ℤ → ArcTest → Type 0
IsWeightTest from to weight Passes = to ≤ℤ (from +ℤ weight)
IsWeightTest from to weight Tight = (to ≡ from +ℤ weight) × (pos 0 <ℤ weight)
IsWeightTest from to weight Fails = Unit {0}

abbrev pub IsArcTest : (ℕ → Option ℤ) → ArcView → ArcTest → Type 0
IsArcTest claim a Passes = IsRelaxedBy claim a
IsArcTest claim a Tight = IsRelaxedBy claim a × ((d : ℤ) × IsPositiveTight claim a d)
IsArcTest claim a Fails = Unit {0}
