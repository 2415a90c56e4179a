-- Inside: a maximum flow instance while its text is read.
use Rattle.std.specs.Prelude.{ℕ, ◌≡◌, ◌⊎◌}
use Rattle.dimacs_records.specs.declared.records.End.TheVariants.{Source, Sink}
use Rattle.dimacs_instance.specs.{declared.max.ends.EndLines.{EndLines}, declared.max.ends.EndLines.TheVariants.{Both}}

-- the node lines of source and sink, in either order
abbrev pub AreEnds : EndLines → ℕ → ℕ → Type 0
AreEnds ends source sink = (ends ≡ Both (record { node = source; end = Source }) (record { node = sink; end = Sink }))
    ⊎ (ends ≡ Both (record { node = sink; end = Sink }) (record { node = source; end = Source }))
