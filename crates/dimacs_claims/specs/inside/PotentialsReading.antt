-- Inside: potentials while their text is read.
use Rattle.dimacs_claims.specs.{Potentials.{PotentialsValue}, PotentialsReading.{PotentialsBegun}}
use Rattle.dimacs_records.specs.NodeValues.{without_zeros}

-- the potentials so far, without zeros
abbrev pub potentials_begun : PotentialsBegun → PotentialsValue
potentials_begun begun = record { nodes = begun.nodes; values = without_zeros begun.values }
