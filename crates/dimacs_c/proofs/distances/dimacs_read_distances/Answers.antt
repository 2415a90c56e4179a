use Rattle.std.proofs.Common.{ℤ, Some, ap, codes, refl}
use Rattle.dimacs_claims.specs.DistanceTexts.{SpellsDistances}
use Rattle.dimacs_fill.specs.{BlockFilled.{FillsDistances, ReadsDistancesInto}, Filling.{Array, IsKept}}
use Rattle.dimacs_c.specs.{Calls.{handed}, Reading.{SetsLength}}
use Rattle.dimacs_c.proofs.ReadLemmas.{fill_memory, unfilled}
use Rattle.dimacs_records.specs.declared.kinds.TextKind.TheVariants as kinds
use Rattle.dimacs_c.proofs.distances.dimacs_read_distances.Goals as goal

pub returns-in-Err : goal.returns-in-Err
returns-in-Err c =
    let text = c.args.text.now in
    let a : Array ℤ = (c.args.distances.now, c.read_distances_into.new.distances) in
    let reads = c.in-Err.ensures.reads text (ap Some c.new.ensures) in
    unfilled (ReadsDistancesInto text c.args.source a) (SetsLength 0) (codes "distances") c.in-Err.error reads
    (fill_memory kinds.Distances text (SpellsDistances text) (FillsDistances a c.args.source) (IsKept a) c.in-Err.error reads) refl refl
    c.end_unfilled.result (handed c.args.out.now c.end_unfilled.new.out c.end_unfilled.new.needed) c.end_unfilled.ensures
