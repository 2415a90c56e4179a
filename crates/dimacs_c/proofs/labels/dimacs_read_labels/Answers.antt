use Rattle.std.proofs.Common.{ℕ, ℤ, Some, ap, codes, pos, refl}
use Rattle.dimacs_claims.specs.LabelTexts.{SpellsLabels}
use Rattle.dimacs_fill.specs.{BlockFilled.{FillsLabels, ReadsLabelsInto}, Filling.{Array, IsKept}}
use Rattle.dimacs_c.specs.{Calls.{handed}, Reading.{SetsLabels}}
use Rattle.dimacs_c.proofs.ReadLemmas.{fill_memory, unfilled}
use Rattle.dimacs_records.specs.declared.kinds.TextKind.TheVariants as kinds
use Rattle.dimacs_c.proofs.labels.dimacs_read_labels.Goals as goal

pub returns-in-Err : goal.returns-in-Err
returns-in-Err c =
    let text = c.args.text.now in
    let a : Array ℤ = (c.args.distances.now, c.read_labels_into.new.distances) in
    let p : Array ℕ = (c.args.predecessors.now, c.read_labels_into.new.predecessors) in
    let reads = c.in-Err.ensures.reads text (ap Some c.new.ensures) in
    unfilled (ReadsLabelsInto text c.args.source a p) (SetsLabels (pos 0) 0 0) (codes "certificate") c.in-Err.error reads
    (fill_memory kinds.Labels text (SpellsLabels text) (FillsLabels a p c.args.source) (IsKept a × IsKept p) c.in-Err.error reads) (refl, refl, refl) (refl, refl, refl)
    c.end_unfilled.result (handed c.args.out.now c.end_unfilled.new.out c.end_unfilled.new.needed) c.end_unfilled.ensures
