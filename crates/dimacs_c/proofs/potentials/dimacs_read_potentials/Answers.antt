use Rattle.std.proofs.Common.{ℤ, Some, ap, codes, refl}
use Rattle.dimacs_claims.specs.Potentials.{SpellsPotentials}
use Rattle.dimacs_fill.specs.{Filling.{Array, IsKept}, PotentialsFilled.{FillsPotentials, ReadsPotentialsInto}}
use Rattle.dimacs_c.specs.{Calls.{handed}, Reading.{SetsLength}}
use Rattle.dimacs_c.proofs.ReadLemmas.{fill_memory, unfilled}
use Rattle.dimacs_records.specs.declared.kinds.TextKind.TheVariants as kinds
use Rattle.dimacs_c.proofs.potentials.dimacs_read_potentials.Goals as goal

pub returns-in-Err : goal.returns-in-Err
returns-in-Err c =
    let text = c.args.text.now in
    let a : Array ℤ = (c.args.potentials.now, c.read_potentials_into.new.numbers) in
    let reads = c.in-Err.ensures.reads text (ap Some c.new.ensures) in
    unfilled (ReadsPotentialsInto text a) (SetsLength 0) (codes "certificate") c.in-Err.error reads
    (fill_memory kinds.Potentials text (SpellsPotentials text) (FillsPotentials a) (IsKept a) c.in-Err.error reads) refl refl
    c.end_unfilled.result (handed c.args.out.now c.end_unfilled.new.out c.end_unfilled.new.needed) c.end_unfilled.ensures
